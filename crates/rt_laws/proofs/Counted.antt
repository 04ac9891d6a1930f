-- None passes a test exactly where so many pass it: none.
use Rattle.std.proofs.Common.{◌≡◌, ℕ, suc, Bool, true, false, List, [], ◌∷◌, refl, sym, ◌∙◌, All, cond, ◌+◌, slice_get, unwrap_or, arith}
use Rattle.std.specs.List.{count_by}
use Rattle.std.proofs.lemmas.List.Elements.{All-cons, All-nil}
use Rattle.std.proofs.lemmas.List.Sums.{sum_by-cons}
use Rattle.rt_model.specs.Parts.{ThreadPart}
use Rattle.rt_model.specs.State.{State, no_thread}
use Rattle.rt_model.specs.Order.{in_walk}
use Rattle.rt_model.specs.laws.Rest.{IsAtRest}
use Rattle.rt_model.proofs.Lists.{All-read}

-- over a list
none_passes : {X : Type 0} (p : X → Bool) (xs : List X) → count_by p xs ≡ 0 → All (λ x. p x ≡ false) xs
none_passes p [] none = All-nil (λ x. p x ≡ false)
none_passes p (x ∷ xs) none = by_test (p x) refl (λ zero. none_passes p xs zero) (sym (sum_by-cons (λ y. cond (p y) 1 0) x xs) ∙ none)
  where
    by_test : (b : Bool) → p x ≡ b → (count_by p xs ≡ 0 → All (λ y. p y ≡ false) xs) → cond b 1 0 + count_by p xs ≡ 0 → All (λ y. p y ≡ false) (x ∷ xs)
    by_test true is others some = absurd (let one : 1 + count_by p xs ≡ 0 = some in omega (arith, one))
    by_test false is others rest = All-cons (λ y. p y ≡ false) x xs is (others (let none : 0 + count_by p xs ≡ 0 = rest in omega (arith, none)))

none_counted : {X : Type 0} (p : X → Bool) (d : X) (xs : List X) → ((i : ℕ) → p (unwrap_or (slice_get xs i) d) ≡ false) → count_by p xs ≡ 0
none_counted p d [] none = refl
none_counted p d (x ∷ xs) none = let first : p x ≡ false = none 0 in let rest = none_counted p d xs (λ i. none (suc i)) in sum_by-cons (λ y. cond (p y) 1 0) x xs ∙ rw (first, rest) refl

-- no walk is pending exactly where none is counted
pub rest-counted : (s : State) → count_by (λ (thread : ThreadPart). in_walk thread.phase) s.threads ≡ 0 → IsAtRest s
rest-counted s none t =
    All-read (λ (thread : ThreadPart). in_walk thread.phase ≡ false) s.threads t.0 no_thread (none_passes (λ (thread : ThreadPart). in_walk thread.phase) s.threads none) refl

pub counted-rest : (s : State) → IsAtRest s → count_by (λ (thread : ThreadPart). in_walk thread.phase) s.threads ≡ 0
counted-rest s rest = none_counted (λ (thread : ThreadPart). in_walk thread.phase) no_thread s.threads (λ i. rest (record { 0 = i }))
