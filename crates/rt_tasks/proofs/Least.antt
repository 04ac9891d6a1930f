-- The least of a priority and kept keys, as a loop over them finds it.
use Rattle.std.proofs.Common.{◌≡◌, ℕ, zero, suc, ◌+◌, ◌<◌, ◌≤◌, min, List, [], ◌∷◌, length, drop, get_or, replicate, refl, sym, ap, ◌∙◌, Option, Some, None, IfSome, Bool, true, false, cond, eqb, ◌==◌, Less, Equal, Greater, inl, inr, arith}
use Rattle.std.specs.Prelude.{slice_set, nat_lt}
use Rattle.std.specs.Ordering.{is_le, nat_cmp}
use Rattle.std.proofs.lemmas.Bool.{cases_lt}
use Rattle.std.specs.Option.{option_eq}
use Rattle.std.proofs.lemmas.Bool.Decides.{nat_tests}
use Rattle.std.proofs.lemmas.List.{drop_more}
use Rattle.rt_model.specs.Parts.{least, keys_in}
use Rattle.rt_tasks.specs.KeptTops.{key_at}

-- where nothing is kept, it is the priority
pub least-none : (own n : ℕ) → least own (keys_in (replicate n None)) ≡ own
least-none own zero = refl
least-none own (suc n) = least-none own n

min-inside : (a b c : ℕ) → min a (min b c) ≡ min b (min a c)
min-inside a b c = omega arith

-- a key that is found first or last
least-min : (best key : ℕ) (keys : List ℕ) → least (min key best) keys ≡ min key (least best keys)
least-min best key [] = refl
least-min best key (other ∷ keys) = ap (λ (n : ℕ). min other n) (least-min best key keys) ∙ min-inside other key (least best keys)

least-first : (best : ℕ) (first : Option ℕ) (kept : List (Option ℕ)) → least best (keys_in (first ∷ kept)) ≡ least (least best (keys_in (first ∷ []))) (keys_in kept)
least-first best None kept = refl
least-first best (Some key) kept = sym (least-min best key (keys_in kept))

-- one step of the loop
pub least-step : (own best new : ℕ) (kept : List (Option ℕ)) (i : ℕ) (first d : Option ℕ) → i < length kept → first ≡ get_or kept i d → new ≡ least best (keys_in (first ∷ []))
    → least own (keys_in kept) ≡ least best (keys_in (drop i kept)) → least own (keys_in kept) ≡ least new (keys_in (drop (i + 1) kept))
least-step own best new kept i first d lt at made stands =
    let cut : drop i kept ≡ first ∷ drop (i + 1) kept = drop_more kept i d lt ∙ ap (λ (o : Option ℕ). o ∷ drop (i + 1) kept) (sym at) in
    stands ∙ (ap (λ (rest : List (Option ℕ)). least best (keys_in rest)) cut ∙ (least-first best first (drop (i + 1) kept) ∙ ap (λ (n : ℕ). least n (keys_in (drop (i + 1) kept))) (sym made)))

-- ---- one kept key changed

pub least-own : (own : ℕ) (keys : List ℕ) → least own keys ≤ own
least-own own [] = omega arith
least-own own (key ∷ keys) = let rest = least-own own keys in omega arith

-- the first key taken last
pub least-front : (own : ℕ) (first : Option ℕ) (kept : List (Option ℕ)) → least own (keys_in (first ∷ kept)) ≡ least (least own (keys_in kept)) (keys_in (first ∷ []))
least-front own None kept = refl
least-front own (Some key) kept = refl

least-pull : (own : ℕ) (first top : Option ℕ) (rest : ℕ) → least (least rest (keys_in (top ∷ []))) (keys_in (first ∷ [])) ≡ least (least rest (keys_in (first ∷ []))) (keys_in (top ∷ []))
least-pull own None top rest = refl
least-pull own (Some key) None rest = refl
least-pull own (Some key) (Some other) rest = min-inside key other rest

-- this in place of a kept key is the better of this and the others
pub least-with : (own l : ℕ) (kept : List (Option ℕ)) (top : Option ℕ) → l < length kept
    → least own (keys_in (slice_set kept l top)) ≡ least (least own (keys_in (slice_set kept l None))) (keys_in (top ∷ []))
least-with own l [] top lt = absurd (omega arith)
least-with own zero (first ∷ kept) top lt = least-front own top kept
least-with own (suc l) (first ∷ kept) top lt =
    least-front own first (slice_set kept l top)
    ∙ (ap (λ (n : ℕ). least n (keys_in (first ∷ []))) (least-with own l kept top (omega arith))
    ∙ (least-pull own first top (least own (keys_in (slice_set kept l None)))
    ∙ ap (λ (n : ℕ). least n (keys_in (top ∷ []))) (sym (least-front own first (slice_set kept l None)))))

-- and so is all that is kept, of what is there
pub least-split : (own l : ℕ) (kept : List (Option ℕ)) → least own (keys_in kept) ≡ least (least own (keys_in (slice_set kept l None))) (keys_in (key_at kept l ∷ []))
least-split own l [] = refl
least-split own zero (first ∷ kept) = least-front own first kept
least-split own (suc l) (first ∷ kept) =
    least-front own first kept
    ∙ (ap (λ (n : ℕ). least n (keys_in (first ∷ []))) (least-split own l kept)
    ∙ (least-pull own first (key_at kept l) (least own (keys_in (slice_set kept l None)))
    ∙ ap (λ (n : ℕ). least n (keys_in (key_at kept l ∷ []))) (sym (least-front own first (slice_set kept l None)))))

-- a test that fails
pub worse-test : (a b : ℕ) → is_le (nat_cmp a b) ≡ false → b ≤ a
worse-test a b fails = elim (cases_lt a b) [
  | inl lt ↦ let less : nat_lt a b ≡ true = grind (arith, nat_tests) in let passes : is_le (nat_cmp a b) ≡ true = ap (λ (t : Bool). is_le (cond t Less (cond (a == b) Equal Greater))) less in cc
  | inr ge ↦ ge
]

-- what the others make, where a top may go
others-from : (best others : ℕ) (o : Option ℕ) → best ≡ least others (keys_in (o ∷ [])) → best ≤ others
others-from best others None is = omega arith
others-from best others (Some key) is = omega arith

others-same : (best others : ℕ) (o : Option ℕ) → best ≡ least others (keys_in (o ∷ [])) → option_eq eqb o (Some best) ≡ false → others ≡ best
others-same best others None is not = sym is
others-same best others (Some key) is not = grind (arith, nat_tests)

module _ (own l : ℕ) (kept : List (Option ℕ)) where
  -- where the best is its own, it stays without a top
  pub stays-own : own ≡ least own (keys_in kept) → least own (keys_in (slice_set kept l None)) ≡ least own (keys_in kept)
  stays-own is =
      let low = least-own own (keys_in (slice_set kept l None)) in
      let high = others-from _ _ (key_at kept l) (least-split own l kept) in
      omega arith

  -- and where the top isn't the best
  pub stays-top : option_eq eqb (key_at kept l) (Some (least own (keys_in kept))) ≡ false → least own (keys_in (slice_set kept l None)) ≡ least own (keys_in kept)
  stays-top not = others-same _ _ (key_at kept l) (least-split own l kept) not

  -- a top that is at least as good as the best is the best
  pub best-top : (key : ℕ) → l < length kept → key ≤ least own (keys_in kept) → key ≡ least own (keys_in (slice_set kept l (Some key)))
  best-top key lt le =
      let high = others-from _ _ (key_at kept l) (least-split own l kept) in
      let with = least-with own l kept (Some key) lt in
      omega arith

  -- one that isn't, or none, leaves what the others make
  pub worse-top : (top : Option ℕ) → l < length kept → IfSome top (λ key. least own (keys_in kept) ≤ key)
      → least own (keys_in (slice_set kept l None)) ≡ least own (keys_in kept) → least own (keys_in kept) ≡ least own (keys_in (slice_set kept l top))
  worse-top None lt worse stays = sym stays
  worse-top (Some key) lt worse stays = let with = least-with own l kept (Some key) lt in omega arith

-- ---- the own priority changed

-- one that is at least as good as the best is the best
pub best-own : (own p : ℕ) (keys : List ℕ) → p ≤ least own keys → p ≡ least p keys
best-own own p keys le =
    let low = least-own own keys in
    let both : least (min p own) keys ≡ min p (least own keys) = least-min own p keys in
    let first : min p own ≡ p = omega arith in
    let moved : least (min p own) keys ≡ least p keys = ap (λ (n : ℕ). least n keys) first in
    omega arith

-- a worse one leaves a best that isn't its own
pub worse-own : (own p : ℕ) (keys : List ℕ) → least own keys ≤ p → (own ≡ least own keys → ⊥) → least own keys ≡ least p keys
worse-own own p keys le other =
    let low = least-own own keys in
    let one : least (min p own) keys ≡ min p (least own keys) = least-min own p keys in
    let two : least (min own p) keys ≡ min own (least p keys) = least-min p own keys in
    let turned : least (min p own) keys ≡ least (min own p) keys = (let same : min p own ≡ min own p = omega arith in ap (λ (n : ℕ). least n keys) same) in
    omega arith
