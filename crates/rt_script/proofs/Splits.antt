-- A text is cut at the first index of a byte.
use Rattle.std.proofs.Common.{◌≡◌, ℕ, suc, ◌+◌, ◌-◌, ◌<◌, ◌≤◌, Bool, true, false, cond, List, [], ◌∷◌, length, take, drop, take_all, length-drop, drop-drop, ltb, Option, Some, None, refl, sym, ap, ◌∙◌, arith}
use Rattle.std.specs.Prelude.{position, ◌==◌}
use Rattle.std.specs.List.{slice_split, onto_first, position_or_len}
use denote.Ref.{Bor}
use Rattle.rt_script.specs.ScriptFields.{pieces_left}
use Rattle.rt_script.specs.Grammar.{is_end}
use Rattle.std.proofs.lemmas.Bool.{ltb-true, ltb-false, ne_eqb}
use Rattle.std.proofs.lemmas.Option.{cond_some}
use Rattle.std.proofs.lemmas.List.Sums.{fails_before_first}
use Rattle.std.proofs.lemmas.List.Splits.{slice_split_first, slice_split_none}

cond_none : {A : Type 0} (b : Bool) (x : A) → cond b (Some x) None ≡ None → b ≡ false
cond_none true x e = absurd cc
cond_none false x e = refl

pub split_at_none : (p : ℕ → Bool) (xs : List ℕ) → position p xs ≡ None → slice_split p xs ≡ xs ∷ []
split_at_none p xs e =
    let past = ltb-false (position_or_len p xs) (length xs) (cond_none (ltb (position_or_len p xs) (length xs)) (position_or_len p xs) e) in
    slice_split_none p xs (λ k d lt. fails_before_first p xs k d (omega arith))

pub split_at_some : (p : ℕ → Bool) (xs : List ℕ) (i : ℕ) → position p xs ≡ Some i → (i < length xs) × (slice_split p xs ≡ take i xs ∷ slice_split p (drop (i + 1) xs))
split_at_some p xs i e =
    let h = cond_some (ltb (position_or_len p xs) (length xs)) (position_or_len p xs) i e in
    let within = ltb-true (position_or_len p xs) (length xs) h.0 in
    rw (← h.1) (within, slice_split_first p xs 0 within)

pub split_parts : (p : ℕ → Bool) (xs : List ℕ) (i : ℕ) (front back : List ℕ) → position p xs ≡ Some i → front ≡ take i xs → back ≡ drop i xs → slice_split p xs ≡ front ∷ slice_split p (take (length back - 1) (drop 1 back))
split_parts p xs i front back e f b =
    let whole : take (length back - 1) (drop 1 back) ≡ drop 1 back = take_all (length back - 1) (drop 1 back) (omega (arith, length-drop 1 back)) in
    let rest : drop 1 back ≡ drop (i + 1) xs = rw b (drop-drop 1 i xs) in
    rw (whole, rest, f) (split_at_some p xs i e).1

-- ---- a text always has a last piece

some_piece : (p : ℕ → Bool) (xs : List ℕ) → (first : List ℕ) × (others : List (List ℕ)) × (slice_split p xs ≡ first ∷ others)
some_piece p [] = ([], [], refl)
some_piece p (x ∷ xs) =
    let next = some_piece p xs in
    elim (p x) as (λ b. (first : List ℕ) × (others : List (List ℕ)) × (cond b ([] ∷ slice_split p xs) (onto_first x (slice_split p xs)) ≡ first ∷ others)) [
      | true ↦ ([], slice_split p xs, refl)
      | false ↦ (x ∷ next.0, next.1, ap (onto_first x) next.2)
    ]

not_end : (b : Bool) (x : ℕ) (pieces : List (List ℕ)) (first : List ℕ) (others : List (List ℕ)) → pieces ≡ first ∷ others → is_end (cond b ([] ∷ pieces) (onto_first x pieces)) ≡ false
not_end true x pieces first others e = rw e refl
not_end false x pieces first others e = rw e refl

is_end-split : (p : ℕ → Bool) (bytes : List ℕ) → is_end (slice_split p bytes) ≡ (length bytes == 0)
is_end-split p [] = refl
is_end-split p (b ∷ bytes) =
    let next = some_piece p bytes in
    not_end (p b) b (slice_split p bytes) next.0 next.1 next.2 ∙ sym (ne_eqb (suc (length bytes)) 0 (λ e. absurd (omega arith)))

pub is_end-pieces_left : (separator : ℕ) (left : Option (Bor (List ℕ))) (rest : Bor (List ℕ)) → left ≡ Some rest → is_end (pieces_left separator left) ≡ (length rest.now == 0)
is_end-pieces_left separator left rest e = rw e (is_end-split (λ b. b == separator) rest.now)

-- ---- as many pieces as separators, and one more

shorter : (b : Bool) (x : ℕ) (xs : List ℕ) (pieces : List (List ℕ)) (first0 : List ℕ) (others0 : List (List ℕ)) → pieces ≡ first0 ∷ others0 → length first0 + length others0 ≤ length xs
    → (first : List ℕ) (others : List (List ℕ)) → cond b ([] ∷ pieces) (onto_first x pieces) ≡ first ∷ others → length first + length others ≤ suc (length xs)
shorter true x xs pieces first0 others0 e le first others h =
    let f : [] ≡ first = cc in
    let o : pieces ≡ others = cc in
    omega (arith, ap length f, ap length o, ap length e)
shorter false x xs pieces first0 others0 e le first others h =
    let k : (x ∷ first0) ∷ others0 ≡ first ∷ others = rw e at h in
    let f : (x ∷ first0) ≡ first = cc in
    let o : others0 ≡ others = cc in
    omega (arith, ap length f, ap length o)

pub pieces_fit : (p : ℕ → Bool) (xs first : List ℕ) (others : List (List ℕ)) → slice_split p xs ≡ first ∷ others → length first + length others ≤ length xs
pieces_fit p [] first others e =
    let f : [] ≡ first = cc in
    let o : [] ≡ others = cc in
    omega (arith, ap length f, ap length o)
pieces_fit p (x ∷ xs) first others e =
    let next = some_piece p xs in
    shorter (p x) x xs (slice_split p xs) next.0 next.1 next.2 (pieces_fit p xs next.0 next.1 next.2) first others e
