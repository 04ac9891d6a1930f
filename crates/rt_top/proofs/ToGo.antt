-- How long the lines of an input are.
use Rattle.std.proofs.Common.{◌≡◌, ℕ, ◌+◌, ◌≤◌, Bool, true, false, List, [], ◌∷◌, length, refl, ap, ◌∙◌, arith}
use Rattle.std.specs.Prelude.{◌==◌, bytes_eq, codes}
use Rattle.rt_top.specs.Checked.{length_to_go}
use Rattle.std.specs.List.{slice_split, onto_first}
use Rattle.std.proofs.lemmas.List.Splits.{slice_split-cons_yes, slice_split-cons_no}

-- how long these lines are, with a line feed each
abbrev pub spans : List (List ℕ) → ℕ
spans [] = 0
spans (line ∷ lines) = length line + 1 + spans lines

onto : (b : ℕ) (lines : List (List ℕ)) → 1 ≤ spans lines → spans (onto_first b lines) ≡ 1 + spans lines
onto b [] some = absurd (omega (arith, some))
onto b (line ∷ lines) some = omega arith

-- the lines of a text span it, and one byte more
pub spans-lines : (text : List ℕ) → spans (slice_split (λ b. b == 10) text) ≡ length text + 1
spans-lines [] = refl
spans-lines (b ∷ bs) = by_byte (b == 10) refl (spans-lines bs)
  where
    by_byte : (x : Bool) → (b == 10) ≡ x → spans (slice_split (λ b. b == 10) bs) ≡ length bs + 1 → spans (slice_split (λ b. b == 10) (b ∷ bs)) ≡ length (b ∷ bs) + 1
    by_byte true is ih = ap spans (slice_split-cons_yes (λ b. b == 10) b bs is) ∙ omega (arith, ih)
    by_byte false is ih = ap spans (slice_split-cons_no (λ b. b == 10) b bs is) ∙ onto b (slice_split (λ b. b == 10) bs) (omega (arith, ih)) ∙ omega (arith, ih)

-- up to a line `go`, and past another
pub at_go : (line : List ℕ) (lines : List (List ℕ)) → bytes_eq line (codes "go") ≡ true → length_to_go (line ∷ lines) ≡ length line + 1
at_go line lines is = rw is (omega arith)

pub past : (line : List ℕ) (lines : List (List ℕ)) → bytes_eq line (codes "go") ≡ false → length_to_go (line ∷ lines) ≡ length line + 1 + length_to_go lines
past line lines is = rw is refl

-- the length of a list of no lines
pub none_left : (lines : List (List ℕ)) → lines ≡ [] → length_to_go lines ≡ 0
none_left lines is = ap length_to_go is
