-- Bits of a word of a set of locks.
use Rattle.std.proofs.Common.{◌≡◌, ◌≢◌, ℕ, ◌+◌, ◌*◌, ◌%◌, ◌^◌, ◌<◌, ◌⊎◌, inl, inr, Bool, true, false, cond, refl, sym, ap, ◌∙◌, subst, arith}
use Rattle.std.specs.Prelude.{nat_eq, bit_and}
use Rattle.std.specs.Int.{bit_at, bit_not, trailing_zeros, w64}
use Rattle.std.proofs.lemmas.Bool.{cases_eq}
use Rattle.std.proofs.lemmas.Nat.{and_le_l}
use Rattle.std.proofs.lemmas.Nat.Bits.{bit_at-zero, bit_at-trailing_zeros, bit_at_clear_same, bit_at_clear_other}
use Rattle.rt_model.proofs.Numbers.{same_number, other_number}
use Rattle.rt_tasks.specs.LockSet.{has_bit, IsInWord}

-- a bit put to a value, and the others
pub put_bit : (new old bit b : ℕ) (set : Bool) → has_bit new bit ≡ set → (b ≢ bit → has_bit new b ≡ has_bit old b) → has_bit new b ≡ cond (nat_eq bit b) set (has_bit old b)
put_bit new old bit b set same others = by_test (nat_eq bit b) refl
  where
    by_test : (t : Bool) → nat_eq bit b ≡ t → has_bit new b ≡ cond t set (has_bit old b)
    by_test true is = subst (λ (v : ℕ). has_bit new v ≡ set) (same_number bit b is) same
    by_test false is = others (λ at. other_number bit b is (sym at))

-- no bit of 0 is set
pub none-zero : (w l : ℕ) → IsInWord 0 w l → ⊥
none-zero w l here = let unset = bit_at-zero (l % 64) in let set = same_number (bit_at 0 (l % 64)) 1 here.1 in omega arith

-- the word without its lowest bit
abbrev pub rest_of : ℕ → ℕ
rest_of word = bit_and word (bit_not w64 (1 * 2 ^ trailing_zeros w64 word % 2 ^ 64))

module _ (word : ℕ) (some : 0 < word) (fits : word < 2 ^ 64) where
  lowest : (trailing_zeros w64 word < 64) × (bit_at word (trailing_zeros w64 word) ≡ 1) × ((i : ℕ) → i < trailing_zeros w64 word → bit_at word i ≡ 0)
  lowest = bit_at-trailing_zeros w64 word some fits

  pub low_within : trailing_zeros w64 word < 64
  low_within = lowest.0

  -- it is smaller
  pub rest-smaller : rest_of word < word
  rest-smaller = elim (cases_eq (rest_of word) word) [
    | inl same ↦ let set = lowest.1 in let cleared = bit_at_clear_same w64 word (trailing_zeros w64 word) low_within in let moved = ap (λ (n : ℕ). bit_at n (trailing_zeros w64 word)) same in absurd (omega arith)
    | inr other ↦ let le = and_le_l word (bit_not w64 (1 * 2 ^ trailing_zeros w64 word % 2 ^ 64)) in omega arith
  ]

  -- a lock of the word is at the lowest bit, or at one of the rest
  pub first_or_rest : (w l : ℕ) → IsInWord word w l → (l ≡ w * 64 + trailing_zeros w64 word) ⊎ IsInWord (rest_of word) w l
  first_or_rest w l here = elim (cases_eq (l % 64) (trailing_zeros w64 word)) [
    | inl same ↦ let at = here.0 in inl (omega arith)
    | inr other ↦ inr (here.0, ap (λ n. nat_eq n 1) (bit_at_clear_other w64 word (trailing_zeros w64 word) low_within (l % 64) (omega arith) other) ∙ here.1)
  ]

  -- and both of these are locks of the word
  pub first-in : (w : ℕ) → IsInWord word w (w * 64 + trailing_zeros w64 word)
  first-in w =
      let within = low_within in
      let at : (w * 64 + trailing_zeros w64 word) % 64 ≡ trailing_zeros w64 word = omega arith in
      (omega arith, ap (λ n. has_bit word n) at ∙ ap (λ n. nat_eq n 1) lowest.1)

  pub rest-in : (w l : ℕ) → IsInWord (rest_of word) w l → IsInWord word w l
  rest-in w l here = elim (cases_eq (l % 64) (trailing_zeros w64 word)) [
    | inl same ↦ (here.0, ap (λ n. has_bit word n) same ∙ ap (λ n. nat_eq n 1) lowest.1)
    | inr other ↦ (here.0, sym (ap (λ n. nat_eq n 1) (bit_at_clear_other w64 word (trailing_zeros w64 word) low_within (l % 64) (omega arith) other)) ∙ here.1)
  ]
