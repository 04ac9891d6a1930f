-- A bit of a word put to a value.
use Rattle.std.proofs.Common.{◌≡◌, ◌≢◌, ℕ, zero, suc, ◌*◌, ◌%◌, ◌<◌, ◌^◌, inl, inr, Bool, true, false, cond, refl, sym, ap, ◌∙◌, subst, arith}
use Rattle.std.specs.Prelude.{nat_eq, ◌||◌, bit_or, max}
use Rattle.std.specs.Int.{bit_at, trailing_zeros, w64}
use Rattle.std.proofs.lemmas.Bool.{cases_eq}
use Rattle.std.proofs.lemmas.Nat.{le_or_l, or_lt}
use Rattle.std.proofs.lemmas.Nat.Bits.{bit_at-lt, bit_at_or, bit_at_set_same, bit_at_set_other, bit_at-trailing_zeros}
use Rattle.rt_model.proofs.Numbers.{same_number, other_number}
use Rattle.rt_core.specs.TaskSet.{has, IsLowestIn}

pub put_bit : (old new t u : ℕ) (member : Bool) → has new t ≡ member → (u ≢ t → has new u ≡ has old u) → has new u ≡ cond (nat_eq t u) member (has old u)
put_bit old new t u member same others = by_test (nat_eq t u) refl
  where
    by_test : (b : Bool) → nat_eq t u ≡ b → has new u ≡ cond b member (has old u)
    by_test true is = subst (λ (v : ℕ). has new v ≡ member) (same_number t u is) same
    by_test false is = others (λ at. other_number t u is (sym at))

pub lowest_bit : (word : ℕ) → 0 < word → word < 2 ^ 64 → (trailing_zeros w64 word < 64) × IsLowestIn word (trailing_zeros w64 word)
lowest_bit word some fits =
    let low = bit_at-trailing_zeros w64 word some fits in
    (low.0, (ap (λ n. nat_eq n 1) low.1, λ u lt. ap (λ n. nat_eq n 1) (low.2 u lt)))

-- the bits of two words together
pub either_bit : (a b u : ℕ) → has (bit_or a b) u ≡ (has a u || has b u)
either_bit a b u = ap (λ (n : ℕ). nat_eq n 1) (bit_at_or a b u) ∙ greater (bit_at a u) (bit_at b u) (bit_at-lt a u) (bit_at-lt b u)
  where
    greater : (m n : ℕ) → m < 2 → n < 2 → nat_eq (max m n) 1 ≡ (nat_eq m 1 || nat_eq n 1)
    greater zero zero m_few n_few = refl
    greater zero (suc zero) m_few n_few = refl
    greater (suc zero) zero m_few n_few = refl
    greater (suc zero) (suc zero) m_few n_few = refl
    greater (suc (suc m)) n m_few n_few = absurd (omega arith)
    greater m (suc (suc n)) m_few n_few = absurd (omega arith)

-- the word with one more bit
abbrev pub with_bit : ℕ → ℕ → ℕ
with_bit word t = bit_or word (1 * 2 ^ t % 2 ^ 64)

module _ (word t : ℕ) (within : t < 64) where
  set : has (with_bit word t) t ≡ true
  set = ap (λ n. nat_eq n 1) (bit_at_set_same w64 word t within)

  pub with_bit-has : (u : ℕ) → has (with_bit word t) u ≡ (nat_eq t u || has word u)
  with_bit-has u = by_test (nat_eq t u) refl
    where
      by_test : (b : Bool) → nat_eq t u ≡ b → has (with_bit word t) u ≡ (b || has word u)
      by_test true is = subst (λ (v : ℕ). has (with_bit word t) v ≡ true) (same_number t u is) set
      by_test false is = ap (λ n. nat_eq n 1) (bit_at_set_other w64 word t within u (λ at. other_number t u is (sym at)))

  -- it is greater, and a word still
  pub with_bit-more : has word t ≡ false → word < with_bit word t
  with_bit-more absent = elim (cases_eq word (with_bit word t)) [
    | inl same ↦ let there : has word t ≡ true = ap (λ (n : ℕ). has n t) same ∙ set in let no : true ≡ false = sym there ∙ absent in cc
    | inr other ↦ let le = le_or_l word (1 * 2 ^ t % 2 ^ 64) in omega arith
  ]

  pub with_bit-fits : word < 2 ^ 64 → with_bit word t < 2 ^ 64
  with_bit-fits fits = or_lt 64 word (1 * 2 ^ t % 2 ^ 64) fits (omega arith)
