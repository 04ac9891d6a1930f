-- The digits of a number, read one after the other.
use Rattle.std.proofs.Common.{◌≡◌, ℕ, zero, suc, ◌+◌, ◌*◌, ◌<◌, ◌≤◌, Bool, true, false, ◌&&◌, List, [], ◌∷◌, length, get_or, leb, Some, None, refl, sym, ap, subst, ◌∙◌, arith}
use Rattle.std.specs.Prelude.{decimal, bytes_eq, ◌^◌}
use Rattle.std.specs.Char.{digit_value}
use Rattle.std.specs.Str.{all_ascii_digits}
use Rattle.std.specs.Str.Parse.{digits_value, digits_value_after}
use Rattle.std.proofs.lemmas.Str.Parse.{IsNumeralModel, numerals_by_value, tells_all_ascii_digits}
use Rattle.std.proofs.lemmas.Fmt.{decimal-digits_value, digits_decimal, first_decimal, decimal_digit}
use Rattle.std.proofs.lemmas.Slice.Eq.{bytes_eq-Decides}
use Rattle.std.proofs.lemmas.Bool.{leb-true, lt-leb}
use Rattle.rt_script.specs.Words.{◌>>=◌, only_if, number_upto}
use Rattle.rt_script.specs.Digits.{digits_upto}

-- ---- digit by digit

grows : (ds : List ℕ) (n : ℕ) → n ≤ digits_value_after 10 n ds
grows [] n = omega arith
grows (d ∷ ds) n = omega (arith, grows ds (n * 10 + digit_value d))

both_false : (a b : Bool) → b ≡ false → (a && b) ≡ false
both_false true b e = e
both_false false b e = refl

pub digits_upto-past : (most n : ℕ) (ds : List ℕ) → most < n → digits_upto most n ds ≡ None
digits_upto-past most n ds lt =
    let past : leb (digits_value_after 10 n ds) most ≡ false = lt-leb _ _ (omega (arith, grows ds n)) in
    rw (both_false (all_ascii_digits ds) (leb (digits_value_after 10 n ds) most) past) refl

-- ---- whole words

-- what digits spell
pub decimals : IsNumeralModel (λ ds. all_ascii_digits ds ≡ true) (digits_value 10)
decimals = numerals_by_value _ tells_all_ascii_digits

-- the number that the word would be
abbrev tested : ℕ → List ℕ → Bool
tested most word = bytes_eq (decimal (digits_value 10 word)) word && leb (digits_value 10 word) most

joined : (most v : ℕ) (b : Bool) → (only_if b (Some v) >>= λ n. only_if (leb n most) (Some n)) ≡ only_if (b && leb v most) (Some v)
joined most v true = refl
joined most v false = refl

number_upto-tested : (most : ℕ) (word : List ℕ) → number_upto most word ≡ only_if (tested most word) (Some (digits_value 10 word))
unfolding number_upto
number_upto-tested most word = joined most (digits_value 10 word) (bytes_eq (decimal (digits_value 10 word)) word)

not_both : (a b : Bool) → (a ≡ true → b ≡ true → ⊥) → (a && b) ≡ false
not_both true true h = absurd (h refl refl)
not_both true false h = refl
not_both false b h = refl

same : (a b : Bool) → (a ≡ true → b ≡ true) → (b ≡ true → a ≡ true) → a ≡ b
same true b to from = sym (to refl)
same false true to from = from refl
same false false to from = refl

same_with : (a b c : Bool) → (c ≡ true → a ≡ b) → (a && c) ≡ (b && c)
same_with a b true h = ap (λ x. x && true) (h refl)
same_with a b false h = both_false a false refl ∙ sym (both_false b false refl)

-- the word is what its number spells
spelled : (word : List ℕ) → bytes_eq (decimal (digits_value 10 word)) word ≡ true → decimal (digits_value 10 word) ≡ word
spelled word e = (bytes_eq-Decides (decimal (digits_value 10 word)) word).0 e

pub number_upto-empty : (most : ℕ) → number_upto most [] ≡ None
number_upto-empty most = number_upto-tested most [] ∙ rw (decimal_digit 0 (omega arith)) refl

no_zero_first : (n : ℕ) (word : List ℕ) → n < 2 ^ 64 → decimal n ≡ word → get_or word 0 0 ≡ 48 → 1 < length word → ⊥
no_zero_first zero word small e z long =
    let len : length word ≡ 1 = rw (← e, decimal_digit 0 (omega arith)) refl in
    omega arith
no_zero_first (suc n) word small e z long =
    let more : 48 < get_or word 0 0 = rw (← e) (first_decimal (suc n) (omega arith) (omega arith)) in
    omega arith

pub number_upto-zero : (most : ℕ) (word : List ℕ) → most < 2 ^ 64 → get_or word 0 0 ≡ 48 → 1 < length word → number_upto most word ≡ None
number_upto-zero most word small z long =
    let v : ℕ = digits_value 10 word in
    let no : tested most word ≡ false = not_both _ _ (λ e le. no_zero_first v word (omega (arith, leb-true v most le)) (spelled word e) z long) in
    number_upto-tested most word ∙ rw no refl

pub number_upto-digits : (most : ℕ) (word : List ℕ) → most < 2 ^ 64 → 0 < length word → (get_or word 0 0 ≡ 48 → length word ≡ 1) → digits_upto most 0 word ≡ number_upto most word
number_upto-digits most word small some first =
    let v : ℕ = digits_value 10 word in
    let to : leb v most ≡ true → all_ascii_digits word ≡ true → bytes_eq (decimal v) word ≡ true =
    λ le e. (bytes_eq-Decides (decimal v) word).1 (decimal-digits_value decimals word e some first (omega (arith, leb-true v most le))) in
    let from : leb v most ≡ true → bytes_eq (decimal v) word ≡ true → all_ascii_digits word ≡ true =
    λ le e. subst (λ ds. all_ascii_digits ds ≡ true) (spelled word e) (digits_decimal decimals v (omega (arith, leb-true v most le))) in
    let tests : (all_ascii_digits word && leb v most) ≡ tested most word = same_with _ _ _ (λ le. same _ _ (to le) (from le)) in
    ap (λ (b : Bool). only_if b (Some v)) tests ∙ sym (number_upto-tested most word)
