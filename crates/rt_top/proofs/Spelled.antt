-- A number as a word spells it.
use Rattle.std.proofs.Common.{◌≡◌, ◌≢◌, ℕ, zero, suc, ◌<◌, ◌^◌, ◌≤◌, Bool, true, false, List, length, get_or, leb, Option, Some, None, Result, Ok, Err, refl, sym, ap, subst, ◌∙◌, arith}
use Rattle.std.specs.Prelude.{decimal, bytes_eq}
use Rattle.std.specs.Result.{result_ok}
use Rattle.std.specs.Str.{all_ascii_digits}
use Rattle.std.specs.Str.Parse.{digits_value, ParsesUnsigned}
use Rattle.std.proofs.lemmas.Str.Parse.{IsNumeralModel, numerals_by_value, tells_all_ascii_digits, not_in_digits, parse_plain}
use Rattle.std.proofs.lemmas.Fmt.{decimal-digits_value, digits_decimal, first_decimal, decimal_digit, decimal_nonempty}
use Rattle.std.proofs.lemmas.Slice.Eq.{bytes_eq-Decides}
use Rattle.std.proofs.lemmas.Bool.{leb-true, le-leb}
use Rattle.rt_script.specs.Words.{◌>>=◌, only_if, number_upto}
use Rattle.rt_top.specs.declared.options.TheConstants.{MAX_TURNS}

own : IsNumeralModel (λ ds. all_ascii_digits ds ≡ true) (digits_value 10)
own = numerals_by_value _ tells_all_ascii_digits

-- the number that a word spells: the word is its decimal text
pub record Spells (most : ℕ) (word : List ℕ) (n : ℕ) : Type 0 where
  pub text : decimal n ≡ word
  pub within : n ≤ most
  pub value : n ≡ digits_value 10 word

parts : (a : Bool) (v most n : ℕ) → (only_if a (Some v) >>= λ m. only_if (leb m most) (Some m)) ≡ Some n → (a ≡ true) × (leb v most ≡ true) × (n ≡ v)
parts false v most n e = cc e
parts true v most n e = let w = within (leb v most) e in (refl, w.0, w.1)
  where
    within : (b : Bool) → only_if b (Some v) ≡ Some n → (b ≡ true) × (n ≡ v)
    within true e = (refl, cc e)
    within false e = cc e

pub spells : (most : ℕ) (word : List ℕ) (n : ℕ) → number_upto most word ≡ Some n → Spells most word n
unfolding number_upto
spells most word n e =
    let p = parts (bytes_eq (decimal (digits_value 10 word)) word) (digits_value 10 word) most n e in
    record {
      text = ap decimal p.2 ∙ (bytes_eq-Decides (decimal (digits_value 10 word)) word).0 p.0;
      within = omega (arith, leb-true (digits_value 10 word) most p.1, p.2);
      value = p.2;
    }

pub spelled : (most : ℕ) (word : List ℕ) → decimal (digits_value 10 word) ≡ word → digits_value 10 word ≤ most → number_upto most word ≡ Some (digits_value 10 word)
unfolding number_upto
spelled most word text within = rw ((bytes_eq-Decides (decimal (digits_value 10 word)) word).1 text, le-leb (digits_value 10 word) most within) refl

none_if : (o : Option ℕ) → ((n : ℕ) → o ≡ Some n → ⊥) → o ≡ None
none_if None h = refl
none_if (Some n) h = absurd (h n refl)

-- what is spelled is digits, and some
pub digits_of : (most : ℕ) (word : List ℕ) (n : ℕ) → most < 2 ^ 64 → Spells most word n → all_ascii_digits word ≡ true
digits_of most word n small s = subst (λ ds. all_ascii_digits ds ≡ true) s.text (digits_decimal own n (omega (arith, s.within)))

pub some_of : (most : ℕ) (word : List ℕ) (n : ℕ) → most < 2 ^ 64 → Spells most word n → 0 < length word
some_of most word n small s = subst (λ (ds : List ℕ). 0 < length ds) s.text (decimal_nonempty n (omega (arith, s.within)))

-- it begins with no other byte
pub first_of : (most : ℕ) (word : List ℕ) (n c : ℕ) → most < 2 ^ 64 → Spells most word n → c < 48 → get_or word 0 0 ≢ c
first_of most word n c small s lt = not_in_digits own word c (digits_of most word n small s) (λ r. omega arith) 0 (some_of most word n small s)

pub no_zero : (n : ℕ) (word : List ℕ) → n < 2 ^ 64 → decimal n ≡ word → get_or word 0 0 ≡ 48 → 1 < length word → ⊥
no_zero zero word small e z long =
    let len : length word ≡ 1 = rw (← e, decimal_digit 0 (omega arith)) refl in
    omega arith
no_zero (suc n) word small e z long =
    let more : 48 < get_or word 0 0 = rw (← e) (first_decimal (suc n) (omega arith) small) in
    omega arith

pub number_upto-plus : (most : ℕ) (word : List ℕ) → most < 2 ^ 64 → get_or word 0 0 ≡ 43 → number_upto most word ≡ None
number_upto-plus most word small plus = none_if _ (λ n e. first_of most word n 43 small (spells most word n e) (omega arith) plus)

pub number_upto-zeros : (most : ℕ) (word : List ℕ) → most < 2 ^ 64 → get_or word 0 0 ≡ 48 → 1 < length word → number_upto most word ≡ None
number_upto-zeros most word small z long =
    none_if _ (λ n e. let s = spells most word n e in no_zero n word (omega (arith, s.within)) s.text z long)

-- what std reads from a word with no plus and no leading zero
pub number_upto-parsed : {E : Type 0} (word : List ℕ) (r : Result ℕ E) → get_or word 0 0 ≢ 43 → (get_or word 0 0 ≡ 48 → length word ≡ 1) → ParsesUnsigned 32 10 word r → result_ok r ≡ number_upto MAX_TURNS word
number_upto-parsed {E = E} word (Ok x) plain led parses =
    let is = parse_plain own {E = E} 32 word (Ok x) parses plain in
    let v : ℕ = digits_value 10 word in
    let text : decimal v ≡ word = decimal-digits_value own word is.0.0 is.0.1 led (omega (arith, is.0.2)) in
    ap Some is.1 ∙ sym (spelled MAX_TURNS word text (omega (arith, is.0.2)))
number_upto-parsed {E = E} word (Err e) plain led parses =
    let is = parse_plain own {E = E} 32 word (Err e) parses plain in
    sym (none_if _ (λ n h. let s = spells MAX_TURNS word n h in is (digits_of MAX_TURNS word n (omega arith) s, some_of MAX_TURNS word n (omega arith) s, omega (arith, s.within, s.value))))
