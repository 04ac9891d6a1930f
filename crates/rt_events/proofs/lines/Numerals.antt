-- A number's decimal digits are read as that number.
use Rattle.std.proofs.Common.{◌≡◌, ℕ, ◌<◌, ◌≤◌, true, List, Some, leb, refl, sym, ap, subst, ◌∙◌, arith}
use Rattle.std.specs.Prelude.{bytes_eq, decimal, ◌^◌}
use Rattle.std.specs.Str.{all_ascii_digits}
use Rattle.std.specs.Str.Parse.{digits_value}
use Rattle.std.proofs.lemmas.Bool.{le-leb, leb-true}
use Rattle.std.proofs.lemmas.Fmt.{digits_value-decimal}
use Rattle.std.proofs.lemmas.Str.Parse.{IsNumeralModel, numerals_by_value, tells_all_ascii_digits}
use Rattle.rt_script.specs.Words.{only_if, number_spelled, number_upto}
use Rattle.rt_events.proofs.lines.Chains.{after, passed, is_word_read, same_word, some_is}

pub own : IsNumeralModel (λ ds. all_ascii_digits ds ≡ true) (digits_value 10)
own = numerals_by_value _ tells_all_ascii_digits

pub number_read : (most n : ℕ) → n ≤ most → most < 2 ^ 64 → number_upto most (decimal n) ≡ Some n
unfolding number_upto
number_read most n le small =
    let value : digits_value 10 (decimal n) ≡ n = digits_value-decimal own n (omega arith) in
    let within : leb n most ≡ true = le-leb n most le in
    rw (value, same_word (decimal n), within) refl

pub numbers_said : (most : ℕ) (w : List ℕ) (n : ℕ) → number_upto most w ≡ Some n → (decimal n ≡ w) × (n ≤ most)
unfolding number_upto
numbers_said most w n e =
    let v : ℕ = digits_value 10 w in
    let step = after (number_spelled w) (λ n. only_if (leb n most) (Some n)) n e in
    let spelled = passed (bytes_eq (decimal v) w) (Some v) step.0 step.1 in
    let small = passed (leb step.0 most) (Some step.0) n step.2 in
    let is : step.0 ≡ n = some_is _ _ small.1 in
    let from : v ≡ step.0 = some_is _ _ spelled.1 in
    let word : decimal v ≡ w = is_word_read _ _ spelled.0 in
    (ap decimal (sym (from ∙ is)) ∙ word, subst (λ n. n ≤ most) is (leb-true step.0 most small.0))
