-- Digits after a number.
use Rattle.std.specs.Prelude.{ℕ, ◌&&◌, List, Option, Some, nat_le}
use Rattle.std.specs.Str.{all_ascii_digits}
use Rattle.std.specs.Str.Parse.{digits_value_after}
use Rattle.rt_script.specs.Words.{only_if}

-- the number that the digits write after those of n, where it is at most that
abbrev pub digits_upto : ℕ → ℕ → List ℕ → Option ℕ
digits_upto most n ds = only_if (all_ascii_digits ds && nat_le (digits_value_after 10 n ds) most) (Some (digits_value_after 10 n ds))
