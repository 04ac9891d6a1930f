-- Names of tasks and locks.
use Rattle.std.specs.Prelude.{ℕ, Bool, ◌&&◌, ◌||◌, List, length, slice_index, ◌==◌, nat_lt, nat_le}
use Rattle.std.specs.List.{list_all}
use Rattle.std.specs.Char.{is_ascii_digit, is_ascii_lowercase}
use Rattle.rt_base.specs.declared.limits.TheConstants.{MAX_NAME}

-- a letter a to z, a digit or `_`
abbrev pub is_name_byte : ℕ → Bool
is_name_byte b = is_ascii_lowercase b || is_ascii_digit b || b == 95

-- at least 1 such byte and at most as many as a name may have, with a letter first
abbrev pub is_name : List ℕ → Bool
is_name word = nat_lt 0 (length word) && nat_le (length word) MAX_NAME && is_ascii_lowercase (slice_index word 0) && list_all is_name_byte word
