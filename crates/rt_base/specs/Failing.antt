-- Calls in memory of which some are to fail.
use Rattle.std.specs.Prelude.{ℕ, ◌==◌, Bool, if◌then◌else◌, List}
use Rattle.std.specs.List.{list_any}
use Rattle.rt_base.specs.Outside.{raised}
use Rattle.rt_base.specs.Kept.{Kept}

-- the numbers of the calls that are to fail, counted from 0, how many calls were made, and how many of them failed
pub record Calls : Type 0 where
  pub fail : List ℕ
  pub made : ℕ
  pub faults : ℕ

-- the next call is to fail: its number is one of those
abbrev pub fails : Calls → Bool
fails calls = list_any (λ n. n == calls.made) calls.fail

-- one call more
abbrev pub after_one_call : Calls → Calls
after_one_call calls =
    record { fail = calls.fail; made = raised calls.made; faults = if fails calls then raised calls.faults else calls.faults }

-- the bytes that are left of a source in memory, and its calls
pub record Supply : Type 0 where
  pub left : List ℕ
  pub calls : Calls

-- what a sink in memory keeps, and its calls
pub record Store : Type 0 where
  pub kept : Kept
  pub calls : Calls
