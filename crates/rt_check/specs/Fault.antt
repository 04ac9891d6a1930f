-- What a text is refused with.
use Rattle.std.specs.Prelude.{ℕ, List}
use Rattle.rt_base.specs.Script.{Script}
use Rattle.rt_base.specs.declared.ended.Ended.{Ended}
use Rattle.rt_check.specs.declared.fault.CheckFault.{CheckFault}
use Rattle.rt_check.specs.declared.fault.CheckFault.TheVariants.{Illegal, Memory}
use Rattle.rt_check.specs.Legal.{IsLegal}
use Rattle.rt_check.specs.FirstWrong.{IsFirstWrong}

-- the fault tells the text's first wrong line; want of memory tells nothing
abbrev pub IsFaultOf : Script → List ℕ → CheckFault → Type 0
IsFaultOf script text (Illegal line why) = IsFirstWrong script text line why
IsFaultOf script text (Memory fault) = Unit {0}

-- where the fault is a wrong line, the text is no run's
abbrev pub IsNoRun : Script → List ℕ → CheckFault → Type 0
IsNoRun script text (Illegal line why) = (ended : Ended) → IsLegal script text ended → ⊥
IsNoRun script text (Memory fault) = Unit {0}
