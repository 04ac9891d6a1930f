use Rattle.std.proofs.Common.{take}
use Rattle.std.specs.Prelude.{All}
use Rattle.rt_base.specs.Script.{IsCallOf}
use Rattle.rt_script.specs.Building.{built}
use Rattle.rt_script.proofs.buildable.Parts.are_calls.Given as goal

abbrev pub invariant-loop-call : goal.invariant-loop-call
invariant-loop-call l = All (IsCallOf (built l.self)) (take l.call-index l.calls)
