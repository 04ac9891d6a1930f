use Rattle.std.proofs.Common.{◌<◌, length, take}
use Rattle.std.specs.Prelude.{All}
use Rattle.rt_base.specs.declared.id.TaskId.{TaskId}
use Rattle.rt_script.proofs.buildable.Parts.are_picks.Given as goal

abbrev pub invariant-loop-t : goal.invariant-loop-t
invariant-loop-t l = All (λ (t : TaskId). t.0 < length l.self.tasks) (take l.t-index l.picks)
