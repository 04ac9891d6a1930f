use Rattle.std.proofs.Common.{◌≡◌, take}
use Rattle.rt_model.specs.steps.Chain.{is_on_path}
use Rattle.rt_walk.proofs.next.is_on_path.Given as goal

abbrev pub invariant-loop-i : goal.invariant-loop-i
invariant-loop-i l = l.found ≡ is_on_path l.task (take l.i l.path)
