use Rattle.std.proofs.Common.{◌≡◌, drop}
use Rattle.std.specs.Prelude.{slice_set}
use Rattle.rt_model.specs.Parts.{least, keys_in}
use Rattle.rt_tasks.proofs.kept.least_with.Given as goal

abbrev pub invariant-loop-i : goal.invariant-loop-i
invariant-loop-i l = least l.fn.own (keys_in (slice_set l.kept l.l.0 l.top)) ≡ least l.best (keys_in (drop l.i (slice_set l.kept l.l.0 l.top)))
