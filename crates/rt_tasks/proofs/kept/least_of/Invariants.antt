use Rattle.std.proofs.Common.{◌≡◌, drop}
use Rattle.rt_model.specs.Parts.{least, keys_in}
use Rattle.rt_tasks.proofs.kept.least_of.Given as goal

abbrev pub invariant-loop-i : goal.invariant-loop-i
invariant-loop-i l = least l.fn.own (keys_in l.kept) ≡ least l.best (keys_in (drop l.i l.kept))
