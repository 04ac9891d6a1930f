use Rattle.std.proofs.Common.{◌≡◌, replicate}
use Rattle.rt_model.specs.State.{free_lock}
use Rattle.rt_parts.proofs.start.lock_cells.Given as goal

abbrev pub invariant-loop-l : goal.invariant-loop-l
invariant-loop-l l = l.cells.items ≡ replicate l._l (record { part = free_lock; tasks = l.tasks })
