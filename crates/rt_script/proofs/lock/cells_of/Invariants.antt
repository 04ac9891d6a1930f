use Rattle.std.proofs.Common.{◌≡◌}
use Rattle.rt_base.specs.Script.{cells_of}
use Rattle.rt_script.proofs.lock.cells_of.Given as goal

abbrev pub invariant-loop-k : goal.invariant-loop-k
invariant-loop-k l = l.cells.items ≡ cells_of l.name l.k
