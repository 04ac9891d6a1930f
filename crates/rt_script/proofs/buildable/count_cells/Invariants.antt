use Rattle.std.proofs.Common.{◌≡◌, take}
use Rattle.std.specs.Prelude.{count_by}
use Rattle.rt_script.specs.Building.{is_local}
use Rattle.rt_script.proofs.buildable.count_cells.Given as goal

abbrev pub invariant-loop-kind : goal.invariant-loop-kind
invariant-loop-kind l = l.cells ≡ count_by is_local (take l.kind-index l.locks)
