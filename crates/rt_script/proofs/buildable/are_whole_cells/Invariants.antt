use Rattle.std.proofs.Common.{◌≡◌, drop}
use Rattle.rt_script.proofs.Buildability.{missing_after}
use Rattle.rt_script.proofs.buildable.are_whole_cells.Given as goal

abbrev pub invariant-loop-kind : goal.invariant-loop-kind
invariant-loop-kind l = missing_after l.cpus l.missing (drop l.kind-index l.locks) ≡ missing_after l.cpus 0 l.locks
