use Rattle.std.proofs.Common.{◌≡◌, List, ℕ, ◌++◌, length}
use Rattle.rt_base.specs.Outside.{Appends}
use Rattle.rt_base.proofs.writing.write_whole.Given as goal

-- what was written, without a fault, and the rest, are the piece
abbrev pub invariant-loop-rest : goal.invariant-loop-rest
invariant-loop-rest g l =
    let held = g.K.Sink.held in
    let faults = g.K.Sink.faults in
    (done : List ℕ) × (done ++ l.rest ≡ l.piece) × Appends (held l.fn.out) done (held l.out) × (faults l.out ≡ faults l.fn.out)

abbrev pub decreases-loop-rest : goal.decreases-loop-rest
decreases-loop-rest g l = length l.rest
