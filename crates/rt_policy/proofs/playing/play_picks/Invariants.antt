use Rattle.std.proofs.Common.{◌≤◌, drop, None, vec_capacity}
use Rattle.rt_model.specs.Order.{picked}
use Rattle.rt_policy.proofs.Loops.{Looping}
use Rattle.rt_policy.proofs.playing.play_picks.Given as goal

abbrev pub invariant-loop-t : goal.invariant-loop-t
invariant-loop-t g l =
    Looping l.script l.first l.fn.core.state (picked l.t-items l.fn.core.state None) (picked (drop l.t-index l.t-items) l.core.state l.now.last) l.core.state l.fn.core.made l.core.made l.now
    (g.K.Sink.held l.fn.out) l.fn.buf.items (g.K.Sink.held l.out) l.buf.items (g.K.Sink.faults l.fn.out) (g.K.Sink.faults l.out) (vec_capacity l.fn.buf) (vec_capacity l.buf)
    × (l.now.count ≤ l.t-index)
