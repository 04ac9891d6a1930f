use Rattle.std.proofs.Common.{◌-◌, ◌≤◌, vec_capacity}
use Rattle.rt_model.specs.Order.{chosen}
use Rattle.rt_policy.proofs.Loops.{Looping}
use Rattle.rt_policy.proofs.playing.play_chosen.Given as goal

abbrev pub invariant-loop-turn : goal.invariant-loop-turn
invariant-loop-turn g l =
    Looping l.script l.first l.fn.core.state (chosen l.turns l.fn.core.state l.fn.last) (chosen (l.turns - l._turn) l.core.state l.now.last) l.core.state l.fn.core.made l.core.made l.now
    (g.K.Sink.held l.fn.out) l.fn.buf.items (g.K.Sink.held l.out) l.buf.items (g.K.Sink.faults l.fn.out) (g.K.Sink.faults l.out) (vec_capacity l.fn.buf) (vec_capacity l.buf)
    × (l.now.count ≤ l._turn)
