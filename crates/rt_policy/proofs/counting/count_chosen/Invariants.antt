use Rattle.std.proofs.Common.{◌+◌, ◌-◌, ◌≤◌}
use Rattle.rt_model.specs.Order.{chosen}
use Rattle.rt_policy.proofs.CountLoop.{Counting}
use Rattle.rt_policy.proofs.counting.count_chosen.Given as goal

abbrev pub invariant-loop-turn : goal.invariant-loop-turn
invariant-loop-turn l =
    Counting l.fn.core.state (chosen l.turns l.fn.core.state l.fn.last) (chosen (l.turns - l._turn) l.core.state l.last) l.core.state l.fn.core.made l.core.made l.last l.fn.counts l.counts
    × (l.core.made ≤ l.fn.core.made + l._turn)
