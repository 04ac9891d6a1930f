use Rattle.std.proofs.Common.{◌+◌, ◌≤◌, drop, None}
use Rattle.rt_model.specs.Order.{picked}
use Rattle.rt_policy.proofs.CountLoop.{Counting}
use Rattle.rt_policy.proofs.counting.count_picks.Given as goal

abbrev pub invariant-loop-t : goal.invariant-loop-t
invariant-loop-t l =
    Counting l.fn.core.state (picked l.t-items l.fn.core.state None) (picked (drop l.t-index l.t-items) l.core.state l.last) l.core.state l.fn.core.made l.core.made l.last l.fn.counts l.counts
    × (l.core.made ≤ l.fn.core.made + l.t-index)
