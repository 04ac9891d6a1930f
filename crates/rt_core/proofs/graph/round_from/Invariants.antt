use Rattle.std.specs.Prelude.{◌-◌, ◌^◌}
use Rattle.rt_core.proofs.GraphRounds.{IsOnRound}
use Rattle.rt_core.proofs.graph.round_from.Given as goal

abbrev pub invariant-edges : goal.invariant-edges
invariant-edges l = IsOnRound l.core.state l.known.near l.known.far l.fn.u l.round.tasks l.round.here

-- each task joins the round once
abbrev pub decreases-edges : goal.decreases-edges
decreases-edges l = 2 ^ 64 - l.round.tasks
