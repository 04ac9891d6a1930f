use Rattle.rt_core.specs.KnownSets.{IsLeastOwn}
use Rattle.rt_core.proofs.graph.least_own.Given as goal

-- the best of those seen
abbrev pub invariant-loop-u : goal.invariant-loop-u
invariant-loop-u l = IsLeastOwn l.core.state l.near l.u l.best
