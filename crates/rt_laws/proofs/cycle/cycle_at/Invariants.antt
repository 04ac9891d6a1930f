use Rattle.std.proofs.Common.{◌≡◌, ◌<◌, length}
use Rattle.rt_model.proofs.graph.Followed.{IsFollowed}
use Rattle.rt_laws.proofs.cycle.cycle_at.Given as goal

abbrev pub invariant-loop : goal.invariant-loop
invariant-loop l = IsFollowed l.core.state l.t l.here l.path × (l.here.0 < length l.core.state.threads) × (length l.path ≡ l.counter)
