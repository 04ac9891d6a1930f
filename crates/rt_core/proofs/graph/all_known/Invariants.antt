use Rattle.std.specs.Prelude.{ℕ, ◌≡◌, ◌<◌, true}
use Rattle.rt_model.specs.Rounds.{AreKnown}
use Rattle.rt_core.specs.KnownSets.{set_of, in_either}
use Rattle.rt_core.proofs.graph.all_known.Given as goal

-- it is known of those looked at
abbrev pub invariant-loop-u : goal.invariant-loop-u
invariant-loop-u l = AreKnown l.core.state l.fn.t (set_of l.known.near) (set_of l.known.far) × ((v : ℕ) → v < l.u → in_either l.known.near l.known.far v ≡ true)
