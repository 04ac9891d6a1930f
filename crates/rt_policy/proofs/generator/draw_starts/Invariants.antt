use Rattle.std.proofs.Common.{◌≡◌, ◌*◌}
use Rattle.rt_policy.specs.Draws.{number_after}
use Rattle.rt_policy.specs.Generator.{each, start}
use Rattle.rt_policy.proofs.generator.draw_starts.Given as goal

abbrev pub invariant-loop-t : goal.invariant-loop-t
invariant-loop-t l = record { starts : l.starts.items ≡ each l.t (start l.initial.draws); next : l.draws ≡ number_after l.initial.draws (2 * l.t) }
