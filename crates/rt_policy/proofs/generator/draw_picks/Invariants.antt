use Rattle.std.proofs.Common.{◌≡◌}
use Rattle.rt_policy.specs.Draws.{number_after}
use Rattle.rt_policy.specs.Generator.{each, pick}
use Rattle.rt_policy.proofs.generator.draw_picks.Given as goal

abbrev pub invariant-loop-i : goal.invariant-loop-i
invariant-loop-i l = record { picks : l.picks.items ≡ each l.i (pick l.initial.draws); next : l.draws ≡ number_after l.initial.draws l.i }
