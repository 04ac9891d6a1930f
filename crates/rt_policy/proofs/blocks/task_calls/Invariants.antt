use Rattle.std.proofs.Common.{◌≡◌, ◌*◌}
use Rattle.rt_policy.specs.Draws.{number_after}
use Rattle.rt_policy.specs.Generator.{blocks}
use Rattle.rt_policy.proofs.blocks.task_calls.Given as goal

abbrev pub invariant-loop-n : goal.invariant-loop-n
invariant-loop-n l = record { calls : l.calls.items ≡ blocks l.initial.draws l.n; next : l.draws ≡ number_after l.initial.draws (3 * l.n) }
