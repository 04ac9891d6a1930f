use Rattle.std.proofs.Common.{◌≡◌, ◌+◌, ◌*◌}
use Rattle.std.specs.Prelude.{map}
use Rattle.rt_script.specs.Building.{task_plan}
use Rattle.rt_policy.specs.Draws.{number_after}
use Rattle.rt_policy.specs.Generator.{each, task}
use Rattle.rt_policy.proofs.generator.draw_tasks.Given as goal

abbrev pub invariant-loop-start : goal.invariant-loop-start
invariant-loop-start l = record { tasks : map task_plan l.tasks.items ≡ each l.start-index (task l.fn.draws); next : l.draws ≡ number_after l.fn.draws (64 + 300 * l.start-index) }
