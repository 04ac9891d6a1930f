use Rattle.std.proofs.Common.{◌≡◌, map}
use Rattle.rt_script.specs.Building.{task_plan, built_tasks}
use Rattle.rt_script.proofs.script.building.built_tasks.Given as goal

abbrev pub invariant-loop-own : goal.invariant-loop-own
invariant-loop-own l = l.lines.items ≡ built_tasks (map task_plan l.yielded)
