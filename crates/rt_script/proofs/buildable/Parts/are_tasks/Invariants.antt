use Rattle.std.proofs.Common.{map, take}
use Rattle.std.specs.Prelude.{All}
use Rattle.rt_script.specs.Buildable.{IsTaskFor}
use Rattle.rt_script.specs.Building.{task_plan}
use Rattle.rt_script.proofs.buildable.Parts.are_tasks.Given as goal

abbrev pub invariant-loop-task : goal.invariant-loop-task
invariant-loop-task l = All (IsTaskFor l.self) (take l.task-index (map task_plan l.tasks))
