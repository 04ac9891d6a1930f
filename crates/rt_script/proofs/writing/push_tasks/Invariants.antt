use Rattle.std.proofs.Common.{◌≡◌, ◌++◌, take}
use Rattle.rt_script.specs.Canonical.{tasks_part}
use Rattle.rt_script.proofs.writing.push_tasks.Given as goal

abbrev pub invariant-loop-task : goal.invariant-loop-task
invariant-loop-task l = l.out.items ≡ l.initial.out.items ++ tasks_part (take l.task-index l.tasks)
