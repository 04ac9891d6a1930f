use Rattle.std.proofs.Common.{◌≡◌, take, map}
use Rattle.rt_script.specs.Building.{task_plan, planned_calls}
use Rattle.rt_script.proofs.script.building.count_calls.Given as goal

abbrev pub invariant-loop-calls : goal.invariant-loop-calls
invariant-loop-calls l = l.all_calls ≡ planned_calls (take l.calls-index (map task_plan l.tasks))
