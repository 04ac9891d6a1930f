use Rattle.std.proofs.Common.{◌≡◌, ◌+◌, take, map}
use Rattle.rt_base.specs.declared.limits.TheConstants.{MAX_CALLS}
use Rattle.rt_script.specs.Building.{task_plan, planned_calls}
use Rattle.rt_script.proofs.buildable.are_few_calls.Given as goal

abbrev pub invariant-loop-calls : goal.invariant-loop-calls
invariant-loop-calls l = planned_calls (take l.calls-index (map task_plan l.tasks)) + l.left ≡ MAX_CALLS
