use Rattle.std.proofs.Common.{map, arith}
use Rattle.rt_script.specs.Building.{TaskPlan, task_plan}
use Rattle.rt_script.proofs.Built.{plan_at, plan_within, calls_more, calls_within}
use Rattle.rt_script.proofs.script.building.count_calls.Goals as goal

pub overflow_cast-all_calls : goal.overflow_cast-all_calls
overflow_cast-all_calls c =
    let task : TaskPlan = task_plan c.loop-calls-item.result in
    let here = plan_at c.args.tasks.now c.loop-calls.calls-index c.loop-calls-item.result c.loop-calls-item.is in
    let lt = plan_within c.args.tasks.now c.loop-calls.calls-index c.loop-calls-test.true in
    omega (arith, calls_within (map task_plan c.args.tasks.now) c.loop-calls.calls-index task lt here, c.len.ensures, c.loop-calls-item.result.2.ok, c.requires)

pub overflow_add-all_calls : goal.overflow_add-all_calls
overflow_add-all_calls c =
    let task : TaskPlan = task_plan c.loop-calls-item.result in
    let here = plan_at c.args.tasks.now c.loop-calls.calls-index c.loop-calls-item.result c.loop-calls-item.is in
    let lt = plan_within c.args.tasks.now c.loop-calls.calls-index c.loop-calls-test.true in
    omega (arith, calls_within (map task_plan c.args.tasks.now) c.loop-calls.calls-index task lt here, c.len.ensures, c.loop-calls-item.result.2.ok, c.requires, c.loop-calls.invariant)

pub loop-calls-preserved : goal.loop-calls-preserved
loop-calls-preserved c =
    let task : TaskPlan = task_plan c.loop-calls-item.result in
    let here = plan_at c.args.tasks.now c.loop-calls.calls-index c.loop-calls-item.result c.loop-calls-item.is in
    let lt = plan_within c.args.tasks.now c.loop-calls.calls-index c.loop-calls-test.true in
    omega (arith, calls_more (map task_plan c.args.tasks.now) c.loop-calls.calls-index task lt here, c.len.ensures, c.loop-calls-item.result.2.ok, c.loop-calls.invariant)
