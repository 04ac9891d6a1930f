use Rattle.std.proofs.Common.{map, arith}
use Rattle.rt_script.specs.Building.{TaskPlan, task_plan}
use Rattle.rt_script.proofs.Buildability.{never}
use Rattle.rt_script.proofs.Built.{plan_at, plan_within, calls_more, calls_within}
use Rattle.rt_script.proofs.buildable.are_few_calls.Goals as goal

pub returns-then-len-left : goal.returns-then-len-left
returns-then-len-left c =
    let task : TaskPlan = task_plan c.loop-calls-item.result in
    let here = plan_at c.args.tasks.now c.loop-calls.calls-index c.loop-calls-item.result c.loop-calls-item.is in
    let lt = plan_within c.args.tasks.now c.loop-calls.calls-index c.loop-calls-test.true in
    let within = calls_within (map task_plan c.args.tasks.now) c.loop-calls.calls-index task lt here in
    (never, (λ le. absurd (omega (arith, within, c.loop-calls.invariant, c.len.ensures, c.loop-calls-item.result.2.ok, c.if-len-left.true, le))))

pub loop-calls-preserved : goal.loop-calls-preserved
loop-calls-preserved c =
    let task : TaskPlan = task_plan c.loop-calls-item.result in
    let here = plan_at c.args.tasks.now c.loop-calls.calls-index c.loop-calls-item.result c.loop-calls-item.is in
    let lt = plan_within c.args.tasks.now c.loop-calls.calls-index c.loop-calls-test.true in
    omega (arith, calls_more (map task_plan c.args.tasks.now) c.loop-calls.calls-index task lt here, c.loop-calls.invariant, c.len.ensures, c.loop-calls-item.result.2.ok, c.if-len-left.false)
