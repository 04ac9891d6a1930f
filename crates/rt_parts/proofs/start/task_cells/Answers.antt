use Rattle.std.proofs.Common.{◌<◌, ◌∙◌, length, arith}
use Rattle.rt_base.specs.Script.{TaskLine}
use Rattle.rt_model.specs.State.{fresh_task}
use Rattle.rt_parts.proofs.Prefixes.{prefix-more}
use Rattle.rt_parts.proofs.start.task_cells.Goals as goal

pub loop-t-preserved : goal.loop-t-preserved
loop-t-preserved c =
    let n = length c.args.script.now.locks in
    let tasks = c.args.script.now.tasks in
    let lt : c.loop-t.t < length tasks = omega (arith, c.tasks-t-end.ensures.number) in
    prefix-more (λ (line : TaskLine). fresh_task n line.own) tasks c.loop-t.t _ _ _ _ lt c.loop-t.invariant (c.in_ok-new.ensures ∙ (λ i. fresh_task (c.locks-locks.ensures.number i) (c.own.ensures i))) c.in_ok-push.ensures.items
