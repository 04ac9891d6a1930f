use Rattle.std.proofs.Common.{subst, length, ◌<◌, IfSome}
use Rattle.rt_base.specs.declared.id.TaskId.{TaskId}
use Rattle.rt_model.specs.steps.Task.{restored}
use Rattle.rt_parts.proofs.SharedSteps.{named-set}
use Rattle.rt_parts.proofs.shared.Shared.restore.Goals as goal

pub returns-in-Some : goal.returns-in-Some
returns-in-Some c =
    let there = subst (λ o. IfSome o (λ (t : TaskId). t.0 < length c.args.self.now.tasks)) c.in-Some.is c.requires in
    named-set _ _ _ _ c.self.view_is c.args.t c.in-Some.t c.index_mut.result.now _ (restored c.args.spins) c.in-Some.is there c.index_mut.ensures.value c.restore.ensures
