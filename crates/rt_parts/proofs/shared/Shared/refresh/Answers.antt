use Rattle.std.proofs.Common.{◌≡◌, ◌∙◌, ap, subst, length, ◌<◌, Some, IfSome}
use Rattle.rt_base.specs.declared.id.TaskId.{TaskId}
use Rattle.rt_model.specs.Parts.{OwnerPart}
use Rattle.rt_model.specs.Rows.{top_key}
use Rattle.rt_model.specs.State.{lock_in}
use Rattle.rt_model.specs.steps.Task.{with_top, refreshed}
use Rattle.rt_parts.proofs.SharedSteps.{named-set, lock-at}
use Rattle.rt_parts.proofs.shared.Shared.refresh.Goals as goal

pub returns-in-Some : goal.returns-in-Some
returns-in-Some c =
    let there = subst (λ o. IfSome o (λ (t : TaskId). t.0 < length c.args.self.now.tasks)) c.in-Some.is c.requires.task in
    let top : c.top_key-top.result ≡ top_key (lock_in c.args.self.now c.args.l).rows = c.top_key-top.ensures ∙ ap (λ (lock : OwnerPart). top_key lock.rows) (lock-at _ _ _ _ c.self.view_is c.args.l c.index.result.now c.requires.lock c.index.ensures) in
    named-set _ _ _ _ c.self.view_is c.args.t c.in-Some.t c.index_mut.result.now _ (refreshed (Some c.args.l) (lock_in c.args.self.now c.args.l).rows) c.in-Some.is there c.index_mut.ensures.value
    (c.refresh.ensures ∙ ap (λ k. with_top (Some c.args.l) k c.index_mut.result.now) top)
