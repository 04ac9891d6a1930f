use Rattle.std.proofs.Common.{◌∙◌, ap, Some}
use Rattle.rt_base.specs.declared.state.TaskState.{TaskState}
use Rattle.rt_model.specs.Parts.{effective_of}
use Rattle.rt_model.specs.State.{lock_in, task_in}
use Rattle.rt_model.specs.steps.Lock.{queued}
use Rattle.rt_model.specs.steps.Task.{blocked_on}
use Rattle.rt_core.proofs.Leaving.{SameMany, lock-many, task-many, both-many, lock-stays, named-stays, refresh-left, refreshed_after}
use Rattle.rt_core.proofs.effect.wait.wait.Goals.{After-block}
use Rattle.rt_core.proofs.effect.wait.wait.Goals as goal

same : (c : After-block) → SameMany c.args.shared.now c.block.new.self
same c =
    both-many _ _ _ (lock-many _ _ c.args.l.0 (queued c.args.e.now.task (effective_of (task_in c.args.shared.now c.args.e.now.task))) c.enqueue.ensures)
    (task-many _ _ c.args.e.now.task.0 (blocked_on (Some c.args.l) c.rest_for-rest.result) c.block.ensures)

pub refresh-requires-clause-task : goal.refresh-requires-clause-task
refresh-requires-clause-task c = named-stays c.args.shared.now _ c.args.e.now.owner (same (goal.at.refresh-requires-clause-task c).After-block) c.requires.owner

pub refresh-requires-clause-lock : goal.refresh-requires-clause-lock
refresh-requires-clause-lock c = lock-stays c.args.shared.now _ c.args.l.0 (same (goal.at.refresh-requires-clause-lock c).After-block) c.requires.lock

pub returns-clause-shared : goal.returns-clause-shared
returns-clause-shared c =
    let sh = c.args.shared.now in
    let t = c.args.e.now.task in
    let key = effective_of (task_in sh t) in
    refresh-left sh _ _ _ c.args.l (queued t key) t (blocked_on (Some c.args.l) c.rest_for-rest.result) c.args.e.now.owner c.requires.lock c.enqueue.ensures c.block.ensures c.refresh.ensures
    ∙ ap (λ (state : TaskState). refreshed_after sh c.args.l (queued t key) t (blocked_on (Some c.args.l) state) c.args.e.now.owner (queued t key (lock_in sh c.args.l))) c.rest_for-rest.ensures
