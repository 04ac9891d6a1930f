use Rattle.std.proofs.Common.{◌∙◌, ap, List, Some}
use Rattle.rt_base.specs.Kind.{spins}
use Rattle.rt_model.specs.Parts.{TaskPart}
use Rattle.rt_model.specs.State.{lock_in}
use Rattle.rt_model.specs.StateAfter.{update}
use Rattle.rt_model.specs.steps.Lock.{taken_by}
use Rattle.rt_model.specs.steps.Task.{leave_queue, refreshed}
use Rattle.rt_core.proofs.Leaving.{SameMany, lock-many, task-many, both-many, lock-stays, task-stays, update-twice, refresh-left}
use Rattle.rt_core.proofs.effect.acquire.take.Goals.{After-leave_queue}
use Rattle.rt_core.proofs.effect.acquire.take.Goals as goal

same : (c : After-leave_queue) → SameMany c.args.shared.now c.leave_queue.new.self
same c = both-many _ _ _ (lock-many _ _ c.args.l.0 (taken_by c.args.e.now.task) c.take.ensures) (task-many _ _ c.args.e.now.task.0 (leave_queue c.spins.result) c.leave_queue.ensures)

pub refresh-requires-clause-task : goal.refresh-requires-clause-task
refresh-requires-clause-task c = task-stays c.args.shared.now _ c.args.e.now.task.0 (same (goal.at.refresh-requires-clause-task c).After-leave_queue) c.requires.task

pub refresh-requires-clause-lock : goal.refresh-requires-clause-lock
refresh-requires-clause-lock c = lock-stays c.args.shared.now _ c.args.l.0 (same (goal.at.refresh-requires-clause-lock c).After-leave_queue) c.requires.lock

pub returns-clause-shared : goal.returns-clause-shared
returns-clause-shared c =
    let sh = c.args.shared.now in
    let t = c.args.e.now.task in
    let lock = taken_by t (lock_in sh c.args.l) in
    refresh-left sh _ _ _ c.args.l (taken_by t) t (leave_queue c.spins.result) (Some t) c.requires.lock c.take.ensures c.leave_queue.ensures c.refresh.ensures
    ∙ (ap (λ (tasks : List TaskPart). record sh { locks = update sh.locks c.args.l.0 (taken_by t); tasks = tasks }) (update-twice sh.tasks t.0 (leave_queue c.spins.result) (refreshed (Some c.args.l) lock.rows))
    ∙ ap (λ b. record sh { locks = update sh.locks c.args.l.0 (taken_by t); tasks = update sh.tasks t.0 (λ task. refreshed (Some c.args.l) lock.rows (leave_queue b task)) }) (c.spins.ensures ∙ ap spins c.kind_of.ensures))
