use Rattle.std.proofs.Common.{◌∙◌, ap, Bool, Some}
use Rattle.rt_base.specs.Kind.{spins}
use Rattle.rt_model.specs.State.{lock_in}
use Rattle.rt_model.specs.steps.Lock.{left_by}
use Rattle.rt_model.specs.steps.Task.{leave_queue, refreshed}
use Rattle.rt_core.proofs.Leaving.{SameMany, lock-many, task-many, named-many, both-many, lock-stays, named-stays, refresh-left, refreshed_after}
use Rattle.rt_core.proofs.effect.wait.leave_row.Goals.{After-leave_queue}
use Rattle.rt_core.proofs.effect.wait.leave_row.Goals as goal

same : (c : After-leave_queue) → SameMany c.args.shared.now c.leave_queue.new.self
same c = both-many _ _ _ (lock-many _ _ c.args.l.0 (left_by c.args.t) c.remove.ensures) (task-many _ _ c.args.t.0 (leave_queue c.spins.result) c.leave_queue.ensures)

pub refresh-requires-clause-task : goal.refresh-requires-clause-task
refresh-requires-clause-task c = named-stays c.args.shared.now _ c.args.owner (same (goal.at.refresh-requires-clause-task c).After-leave_queue) c.requires.owner

pub refresh-requires-clause-lock : goal.refresh-requires-clause-lock
refresh-requires-clause-lock c = lock-stays c.args.shared.now _ c.args.l.0 (same (goal.at.refresh-requires-clause-lock c).After-leave_queue) c.requires.lock

pub first_phase-requires : goal.first_phase-requires
first_phase-requires c =
    let left = named-many _ _ c.args.owner (refreshed (Some c.args.l) (lock_in c.leave_queue.new.self c.args.l).rows) c.refresh.ensures in
    named-stays c.args.shared.now _ c.args.owner (both-many _ _ _ (same (goal.at.first_phase-requires c).After-leave_queue) left) c.requires.owner

pub returns-clause-shared : goal.returns-clause-shared
returns-clause-shared c =
    let sh = c.args.shared.now in
    let t = c.args.t in
    refresh-left sh _ _ _ c.args.l (left_by t) t (leave_queue c.spins.result) c.args.owner c.requires.lock c.remove.ensures c.leave_queue.ensures c.refresh.ensures
    ∙ ap (λ (b : Bool). refreshed_after sh c.args.l (left_by t) t (leave_queue b) c.args.owner (left_by t (lock_in sh c.args.l))) (c.spins.ensures ∙ ap spins c.kind_of.ensures)
