use Rattle.std.proofs.Common.{◌≡◌, ◌∙◌, ◌<◌, ◌^◌, ap, sym, subst, None}
use Rattle.rt_model.specs.Parts.{OwnerPart, effective_of}
use Rattle.rt_model.specs.Rows.{row_of}
use Rattle.rt_model.specs.State.{lock_in, task_in}
use Rattle.rt_model.specs.steps.Lock.{queued}
use Rattle.rt_locks.specs.OwnerCell.{OwnerCell}
use Rattle.rt_parts.proofs.SharedSteps.{lock-set, lock-at, task-at}
use Rattle.rt_parts.proofs.shared.Shared.enqueue.Goals.{After-index_mut}
use Rattle.rt_parts.proofs.shared.Shared.enqueue.Goals as goal

-- the lock's part
part : (c : After-index_mut) → c.index_mut.result.now.part ≡ lock_in c.args.self.now c.args.l
part c = lock-at _ _ _ _ c.self.view_is c.args.l c.index_mut.result.now c.requires.lock c.index_mut.ensures.value

pub enqueue-requires-clause-absent : goal.enqueue-requires-clause-absent
enqueue-requires-clause-absent c = subst (λ (lock : OwnerPart). row_of c.args.t lock.rows ≡ None) (sym (part (goal.at.enqueue-requires-clause-absent c).After-index_mut)) c.requires.absent

pub enqueue-requires-clause-tickets : goal.enqueue-requires-clause-tickets
enqueue-requires-clause-tickets c = subst (λ (lock : OwnerPart). lock.ticket < 2 ^ 63) (sym (part (goal.at.enqueue-requires-clause-tickets c).After-index_mut)) c.requires.tickets

pub returns : goal.returns
returns c =
    let key : c.effective-key.result ≡ effective_of (task_in c.args.self.now c.args.t) = c.effective-key.ensures ∙ ap effective_of (task-at _ _ _ _ c.self.view_is c.args.t c.index.result.now c.requires.task c.index.ensures) in
    lock-set _ _ _ _ c.self.view_is c.args.l.0 c.index_mut.result.now _ (queued c.args.t (effective_of (task_in c.args.self.now c.args.t))) c.requires.lock c.index_mut.ensures.value
    (ap (λ (cell : OwnerCell). cell.part) c.enqueue.ensures ∙ ap (λ k. queued c.args.t k c.index_mut.result.now.part) key)
