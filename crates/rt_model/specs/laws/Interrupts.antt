-- The cause of an interrupted answer.
use Rattle.std.specs.Prelude.{◌≡◌, List, ◌∷◌, ◌++◌, true, false, Some, None, nat_eq}
use Rattle.rt_base.specs.declared.id.LockId.{LockId}
use Rattle.rt_base.specs.declared.id.TaskId.{TaskId}
use Rattle.rt_base.specs.declared.reply.Reply.TheVariants.{Interrupted}
use Rattle.rt_model.specs.declared.event.Event.{Event}
use Rattle.rt_model.specs.declared.event_kind.EventKind.TheVariants.{Leave}
use Rattle.rt_model.specs.Parts.{kind_of}
use Rattle.rt_model.specs.Rows.{can_take, row_of}
use Rattle.rt_model.specs.State.{State, owner_part, task_part, thread_part}
use Rattle.rt_model.specs.StateAfter.{state_after}
use Rattle.rt_model.specs.Run.{after}
use Rattle.rt_model.specs.laws.Causes.{IsCause}

-- the event ends its task's wait for a signal: that was pending, and the task might not take the lock; afterwards the signal isn't
-- pending any more, the task is blocked on no lock and queued at none, and every other task has the row that it had
pub record HeedsSignal (s : State) (e : Event) : Type 0 where
  pub pending : (task_part s e.task).signal ≡ true
  pub refused : (l : LockId) × (e.lock ≡ Some l) × (can_take e.task (kind_of (thread_part s e.task) l) (owner_part s l) (task_part s e.task) ≡ false)
  pub taken : (task_part (state_after s e) e.task).signal ≡ false
  pub unblocked : (task_part (state_after s e) e.task).blocked ≡ None
  pub out : (l : LockId) → row_of e.task (owner_part (state_after s e) l).rows ≡ None
  pub others : (l : LockId) (u : TaskId) → nat_eq e.task.0 u.0 ≡ false → row_of u (owner_part (state_after s e) l).rows ≡ row_of u (owner_part s l).rows

-- a signal ended the wait, by an event of the call
pub record IsSignalled (s : State) (before : List Event) (e : Event) : Type 0 where
  pub prefix : List Event
  pub cause : Event
  pub same_call : IsCause Leave before e cause prefix
  pub heeds : HeedsSignal (after s prefix) cause

-- each interrupted answer has this cause, and each event that leaves a queue so heeds a signal
pub record InterruptsLaw (s : State) (events : List Event) : Type 0 where
  pub answered : (before rest : List Event) (e : Event) → before ++ e ∷ rest ≡ events → e.reply ≡ Some Interrupted → IsSignalled s before e
  pub left : (prefix rest : List Event) (e : Event) → prefix ++ e ∷ rest ≡ events → e.kind ≡ Leave → HeedsSignal (after s prefix) e
