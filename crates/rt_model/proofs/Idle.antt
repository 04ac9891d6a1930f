-- Tasks that wait for no owner part and don't walk: who asks for a lock, releases one, reads or writes.
use Rattle.std.proofs.Common.{◌≡◌, ℕ, true, ap, ◌∙◌, None, refl}
use Rattle.rt_base.specs.declared.id.LockId.{LockId}
use Rattle.rt_base.specs.declared.id.TaskId.{TaskId}
use Rattle.rt_model.specs.Choice.{present_lock}
use Rattle.rt_model.specs.State.{State, task_part, thread_part}
use Rattle.rt_model.specs.laws.Lawful.{IsLawful}
use Rattle.rt_model.proofs.Calling.{ReturnsBy, from_hold, from_inside, Returns}
use Rattle.rt_model.proofs.Reading.{is_idle, idle-awaits}
use Rattle.rt_model.proofs.Waiters.{not_blocking}
use Rattle.rt_model.proofs.events.Acquire.{asks-phased, fast-phased, AsksBy, AcquiresIn}

-- the task is so
abbrev pub IsIdle : State → TaskId → Type 0
IsIdle s t = is_idle (thread_part s t).phase ≡ true

module _ (s : State) (t : TaskId) (l : LockId) where
  pub asks-idle : AsksBy s t l → IsIdle s t
  asks-idle how = asks-phased (λ phase. is_idle phase ≡ true) s t l how refl refl

  pub acquires-idle : AcquiresIn s t l → IsIdle s t
  acquires-idle how = fast-phased (λ phase. is_idle phase ≡ true) s t l how refl refl

  pub returns-idle : Returns s t l → IsIdle s t
  returns-idle is = by_how is.by
    where
      by_how : ReturnsBy s t l is.call → IsIdle s t
      by_how (from_hold releases at held) = ap is_idle at.phased
      by_how (from_inside ends at) = ap is_idle at.phased

-- it is blocked on nothing
pub idle-unblocked : (s : State) (made : ℕ) (t : TaskId) → IsLawful s made → IsIdle s t → (task_part s t).blocked ≡ None
idle-unblocked s made t lawful idle = not_blocking (task_part s t).blocked (lawful.queued.blocked t ∙ idle-awaits (thread_part s t).phase (present_lock (thread_part s t)) idle)
