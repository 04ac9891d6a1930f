-- Waits: how they come about.
use Rattle.std.proofs.Common.{◌≡◌, ◌⊎◌, inl, inr, Bool, true, false, cond, ◌||◌, refl, sym, ap, ◌∙◌, subst, Option, Some, None}
use Rattle.rt_base.specs.declared.call.Call.{Call}
use Rattle.rt_base.specs.declared.call.Call.TheVariants as calls
use Rattle.rt_base.specs.declared.id.LockId.{LockId}
use Rattle.rt_base.specs.declared.id.TaskId.{TaskId}
use Rattle.rt_base.specs.declared.state.TaskState.{TaskState}
use Rattle.rt_base.specs.declared.state.TaskState.TheVariants as states
use Rattle.rt_model.specs.declared.event.Event.{Event}
use Rattle.rt_model.specs.declared.phase.Phase.{Phase}
use Rattle.rt_model.specs.declared.phase.Phase.TheVariants as phases
use Rattle.rt_model.specs.Parts.{kind_of, call_of}
use Rattle.rt_model.specs.Rows.{can_take}
use Rattle.rt_model.specs.State.{State, shared, task_at, owner_part, task_part, thread_part}
use Rattle.rt_model.specs.steps.Task.{runs}
use Rattle.rt_model.specs.events.Wait.{wait_event, slow_event, leave_event, is_interrupted, is_awake, again_event, refused_event, awake_event, queued_event}
use Rattle.rt_model.proofs.Calling.{IsIn, WaitsFor, by_lock, by_lockint, by_spin, by_local, by_read, by_write, Asks, asks-lock}
use Rattle.rt_model.proofs.events.Acquire.{IsTake, from_slow, from_wait, taken_or}

-- ---- how they come about

-- the task is queued
pub record IsWait (s : State) (t : TaskId) (l : LockId) (e : Event) : Type 0 where
  pub at : Asks s t phases.Slow l
  pub cannot : can_take t (kind_of (thread_part s t) l) (owner_part s l) (task_part s t) ≡ false
  pub event : e ≡ wait_event t l (owner_part s l) (task_part s t) (task_at (shared s) (owner_part s l).owner)

-- it sleeps again
pub record IsAgain (s : State) (t : TaskId) (l : LockId) (e : Event) : Type 0 where
  pub at : Asks s t phases.Wait l
  pub state : (task_part s t).state ≡ states.Running
  pub quiet : is_interrupted (call_of (thread_part s t)) (task_part s t) ≡ false
  pub cannot : can_take t (kind_of (thread_part s t) l) (owner_part s l) (task_part s t) ≡ false
  pub event : e ≡ again_event t l

-- a signal ends its wait
pub record IsLeave (s : State) (t : TaskId) (l : LockId) (e : Event) : Type 0 where
  pub at : IsIn s t phases.Wait (calls.LockInt l)
  pub signal : (task_part s t).signal ≡ true
  pub cannot : can_take t (kind_of (thread_part s t) l) (owner_part s l) (task_part s t) ≡ false
  pub event : e ≡ leave_event t l (owner_part s l) (task_at (shared s) (owner_part s l).owner)

pub data IsWaiting (s : State) (t : TaskId) (l : LockId) (e : Event) : Type 0 where
  is_wait : IsWait s t l e → IsWaiting s t l e
  is_again : IsAgain s t l e → IsWaiting s t l e
  is_leave : IsLeave s t l e → IsWaiting s t l e

pub slowed : (s : State) (t : TaskId) (l : LockId) (e : Event) → Asks s t phases.Slow l
    → slow_event (call_of (thread_part s t)) t l (kind_of (thread_part s t) l) (owner_part s l) (task_part s t) (task_at (shared s) (owner_part s l).owner) ≡ e → IsTake s t l e ⊎ IsWaiting s t l e
slowed s t l e asks is = either (taken_or s t l (wait_event t l (owner_part s l) (task_part s t) (task_at (shared s) (owner_part s l).owner)) e (from_slow asks) asks.at.task (asks-lock s t phases.Slow l asks) is)
  where
    either : IsTake s t l e ⊎ ((can_take t (kind_of (thread_part s t) l) (owner_part s l) (task_part s t) ≡ false) × (e ≡ wait_event t l (owner_part s l) (task_part s t) (task_at (shared s) (owner_part s l).owner))) → IsTake s t l e ⊎ IsWaiting s t l e
    either (inl takes) = inl takes
    either (inr waits) = inr (is_wait (record { at = asks; cannot = waits.0; event = waits.1 }))

-- a task that is awake and isn't interrupted runs
running : (state : TaskState) → runs state || false ≡ true → state ≡ states.Running
running states.Running is = refl
running states.Interruptible is = cc
running states.Uninterruptible is = cc
running states.LockWait is = cc

-- one that is interrupted is at a call that a signal ends, and has one pending
pub record IsInterrupted (s : State) (t : TaskId) (phase : Phase) (l : LockId) : Type 0 where
  pub at : IsIn s t phase (calls.LockInt l)
  pub signal : (task_part s t).signal ≡ true

pub interrupted-asks : (s : State) (t : TaskId) (phase : Phase) (l : LockId) → Asks s t phase l → is_interrupted (call_of (thread_part s t)) (task_part s t) ≡ true → IsInterrupted s t phase l
interrupted-asks s t phase l asks is = by_call asks.waits_for
  where
    told : (call : Call) → asks.call ≡ call → is_interrupted (Some call) (task_part s t) ≡ true
    told call same = subst (λ (c : Option Call). is_interrupted c (task_part s t) ≡ true) (asks.at.calling ∙ ap Some same) is

    by_call : WaitsFor asks.call l → IsInterrupted s t phase l
    by_call (by_lock same) = let never : false ≡ true = told (calls.Lock l) same in absurd cc
    by_call (by_spin same) = let never : false ≡ true = told (calls.Spin l) same in absurd cc
    by_call (by_local same) = let never : false ≡ true = told (calls.Local l) same in absurd cc
    by_call (by_read same) = let never : false ≡ true = told (calls.Read l) same in absurd cc
    by_call (by_write same) = let never : false ≡ true = told (calls.Write l) same in absurd cc
    by_call (by_lockint same) = record { at = subst (IsIn s t phase) same asks.at; signal = told (calls.LockInt l) same }

refused : (s : State) (t : TaskId) (l : LockId) (e : Event) → Asks s t phases.Wait l → is_awake (call_of (thread_part s t)) (task_part s t) ≡ true → can_take t (kind_of (thread_part s t) l) (owner_part s l) (task_part s t) ≡ false
    → refused_event (call_of (thread_part s t)) t l (owner_part s l) (task_part s t) (task_at (shared s) (owner_part s l).owner) ≡ e → IsWaiting s t l e
refused s t l e asks awake cannot is = by_test (is_interrupted (call_of (thread_part s t)) (task_part s t)) refl is
  where
    by_test : (b : Bool) → is_interrupted (call_of (thread_part s t)) (task_part s t) ≡ b
        → cond b (leave_event t l (owner_part s l) (task_at (shared s) (owner_part s l).owner)) (again_event t l) ≡ e → IsWaiting s t l e
    by_test true its is = let found = interrupted-asks s t phases.Wait l asks its in is_leave (record { at = found.at; signal = found.signal; cannot = cannot; event = sym is })
    by_test false its is =
        is_again (record { at = asks; state = running (task_part s t).state (ap (λ (b : Bool). runs (task_part s t).state || b) (sym its) ∙ awake); quiet = its; cannot = cannot; event = sym is })

awakened : (s : State) (t : TaskId) (l : LockId) (e : Event) → Asks s t phases.Wait l → is_awake (call_of (thread_part s t)) (task_part s t) ≡ true
    → awake_event (call_of (thread_part s t)) t l (kind_of (thread_part s t) l) (owner_part s l) (task_part s t) (task_at (shared s) (owner_part s l).owner) ≡ e → IsTake s t l e ⊎ IsWaiting s t l e
awakened s t l e asks awake is = either (taken_or s t l other e (from_wait asks awake) asks.at.task (asks-lock s t phases.Wait l asks) is)
  where
    other : Event
    other = refused_event (call_of (thread_part s t)) t l (owner_part s l) (task_part s t) (task_at (shared s) (owner_part s l).owner)

    either : IsTake s t l e ⊎ ((can_take t (kind_of (thread_part s t) l) (owner_part s l) (task_part s t) ≡ false) × (e ≡ other)) → IsTake s t l e ⊎ IsWaiting s t l e
    either (inl takes) = inl takes
    either (inr others) = inr (refused s t l e asks awake others.0 (sym others.1))

pub woken_up : (s : State) (t : TaskId) (l : LockId) (e : Event) → Asks s t phases.Wait l
    → queued_event (call_of (thread_part s t)) t l (kind_of (thread_part s t) l) (owner_part s l) (task_part s t) (task_at (shared s) (owner_part s l).owner) ≡ Some e → IsTake s t l e ⊎ IsWaiting s t l e
woken_up s t l e asks is = by_test (is_awake (call_of (thread_part s t)) (task_part s t)) refl is
  where
    made : Event
    made = awake_event (call_of (thread_part s t)) t l (kind_of (thread_part s t) l) (owner_part s l) (task_part s t) (task_at (shared s) (owner_part s l).owner)

    by_test : (b : Bool) → is_awake (call_of (thread_part s t)) (task_part s t) ≡ b → cond b (Some made) None ≡ Some e → IsTake s t l e ⊎ IsWaiting s t l e
    by_test true awake is = let same : made ≡ e = cc in awakened s t l e asks awake same
    by_test false asleep is = cc
