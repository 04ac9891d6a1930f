-- States, wakeups and priorities: how they come about, and that their choice reads only what they touch.
use Rattle.std.proofs.Common.{◌≡◌, ℕ, Bool, true, false, cond, refl, sym, ap, ◌∙◌, subst, Some, None}
use Rattle.rt_base.specs.declared.call.Call.TheVariants as calls
use Rattle.rt_base.specs.declared.id.TaskId.{TaskId}
use Rattle.rt_base.specs.declared.state.TaskState.{TaskState}
use Rattle.rt_model.specs.declared.event.Event.{Event}
use Rattle.rt_model.specs.declared.phase.Phase.TheVariants as phases
use Rattle.rt_model.specs.State.{State, Shared, task_in, task_part}
use Rattle.rt_model.specs.steps.Task.{passes}
use Rattle.rt_model.specs.events.Wakeups.{state_event, sched_event, schedule_event, wake_event, signal_event, setprio_event}
use Rattle.rt_model.proofs.Calling.{IsIn}
use Rattle.rt_model.proofs.Touching.{touches-own}
use Rattle.rt_model.proofs.Alike.{Alike, GivesAlike}

-- ---- how they come about

-- the task sets its own state
pub record IsState (s : State) (t : TaskId) (state : TaskState) (e : Event) : Type 0 where
  pub at : IsIn s t phases.Start (calls.State state)
  pub event : e ≡ state_event t state

-- it has given the processor up, and goes on
pub record IsSched (s : State) (t : TaskId) (e : Event) : Type 0 where
  pub at : IsIn s t phases.Start calls.Schedule
  pub may : passes (task_part s t) ≡ true
  pub event : e ≡ sched_event t

-- it wakes another, or itself
pub record IsWake (s : State) (t u : TaskId) (e : Event) : Type 0 where
  pub at : IsIn s t phases.Start (calls.Wake u)
  pub event : e ≡ wake_event t u (task_part s u)

-- it signals another, or itself
pub record IsSignal (s : State) (t u : TaskId) (e : Event) : Type 0 where
  pub at : IsIn s t phases.Start (calls.Signal u)
  pub event : e ≡ signal_event t u (task_part s u)

-- the events that change states and signal flags alone
pub data IsWakeup (s : State) (t : TaskId) (e : Event) : Type 0 where
  is_state : (state : TaskState) → IsState s t state e → IsWakeup s t e
  is_sched : IsSched s t e → IsWakeup s t e
  is_wake : (u : TaskId) → IsWake s t u e → IsWakeup s t e
  is_signal : (u : TaskId) → IsSignal s t u e → IsWakeup s t e

pub scheduled : (s : State) (t : TaskId) (e : Event) → IsIn s t phases.Start calls.Schedule → schedule_event t (task_part s t) ≡ Some e → IsWakeup s t e
scheduled s t e at is = by_test (passes (task_part s t)) refl is
  where
    by_test : (b : Bool) → passes (task_part s t) ≡ b → cond b (Some (sched_event t)) None ≡ Some e → IsWakeup s t e
    by_test true may is = let same : sched_event t ≡ e = cc in is_sched (record { at = at; may = may; event = sym same })
    by_test false sleeps is = cc

-- the task sets the own priority of another, or its own
pub record IsSetPrio (s : State) (t u : TaskId) (prio : ℕ) (e : Event) : Type 0 where
  pub at : IsIn s t phases.Start (calls.SetPrio u prio)
  pub event : e ≡ setprio_event t u prio (task_part s u)

-- ---- what the choice reads

-- a task that gives the processor up is looked at where it goes on
pub same-schedule : (t : TaskId) (a b : Shared) → GivesAlike (λ sh. schedule_event t (task_in sh t)) a b
same-schedule t a b e is alike = by_test (passes (task_in a t)) is
  where
    by_test : (c : Bool) → cond c (Some (sched_event t)) None ≡ Some e → schedule_event t (task_in b t) ≡ Some e
    by_test true made =
        let event : sched_event t ≡ e = cc in
        let task = (subst (λ (x : Event). Alike x a b) (sym event) alike).task t (touches-own (sched_event t) t refl) in
        ap (schedule_event t) task ∙ is
    by_test false made = cc
