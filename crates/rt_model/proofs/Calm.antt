-- An event that changes states and signal flags alone answers its task's call at once, and leaves all else as it was.
use Rattle.std.proofs.Common.{◌≡◌, ◌<◌, false, length, refl, sym, subst}
use Rattle.rt_base.specs.declared.call.Call.{Call}
use Rattle.rt_base.specs.declared.call.Call.TheVariants as calls
use Rattle.rt_base.specs.declared.id.LockId.{LockId}
use Rattle.rt_base.specs.declared.id.TaskId.{TaskId}
use Rattle.rt_base.specs.declared.state.TaskState.{TaskState}
use Rattle.rt_model.specs.declared.event.Event.{Event}
use Rattle.rt_model.specs.declared.event_kind.EventKind.{EventKind}
use Rattle.rt_model.specs.declared.event_kind.EventKind.TheVariants as kinds
use Rattle.rt_model.specs.declared.phase.Phase.TheVariants as phases
use Rattle.rt_model.specs.Parts.{ThreadPart}
use Rattle.rt_model.specs.State.{State, shared, owner_part, task_part, thread_part}
use Rattle.rt_model.specs.Effect.{around}
use Rattle.rt_model.specs.Rules.{touched, effect}
use Rattle.rt_model.specs.StateAfter.{thread_after, state_after}
use Rattle.rt_model.specs.events.Wakeups.{state_event, sched_event, wake_event, signal_event}
use Rattle.rt_model.proofs.Blocked.{moves, blocked-kept}
use Rattle.rt_model.proofs.Calling.{IsIn}
use Rattle.rt_model.proofs.PartsAfter.{locks-kept, thread-made}
use Rattle.rt_model.proofs.events.Wakeups.{IsWakeup, is_state, is_sched, is_wake, is_signal}

-- what holds of the four events, as they are written, holds of each
pub wakeup-holds : (P : Event → Type 0) (s : State) (t : TaskId) (e : Event) → IsWakeup s t e → ((state : TaskState) → P (state_event t state)) → P (sched_event t)
    → ((u : TaskId) → P (wake_event t u (task_part s u))) → ((u : TaskId) → P (signal_event t u (task_part s u))) → P e
wakeup-holds P s t e (is_state state is) sets passes wakes signals = subst P (sym is.event) (sets state)
wakeup-holds P s t e (is_sched is) sets passes wakes signals = subst P (sym is.event) passes
wakeup-holds P s t e (is_wake u is) sets passes wakes signals = subst P (sym is.event) (wakes u)
wakeup-holds P s t e (is_signal u is) sets passes wakes signals = subst P (sym is.event) (signals u)

-- and what holds of their kinds, of its kind
pub wakeup-kind : (P : EventKind → Type 0) (s : State) (t : TaskId) (e : Event) → IsWakeup s t e → P kinds.State → P kinds.Sched → P kinds.Wake → P e.kind
wakeup-kind P s t e is sets passes wakes = wakeup-holds (λ x. P x.kind) s t e is (λ state. sets) passes (λ u. wakes) (λ u. wakes)

pub wakeup-task : (s : State) (t : TaskId) (e : Event) → IsWakeup s t e → e.task ≡ t
wakeup-task s t e is = wakeup-holds (λ x. x.task ≡ t) s t e is (λ state. refl) refl (λ u. refl) (λ u. refl)

-- its task is at the start of a call
pub wakeup-at : (s : State) (t : TaskId) (e : Event) → IsWakeup s t e → (call : Call) × IsIn s t phases.Start call
wakeup-at s t e (is_state state is) = (calls.State state, is.at)
wakeup-at s t e (is_sched is) = (calls.Schedule, is.at)
wakeup-at s t e (is_wake u is) = (calls.Wake u, is.at)
wakeup-at s t e (is_signal u is) = (calls.Signal u, is.at)

module _ (s : State) (t : TaskId) (e : Event) (is : IsWakeup s t e) where
  -- afterwards it is at the start of its next call, and every other thread is as it was
  pub wakeup-threads : (P : TaskId → ThreadPart → Type 0) (u : TaskId) → ((thread : ThreadPart) → thread.phase ≡ phases.Start → P t thread) → P u (thread_part s u)
      → P u (thread_part (state_after s e) u)
  wakeup-threads P u starts was =
      let task : t ≡ e.task = sym (wakeup-task s t e is) in
      let left : ThreadPart = thread_after (shared s) (thread_part s e.task) e in
      let start = wakeup-holds (λ x. (thread_after (shared s) (thread_part s x.task) x).phase ≡ phases.Start) s t e is (λ state. refl) refl (λ v. refl) (λ v. refl) in
      thread-made P s e e u refl (subst (λ (v : TaskId). v.0 < length s.threads) task (wakeup-at s t e is).1.task)
      (subst (λ (v : TaskId). P v left) task (starts left start)) (λ others. was)

  pub wakeup-start : (thread_part (state_after s e) t).phase ≡ phases.Start
  wakeup-start = wakeup-threads (λ v thread. thread.phase ≡ phases.Start) t (λ thread start. start) (wakeup-at s t e is).1.phased

  -- it touches no lock, and unblocks no task
  pub wakeup-locks : (m : LockId) → owner_part (state_after s e) m ≡ owner_part s m
  wakeup-locks m =
      let found = around (shared s) (touched e.kind e) in
      locks-kept s e m (λ lock. wakeup-kind (λ kind. (effect kind e (thread_part s e.task) found).lock lock ≡ lock) s t e is refl refl refl)

  pub wakeup-blocked : (u : TaskId) → (task_part (state_after s e) u).blocked ≡ (task_part s u).blocked
  wakeup-blocked u = blocked-kept s e e u refl (wakeup-kind (λ kind. moves kind ≡ false) s t e is refl refl refl)
