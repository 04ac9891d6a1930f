-- The state that an event leaves.
use Rattle.std.specs.Prelude.{ℕ, zero, suc, List, [], ◌∷◌, Option, Some, None}
use Rattle.rt_base.specs.declared.id.LockId.{LockId}
use Rattle.rt_base.specs.declared.id.TaskId.{TaskId}
use Rattle.rt_model.specs.declared.event.Event.{Event}
use Rattle.rt_model.specs.Parts.{OwnerPart, TaskPart, ThreadPart}
use Rattle.rt_model.specs.State.{State, Shared, shared, thread_part}
use Rattle.rt_model.specs.steps.Thread.{answered_with}
use Rattle.rt_model.specs.Effect.{Touched, Effect, around}
use Rattle.rt_model.specs.Rules.{touched, effect}

-- the list with f of its element i in the place of that
abbrev pub update : {A : Type 0} → List A → ℕ → (A → A) → List A
update [] i f = []
update (x ∷ xs) zero f = f x ∷ xs
update (x ∷ xs) (suc i) f = x ∷ update xs i f

-- the same at a lock or a task that may not be named
abbrev pub at_lock : {A : Type 0} → List A → Option LockId → (A → A) → List A
at_lock xs None f = xs
at_lock xs (Some l) f = update xs l.0 f

abbrev pub at_task : {A : Type 0} → List A → Option TaskId → (A → A) → List A
at_task xs None f = xs
at_task xs (Some t) f = update xs t.0 f

-- what an event of a thread does to the shared parts, as they stand
abbrev pub effect_in : Shared → ThreadPart → Event → Effect
effect_in sh thread e = effect e.kind e thread (around sh (touched e.kind e))

-- the event's lock as the event leaves it
abbrev pub lock_left : Shared → ThreadPart → Event → OwnerPart
lock_left sh thread e = (effect_in sh thread e).lock (around sh (touched e.kind e)).lock

-- the tasks that are touched, one after another
abbrev pub tasks_left : Touched → Effect → OwnerPart → List TaskPart → List TaskPart
tasks_left named effect lock tasks = at_task (at_task (at_task (at_task tasks named.own (effect.own lock)) named.owner (effect.owner lock)) named.other (effect.other lock)) named.woken (effect.woken lock)

-- the shared parts, as the event leaves them: what it touches anew, and everything else as it was
abbrev pub shared_after : Shared → ThreadPart → Event → Shared
shared_after sh thread e =
    let named = touched e.kind e in
    let effect = effect_in sh thread e in
    record {
      locks = at_lock sh.locks named.lock effect.lock;
      readers = at_lock sh.readers named.readers effect.readers;
      tasks = tasks_left named effect (lock_left sh thread e) sh.tasks;
    }

-- the thread of the event's task, after all that
abbrev pub thread_after : Shared → ThreadPart → Event → ThreadPart
thread_after sh thread e = answered_with ((effect_in sh thread e).thread (around (shared_after sh thread e) (touched e.kind e)) thread) e.reply

-- what the event leaves: no thread but its own is looked at
abbrev pub state_after : State → Event → State
state_after s e =
    let thread = thread_part s e.task in
    let left = shared_after (shared s) thread e in
    record { locks = left.locks; readers = left.readers; tasks = left.tasks; threads = update s.threads e.task.0 (λ old. thread_after (shared s) thread e) }
