-- Waits: wait, again, leave.
use Rattle.std.specs.Prelude.{ℕ, Bool, true, false, ◌||◌, [], ◌∷◌, Option, Some, None, is_some, if◌then◌else◌}
use Rattle.rt_base.specs.Kind.{spins}
use Rattle.rt_base.specs.declared.call.Call.{Call}
use Rattle.rt_base.specs.declared.call.Call.TheVariants as calls
use Rattle.rt_base.specs.declared.id.LockId.{LockId}
use Rattle.rt_base.specs.declared.id.TaskId.{TaskId}
use Rattle.rt_base.specs.declared.kind.Kind.{Kind}
use Rattle.rt_base.specs.declared.reply.Reply.{Reply}
use Rattle.rt_base.specs.declared.reply.Reply.TheVariants.{Interrupted}
use Rattle.rt_model.specs.declared.event.Event.{Event}
use Rattle.rt_model.specs.declared.event_kind.EventKind.{EventKind}
use Rattle.rt_model.specs.declared.event_kind.EventKind.TheVariants as kinds
use Rattle.rt_model.specs.declared.phase.Phase.{Phase}
use Rattle.rt_model.specs.declared.phase.Phase.TheVariants as phases
use Rattle.rt_model.specs.declared.phase.Route.TheVariants.{Full, Short}
use Rattle.rt_model.specs.Parts.{OwnerPart, TaskPart, ThreadPart, effective_of, kind_named, call_of}
use Rattle.rt_model.specs.steps.Lock.{queued, left_by}
use Rattle.rt_model.specs.steps.Task.{refreshed, rest_of, blocked_on, runs, interrupted}
use Rattle.rt_model.specs.steps.Chain.{goes_on, phase_of_walk, answer_of_walk}
use Rattle.rt_model.specs.Effect.{Effect, Rule, nothing, unchanged}
use Rattle.rt_model.specs.Choice.{bare, boost_at}
use Rattle.rt_model.specs.events.Acquire.{take_or}

-- ---- wait: a call that has set the bit, and may not take the lock, is queued

-- what a lock with these rows changes of its owner's priority
abbrev pub owner_boost : LockId → OwnerPart → Option TaskId → TaskPart → Option (TaskId × ℕ)
owner_boost l lock owner task = boost_at owner (effective_of task) (effective_of (refreshed (Some l) lock.rows task))

abbrev pub wait_event : TaskId → LockId → OwnerPart → TaskPart → TaskPart → Event
wait_event t l lock task owner = record (bare t kinds.Wait) {
  lock = Some l;
  owner = lock.owner;
  boost = owner_boost l (queued t (effective_of task) lock) lock.owner owner;
}

abbrev pub slow_event : Option Call → TaskId → LockId → Kind → OwnerPart → TaskPart → TaskPart → Event
slow_event call t l kind lock task owner = take_or (wait_event t l lock task owner) call t l kind lock task

-- a task that has been queued waits; where the lock's owner is itself blocked, a walk starts from there
abbrev pub phase_after_wait : TaskId → Option LockId → Option TaskId → Bool → Phase
phase_after_wait t (Some l) (Some owner) true = phases.Walk owner (Full ((t.0, l.0) ∷ []))
phase_after_wait t l owner owner_blocked = phases.Wait

-- the task is queued and blocked, and the lock's owner keeps the key of its top waiter
abbrev pub wait : Rule
wait = record {
  touched = λ e. record nothing { lock = e.lock; own = Some e.task; owner = e.owner };
  effect = λ e thread found. record unchanged {
    lock = queued e.task (effective_of found.own);
    own = λ lock task. blocked_on e.lock (rest_of (kind_named thread e.lock) (call_of thread)) task;
    owner = λ lock task. refreshed e.lock lock.rows task;
    thread = λ left th. record th { phase = phase_after_wait e.task e.lock e.owner (is_some found.owner.blocked) };
  };
}

-- ---- leave row, fall: a wait that ends without the lock

-- what the owner of the lock keeps then
abbrev pub owner_left : TaskId → Option LockId → OwnerPart → TaskPart → TaskPart
owner_left t l lock owner = refreshed l (left_by t lock).rows owner

-- the event, with the answer, or where the owner's key is old by that, with a short walk before it
abbrev pub left_event : TaskId → EventKind → Option LockId → Option TaskId → Reply → OwnerPart → TaskPart → Event
left_event t kind l owner answer lock task = record (bare t kind) {
  lock = l;
  boost = boost_at owner (effective_of task) (effective_of (owner_left t l lock task));
  reply = answer_of_walk (Short answer) (goes_on t (Short answer) owner (owner_left t l lock task));
}

-- the task's row goes, its own part is left by this step, the lock's owner keeps the key of the top waiter that is left, and
-- where that one's own key is old by that, a short walk begins there
abbrev pub leaves : Reply → Option TaskId → (Bool → TaskPart → TaskPart) → Event → ThreadPart → Effect
leaves answer owner step e thread = record unchanged {
  lock = left_by e.task;
  own = λ lock task. step (spins (kind_named thread e.lock)) task;
  owner = λ lock task. refreshed e.lock lock.rows task;
  thread = λ left th. record th { phase = phase_of_walk (goes_on e.task (Short answer) owner left.owner) };
}

-- ---- leave: a signal ends the wait

abbrev pub leave_event : TaskId → LockId → OwnerPart → TaskPart → Event
leave_event t l lock owner = record (left_event t kinds.Leave (Some l) lock.owner Interrupted lock owner) { owner = lock.owner }

-- the signal isn't pending any more
abbrev pub leave : Rule
leave = record {
  touched = λ e. record nothing { lock = e.lock; own = Some e.task; owner = e.owner };
  effect = λ e thread found. leaves Interrupted e.owner interrupted e thread;
}

-- ---- again: a queued task that was woken, and may not take the lock, sleeps again

-- a signal is pending in a call that it ends
abbrev pub is_interrupted : Option Call → TaskPart → Bool
is_interrupted (Some (calls.LockInt l)) task = task.signal
is_interrupted call task = false

-- a queued task does something where it runs, or where it is interrupted
abbrev pub is_awake : Option Call → TaskPart → Bool
is_awake call task = runs task.state || is_interrupted call task

abbrev pub again_event : TaskId → LockId → Event
again_event t l = record (bare t kinds.Again) { lock = Some l }

-- what it does where it may not take the lock
abbrev pub refused_event : Option Call → TaskId → LockId → OwnerPart → TaskPart → TaskPart → Event
refused_event call t l lock task owner = if is_interrupted call task then leave_event t l lock owner else again_event t l

abbrev pub awake_event : Option Call → TaskId → LockId → Kind → OwnerPart → TaskPart → TaskPart → Event
awake_event call t l kind lock task owner = take_or (refused_event call t l lock task owner) call t l kind lock task

abbrev pub queued_event : Option Call → TaskId → LockId → Kind → OwnerPart → TaskPart → TaskPart → Option Event
queued_event call t l kind lock task owner = if is_awake call task then Some (awake_event call t l kind lock task owner) else None

abbrev pub again : Rule
again = record {
  touched = λ e. record nothing { lock = e.lock; own = Some e.task };
  effect = λ e thread found. record unchanged { own = λ lock task. record task { state = rest_of (kind_named thread e.lock) (call_of thread) } };
}
