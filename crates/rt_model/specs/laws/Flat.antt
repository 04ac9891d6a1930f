-- The flat wakeup machine: a state and a signal flag for each task, and no saved state. It is read off the script and the events
-- alone, and what happens at locks of a spinning kind changes neither.
use Rattle.std.specs.Prelude.{ℕ, zero, suc, ◌+◌, Bool, true, false, not, ◌&&◌, List, Option, Some, None, nat_eq, slice_get, if◌then◌else◌}
use Rattle.std.specs.List.{fold}
use Rattle.rt_base.specs.Kind.{spins}
use Rattle.rt_base.specs.Script.{Script, task_line, lock_line}
use Rattle.rt_base.specs.declared.call.Call.{Call}
use Rattle.rt_base.specs.declared.id.LockId.{LockId}
use Rattle.rt_base.specs.declared.id.TaskId.{TaskId}
use Rattle.rt_base.specs.declared.reply.Reply.{Reply}
use Rattle.rt_base.specs.declared.reply.Reply.TheVariants.{Woke, Missed}
use Rattle.rt_base.specs.declared.state.TaskState.{TaskState}
use Rattle.rt_base.specs.declared.state.TaskState.TheVariants.{Running}
use Rattle.rt_model.specs.declared.event.Event.{Event}
use Rattle.rt_model.specs.declared.event_kind.EventKind.{EventKind}
use Rattle.rt_model.specs.declared.event_kind.EventKind.TheVariants as kinds
use Rattle.rt_model.specs.steps.Task.{sleep_of, sleeps, is_interruptible, state_numbered}
use Rattle.rt_model.specs.laws.Owners.{owned_by}

-- ---- what its own events tell of a task

-- how many of its calls are answered, and whether it waits in the present one: queued, or as a writer asleep for readers
pub record Seen : Type 0 where
  pub answered : ℕ
  pub waiting : Bool

abbrev pub first_seen : Seen
first_seen = record { answered = 0; waiting = false }

abbrev pub count_answer : ℕ → Option Reply → ℕ
count_answer n None = n
count_answer n (Some answer) = n + 1

-- it waits from a `wait` or a `wsleep` on, until it takes the lock or leaves the queue
abbrev pub waiting_after : EventKind → Bool → Bool
waiting_after kinds.Wait waiting = true
waiting_after kinds.Take waiting = false
waiting_after kinds.Leave waiting = false
waiting_after kinds.Cycle waiting = false
waiting_after kinds.WSleep waiting = true
waiting_after kinds.WTake waiting = false
waiting_after kind waiting = waiting

abbrev pub seen_after : Event → Seen → Seen
seen_after e seen = record { answered = count_answer seen.answered e.reply; waiting = waiting_after e.kind seen.waiting }

-- the call that a task is at then
abbrev pub call_at : Script → TaskId → Seen → Option Call
call_at script t seen = slice_get (task_line script t).calls seen.answered

-- ---- the two fields

pub record Flat : Type 0 where
  pub state : TaskState
  pub signal : Bool

abbrev pub first_flat : Flat
first_flat = record { state = Running; signal = false }

-- a wakeup ends a sleep
abbrev pub flat_woken : Flat → Flat
flat_woken flat = if sleeps flat.state then record flat { state = Running } else flat

-- a signal sets the flag, and ends an interruptible sleep
abbrev pub flat_signalled : Flat → Flat
flat_signalled flat = if is_interruptible flat.state then record { state = Running; signal = true } else record flat { signal = true }

-- a wakeup or a signal, which has the number 1, and what it is answered
abbrev pub flat_woken_by : ℕ → Flat → Flat
flat_woken_by zero flat = flat_woken flat
flat_woken_by (suc n) flat = flat_signalled flat

abbrev pub flat_answer : ℕ → Flat → Reply
flat_answer zero flat = if sleeps flat.state then Woke else Missed
flat_answer (suc n) flat = if is_interruptible flat.state then Woke else Missed

-- ---- what an event changes

-- the lock is of a kind that doesn't spin, so its waiters sleep in an ordinary state
abbrev pub is_ordinary : Script → Option LockId → Bool
is_ordinary script None = false
is_ordinary script (Some l) = not (spins (lock_line script l).kind)

-- an event at a lock of a kind that doesn't spin puts its task to sleep, as this call does, and lets it run again where it waited
abbrev pub own_at_lock : EventKind → Option Call → Bool → Flat → Flat
own_at_lock kinds.Wait call waiting flat = record flat { state = sleep_of call }
own_at_lock kinds.Again call waiting flat = record flat { state = sleep_of call }
own_at_lock kinds.Take call waiting flat = if waiting then record flat { state = Running } else flat
own_at_lock kinds.Leave call waiting flat = record flat { state = Running }
own_at_lock kinds.Cycle call waiting flat = record flat { state = Running }
own_at_lock kinds.WSleep call waiting flat = record flat { state = sleep_of call }
own_at_lock kinds.WTake call waiting flat = if waiting then record flat { state = Running } else flat
own_at_lock kind call waiting flat = flat

-- an event of the task itself, of this kind: it sets its state, goes on, or takes its signal
abbrev pub own_by_kind : EventKind → ℕ → Flat → Flat
own_by_kind kinds.State value flat = record flat { state = state_numbered value }
own_by_kind kinds.Sched value flat = record flat { state = Running }
own_by_kind kinds.Leave value flat = record flat { signal = false }
own_by_kind kind value flat = flat

abbrev pub flat_own : Script → TaskId → Seen → Event → Flat → Flat
flat_own script t seen e flat =
    let at_lock = if is_ordinary script e.lock then own_at_lock e.kind (call_at script t seen) seen.waiting flat else flat in
    own_by_kind e.kind e.value at_lock

-- an event wakes the task, where its lock is of a kind that doesn't spin
abbrev pub flat_lock_woken : Script → Event → Flat → Flat
flat_lock_woken script e flat = if is_ordinary script e.lock then flat_woken flat else flat

-- an event is a wakeup or a signal
abbrev pub is_wakeup : EventKind → Bool
is_wakeup kinds.Wake = true
is_wakeup kind = false

-- a slot of the event names the task, as a lock's owner does
abbrev pub names : Option TaskId → TaskId → Bool
names named t = owned_by named t

-- what the event makes of the task's two fields: as the one that acts, as the one that a lock wakeup goes to, and as the target of a
-- wakeup or a signal
abbrev pub flat_after : Script → TaskId → Seen → Event → Flat → Flat
flat_after script t seen e flat =
    let own = if nat_eq e.task.0 t.0 then flat_own script t seen e flat else flat in
    let lock_woken = if names e.woken t then flat_lock_woken script e own else own in
    if is_wakeup e.kind && names e.other t then flat_woken_by e.value lock_woken else lock_woken

-- ---- along the events

pub record Tracked : Type 0 where
  pub seen : Seen
  pub flat : Flat

abbrev pub track_event : Script → TaskId → Tracked → Event → Tracked
track_event script t at e = record {
  seen = if nat_eq e.task.0 t.0 then seen_after e at.seen else at.seen;
  flat = flat_after script t at.seen e at.flat;
}

abbrev pub tracked_of : Script → TaskId → List Event → Tracked
tracked_of script t events = fold (track_event script t) (record { seen = first_seen; flat = first_flat }) events

-- the task's two fields after these events
abbrev pub flat_of : Script → TaskId → List Event → Flat
flat_of script t events = (tracked_of script t events).flat
