-- The one event that a task may make next.
use Rattle.std.specs.Prelude.{Option, Some, None}
use Rattle.rt_base.specs.declared.call.Call.{Call}
use Rattle.rt_base.specs.declared.call.Call.TheVariants as calls
use Rattle.rt_base.specs.declared.id.LockId.{LockId}
use Rattle.rt_base.specs.declared.id.TaskId.{TaskId}
use Rattle.rt_base.specs.declared.reply.Reply.{Reply}
use Rattle.rt_model.specs.declared.event.Event.{Event}
use Rattle.rt_model.specs.declared.phase.Phase.{Phase}
use Rattle.rt_model.specs.declared.phase.Phase.TheVariants as phases
use Rattle.rt_model.specs.Parts.{ThreadPart, kind_of, call_of}
use Rattle.rt_model.specs.State.{State, Shared, shared, lock_in, readers_in, task_in, task_at, thread_part}
use Rattle.rt_model.specs.Choice.{called_lock}
use Rattle.rt_model.specs.Path.{first_broken}
use Rattle.rt_model.specs.events.Acquire.{acquire_event, try_event}
use Rattle.rt_model.specs.events.Wait.{slow_event, queued_event}
use Rattle.rt_model.specs.events.Release.{release_event}
use Rattle.rt_model.specs.events.Walk.{cursor_event, confirmed_event}
use Rattle.rt_model.specs.events.Readers.{rin_event, read_event, tryread_event, rout_event, wwake_event, unbias_event, wopen_event, writer_event, waiting_writer_event}
use Rattle.rt_model.specs.events.Wakeups.{state_event, schedule_event, wake_event, signal_event, setprio_event}
use Rattle.rt_model.specs.events.Own.{own_answer, own_event}

-- a call's first event, where the thread doesn't answer it at once, as it does every `move`
abbrev pub first_event : Shared → TaskId → ThreadPart → Call → Option Event
first_event sh t thread (calls.Lock l) = Some (acquire_event (call_of thread) t l (lock_in sh l))
first_event sh t thread (calls.LockInt l) = Some (acquire_event (call_of thread) t l (lock_in sh l))
first_event sh t thread (calls.TryLock l) = Some (try_event (call_of thread) t l (kind_of thread l) (lock_in sh l) (task_in sh t))
first_event sh t thread (calls.Unlock l) = Some (release_event (call_of thread) t l (lock_in sh l) (task_in sh t))
first_event sh t thread (calls.Spin l) = Some (acquire_event (call_of thread) t l (lock_in sh l))
first_event sh t thread (calls.TrySpin l) = Some (try_event (call_of thread) t l (kind_of thread l) (lock_in sh l) (task_in sh t))
first_event sh t thread (calls.Unspin l) = Some (release_event (call_of thread) t l (lock_in sh l) (task_in sh t))
first_event sh t thread (calls.Read l) = Some (read_event t l (readers_in sh l))
first_event sh t thread (calls.TryRead l) = Some (tryread_event t l (readers_in sh l))
first_event sh t thread (calls.Unread l) = Some (rout_event t l (readers_in sh l))
first_event sh t thread (calls.Write l) = Some (acquire_event (call_of thread) t l (lock_in sh l))
first_event sh t thread (calls.TryWrite l) = Some (try_event (call_of thread) t l (kind_of thread l) (lock_in sh l) (task_in sh t))
first_event sh t thread (calls.Unwrite l) = Some (wopen_event t l 0)
first_event sh t thread (calls.Downgrade l) = Some (wopen_event t l 1)
first_event sh t thread (calls.Local l) = Some (acquire_event (call_of thread) t l (lock_in sh l))
first_event sh t thread (calls.Unlocal l) = Some (release_event (call_of thread) t l (lock_in sh l) (task_in sh t))
first_event sh t thread (calls.State state) = Some (state_event t state)
first_event sh t thread calls.Schedule = schedule_event t (task_in sh t)
first_event sh t thread (calls.Wake u) = Some (wake_event t u (task_in sh u))
first_event sh t thread (calls.Signal u) = Some (signal_event t u (task_in sh u))
first_event sh t thread (calls.SetPrio u prio) = Some (setprio_event t u prio (task_in sh u))
first_event sh t thread (calls.Move cpu) = None

-- an answer that the thread's own part gives goes before the call's first event
abbrev pub answered_or : Option Event → TaskId → Option LockId → Option Reply → Option Event
answered_or event t lock (Some answer) = Some (own_event t lock answer)
answered_or event t lock None = event

-- the event of a call that isn't in its first phase
abbrev pub later_event : Phase → Shared → TaskId → ThreadPart → Option LockId → Option Event
later_event phases.Inner sh t thread (Some l) = Some (acquire_event (call_of thread) t l (lock_in sh l))
later_event phases.Slow sh t thread (Some l) = Some (slow_event (call_of thread) t l (kind_of thread l) (lock_in sh l) (task_in sh t) (task_at sh (lock_in sh l).owner))
later_event phases.Wait sh t thread (Some l) = queued_event (call_of thread) t l (kind_of thread l) (lock_in sh l) (task_in sh t) (task_at sh (lock_in sh l).owner)
later_event (phases.Walk u route) sh t thread lock = Some (cursor_event sh t route u (task_in sh u) (task_in sh u).blocked)
later_event (phases.Confirm path) sh t thread lock = Some (confirmed_event sh t path (first_broken sh path))
later_event phases.ReadIn sh t thread (Some l) = Some (rin_event t l None)
later_event phases.Unbias sh t thread (Some l) = Some (unbias_event t l)
later_event phases.WTry sh t thread (Some l) = Some (writer_event (call_of thread) t l (readers_in sh l))
later_event phases.WWait sh t thread (Some l) = waiting_writer_event t l (readers_in sh l) (task_in sh t)
later_event phases.Release sh t thread (Some l) = Some (release_event (call_of thread) t l (lock_in sh l) (task_in sh t))
later_event phases.WakeWriter sh t thread (Some l) = Some (wwake_event t l (lock_in sh l))
later_event _ sh t thread lock = None

-- the event of a call in a phase
abbrev pub event_in : Phase → Shared → TaskId → ThreadPart → Call → Option Event
event_in phases.Start sh t thread call = answered_or (first_event sh t thread call) t (called_lock call) (own_answer thread call)
event_in phase sh t thread call = later_event phase sh t thread (called_lock call)

-- the event of the call that a thread is at
abbrev pub event_of : Shared → TaskId → ThreadPart → Option Call → Option Event
event_of sh t thread None = None
event_of sh t thread (Some call) = event_in thread.phase sh t thread call

-- the one event of a task with this thread
abbrev pub next_of : Shared → TaskId → ThreadPart → Option Event
next_of sh t thread = event_of sh t thread (call_of thread)

-- the one event that task t may make next
abbrev pub next_event : State → TaskId → Option Event
next_event s t = next_of (shared s) t (thread_part s t)
