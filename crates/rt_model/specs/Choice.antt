-- Words of which the choice of an event is made.
use Rattle.std.specs.Prelude.{ℕ, Bool, false, [], Option, Some, None, option_and_then, nat_eq, if◌then◌else◌}
use Rattle.rt_base.specs.declared.call.Call.{Call}
use Rattle.rt_base.specs.declared.call.Call.TheVariants as calls
use Rattle.rt_base.specs.declared.id.LockId.{LockId}
use Rattle.rt_base.specs.declared.id.TaskId.{TaskId}
use Rattle.rt_model.specs.declared.event.Event.{Event}
use Rattle.rt_model.specs.declared.event_kind.EventKind.{EventKind}
use Rattle.rt_model.specs.Parts.{ThreadPart, call_of}

-- an event that names nothing but its task
abbrev pub bare : TaskId → EventKind → Event
bare t kind = record { task = t; kind = kind; lock = None; other = None; owner = None; woken = None; value = 0; path = []; boost = None; reply = None }

-- the task's effective priority has changed from the one to the other
abbrev pub boost_of : TaskId → ℕ → ℕ → Option (TaskId × ℕ)
boost_of t before after = if nat_eq before after then None else Some (t, after)

-- the same of a task that may not be named
abbrev pub boost_at : Option TaskId → ℕ → ℕ → Option (TaskId × ℕ)
boost_at None before after = None
boost_at (Some t) before after = boost_of t before after

-- the lock that a call is about, where a local lock is named by a processor's cell, as a call that is made names it
abbrev pub called_lock : Call → Option LockId
called_lock (calls.Lock l) = Some l
called_lock (calls.LockInt l) = Some l
called_lock (calls.TryLock l) = Some l
called_lock (calls.Unlock l) = Some l
called_lock (calls.Spin l) = Some l
called_lock (calls.TrySpin l) = Some l
called_lock (calls.Unspin l) = Some l
called_lock (calls.Read l) = Some l
called_lock (calls.TryRead l) = Some l
called_lock (calls.Unread l) = Some l
called_lock (calls.Write l) = Some l
called_lock (calls.TryWrite l) = Some l
called_lock (calls.Unwrite l) = Some l
called_lock (calls.Downgrade l) = Some l
called_lock (calls.Local l) = Some l
called_lock (calls.Unlocal l) = Some l
called_lock _ = None

-- the lock that a thread's present call is about
abbrev pub present_lock : ThreadPart → Option LockId
present_lock thread = option_and_then called_lock (call_of thread)

-- what may be named is this lock
abbrev pub is_on : Option LockId → LockId → Bool
is_on None l = false
is_on (Some m) l = nat_eq m.0 l.0
