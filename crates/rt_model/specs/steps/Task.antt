-- Steps on a task.
use Rattle.std.specs.Prelude.{ℕ, zero, suc, Bool, true, false, List, Option, Some, None, option_map, is_some, nat_eq, ◌&&◌, ◌||◌, if◌then◌else◌, slice_set}
use Rattle.rt_base.specs.Kind.{spins}
use Rattle.rt_base.specs.declared.call.Call.{Call}
use Rattle.rt_base.specs.declared.call.Call.TheVariants as calls
use Rattle.rt_base.specs.declared.id.LockId.{LockId}
use Rattle.rt_base.specs.declared.kind.Kind.{Kind}
use Rattle.rt_base.specs.declared.state.TaskState.{TaskState}
use Rattle.rt_base.specs.declared.state.TaskState.TheVariants as states
use Rattle.rt_base.specs.declared.reply.Reply.{Reply}
use Rattle.rt_base.specs.declared.reply.Reply.TheVariants.{Woke, Missed}
use Rattle.rt_model.specs.declared.row.Row.{Row}
use Rattle.rt_model.specs.Parts.{TaskPart, effective_of}
use Rattle.rt_model.specs.Rows.{top_key}

-- ---- kept tops

-- what is kept of a lock becomes this key, or goes
abbrev pub with_top : Option LockId → Option ℕ → TaskPart → TaskPart
with_top None top task = task
with_top (Some l) top task = record task { kept = slice_set task.kept l.0 top }

-- refresh: what the lock's owner keeps of it becomes the key of its top waiter, or goes where nobody waits
abbrev pub refreshed : Option LockId → List Row → TaskPart → TaskPart
refreshed l rows task = with_top l (top_key rows) task

-- the own priority is another; the effective one settles with it
abbrev pub with_own : ℕ → TaskPart → TaskPart
with_own prio task = record task { own = prio }

-- ---- waits

-- the state in which a call sleeps in an ordinary way
abbrev pub sleep_of : Option Call → TaskState
sleep_of (Some (calls.LockInt l)) = states.Interruptible
sleep_of _ = states.Uninterruptible

-- rest: the state in which a call waits for a lock of this kind
abbrev pub rest_of : Kind → Option Call → TaskState
rest_of kind call = if spins kind then states.LockWait else sleep_of call

-- a task that is going to wait for a spinning kind saves its state first
abbrev pub saved_for : TaskState → TaskPart → TaskPart
saved_for states.LockWait task = record task { saved = task.state }
saved_for rest task = task

-- the task is blocked on the lock, with its effective priority as its key, and goes to rest
abbrev pub blocked_on : Option LockId → TaskState → TaskPart → TaskPart
blocked_on l rest task = record (saved_for rest task) { blocked = option_map (λ (m : LockId). (m, effective_of task)) l; state = rest }

-- the task goes to rest, and isn't queued
abbrev pub put_to_rest : TaskState → TaskPart → TaskPart
put_to_rest rest task = record (saved_for rest task) { state = rest }

-- it was woken, and goes to rest again: what is saved stays
abbrev pub put_back : TaskState → TaskPart → TaskPart
put_back rest task = record task { state = rest }

-- restore: after a wait for a spinning kind the saved state comes back, and else the task runs
abbrev pub restored : Bool → TaskPart → TaskPart
restored spinning task = if spinning then record task { state = task.saved; saved = states.Running } else record task { state = states.Running }

-- a task that was queued isn't blocked any more, and its state is restored
abbrev pub leave_queue : Bool → TaskPart → TaskPart
leave_queue spinning task = if is_some task.blocked then record (restored spinning task) { blocked = None } else task

-- the same where a signal ended the wait: it isn't pending any more
abbrev pub interrupted : Bool → TaskPart → TaskPart
interrupted spinning task = record (leave_queue spinning task) { signal = false }

-- ---- wakeups

abbrev pub runs : TaskState → Bool
runs states.Running = true
runs _ = false

-- the state is one of the two ordinary sleeps
abbrev pub sleeps : TaskState → Bool
sleeps states.Interruptible = true
sleeps states.Uninterruptible = true
sleeps _ = false

-- wake: an ordinary sleep ends, and else one that is saved
abbrev pub woken_up : TaskPart → TaskPart
woken_up task = if sleeps task.state then record task { state = states.Running }
    else if sleeps task.saved then record task { saved = states.Running }
    else task

-- the state is the interruptible sleep
abbrev pub is_interruptible : TaskState → Bool
is_interruptible states.Interruptible = true
is_interruptible _ = false

-- signal: the flag is set, and an interruptible sleep ends, and else one that is saved
abbrev pub signalled : TaskPart → TaskPart
signalled task = if is_interruptible task.state then record task { signal = true; state = states.Running }
    else if is_interruptible task.saved then record task { signal = true; saved = states.Running }
    else record task { signal = true }

-- what a wakeup leaves of its target, and what a signal, which has the number 1
abbrev pub woken_by : ℕ → TaskPart → TaskPart
woken_by zero task = woken_up task
woken_by (suc n) task = signalled task

-- whether a wakeup ended a sleep, or one that is saved
abbrev pub wake_answer : TaskPart → Reply
wake_answer task = if sleeps task.state || sleeps task.saved then Woke else Missed

-- whether a signal did
abbrev pub signal_answer : TaskPart → Reply
signal_answer task = if is_interruptible task.state || is_interruptible task.saved then Woke else Missed

-- ---- lock wakeups

-- the wait for a spinning kind ends
abbrev pub lock_state_woken : TaskState → TaskState
lock_state_woken states.LockWait = states.Running
lock_state_woken state = state

-- lock wakeup: of a spinning kind it ends that wait alone, and else it is a wake
abbrev pub lock_woken : Bool → TaskPart → TaskPart
lock_woken spinning task = if spinning then record task { state = lock_state_woken task.state } else woken_up task

-- ---- states that a task sets itself

-- the number of a state in an event: R, S, D
abbrev pub state_number : TaskState → ℕ
state_number states.Running = 0
state_number states.Interruptible = 1
state_number _ = 2

-- the state of a number: R, S or D
abbrev pub state_numbered : ℕ → TaskState
state_numbered value = if nat_eq value 0 then states.Running else if nat_eq value 1 then states.Interruptible else states.Uninterruptible

-- a task that gives the processor up doesn't sleep where it runs, or where a signal is pending in an interruptible sleep
abbrev pub passes : TaskPart → Bool
passes task = runs task.state || (is_interruptible task.state && task.signal)
