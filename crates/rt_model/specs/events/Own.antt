-- Own: what a thread answers a call at once, by what it knows itself.
use Rattle.std.specs.Prelude.{ℕ, Bool, false, ◌&&◌, ◌||◌, List, Option, Some, None, option_map, nat_lt, if◌then◌else◌}
use Rattle.rt_base.specs.declared.call.Call.{Call}
use Rattle.rt_base.specs.declared.call.Call.TheVariants as calls
use Rattle.rt_base.specs.declared.id.LockId.{LockId}
use Rattle.rt_base.specs.declared.id.TaskId.{TaskId}
use Rattle.rt_base.specs.Kind.{spins}
use Rattle.rt_base.specs.declared.kind.Kind.{Kind}
use Rattle.rt_base.specs.declared.kind.Kind.TheVariants.{RwSem}
use Rattle.rt_base.specs.declared.reply.Reply.{Reply}
use Rattle.rt_base.specs.declared.reply.Reply.TheVariants as replies
use Rattle.rt_model.specs.declared.event.Event.{Event}
use Rattle.rt_model.specs.declared.event_kind.EventKind.TheVariants as kinds
use Rattle.rt_model.specs.declared.hold.Hold.{Hold}
use Rattle.rt_model.specs.Parts.{ThreadPart, hold_of, kind_of, count_holds}
use Rattle.rt_model.specs.Effect.{Rule, nothing, touches_alone}
use Rattle.rt_model.specs.Choice.{bare, called_lock}

-- ---- when it comes

-- an acquire of what is held is answered deadlock, a release of what isn't held notowner
abbrev pub if_held : Bool → Option Reply
if_held held = if held then Some replies.Deadlock else None

abbrev pub if_not_held : Bool → Option Reply
if_not_held held = if held then None else Some replies.NotOwner

-- what sleeps in an ordinary state isn't taken inside a spinning kind
abbrev pub unless_nested : ℕ → Option Reply → Option Reply
unless_nested spinning_holds answer = if nat_lt 0 spinning_holds then Some replies.Nesting else answer

-- what the thread's own part refuses the call with, where it does: spinning_holds is how many locks of a spinning kind it
-- holds, and held whether it has the hold that the call is about
abbrev pub private_answer : Call → Option Kind → ℕ → Bool → ℕ → Option Reply
private_answer (calls.Lock l) kind spinning_holds held migration = unless_nested spinning_holds (if_held held)
private_answer (calls.LockInt l) kind spinning_holds held migration = unless_nested spinning_holds (if_held held)
private_answer (calls.Spin l) kind spinning_holds held migration = if_held held
private_answer (calls.Local l) kind spinning_holds held migration = if_held held
private_answer (calls.Read l) (Some RwSem) spinning_holds held migration = unless_nested spinning_holds (if_held held)
private_answer (calls.Write l) (Some RwSem) spinning_holds held migration = unless_nested spinning_holds (if_held held)
private_answer (calls.Read l) kind spinning_holds held migration = if_held held
private_answer (calls.Write l) kind spinning_holds held migration = if_held held
private_answer (calls.Unlock l) kind spinning_holds held migration = if_not_held held
private_answer (calls.Unspin l) kind spinning_holds held migration = if_not_held held
private_answer (calls.Unread l) kind spinning_holds held migration = if_not_held held
private_answer (calls.Unwrite l) kind spinning_holds held migration = if_not_held held
private_answer (calls.Downgrade l) kind spinning_holds held migration = if_not_held held
private_answer (calls.Unlocal l) kind spinning_holds held migration = if_not_held held
private_answer calls.Schedule kind spinning_holds held migration = unless_nested spinning_holds None
private_answer (calls.Move cpu) kind spinning_holds held migration = if nat_lt 0 migration then Some replies.Pinned else None
private_answer call kind spinning_holds held migration = None

-- ---- what a thread knows of its holds

-- the thread has the hold that the call is about: the read hold for an unread, else the one that owns
abbrev pub has_hold : Call → Hold → Bool
has_hold (calls.Unread l) hold = nat_lt 0 hold.reads
has_hold call hold = hold.owns

-- the hold of the lock that a call is about
abbrev pub is_held : ThreadPart → Call → Option LockId → Bool
is_held thread call None = false
is_held thread call (Some l) = has_hold call (hold_of thread l)

-- one where something is held of a lock of a spinning kind
abbrev pub spinning_hold : Kind → Hold → ℕ
spinning_hold kind hold = if spins kind && (hold.owns || nat_lt 0 hold.reads) then 1 else 0

-- how many locks of a spinning kind these holds are of
abbrev pub spinning_holds : List Kind → List Hold → ℕ
spinning_holds kinds holds = count_holds spinning_hold kinds holds

-- what a thread refuses a call on this lock with, where it does
abbrev pub refusal_on : ThreadPart → Call → Option LockId → Option Reply
refusal_on thread call lock = private_answer call (option_map (kind_of thread) lock) (spinning_holds thread.kinds thread.holds) (is_held thread call lock) thread.migration

-- a `move` that isn't refused is done at once
abbrev pub or_moved : Call → Option Reply → Option Reply
or_moved (calls.Move cpu) None = Some replies.Done
or_moved call refusal = refusal

-- what a thread answers a call at once, where it does: a refusal, or that it is on the processor to which it moves
abbrev pub own_answer : ThreadPart → Call → Option Reply
own_answer thread call = or_moved call (refusal_on thread call (called_lock call))

abbrev pub own_event : TaskId → Option LockId → Reply → Event
own_event t lock answer = record (bare t kinds.Own) { lock = lock; reply = Some answer }

-- ---- what it does

-- nothing but its answer
abbrev pub own : Rule
own = touches_alone (λ e. nothing)
