-- Each task's calls, read off a list of events.
use Rattle.std.specs.Prelude.{◌≡◌, ℕ, zero, suc, ◌<◌, Bool, true, false, ◌||◌, List, [], ◌∷◌, ◌++◌, length, filter, Option, Some, None, IsSome, option_map, nat_eq}
use Rattle.rt_base.specs.Script.{Script, task_line}
use Rattle.rt_base.specs.declared.call.Call.{Call}
use Rattle.rt_base.specs.declared.call.Call.TheVariants as calls
use Rattle.rt_base.specs.declared.ended.Ended.TheVariants.{Done}
use Rattle.rt_base.specs.declared.id.Cpu.{Cpu}
use Rattle.rt_base.specs.declared.id.LockId.{LockId}
use Rattle.rt_base.specs.declared.id.TaskId.{TaskId}
use Rattle.rt_base.specs.declared.reply.Reply.{Reply}
use Rattle.rt_base.specs.declared.reply.Reply.TheVariants as replies
use Rattle.rt_model.specs.declared.event.Event.{Event}
use Rattle.rt_model.specs.declared.event_kind.EventKind.{EventKind}
use Rattle.rt_model.specs.declared.event_kind.EventKind.TheVariants as kinds
use Rattle.rt_model.specs.Parts.{made_on}
use Rattle.rt_model.specs.Choice.{called_lock}
use Rattle.rt_model.specs.steps.Task.{state_number}
use Rattle.rt_model.specs.steps.Thread.{cpu_after}
use Rattle.rt_model.specs.State.{State, start, task_part, thread_part}
use Rattle.rt_model.specs.Run.{after, ended_of}
use Rattle.rt_model.specs.laws.Keys.{StandsAt}

-- the two answers are one, of those that a release gives
abbrev pub same_release_answer : Reply → Reply → Bool
same_release_answer replies.Got replies.Got = true
same_release_answer replies.Busy replies.Busy = true
same_release_answer replies.Done replies.Done = true
same_release_answer _ _ = false

-- a call that is answered once it has its lock's owner part can have an event of this kind with this answer, to get it
abbrev pub can_have_got : EventKind → Option Reply → Bool
can_have_got kinds.Fast (Some replies.Got) = true
can_have_got kinds.Take (Some replies.Got) = true
can_have_got _ _ = false

-- one that goes on at the reader part then can have these
abbrev pub can_have_inner : EventKind → Option Reply → Bool
can_have_inner kinds.Fast None = true
can_have_inner kinds.Take None = true
can_have_inner _ _ = false

-- one that waits for an owner part can have these besides
abbrev pub can_have_waiting : EventKind → Option Reply → Bool
can_have_waiting kinds.Mark None = true
can_have_waiting kinds.Wait None = true
can_have_waiting kinds.Again None = true
can_have_waiting kinds.Walk None = true
can_have_waiting kinds.WalkEnd None = true
can_have_waiting kinds.Restart None = true
can_have_waiting kinds.Cycle None = true
can_have_waiting kinds.Cycle (Some replies.Deadlock) = true
can_have_waiting kinds.Walk (Some replies.Deadlock) = true
can_have_waiting kinds.WalkEnd (Some replies.Deadlock) = true
can_have_waiting kinds.Own (Some replies.Deadlock) = true
can_have_waiting _ _ = false

-- one that a signal ends can have these besides
abbrev pub can_have_signalled : EventKind → Option Reply → Bool
can_have_signalled kinds.Leave None = true
can_have_signalled kinds.Leave (Some replies.Interrupted) = true
can_have_signalled kinds.Walk (Some replies.Interrupted) = true
can_have_signalled kinds.WalkEnd (Some replies.Interrupted) = true
can_have_signalled _ _ = false

-- one that sleeps in an ordinary state is refused inside a spinning kind
abbrev pub can_have_nested : EventKind → Option Reply → Bool
can_have_nested kinds.Own (Some replies.Nesting) = true
can_have_nested _ _ = false

-- one that tries besides these
abbrev pub can_have_trying : EventKind → Option Reply → Bool
can_have_trying kinds.Busy (Some replies.Busy) = true
can_have_trying _ _ = false

-- one that releases an owner part, with this answer, these
abbrev pub can_have_release : Reply → EventKind → Option Reply → Bool
can_have_release answer kinds.Free (Some reply) = same_release_answer answer reply
can_have_release answer kinds.Give (Some reply) = same_release_answer answer reply
can_have_release answer _ _ = false

-- and one that is for a hold is refused without it
abbrev pub can_have_refusal : EventKind → Option Reply → Bool
can_have_refusal kinds.Own (Some replies.NotOwner) = true
can_have_refusal _ _ = false

-- at the reader part a `read` can have these
abbrev pub can_have_reading : EventKind → Option Reply → Bool
can_have_reading kinds.RIn (Some replies.Got) = true
can_have_reading kinds.Busy None = true
can_have_reading kinds.RIn None = true
can_have_reading _ _ = false

-- a `tryread` these
abbrev pub can_have_reading_once : EventKind → Option Reply → Bool
can_have_reading_once kinds.RIn (Some replies.Got) = true
can_have_reading_once _ _ = false

-- an `unread` these
abbrev pub can_have_unreading : EventKind → Option Reply → Bool
can_have_unreading kinds.ROut None = true
can_have_unreading kinds.ROut (Some replies.Done) = true
can_have_unreading kinds.WWake (Some replies.Done) = true
can_have_unreading _ _ = false

-- a `write` and a `trywrite` these
abbrev pub can_have_writing : EventKind → Option Reply → Bool
can_have_writing kinds.Unbias None = true
can_have_writing kinds.WTake (Some replies.Got) = true
can_have_writing _ _ = false

-- a `write` this besides
abbrev pub can_have_sleeping : EventKind → Option Reply → Bool
can_have_sleeping kinds.WSleep None = true
can_have_sleeping _ _ = false

-- and a writer that leaves, or gives up, this
abbrev pub can_have_opening : EventKind → Option Reply → Bool
can_have_opening kinds.WOpen None = true
can_have_opening _ _ = false

-- one that wakes or signals can have these
abbrev pub can_have_waking : EventKind → Option Reply → Bool
can_have_waking kinds.Wake (Some replies.Woke) = true
can_have_waking kinds.Wake (Some replies.Missed) = true
can_have_waking _ _ = false

-- a `move` can have these
abbrev pub can_have_moving : EventKind → Option Reply → Bool
can_have_moving kinds.Own (Some replies.Done) = true
can_have_moving kinds.Own (Some replies.Pinned) = true
can_have_moving _ _ = false

-- the call can have an event of this kind with this answer
abbrev pub can_have : Call → EventKind → Option Reply → Bool
can_have (calls.Lock l) kind reply = can_have_got kind reply || can_have_waiting kind reply || can_have_nested kind reply
can_have (calls.LockInt l) kind reply = can_have_got kind reply || can_have_waiting kind reply || can_have_nested kind reply ||
    can_have_signalled kind reply
can_have (calls.TryLock l) kind reply = can_have_got kind reply || can_have_trying kind reply
can_have (calls.Unlock l) kind reply = can_have_release replies.Done kind reply || can_have_refusal kind reply
can_have (calls.Spin l) kind reply = can_have_got kind reply || can_have_waiting kind reply
can_have (calls.TrySpin l) kind reply = can_have_got kind reply || can_have_trying kind reply
can_have (calls.Unspin l) kind reply = can_have_release replies.Done kind reply || can_have_refusal kind reply
can_have (calls.Read l) kind reply = can_have_reading kind reply || can_have_inner kind reply || can_have_waiting kind reply ||
    can_have_nested kind reply || can_have_release replies.Got kind reply
can_have (calls.TryRead l) kind reply = can_have_reading_once kind reply || can_have_trying kind reply
can_have (calls.Unread l) kind reply = can_have_unreading kind reply || can_have_refusal kind reply
can_have (calls.Write l) kind reply = can_have_inner kind reply || can_have_waiting kind reply || can_have_nested kind reply ||
    can_have_writing kind reply || can_have_sleeping kind reply
can_have (calls.TryWrite l) kind reply = can_have_inner kind reply || can_have_trying kind reply || can_have_writing kind reply ||
    can_have_opening kind reply || can_have_release replies.Busy kind reply
can_have (calls.Unwrite l) kind reply = can_have_opening kind reply || can_have_release replies.Done kind reply ||
    can_have_refusal kind reply
can_have (calls.Downgrade l) kind reply = can_have_opening kind reply || can_have_release replies.Done kind reply ||
    can_have_refusal kind reply
can_have (calls.Local l) kind reply = can_have_got kind reply || can_have_waiting kind reply
can_have (calls.Unlocal l) kind reply = can_have_release replies.Done kind reply || can_have_refusal kind reply
can_have (calls.Move cpu) kind reply = can_have_moving kind reply
can_have (calls.State state) kinds.State (Some replies.Done) = true
can_have calls.Schedule kinds.Sched (Some replies.Done) = true
can_have calls.Schedule kind reply = can_have_nested kind reply
can_have (calls.Wake t) kind reply = can_have_waking kind reply
can_have (calls.Signal t) kind reply = can_have_waking kind reply
can_have (calls.SetPrio t prio) kinds.SetPrio None = true
can_have (calls.SetPrio t prio) kinds.SetPrio (Some replies.Done) = true
can_have (calls.SetPrio t prio) kinds.Walk None = true
can_have (calls.SetPrio t prio) kinds.Walk (Some replies.Done) = true
can_have (calls.SetPrio t prio) kinds.WalkEnd (Some replies.Done) = true
can_have _ _ _ = false

-- the task that a call names, and the number: a state's, 1 for a signal, a priority
abbrev pub called_task : Call → Option TaskId
called_task (calls.Wake t) = Some t
called_task (calls.Signal t) = Some t
called_task (calls.SetPrio t prio) = Some t
called_task call = None

abbrev pub called_number : Call → ℕ
called_number (calls.State state) = state_number state
called_number (calls.Signal t) = 1
called_number (calls.SetPrio t prio) = prio
called_number call = 0

-- the number of an event of this kind: 1 where a call finds the reader part shut to it, and where a writer stays as a reader; else
-- what its call names
abbrev pub number_in : EventKind → Call → ℕ
number_in kinds.Busy (calls.Read l) = 1
number_in kinds.Busy (calls.TryRead l) = 1
number_in kinds.WOpen (calls.Downgrade l) = 1
number_in kind call = called_number call

-- an event of this kind names what its call names, but those of a walk, of which a walk and a restart name a lock and a task, and
-- a walk's end a task alone
abbrev pub NamesFor : EventKind → Call → Event → Type 0
NamesFor kinds.Walk call e = IsSome e.lock × IsSome e.other × (e.value ≡ 0)
NamesFor kinds.Restart call e = IsSome e.lock × IsSome e.other × (e.value ≡ 0)
NamesFor kinds.WalkEnd call e = (e.lock ≡ None) × IsSome e.other × (e.value ≡ 0)
NamesFor kind call e = (e.lock ≡ called_lock call) × (e.other ≡ called_task call) × (e.value ≡ number_in kind call)

-- the event is one of the call, as it is made on a processor
pub record IsOfCall (call : Call) (e : Event) : Type 0 where
  pub can : can_have call e.kind e.reply ≡ true
  pub names : NamesFor e.kind call e

-- an event of a walk, in the state that it comes in, names the task at which its task's walk stands, and the lock on which that
-- one is blocked, where it is
pub record IsOfWalk (s : State) (e : Event) : Type 0 where
  pub cursor : TaskId
  pub named : e.other ≡ Some cursor
  pub stands : StandsAt cursor (thread_part s e.task).phase
  pub lock : e.lock ≡ option_map (λ (at : LockId × ℕ). at.0) (task_part s cursor).blocked

-- an event of this kind is a walk's
abbrev pub is_of_walk : EventKind → Bool
is_of_walk kinds.Walk = true
is_of_walk kinds.WalkEnd = true
is_of_walk _ = false

-- an event with no answer leaves the call unfinished; an answer ends it, and counts; a `move` that is done goes to its processor
abbrev pub then_make : (Cpu → List Call → ℕ → Type 0) → Cpu → Call → List Call → Option Reply → ℕ → Type 0
then_make rest cpu call calls None n = rest cpu (call ∷ calls) n
then_make rest cpu call calls (Some answer) zero = ⊥
then_make rest cpu call calls (Some answer) (suc n) = rest (cpu_after (Some call) answer cpu) calls n

-- the next event is one of the first call that is left, made on this processor
abbrev pub makes_first : (Cpu → List Call → ℕ → Type 0) → Cpu → List Call → Event → ℕ → Type 0
makes_first rest cpu [] e n = ⊥
makes_first rest cpu (call ∷ calls) e n = IsOfCall (made_on cpu call) e × then_make rest cpu call calls e.reply n

-- events of one task, on this processor at first, make these calls once and in order, each up to its only answer, and answer n of them
abbrev pub Make : List Event → Cpu → List Call → ℕ → Type 0
Make [] cpu calls n = n ≡ 0
Make (e ∷ events) cpu calls n = makes_first (Make events) cpu calls e n

-- the events of a task
abbrev pub events_of : TaskId → List Event → List Event
events_of t events = filter (λ e. nat_eq e.task.0 t.0) events

-- how many calls of the task are answered after the script's events
abbrev pub answered_after : Script → List Event → TaskId → ℕ
answered_after script events t = (thread_part (after (start script) events) t).answered

-- each task's events make its calls once and in order, as many as the report counts, and all where the run ended done; those of
-- a walk name where it stands
pub record CallsLaw (script : Script) (events : List Event) : Type 0 where
  pub made : (t : TaskId) → t.0 < length script.tasks → Make (events_of t events) (task_line script t).cpu (task_line script t).calls (answered_after script events t)
  pub all : ended_of (after (start script) events) ≡ Done → (t : TaskId) → t.0 < length script.tasks → answered_after script events t ≡ length (task_line script t).calls
  pub walks : (prefix rest : List Event) (e : Event) → prefix ++ e ∷ rest ≡ events → is_of_walk e.kind ≡ true → IsOfWalk (after (start script) prefix) e
