-- The cause of a deadlock answer.
use Rattle.std.specs.Prelude.{◌≡◌, ◌⊎◌, List, ◌∷◌, ◌++◌, Some}
use Rattle.rt_base.specs.declared.id.LockId.{LockId}
use Rattle.rt_base.specs.declared.reply.Reply.TheVariants.{Deadlock}
use Rattle.rt_model.specs.declared.event.Event.{Event}
use Rattle.rt_model.specs.declared.event_kind.EventKind.TheVariants.{Own, Cycle}
use Rattle.rt_model.specs.Parts.{kind_of}
use Rattle.rt_model.specs.State.{State, thread_part}
use Rattle.rt_model.specs.Run.{after}
use Rattle.rt_model.specs.laws.Causes.{IsCause}
use Rattle.rt_model.specs.laws.Cycles.{BreaksCycle}
use Rattle.rt_model.specs.laws.Holders.{holder_of, holders_of}

-- a task holds the lock itself, by the events before: a reader/writer lock for writing
pub record IsHeldItself (s : State) (before : List Event) (e : Event) : Type 0 where
  pub kind : e.kind ≡ Own
  pub held : (l : LockId) × (e.lock ≡ Some l) × (holder_of (kind_of (thread_part s e.task) l) (holders_of before l) ≡ Some e.task)

-- a task is in a cycle: an event of its call tells of one that stands when the event is made, and takes the task out of it
pub record IsInCycle (s : State) (before : List Event) (e : Event) : Type 0 where
  pub prefix : List Event
  pub cause : Event
  pub same_call : IsCause Cycle before e cause prefix
  pub breaks : BreaksCycle (after s prefix) cause

-- each deadlock answer has one of these causes
abbrev pub DeadlocksLaw : State → List Event → Type 0
DeadlocksLaw s events = (before rest : List Event) (e : Event) → before ++ e ∷ rest ≡ events → e.reply ≡ Some Deadlock
    → IsHeldItself s before e ⊎ IsInCycle s before e
