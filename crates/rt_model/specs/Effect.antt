-- What an event touches, what it finds there, and what it does to it.
use Rattle.std.specs.Prelude.{ℕ, List, [], Option, None}
use Rattle.rt_base.specs.declared.id.LockId.{LockId}
use Rattle.rt_base.specs.declared.id.TaskId.{TaskId}
use Rattle.rt_model.specs.declared.event.Event.{Event}
use Rattle.rt_model.specs.declared.reader_cell.ReaderCell.{ReaderCell}
use Rattle.rt_model.specs.Parts.{OwnerPart, TaskPart, ThreadPart}
use Rattle.rt_model.specs.State.{Shared, lock_at, readers_at, task_at}

-- what an event reads and writes besides its thread: a lock's owner part and reader part, its own task, the lock's owner,
-- another task, one that it wakes, and what it only reads along a path
pub record Touched : Type 0 where
  pub lock : Option LockId
  pub readers : Option LockId
  pub own : Option TaskId
  pub owner : Option TaskId
  pub other : Option TaskId
  pub woken : Option TaskId
  pub path : List (ℕ × ℕ)

abbrev pub nothing : Touched
nothing = record { lock = None; readers = None; own = None; owner = None; other = None; woken = None; path = [] }

-- the parts that are touched; where none is named, a part at rest
pub record Around : Type 0 where
  pub lock : OwnerPart
  pub readers : ReaderCell
  pub own : TaskPart
  pub owner : TaskPart
  pub other : TaskPart

abbrev pub around : Shared → Touched → Around
around sh named = record { lock = lock_at sh named.lock; readers = readers_at sh named.readers; own = task_at sh named.own; owner = task_at sh named.owner; other = task_at sh named.other }

-- what becomes of each: of a task, with the lock as the event leaves it; of the thread, with all else as the event leaves it
pub record Effect : Type 0 where
  pub lock : OwnerPart → OwnerPart
  pub readers : ReaderCell → ReaderCell
  pub own : OwnerPart → TaskPart → TaskPart
  pub owner : OwnerPart → TaskPart → TaskPart
  pub other : OwnerPart → TaskPart → TaskPart
  pub woken : OwnerPart → TaskPart → TaskPart
  pub thread : Around → ThreadPart → ThreadPart

abbrev pub unchanged : Effect
unchanged = record { lock = λ lock. lock; readers = λ readers. readers; own = λ lock task. task; owner = λ lock task. task; other = λ lock task. task; woken = λ lock task. task; thread = λ left thread. thread }

-- a kind of event: what it touches, and what it does, of a thread and with what it finds
pub record Rule : Type 0 where
  pub touched : Event → Touched
  pub effect : Event → ThreadPart → Around → Effect

-- a kind that changes nothing but by its answer: what it touches alone
abbrev pub touches_alone : (Event → Touched) → Rule
touches_alone touched = record { touched = touched; effect = λ e thread found. unchanged }
