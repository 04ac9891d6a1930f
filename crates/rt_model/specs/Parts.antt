-- The objects of the machine: what a lock, a task and a thread are.
use Rattle.std.specs.Prelude.{ℕ, ◌+◌, Bool, true, false, List, [], ◌∷◌, min, Option, Some, None, unwrap_or, option_map, slice_get}
use Rattle.rt_base.specs.declared.call.Call.{Call}
use Rattle.rt_base.specs.declared.call.Call.TheVariants as calls
use Rattle.rt_base.specs.declared.id.LockId.{LockId}
use Rattle.rt_base.specs.declared.id.TaskId.{TaskId}
use Rattle.rt_base.specs.declared.id.Cpu.{Cpu}
use Rattle.rt_base.specs.declared.kind.Kind.{Kind}
use Rattle.rt_base.specs.declared.kind.Kind.TheVariants.{Mutex, RwLock, RwSem}
use Rattle.rt_base.specs.declared.state.TaskState.{TaskState}
use Rattle.rt_model.specs.declared.hold.Hold.{Hold}
use Rattle.rt_model.specs.declared.phase.Phase.{Phase}
use Rattle.rt_model.specs.declared.row.Row.{Row}

-- the owner part of a lock
pub record OwnerPart : Type 0 where
  pub owner : Option TaskId
  pub bit : Bool
  pub rows : List Row
  pub ticket : ℕ

-- the public part of a task: kept tops are listed by lock, and a blocked task has its lock and its key there
pub record TaskPart : Type 0 where
  pub own : ℕ
  pub kept : List (Option ℕ)
  pub blocked : Option (LockId × ℕ)
  pub state : TaskState
  pub saved : TaskState
  pub signal : Bool

-- the private part of a thread: what it knows of the script, which are the kinds of all locks and its own calls, never
-- changes; holds are listed by lock; where its migration count is above 0 it stays on its processor
pub record ThreadPart : Type 0 where
  pub kinds : List Kind
  pub calls : List Call
  pub answered : ℕ
  pub phase : Phase
  pub holds : List Hold
  pub migration : ℕ
  pub cpu : Cpu

-- the least of a priority and keys
abbrev pub least : ℕ → List ℕ → ℕ
least prio [] = prio
least prio (key ∷ keys) = min key (least prio keys)

-- the keys that are there
abbrev pub keys_in : List (Option ℕ) → List ℕ
keys_in [] = []
keys_in (None ∷ kept) = keys_in kept
keys_in (Some key ∷ kept) = key ∷ keys_in kept

-- the effective priority: the least of the own one and the keys of the kept tops
abbrev pub effective_of : TaskPart → ℕ
effective_of task = least task.own (keys_in task.kept)

-- a local lock has a cell for each processor, side by side, and is named by the cell of processor 0: the cell of a processor
abbrev pub cell : LockId → Cpu → LockId
cell base cpu = record { 0 = base.0 + cpu.0 }

-- the call as it is made on a processor: what names a local lock is about the cell of that processor
abbrev pub made_on : Cpu → Call → Call
made_on cpu (calls.Local base) = calls.Local (cell base cpu)
made_on cpu (calls.Unlocal base) = calls.Unlocal (cell base cpu)
made_on cpu call = call

-- the call that a thread is at, as it makes it on its processor, where it isn't at the end of its calls
abbrev pub call_of : ThreadPart → Option Call
call_of thread = option_map (made_on thread.cpu) (slice_get thread.calls thread.answered)

-- what a thread holds of a lock
abbrev pub hold_of : ThreadPart → LockId → Hold
hold_of thread l = unwrap_or (slice_get thread.holds l.0) (record { owns = false; reads = 0 })

-- the kind of a lock, as a thread knows it
abbrev pub kind_of : ThreadPart → LockId → Kind
kind_of thread l = unwrap_or (slice_get thread.kinds l.0) Mutex

-- the same of a lock that may not be named
abbrev pub kind_named : ThreadPart → Option LockId → Kind
kind_named thread None = Mutex
kind_named thread (Some l) = kind_of thread l

-- the reader/writer kinds: such a lock has a reader part beside its owner part, which is its inner lock
abbrev pub has_readers : Kind → Bool
has_readers RwLock = true
has_readers RwSem = true
has_readers _ = false

-- what these holds of locks of these kinds count together, where each counts so much
abbrev pub count_holds : (Kind → Hold → ℕ) → List Kind → List Hold → ℕ
count_holds count [] holds = 0
count_holds count (kind ∷ kinds) [] = 0
count_holds count (kind ∷ kinds) (hold ∷ holds) = count kind hold + count_holds count kinds holds
