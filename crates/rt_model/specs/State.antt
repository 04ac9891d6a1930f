-- The state of the lock machine, and the state that a script starts in.
use Rattle.std.specs.Prelude.{ℕ, true, false, List, [], length, map, replicate, Option, Some, None, unwrap_or, slice_get}
use Rattle.rt_base.specs.Script.{Script, TaskLine, LockLine}
use Rattle.rt_base.specs.declared.call.Call.{Call}
use Rattle.rt_base.specs.declared.id.Cpu.{Cpu}
use Rattle.rt_base.specs.declared.kind.Kind.{Kind}
use Rattle.rt_base.specs.declared.id.LockId.{LockId}
use Rattle.rt_base.specs.declared.id.TaskId.{TaskId}
use Rattle.rt_base.specs.declared.state.TaskState.TheVariants.{Running}
use Rattle.rt_model.specs.declared.obj.Obj.{Obj}
use Rattle.rt_model.specs.declared.obj.Obj.TheVariants as objects
use Rattle.rt_model.specs.declared.phase.Phase.TheVariants.{Start}
use Rattle.rt_model.specs.declared.reader_cell.ReaderCell.{ReaderCell}
use Rattle.rt_model.specs.Parts.{OwnerPart, TaskPart, ThreadPart}

-- locks have an owner part and a reader part each, by lock number; tasks have a public part and a thread, by task number
pub record State : Type 0 where
  pub locks : List OwnerPart
  pub readers : List ReaderCell
  pub tasks : List TaskPart
  pub threads : List ThreadPart

-- the shared parts of a state: no thread is in them
pub record Shared : Type 0 where
  pub locks : List OwnerPart
  pub readers : List ReaderCell
  pub tasks : List TaskPart

abbrev pub shared : State → Shared
shared s = record { locks = s.locks; readers = s.readers; tasks = s.tasks }

-- ---- parts at the start

-- a lock that is free, with nobody waiting
abbrev pub free_lock : OwnerPart
free_lock = record { owner = None; bit = false; rows = []; ticket = 0 }

-- a reader part with no reader and no writer
abbrev pub no_readers : ReaderCell
no_readers = record { bias = true; writer = false; count = 0 }

-- a task that runs, and keeps no tops
abbrev pub fresh_task : ℕ → ℕ → TaskPart
fresh_task locks own = record { own = own; kept = replicate locks None; blocked = None; state = Running; saved = Running; signal = false }

-- a thread that has made no call, and holds nothing
abbrev pub fresh_thread : List Kind → List Call → Cpu → ThreadPart
fresh_thread kinds calls cpu = record { kinds = kinds; calls = calls; answered = 0; phase = Start; holds = replicate (length kinds) (record { owns = false; reads = 0 }); migration = 0; cpu = cpu }

-- the kinds of a script's locks
abbrev pub kinds_in : Script → List Kind
kinds_in script = map (λ (line : LockLine). line.kind) script.locks

-- the state that the script starts in
abbrev pub start : Script → State
start script = record {
  locks = replicate (length script.locks) free_lock;
  readers = replicate (length script.locks) no_readers;
  tasks = map (λ (line : TaskLine). fresh_task (length script.locks) line.own) script.tasks;
  threads = map (λ (line : TaskLine). fresh_thread (kinds_in script) line.calls line.cpu) script.tasks;
}

-- ---- reading a part; under a number that nothing has, there is a part at rest

-- a task, and a thread, that nobody is
abbrev pub no_task : TaskPart
no_task = record { own = 0; kept = []; blocked = None; state = Running; saved = Running; signal = false }

abbrev pub no_thread : ThreadPart
no_thread = record { kinds = []; calls = []; answered = 0; phase = Start; holds = []; migration = 0; cpu = record { 0 = 0 } }

-- the owner part of lock l, its reader part, and the public part of task t, among the shared ones
abbrev pub lock_in : Shared → LockId → OwnerPart
lock_in sh l = unwrap_or (slice_get sh.locks l.0) free_lock

abbrev pub readers_in : Shared → LockId → ReaderCell
readers_in sh l = unwrap_or (slice_get sh.readers l.0) no_readers

abbrev pub task_in : Shared → TaskId → TaskPart
task_in sh t = unwrap_or (slice_get sh.tasks t.0) no_task

-- the same of what may not be named
abbrev pub lock_at : Shared → Option LockId → OwnerPart
lock_at sh None = free_lock
lock_at sh (Some l) = lock_in sh l

abbrev pub readers_at : Shared → Option LockId → ReaderCell
readers_at sh None = no_readers
readers_at sh (Some l) = readers_in sh l

abbrev pub task_at : Shared → Option TaskId → TaskPart
task_at sh None = no_task
task_at sh (Some t) = task_in sh t

-- the owner part of lock l, its reader part, the public part of task t and the private part of its thread, in a state
abbrev pub owner_part : State → LockId → OwnerPart
owner_part s l = unwrap_or (slice_get s.locks l.0) free_lock

abbrev pub reader_part : State → LockId → ReaderCell
reader_part s l = unwrap_or (slice_get s.readers l.0) no_readers

abbrev pub task_part : State → TaskId → TaskPart
task_part s t = unwrap_or (slice_get s.tasks t.0) no_task

abbrev pub thread_part : State → TaskId → ThreadPart
thread_part s t = unwrap_or (slice_get s.threads t.0) no_thread

-- ---- objects

-- what an object is in a state
pub data Part : Type 0 where
  of_lock : OwnerPart → Part
  of_readers : ReaderCell → Part
  of_task : TaskPart → Part
  of_thread : ThreadPart → Part

-- the object in the state
abbrev pub object : State → Obj → Part
object s (objects.OwnerPart l) = of_lock (owner_part s l)
object s (objects.ReaderPart l) = of_readers (reader_part s l)
object s (objects.Task t) = of_task (task_part s t)
object s (objects.Thread t) = of_thread (thread_part s t)
