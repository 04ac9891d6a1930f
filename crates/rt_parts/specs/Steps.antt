-- One step on a part: the shared parts, or a thread, with that part changed.
use Rattle.std.specs.Prelude.{ℕ, Option}
use Rattle.rt_base.specs.declared.id.LockId.{LockId}
use Rattle.rt_base.specs.declared.id.TaskId.{TaskId}
use Rattle.rt_model.specs.declared.phase.Phase.{Phase}
use Rattle.rt_model.specs.declared.reader_cell.ReaderCell.{ReaderCell}
use Rattle.rt_model.specs.Parts.{OwnerPart, TaskPart, ThreadPart}
use Rattle.rt_model.specs.State.{Shared}
use Rattle.rt_model.specs.StateAfter.{update, at_task}

-- the shared parts, where f changes the owner part of a lock
abbrev pub with_lock : Shared → LockId → (OwnerPart → OwnerPart) → Shared
with_lock sh l f = record sh { locks = update sh.locks l.0 f }

-- its reader part
abbrev pub with_readers : Shared → LockId → (ReaderCell → ReaderCell) → Shared
with_readers sh l f = record sh { readers = update sh.readers l.0 f }

-- a task
abbrev pub with_task : Shared → TaskId → (TaskPart → TaskPart) → Shared
with_task sh t f = record sh { tasks = update sh.tasks t.0 f }

-- or a task that may not be named
abbrev pub with_task_at : Shared → Option TaskId → (TaskPart → TaskPart) → Shared
with_task_at sh t f = record sh { tasks = at_task sh.tasks t f }

-- a thread in another phase
abbrev pub with_phase : ThreadPart → Phase → ThreadPart
with_phase thread phase = record thread { phase = phase }

-- or with another migration count
abbrev pub with_migration : ThreadPart → ℕ → ThreadPart
with_migration thread count = record thread { migration = count }
