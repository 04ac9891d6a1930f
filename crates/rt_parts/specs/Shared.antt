-- What the cells of locks and tasks hold together.
use Rattle.std.specs.Prelude.{◌≡◌, ℕ, ◌<◌, ◌≤◌, List, length, map, All, IfSome}
use Rattle.rt_base.specs.declared.limits.TheConstants.{MAX_LOCKS, MAX_TASKS}
use Rattle.rt_model.specs.declared.reader_cell.ReaderCell.{ReaderCell}
use Rattle.rt_model.specs.Parts.{OwnerPart, TaskPart}
use Rattle.rt_model.specs.State.{free_lock}
use Rattle.rt_locks.specs.OwnerCell.{OwnerCell}

-- the owner parts of these cells
abbrev pub parts_of : List OwnerCell → List OwnerPart
parts_of cells = map (λ (cell : OwnerCell). cell.part) cells

-- a free lock's cell, with room for so many tasks
abbrev pub free_cell : ℕ → OwnerCell
free_cell tasks = record { part = free_lock; tasks = tasks }

-- a lock among so many tasks: there is room for a row of each, and its owner is one of them
pub record IsAmong (tasks : ℕ) (cell : OwnerCell) : Type 0 where
  pub room : cell.tasks ≡ tasks
  pub owner : IfSome cell.part.owner (λ t. t.0 < tasks)

-- each lock is among these tasks and has a reader part, and each task keeps a top, or none, of each lock
pub record IsShared (cells : List OwnerCell) (parts : List ReaderCell) (all : List TaskPart) : Type 0 where
  pub few_locks : length cells ≤ MAX_LOCKS
  pub few_tasks : length all ≤ MAX_TASKS
  pub locks : All (IsAmong (length all)) cells
  pub readers : length parts ≡ length cells
  pub kept : All (λ (task : TaskPart). length task.kept ≡ length cells) all
