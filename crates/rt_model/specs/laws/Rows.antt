-- Rows law.
use Rattle.std.specs.Prelude.{◌≡◌, ◌≢◌, ℕ, ◌<◌, ◌≤◌, true, false, [], All, AllPairs, Option, Some, None, nat_eq, if◌then◌else◌}
use Rattle.rt_base.specs.declared.id.LockId.{LockId}
use Rattle.rt_base.specs.declared.id.TaskId.{TaskId}
use Rattle.rt_model.specs.declared.row.Row.{Row}
use Rattle.rt_model.specs.Parts.{OwnerPart}
use Rattle.rt_model.specs.Rows.{queued_key, goes_before}
use Rattle.rt_model.specs.State.{State, owner_part, task_part}

-- a row stands before another, of another task and with another ticket
pub record IsAhead (row other : Row) : Type 0 where
  pub order : goes_before row other ≡ true
  pub task : row.who ≢ other.who
  pub ticket : row.ticket ≢ other.ticket

-- the rows of a lock: in order, below the next ticket, and none where the bit is clear
pub record IsQueue (lock : OwnerPart) : Type 0 where
  pub clear : lock.bit ≡ false → lock.rows ≡ []
  pub order : AllPairs IsAhead lock.rows
  pub tickets : All (λ (row : Row). row.ticket < lock.ticket) lock.rows

-- the key with which a task is blocked on a lock
abbrev pub key_at : Option (LockId × ℕ) → LockId → Option ℕ
key_at None l = None
key_at (Some at) l = if nat_eq at.0.0 l.0 then Some at.1 else None

-- a task has a row at a lock exactly where it is blocked on it, and the row has its key
pub record RowsLaw (s : State) (made : ℕ) : Type 0 where
  pub queue : (l : LockId) → IsQueue (owner_part s l)
  pub tickets : (l : LockId) → (owner_part s l).ticket ≤ made
  pub rows : (l : LockId) (t : TaskId) → queued_key t (owner_part s l).rows ≡ key_at (task_part s t).blocked l
