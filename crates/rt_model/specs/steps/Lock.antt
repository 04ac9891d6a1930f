-- Steps on a lock.
use Rattle.std.specs.Prelude.{ℕ, ◌+◌, true, Some, None}
use Rattle.rt_base.specs.declared.id.TaskId.{TaskId}
use Rattle.rt_model.specs.Parts.{OwnerPart}
use Rattle.rt_model.specs.Rows.{insert_row, without, has_rows}

-- a task is queued with a key: its row takes the next ticket, and the bit is set
abbrev pub queued : TaskId → ℕ → OwnerPart → OwnerPart
queued t key lock = record lock { bit = true; rows = insert_row (record { key = key; ticket = lock.ticket; who = t.0 }) lock.rows; ticket = lock.ticket + 1 }

-- a task's row takes another key and the next ticket
abbrev pub requeued : TaskId → ℕ → OwnerPart → OwnerPart
requeued t key lock = record lock { rows = insert_row (record { key = key; ticket = lock.ticket; who = t.0 }) (without t lock.rows); ticket = lock.ticket + 1 }

-- a task's row goes, and the bit says whether rows are left
abbrev pub left_by : TaskId → OwnerPart → OwnerPart
left_by t lock = let rows = without t lock.rows in record lock { rows = rows; bit = has_rows rows }

-- a task takes the lock: its row goes, where it is queued, and it is the owner
abbrev pub taken_by : TaskId → OwnerPart → OwnerPart
taken_by t lock = record (left_by t lock) { owner = Some t }

-- the lock is given up: no owner, and the bit says whether there are rows
abbrev pub given_up : OwnerPart → OwnerPart
given_up lock = record lock { owner = None; bit = has_rows lock.rows }
