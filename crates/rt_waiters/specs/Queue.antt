-- The value of a queue: its rows and its room.
use Rattle.std.specs.Prelude.{◌≡◌, ℕ, ◌<◌, List, [], ◌∷◌, AllPairs, None}
use Rattle.rt_model.specs.declared.row.Row.{Row}
use Rattle.rt_model.specs.Rows.{row_of, task_of, insert_row, without}
use Rattle.rt_model.specs.laws.Rows.{IsAhead}

-- rows, and for how many tasks there is room
pub record Queue : Type 0 where
  pub rows : List Row
  pub room : ℕ

-- the queue with a row of this task, where that belongs among the others, and the one without a row of it
abbrev pub with_row : ℕ → ℕ → ℕ → Queue → Queue
with_row key ticket who queue = record queue { rows = insert_row (record { key = key; ticket = ticket; who = who }) queue.rows }

abbrev pub without_row : ℕ → Queue → Queue
without_row who queue = record queue { rows = without (record { 0 = who }) queue.rows }

-- the rows are of different tasks, each below the room
abbrev pub AreQueued : ℕ → List Row → Type 0
AreQueued room [] = Unit {0}
AreQueued room (row ∷ rows) = (row.who < room) × (row_of (task_of row) rows ≡ None) × AreQueued room rows

-- and they stand in order
pub record IsQueued (room : ℕ) (rows : List Row) : Type 0 where
  pub tasks : AreQueued room rows
  pub order : AllPairs IsAhead rows
