-- The top row: whose it is.
use Rattle.std.specs.Prelude.{Bool, false, List, Option, Some, None}
use Rattle.rt_base.specs.declared.id.TaskId.{TaskId}
use Rattle.rt_model.specs.declared.row.Row.{Row}
use Rattle.rt_model.specs.Rows.{is_of, top_waiter}

-- the row is there, and the task's
abbrev pub is_first : TaskId → Option Row → Bool
is_first t None = false
is_first t (Some row) = is_of t row

-- the task's row is the top one
abbrev pub is_top : TaskId → List Row → Bool
is_top t rows = is_first t (top_waiter rows)
