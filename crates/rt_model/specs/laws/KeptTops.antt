-- Kept-tops law.
use Rattle.std.specs.Prelude.{◌≡◌, ℕ, Option, None, unwrap_or, slice_get, if◌then◌else◌}
use Rattle.rt_base.specs.declared.id.LockId.{LockId}
use Rattle.rt_base.specs.declared.id.TaskId.{TaskId}
use Rattle.rt_model.specs.Parts.{TaskPart}
use Rattle.rt_model.specs.Rows.{top_key}
use Rattle.rt_model.specs.State.{State, owner_part, task_part}
use Rattle.rt_model.specs.laws.Owners.{owned_by}

-- the key that a task keeps of a lock
abbrev pub kept_of : TaskPart → LockId → Option ℕ
kept_of task l = unwrap_or (slice_get task.kept l.0) None

-- a task keeps the top key of each lock that it owns, and nothing else
abbrev pub KeptTopsLaw : State → Type 0
KeptTopsLaw s = (l : LockId) (t : TaskId) → kept_of (task_part s t) l ≡ (if owned_by (owner_part s l).owner t then top_key (owner_part s l).rows else None)
