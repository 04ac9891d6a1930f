-- A link of a walk: what it tells of the lock's top waiter and of the lock's owner.
use Rattle.std.specs.Prelude.{ℕ, ◌<◌, List, length, Option, Some, None, IfSome, nat_eq, if◌then◌else◌}
use Rattle.rt_base.specs.declared.id.LockId.{LockId}
use Rattle.rt_base.specs.declared.id.TaskId.{TaskId}
use Rattle.rt_model.specs.declared.row.Row.{Row}
use Rattle.rt_model.specs.Parts.{TaskPart, effective_of}
use Rattle.rt_model.specs.Rows.{top_changed, top_task}

-- a task, where there is one, has a place for what it keeps of a lock
abbrev pub HasPlace : Option TaskPart → Option LockId → Type 0
HasPlace task l = IfSome task (λ (task : TaskPart). IfSome l (λ (l : LockId). l.0 < length task.kept))

-- the task of the top row, where that is another row than before
abbrev pub new_top : List Row → List Row → Option TaskId
new_top before after = if top_changed before after then top_task after else None

-- a priority, where it is another one than before
abbrev pub changed_to : ℕ → ℕ → Option ℕ
changed_to before after = if nat_eq before after then None else Some after

-- the effective priority of a task, where there is one and it has another one than before
abbrev pub boosted : Option TaskPart → Option TaskPart → Option ℕ
boosted (Some before) (Some after) = changed_to (effective_of before) (effective_of after)
boosted _ _ = None
