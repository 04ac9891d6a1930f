-- A link: what it looks at, what it leaves of its lock's owner, and one of a path by its number.
use Rattle.std.specs.Prelude.{ℕ, List, Option, option_map, unwrap_or, slice_get}
use Rattle.rt_base.specs.declared.id.LockId.{LockId}
use Rattle.rt_model.specs.Parts.{OwnerPart, TaskPart}
use Rattle.rt_model.specs.Path.{Link, links_of}
use Rattle.rt_model.specs.steps.Chain.{refreshed_where_changed}

-- the lock on which a task is blocked
abbrev pub awaited : TaskPart → Option LockId
awaited task = option_map (λ (at : LockId × ℕ). at.0) task.blocked

-- the owner of that lock after the link, with the lock before it and after it: it keeps the top waiter's key where that changed
abbrev pub owner_linked : TaskPart → OwnerPart → OwnerPart → TaskPart → TaskPart
owner_linked task before after = refreshed_where_changed (awaited task) before.rows after.rows

-- link i of a path; under a number that no link has, all its numbers are 0
abbrev pub link_at : List (ℕ × ℕ) → ℕ → Link
link_at path i = unwrap_or (slice_get (links_of path) i) (record { from = record { 0 = 0 }; lock = record { 0 = 0 }; to = record { 0 = 0 } })
