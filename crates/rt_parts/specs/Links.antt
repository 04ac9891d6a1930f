-- What a link of a walk finds, and what it leaves of the shared parts.
use Rattle.std.specs.Prelude.{◌≡◌, ◌<◌, ◌^◌, false, List, length, unwrap_or, slice_get, Option, Some, None, IsSome}
use Rattle.rt_base.specs.declared.id.LockId.{LockId}
use Rattle.rt_base.specs.declared.id.TaskId.{TaskId}
use Rattle.rt_base.specs.declared.limits.TheConstants.{MAX_LINKS, MAX_TASKS}
use Rattle.rt_model.specs.declared.phase.Phase.{Phase}
use Rattle.rt_model.specs.declared.phase.Phase.TheVariants as phases
use Rattle.rt_model.specs.declared.phase.Phase.TheVariants.{Walk}
use Rattle.rt_model.specs.declared.phase.Route.{Route}
use Rattle.rt_model.specs.declared.phase.Route.TheVariants.{Full, Short}
use Rattle.rt_model.specs.Parts.{OwnerPart, TaskPart}
use Rattle.rt_model.specs.Rows.{row_of}
use Rattle.rt_model.specs.State.{Shared, no_task, lock_in, task_in}
use Rattle.rt_model.specs.StateAfter.{update, at_task}
use Rattle.rt_model.specs.laws.Owners.{owned_by}
use Rattle.rt_model.specs.steps.Chain.{requeued_where_old, rekeyed, phase_of_walk}
use Rattle.rt_locks.specs.OwnerCell.{OwnerCell}
use Rattle.rt_walk.specs.declared.next.Next.{Next}
use Rattle.rt_walk.specs.declared.next.Next.TheVariants.{End, Confirm, To}
use Rattle.rt_walk.specs.Link.{owner_linked}

-- the task is queued at the lock, which has a ticket for it and isn't its own
pub record IsQueuedAt (u : TaskId) (task : TaskPart) (lock : OwnerPart) : Type 0 where
  pub blocked : IsSome task.blocked
  pub queued : IsSome (row_of u lock.rows)
  pub tickets : lock.ticket < 2 ^ 63
  pub unowned : owned_by lock.owner u ≡ false

-- the path of a full walk has room for a link from its cursor
abbrev pub HasRoom : Phase → Type 0
HasRoom (Walk cursor (Full path)) = (cursor.0 < MAX_TASKS) × (length path < MAX_LINKS)
HasRoom _ = Unit {0}

-- the phase of a walk that goes on so, whose route is cut already, or none where it ends
abbrev pub walk_to : Route → Next → Option Phase
walk_to route End = None
walk_to (Full path) Confirm = Some (phases.Confirm path)
walk_to (Short answer) Confirm = None
walk_to route (To t keep) = Some (Walk t route)

-- what becomes of a phase by that
abbrev pub phase_told : Next → Phase → Phase
phase_told next (Walk cursor route) = phase_of_walk (walk_to route next)
phase_told next phase = phase

-- the task among these
abbrev pub task_among : List TaskPart → TaskId → TaskPart
task_among tasks u = unwrap_or (slice_get tasks u.0) no_task

-- the cell of the lock after a link from this task, which is queued anew, where its key is old
abbrev pub cell_linked : TaskId → TaskPart → OwnerCell → OwnerCell
cell_linked u task cell = record cell { part = requeued_where_old (Some u) task cell.part }

-- the tasks after it, with the lock before it and after it: the lock's owner, and this task, whose own key is its effective priority
abbrev pub tasks_linked : TaskId → OwnerPart → OwnerPart → List TaskPart → List TaskPart
tasks_linked u before after tasks = update (at_task tasks before.owner (owner_linked (task_among tasks u) before after)) u.0 rekeyed

-- the parts after it: the task is queued anew, where its key is old
abbrev pub linked : TaskId → LockId → Shared → Shared
linked u l sh = record sh {
  locks = update sh.locks l.0 (requeued_where_old (Some u) (task_in sh u));
  tasks = tasks_linked u (lock_in sh l) (requeued_where_old (Some u) (task_in sh u) (lock_in sh l)) sh.tasks;
}
