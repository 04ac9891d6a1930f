-- What a walk finds of its cursor, or of its path.
use Rattle.std.specs.Prelude.{ℕ, ◌<◌, List, length, All, IfSome}
use Rattle.rt_base.specs.declared.id.LockId.{LockId}
use Rattle.rt_base.specs.declared.id.TaskId.{TaskId}
use Rattle.rt_model.specs.declared.phase.Phase.{Phase}
use Rattle.rt_model.specs.declared.phase.Phase.TheVariants.{Walk, Confirm}
use Rattle.rt_model.specs.State.{Shared, task_in}
use Rattle.rt_model.specs.Path.{Link, links_of, first_lock}

-- the task is there, and so is the lock on which it is blocked
pub record IsOnChain (sh : Shared) (u : TaskId) : Type 0 where
  pub task : u.0 < length sh.tasks
  pub lock : IfSome (task_in sh u).blocked (λ at. at.0.0 < length sh.locks)

-- the path has a link; the lock of the first one is there, and so are the tasks of each
pub record CanConfirm (sh : Shared) (path : List (ℕ × ℕ)) : Type 0 where
  pub some : 0 < length path
  pub lock : IfSome (first_lock path) (λ (l : LockId). l.0 < length sh.locks)
  pub tasks : All (λ (link : Link). (link.from.0 < length sh.tasks) × (link.to.0 < length sh.tasks)) (links_of path)

-- so is the cursor of a walk, and so the path that is to be confirmed
abbrev pub FindsCursor : Shared → Phase → Type 0
FindsCursor sh (Walk cursor route) = IsOnChain sh cursor
FindsCursor sh (Confirm path) = CanConfirm sh path
FindsCursor sh _ = Unit {0}
