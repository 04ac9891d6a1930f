-- Walks law.
use Rattle.std.specs.Prelude.{◌≡◌, ◌≢◌, ◌⊎◌, ℕ, ◌<◌, ◌≤◌, List, [], ◌∷◌, length, All, AllPairs, Option, Some}
use Rattle.rt_base.specs.declared.id.LockId.{LockId}
use Rattle.rt_base.specs.declared.id.TaskId.{TaskId}
use Rattle.rt_model.specs.declared.phase.Phase.{Phase}
use Rattle.rt_model.specs.declared.phase.Phase.TheVariants.{Walk, Confirm}
use Rattle.rt_model.specs.declared.phase.Route.TheVariants.{Full, Short}
use Rattle.rt_model.specs.State.{State, thread_part}
use Rattle.rt_model.specs.Choice.{present_lock}

-- the path begins with this task and this lock
abbrev pub BeginsWith : TaskId → Option LockId → List (ℕ × ℕ) → Type 0
BeginsWith t lock [] = ⊥
BeginsWith t lock (link ∷ path) = (link.0 ≡ t.0) × (lock ≡ Some (record { 0 = link.1 }))

-- a full walk of a task that waits for this lock: its path is empty with the cursor on the walker, or begins with the walker and
-- its lock; the tasks and the locks of the path are there, the tasks differ, and the cursor isn't one of them
pub record IsFullWalk (tasks locks : ℕ) (t : TaskId) (lock : Option LockId) (cursor : TaskId) (path : List (ℕ × ℕ)) : Type 0 where
  pub begins : ((path ≡ []) × (cursor ≡ t)) ⊎ BeginsWith t lock path
  pub there : All (λ (link : ℕ × ℕ). (link.0 < tasks) × (link.1 < locks)) path
  pub differ : AllPairs (λ (link other : ℕ × ℕ). link.0 ≢ other.0) path
  pub ahead : All (λ (link : ℕ × ℕ). link.0 ≢ cursor.0) path

-- a path that is to be confirmed, of a task that waits for this lock: it begins with the task and its lock, and has two tasks or
-- more, which are there with their locks, and differ
pub record IsToConfirm (tasks locks : ℕ) (t : TaskId) (lock : Option LockId) (path : List (ℕ × ℕ)) : Type 0 where
  pub begins : BeginsWith t lock path
  pub many : 2 ≤ length path
  pub there : All (λ (link : ℕ × ℕ). (link.0 < tasks) × (link.1 < locks)) path
  pub differ : AllPairs (λ (link other : ℕ × ℕ). link.0 ≢ other.0) path

-- a walk's cursor is there, and a full walk has such a path, also where it is to be confirmed
abbrev pub IsWalkOf : ℕ → ℕ → TaskId → Option LockId → Phase → Type 0
IsWalkOf tasks locks t lock (Walk cursor (Full path)) = (cursor.0 < tasks) × IsFullWalk tasks locks t lock cursor path
IsWalkOf tasks locks t lock (Walk cursor (Short answer)) = cursor.0 < tasks
IsWalkOf tasks locks t lock (Confirm path) = IsToConfirm tasks locks t lock path
IsWalkOf tasks locks t lock _ = Unit {0}

-- so each walk
abbrev pub WalksLaw : State → Type 0
WalksLaw s = (t : TaskId) → IsWalkOf (length s.threads) (length s.locks) t (present_lock (thread_part s t)) (thread_part s t).phase
