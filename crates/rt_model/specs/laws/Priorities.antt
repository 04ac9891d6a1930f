-- Priority law: which priority is right, over all rows of all locks.
use Rattle.std.specs.Prelude.{◌≡◌, ℕ, ◌<◌, List, [], ◌∷◌, ◌++◌, length, map, IfSome, if◌then◌else◌}
use Rattle.rt_base.specs.declared.id.LockId.{LockId}
use Rattle.rt_base.specs.declared.id.TaskId.{TaskId}
use Rattle.rt_model.specs.declared.row.Row.{Row}
use Rattle.rt_model.specs.Parts.{OwnerPart, least, effective_of}
use Rattle.rt_model.specs.Rows.{queued_key}
use Rattle.rt_model.specs.State.{State, owner_part, task_part}
use Rattle.rt_model.specs.laws.Owners.{owned_by}
use Rattle.rt_model.specs.laws.Keys.{IsNamed}

-- the keys of all who wait for a lock that the task owns
abbrev pub waiting_keys : TaskId → List OwnerPart → List ℕ
waiting_keys t [] = []
waiting_keys t (lock ∷ locks) = (if owned_by lock.owner t then map (λ (row : Row). row.key) lock.rows else []) ++ waiting_keys t locks

-- a task is right: its effective priority is the least of its own and the keys of all who wait for what it owns, and it
-- waits with its effective priority, on record and in the queue where it has a row, but where a walk names it
pub record IsRight (s : State) (t : TaskId) : Type 0 where
  pub effective : effective_of (task_part s t) ≡ least (task_part s t).own (waiting_keys t s.locks)
  pub key : (IsNamed s t → ⊥) → IfSome (task_part s t).blocked (λ at. at.1 ≡ effective_of (task_part s t))
  pub row : (IsNamed s t → ⊥) → (l : LockId) → IfSome (queued_key t (owner_part s l).rows) (λ key. key ≡ effective_of (task_part s t))

-- every task is right
abbrev pub PriorityLaw : State → Type 0
PriorityLaw s = (t : TaskId) → t.0 < length s.tasks → IsRight s t
