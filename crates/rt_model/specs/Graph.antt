-- The blocking graph: who leads to whom, and the priority over all of it.
use Rattle.std.specs.Prelude.{◌≡◌, ◌⊎◌, ℕ, ◌≤◌, Option, option_and_then}
use Rattle.rt_base.specs.declared.id.LockId.{LockId}
use Rattle.rt_base.specs.declared.id.TaskId.{TaskId}
use Rattle.rt_model.specs.State.{State, owner_part, task_part}
use Rattle.rt_model.specs.Path.{Edge}

-- an edge leads from the one task to the other
abbrev pub Leads : State → TaskId → TaskId → Type 0
Leads s t u = (l : LockId) × Edge s (record { from = t; lock = l; to = u })

-- where the edge from a task leads, where there is one: to the owner of the lock on which the task is blocked
abbrev pub leads_to : State → TaskId → Option TaskId
leads_to s t = option_and_then (λ (at : LockId × ℕ). (owner_part s at.0).owner) (task_part s t).blocked

-- one or more edges lead from the one task to the other
pub data Reaches (s : State) : TaskId → TaskId → Type 0 where
  at_once : {t u : TaskId} → Leads s t u → Reaches s t u
  onward : {t u v : TaskId} → Leads s t u → Reaches s u v → Reaches s t v

-- the least own priority among the task and all tasks from which edges lead to it
pub record IsGraphPriority (s : State) (t : TaskId) (prio : ℕ) : Type 0 where
  pub own : prio ≤ (task_part s t).own
  pub others : (u : TaskId) → Reaches s u t → prio ≤ (task_part s u).own
  pub one : (prio ≡ (task_part s t).own) ⊎ ((u : TaskId) × Reaches s u t × (prio ≡ (task_part s u).own))
