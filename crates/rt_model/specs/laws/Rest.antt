-- What holds at rest.
use Rattle.std.specs.Prelude.{◌≡◌, ℕ, false, List}
use Rattle.rt_base.specs.declared.id.TaskId.{TaskId}
use Rattle.rt_model.specs.Parts.{effective_of}
use Rattle.rt_model.specs.State.{State, task_part, thread_part}
use Rattle.rt_model.specs.Order.{in_walk}
use Rattle.rt_model.specs.Path.{IsCycle}
use Rattle.rt_model.specs.Graph.{IsGraphPriority}

-- no walk is pending
abbrev pub IsAtRest : State → Type 0
IsAtRest s = (t : TaskId) → in_walk (thread_part s t).phase ≡ false

-- at rest each task's effective priority is its graph priority, and no cycle stands
pub record RestLaw (s : State) : Type 0 where
  pub priorities : IsAtRest s → (t : TaskId) → IsGraphPriority s t (effective_of (task_part s t))
  pub cycles : IsAtRest s → (cycle : List (ℕ × ℕ)) → IsCycle s cycle → ⊥
