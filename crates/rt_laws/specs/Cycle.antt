-- Where no cycle is.
use Rattle.std.specs.Prelude.{◌≢◌, ℕ, List, All}
use Rattle.rt_base.specs.declared.id.TaskId.{TaskId}
use Rattle.rt_model.specs.State.{State}
use Rattle.rt_model.specs.Path.{IsCycle}

-- no cycle goes through the task
abbrev pub IsOnNone : State → TaskId → Type 0
IsOnNone s t = (cycle : List (ℕ × ℕ)) → IsCycle s cycle → All (λ (pair : ℕ × ℕ). t.0 ≢ pair.0) cycle
