-- Sets of tasks of the blocking graph, as words, and the least own priority among the tasks of one.
use Rattle.std.specs.Prelude.{◌≡◌, ℕ, ◌<◌, ◌≤◌, Bool, true, false, ◌||◌, length, Option, Some, None}
use Rattle.rt_base.specs.declared.id.TaskId.{TaskId}
use Rattle.rt_model.specs.State.{State, task_part}
use Rattle.rt_model.specs.Rounds.{Set}
use Rattle.rt_core.specs.TaskSet.{has}

-- the word's set
abbrev pub set_of : ℕ → Set
set_of word u = has word u.0

-- the task is in one of the two sets
abbrev pub in_either : ℕ → ℕ → ℕ → Bool
in_either near far u = has near u || has far u

-- it is in one of these, or in the round
abbrev pub in_any : ℕ → ℕ → ℕ → ℕ → Bool
in_any near far round u = in_either near far u || has round u

-- there is a task here, in the set
abbrev pub is_in : ℕ → Option TaskId → Bool
is_in near None = false
is_in near (Some w) = has near w.0

-- no task of the set below n has a better own priority, and a task of the set has this one
pub record IsLeastOwn (s : State) (near n prio : ℕ) : Type 0 where
  pub below : (u : TaskId) → u.0 < n → has near u.0 ≡ true → prio ≤ (task_part s u).own
  pub one : (u : TaskId) × (u.0 < length s.tasks) × (has near u.0 ≡ true) × (prio ≡ (task_part s u).own)
