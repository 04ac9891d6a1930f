-- The kept sets of the tasks that have a next event, and of those that walk.
use Rattle.std.specs.Prelude.{◌≡◌, ℕ, ◌<◌}
use Rattle.rt_base.specs.declared.limits.TheConstants.{MAX_TASKS}
use Rattle.rt_model.specs.State.{State}
use Rattle.rt_model.specs.Run.{is_enabled}
use Rattle.rt_model.specs.Order.{is_walking}
use Rattle.rt_core.specs.declared.enabled.Enabled.{Enabled}
use Rattle.rt_core.specs.TaskSet.{has}

-- both sets are right about a task: it is in the one exactly where it has a next event, and in the other exactly where it
-- has one and its chain walk is unfinished
pub record IsKeptAt (s : State) (kept : Enabled) (t : ℕ) : Type 0 where
  pub enabled : has kept.all t ≡ is_enabled s t
  pub walking : has kept.walking t ≡ is_walking s t

-- the sets are those of the state
abbrev pub AreKept : State → Enabled → Type 0
AreKept s kept = (t : ℕ) → t < MAX_TASKS → IsKeptAt s kept t
