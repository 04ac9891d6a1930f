use Rattle.std.specs.Prelude.{◌⊎◌, ◌<◌, ◌≤◌, length}
use Rattle.rt_base.specs.declared.id.TaskId.{TaskId}
use Rattle.rt_base.specs.declared.limits.TheConstants.{MAX_TASKS}
use Rattle.rt_core.specs.Core.{with_threads}
use Rattle.rt_core.specs.Enabled.{IsKeptAt}
use Rattle.rt_core.proofs.enabled.Enabled.of.Given as goal

-- the sets are right about those looked at, and about all that nobody is
abbrev pub invariant-loop-t : goal.invariant-loop-t
invariant-loop-t l = (u : TaskId) → u.0 < MAX_TASKS → (u.0 < l.t) ⊎ (length l.threads ≤ u.0) → IsKeptAt (with_threads l.shared l.threads) l.enabled u.0
