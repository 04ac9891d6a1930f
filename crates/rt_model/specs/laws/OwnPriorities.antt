-- Own-priorities law.
use Rattle.std.specs.Prelude.{◌≤◌}
use Rattle.rt_base.specs.declared.id.TaskId.{TaskId}
use Rattle.rt_base.specs.declared.limits.TheConstants.{MAX_PRIO}
use Rattle.rt_model.specs.State.{State, task_part}

-- a task's own priority is within the range; so is the effective one then, which is no worse
abbrev pub OwnPrioritiesLaw : State → Type 0
OwnPrioritiesLaw s = (t : TaskId) → (task_part s t).own ≤ MAX_PRIO
