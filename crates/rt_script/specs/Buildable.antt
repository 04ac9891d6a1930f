-- What the test of a plan looks at, one task and one lock after the other.
use Rattle.std.specs.Prelude.{ℕ, zero, suc, ◌-◌, ◌<◌, ◌≤◌, All, Option, Some, None}
use Rattle.rt_base.specs.declared.kind.Kind.{Kind}
use Rattle.rt_base.specs.declared.kind.Kind.TheVariants as kinds
use Rattle.rt_base.specs.declared.limits.TheConstants.{MAX_PRIO}
use Rattle.rt_base.specs.Script.{IsCallOf}
use Rattle.rt_script.specs.Building.{Plan, TaskPlan, built}

-- a task's priority and processor are in range, and each of its calls is one of the script
abbrev pub IsTaskFor : Plan → TaskPlan → Type 0
IsTaskFor plan task =
    (task.own ≤ MAX_PRIO) × (task.cpu.0 < plan.cpus) × All (IsCallOf (built plan)) task.calls

-- how many cells of the last local lock are missing after a lock of some kind, where so many were before it
abbrev pub cells_missing : ℕ → ℕ → Kind → Option ℕ
cells_missing cpus zero kinds.Local = Some (cpus - 1)
cells_missing cpus (suc n) kinds.Local = Some n
cells_missing cpus zero kind = Some 0
cells_missing cpus (suc n) kind = None
