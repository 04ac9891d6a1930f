-- Keys law.
use Rattle.std.specs.Prelude.{◌≡◌, ◌⊎◌, IfSome}
use Rattle.rt_base.specs.declared.id.TaskId.{TaskId}
use Rattle.rt_model.specs.declared.phase.Phase.{Phase}
use Rattle.rt_model.specs.declared.phase.Phase.TheVariants as phases
use Rattle.rt_model.specs.Parts.{effective_of}
use Rattle.rt_model.specs.State.{State, task_part, thread_part}

-- a walk in this phase stands at the task
abbrev pub StandsAt : TaskId → Phase → Type 0
StandsAt t (phases.Walk cursor route) = cursor ≡ t
StandsAt t _ = ⊥

-- a walk in this phase is to be confirmed
abbrev pub IsConfirming : Phase → Type 0
IsConfirming (phases.Confirm path) = Unit {0}
IsConfirming _ = ⊥

-- a walk names the task: one stands at it, or its own is to be confirmed
abbrev pub IsNamed : State → TaskId → Type 0
IsNamed s t = ((u : TaskId) × StandsAt t (thread_part s u).phase) ⊎ IsConfirming (thread_part s t).phase

-- a blocked task is queued with its effective priority, but where a walk names it
abbrev pub KeysLaw : State → Type 0
KeysLaw s = (t : TaskId) → (IsNamed s t → ⊥) → IfSome (task_part s t).blocked (λ at. at.1 ≡ effective_of (task_part s t))
