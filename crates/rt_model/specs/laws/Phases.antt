-- Phases law.
use Rattle.rt_base.specs.declared.id.TaskId.{TaskId}
use Rattle.rt_model.specs.Parts.{call_of}
use Rattle.rt_model.specs.State.{State, thread_part}
use Rattle.rt_model.specs.CallKinds.{IsPhaseOf}

-- each thread's phase is one of its call, and Start at the end of its calls
abbrev pub PhasesLaw : State → Type 0
PhasesLaw s = (t : TaskId) → IsPhaseOf (thread_part s t).phase (call_of (thread_part s t))
