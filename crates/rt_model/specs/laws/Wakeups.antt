-- No wakeup is lost to a wait for a spinning kind: states, signals and answers are the flat machine's, which knows no such wait.
use Rattle.std.specs.Prelude.{◌≡◌, ◌<◌, Bool, true, false, List, ◌∷◌, ◌++◌, length, Option, Some, if◌then◌else◌}
use Rattle.rt_base.specs.Script.{Script}
use Rattle.rt_base.specs.declared.id.TaskId.{TaskId}
use Rattle.rt_base.specs.declared.reply.Reply.{Reply}
use Rattle.rt_base.specs.declared.reply.Reply.TheVariants.{Woke, Missed}
use Rattle.rt_base.specs.declared.state.TaskState.{TaskState}
use Rattle.rt_model.specs.declared.event.Event.{Event}
use Rattle.rt_model.specs.declared.event_kind.EventKind.TheVariants.{Wake}
use Rattle.rt_model.specs.Parts.{TaskPart, ThreadPart}
use Rattle.rt_model.specs.State.{start, task_part, thread_part}
use Rattle.rt_model.specs.Run.{after}
use Rattle.rt_model.specs.laws.States.{waits_spinning}
use Rattle.rt_model.specs.laws.Flat.{flat_answer, flat_of}

-- the saved state while the task of this thread waits for a spinning kind, else its state
abbrev pub flat_state : ThreadPart → TaskPart → TaskState
flat_state thread task = if waits_spinning thread task then task.saved else task.state

-- a call is answered so where it ended a sleep, or where there was none to end
abbrev pub tells_wakeup : Option Reply → Bool
tells_wakeup (Some Woke) = true
tells_wakeup (Some Missed) = true
tells_wakeup _ = false

-- after each prefix of the events this state of each task is the flat machine's, and so is its signal flag; the answer of each
-- wakeup and each signal is the flat machine's of its target, and no other event is answered so
pub record WakeupsLaw (script : Script) (events : List Event) : Type 0 where
  pub states : (prefix rest : List Event) (t : TaskId) → prefix ++ rest ≡ events → t.0 < length script.tasks
      → flat_state (thread_part (after (start script) prefix) t) (task_part (after (start script) prefix) t) ≡ (flat_of script t prefix).state
  pub signals : (prefix rest : List Event) (t : TaskId) → prefix ++ rest ≡ events → t.0 < length script.tasks
      → (task_part (after (start script) prefix) t).signal ≡ (flat_of script t prefix).signal
  pub answers : (prefix rest : List Event) (e : Event) → prefix ++ e ∷ rest ≡ events → e.kind ≡ Wake
      → (u : TaskId) × (e.other ≡ Some u) × (e.reply ≡ Some (flat_answer e.value (flat_of script u prefix)))
  pub told : (prefix rest : List Event) (e : Event) → prefix ++ e ∷ rest ≡ events → tells_wakeup e.reply ≡ true → e.kind ≡ Wake
