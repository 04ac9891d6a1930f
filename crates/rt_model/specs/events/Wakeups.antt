-- States, wakeups, priorities: state, sched, wake, setprio.
use Rattle.std.specs.Prelude.{ℕ, Option, Some, None, if◌then◌else◌}
use Rattle.rt_base.specs.declared.id.TaskId.{TaskId}
use Rattle.rt_base.specs.declared.reply.Reply.TheVariants.{Done}
use Rattle.rt_base.specs.declared.state.TaskState.{TaskState}
use Rattle.rt_base.specs.declared.state.TaskState.TheVariants.{Running}
use Rattle.rt_model.specs.declared.event.Event.{Event}
use Rattle.rt_model.specs.declared.event_kind.EventKind.TheVariants as kinds
use Rattle.rt_model.specs.declared.phase.Route.TheVariants.{Short}
use Rattle.rt_model.specs.Parts.{TaskPart, effective_of}
use Rattle.rt_model.specs.steps.Task.{with_own, woken_by, wake_answer, signal_answer, state_number, state_numbered, passes}
use Rattle.rt_model.specs.steps.Chain.{goes_on, phase_of_walk, answer_of_walk}
use Rattle.rt_model.specs.Effect.{Rule, nothing, unchanged}
use Rattle.rt_model.specs.Choice.{bare, boost_of}

-- ---- state: a task sets its own state (`set_current_state`)

abbrev pub state_event : TaskId → TaskState → Event
state_event t state = record (bare t kinds.State) { value = state_number state; reply = Some Done }

abbrev pub state : Rule
state = record {
  touched = λ e. record nothing { own = Some e.task };
  effect = λ e thread found. record unchanged { own = λ lock task. record task { state = state_numbered e.value } };
}

-- ---- sched: a task that has given the processor up goes on (`schedule`), which it may do unless it sleeps

abbrev pub sched_event : TaskId → Event
sched_event t = record (bare t kinds.Sched) { reply = Some Done }

abbrev pub schedule_event : TaskId → TaskPart → Option Event
schedule_event t task = if passes task then Some (sched_event t) else None

-- it runs, and a signal stays pending
abbrev pub sched : Rule
sched = record {
  touched = λ e. record nothing { own = Some e.task };
  effect = λ e thread found. record unchanged { own = λ lock task. record task { state = Running } };
}

-- ---- wake: a wakeup (`wake_up_process`) or a signal

abbrev pub wake_event : TaskId → TaskId → TaskPart → Event
wake_event t u task = record (bare t kinds.Wake) { other = Some u; reply = Some (wake_answer task) }

abbrev pub signal_event : TaskId → TaskId → TaskPart → Event
signal_event t u task = record (bare t kinds.Wake) { other = Some u; value = 1; reply = Some (signal_answer task) }

-- the target, by the number that tells a signal apart
abbrev pub wake : Rule
wake = record {
  touched = λ e. record nothing { other = e.other };
  effect = λ e thread found. record unchanged { other = λ lock task. woken_by e.value task };
}

-- ---- setprio: a task gets another priority of its own

abbrev pub setprio_event : TaskId → TaskId → ℕ → TaskPart → Event
setprio_event t u prio task = record (bare t kinds.SetPrio) {
  other = Some u;
  value = prio;
  boost = boost_of u (effective_of task) (effective_of (with_own prio task));
  reply = answer_of_walk (Short Done) (goes_on t (Short Done) (Some u) (with_own prio task));
}

-- the priority is set; where the task is queued with a key that is old now, a short walk begins there
abbrev pub setprio : Rule
setprio = record {
  touched = λ e. record nothing { other = e.other };
  effect = λ e thread found. record unchanged {
    other = λ lock task. with_own e.value task;
    thread = λ left th. record th { phase = phase_of_walk (goes_on e.task (Short Done) e.other left.other) };
  };
}
