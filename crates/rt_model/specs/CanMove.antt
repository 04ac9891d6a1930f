-- When a task has a next event: told by its thread and its own task alone, with no look at a lock or at another task.
-- So it changes only for tasks that an event involves.
use Rattle.std.specs.Prelude.{◌≡◌, Bool, true, false, ◌||◌, Option, Some, None, IfSome, is_some, nat_eq}
use Rattle.rt_base.specs.declared.call.Call.{Call}
use Rattle.rt_base.specs.declared.call.Call.TheVariants as calls
use Rattle.rt_base.specs.declared.id.LockId.{LockId}
use Rattle.rt_base.specs.declared.id.TaskId.{TaskId}
use Rattle.rt_model.specs.declared.event.Event.{Event}
use Rattle.rt_model.specs.declared.event_kind.EventKind.{EventKind}
use Rattle.rt_model.specs.declared.event_kind.EventKind.TheVariants as kinds
use Rattle.rt_model.specs.declared.phase.Phase.{Phase}
use Rattle.rt_model.specs.declared.phase.Phase.TheVariants as phases
use Rattle.rt_model.specs.Parts.{TaskPart, ThreadPart, call_of}
use Rattle.rt_model.specs.Choice.{called_lock}
use Rattle.rt_model.specs.steps.Task.{runs, passes}
use Rattle.rt_model.specs.events.Own.{own_answer}
use Rattle.rt_model.specs.events.Wait.{is_awake}

-- a call that its thread doesn't answer at once, as it does every `move`, has a first event, but where it gives the processor up
-- and its task may not go on
abbrev pub has_first : Call → TaskPart → Bool
has_first (calls.Move cpu) task = false
has_first calls.Schedule task = passes task
has_first _ task = true

-- a call that has made its first event goes on, while it is queued only where its task runs or is interrupted, and while it sleeps for
-- readers only where its task runs
abbrev pub can_go_on : Phase → ThreadPart → TaskPart → Option LockId → Bool
can_go_on phases.Inner thread task (Some l) = true
can_go_on phases.Slow thread task (Some l) = true
can_go_on phases.Wait thread task (Some l) = is_awake (call_of thread) task
can_go_on (phases.Walk cursor route) thread task lock = true
can_go_on (phases.Confirm path) thread task lock = true
can_go_on phases.ReadIn thread task (Some l) = true
can_go_on phases.Unbias thread task (Some l) = true
can_go_on phases.WTry thread task (Some l) = true
can_go_on phases.WWait thread task (Some l) = runs task.state
can_go_on phases.Release thread task (Some l) = true
can_go_on phases.WakeWriter thread task (Some l) = true
can_go_on _ thread task lock = false

abbrev pub can_in : Phase → ThreadPart → TaskPart → Call → Bool
can_in phases.Start thread task call = is_some (own_answer thread call) || has_first call task
can_in phase thread task call = can_go_on phase thread task (called_lock call)

abbrev pub can_at : ThreadPart → TaskPart → Option Call → Bool
can_at thread task None = false
can_at thread task (Some call) = can_in thread.phase thread task call

-- the task of this thread has a next event
abbrev pub can_move : ThreadPart → TaskPart → Bool
can_move thread task = can_at thread task (call_of thread)

-- the slot, where it names a task, names another one
abbrev pub IsOther : TaskId → Option TaskId → Type 0
IsOther u named = IfSome named (λ v. nat_eq v.0 u.0 ≡ false)

-- whom a wakeup or a signal goes to
abbrev pub target_at : EventKind → Event → Option TaskId
target_at kinds.Wake e = e.other
target_at _ e = None

abbrev pub target_of : Event → Option TaskId
target_of e = target_at e.kind e

-- the task neither acts in the event nor is woken or signalled by it
pub record IsUninvolved (u : TaskId) (e : Event) : Type 0 where
  pub task : nat_eq e.task.0 u.0 ≡ false
  pub woken : IsOther u e.woken
  pub target : IsOther u (target_of e)
