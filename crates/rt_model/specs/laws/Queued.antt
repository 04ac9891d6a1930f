-- Queued law.
use Rattle.std.specs.Prelude.{◌≡◌, ℕ, false, Option, None, IfSome, option_map}
use Rattle.rt_base.specs.declared.id.LockId.{LockId}
use Rattle.rt_base.specs.declared.id.TaskId.{TaskId}
use Rattle.rt_model.specs.declared.phase.Phase.{Phase}
use Rattle.rt_model.specs.declared.phase.Phase.TheVariants as phases
use Rattle.rt_model.specs.declared.phase.Route.TheVariants as routes
use Rattle.rt_model.specs.Choice.{present_lock}
use Rattle.rt_model.specs.State.{State, owner_part, task_part, thread_part}
use Rattle.rt_model.specs.laws.Owners.{owned_by}

-- the lock for which a thread waits in this phase: queued, on a full walk, or before it is confirmed
abbrev pub awaited_in : Phase → Option LockId → Option LockId
awaited_in phases.Wait lock = lock
awaited_in (phases.Walk cursor (routes.Full path)) lock = lock
awaited_in (phases.Confirm path) lock = lock
awaited_in _ lock = None

-- the lock that a thread asks for, not yet queued
abbrev pub asked_in : Phase → Option LockId → Option LockId
asked_in phases.Inner lock = lock
asked_in phases.Slow lock = lock
asked_in _ lock = None

-- a task is blocked on the lock for which it waits, and owns none for which it waits or that it asks for
pub record QueuedLaw (s : State) : Type 0 where
  pub blocked : (t : TaskId) → option_map (λ (at : LockId × ℕ). at.0) (task_part s t).blocked ≡ awaited_in (thread_part s t).phase (present_lock (thread_part s t))
  pub waiting : (t : TaskId) → IfSome (task_part s t).blocked (λ at. owned_by (owner_part s at.0).owner t ≡ false)
  pub asking : (t : TaskId) → IfSome (asked_in (thread_part s t).phase (present_lock (thread_part s t))) (λ l. owned_by (owner_part s l).owner t ≡ false)
