-- States law.
use Rattle.std.specs.Prelude.{◌≡◌, ◌≢◌, ◌⊎◌, ℕ, Bool, true, false, ◌||◌, ◌&&◌, Option, Some, None}
use Rattle.rt_base.specs.Kind.{spins}
use Rattle.rt_base.specs.declared.id.LockId.{LockId}
use Rattle.rt_base.specs.declared.kind.Kind.{Kind}
use Rattle.rt_base.specs.declared.id.TaskId.{TaskId}
use Rattle.rt_base.specs.declared.state.TaskState.TheVariants.{Running, LockWait}
use Rattle.rt_model.specs.declared.phase.Phase.{Phase}
use Rattle.rt_model.specs.declared.phase.Phase.TheVariants.{WWait}
use Rattle.rt_model.specs.Parts.{TaskPart, ThreadPart, kind_of, kind_named}
use Rattle.rt_model.specs.Choice.{present_lock}
use Rattle.rt_model.specs.State.{State, task_part, thread_part}

-- the lock at which a task is blocked, as its thread knows it, is of a spinning kind
abbrev pub spins_at : ThreadPart → Option (LockId × ℕ) → Bool
spins_at thread None = false
spins_at thread (Some at) = spins (kind_of thread at.0)

-- a writer in this phase has slept for readers
abbrev pub has_slept : Phase → Bool
has_slept WWait = true
has_slept _ = false

-- and its lock, which its present call is about, is of a spinning kind
abbrev pub sleeps_spinning : Phase → Kind → Bool
sleeps_spinning phase kind = has_slept phase && spins kind

-- the task of this thread waits for a spinning kind: it is blocked on a lock of one, or sleeps for the readers of one
abbrev pub waits_spinning : ThreadPart → TaskPart → Bool
waits_spinning thread task = spins_at thread task.blocked || sleeps_spinning thread.phase (kind_named thread (present_lock thread))

-- a task that waits for a spinning kind is in the lock-wait state, or was woken from it, and what is saved isn't that state; any
-- other task isn't in it, and has saved nothing
abbrev pub IsRested : Bool → TaskPart → Type 0
IsRested true task = ((task.state ≡ LockWait) ⊎ (task.state ≡ Running)) × (task.saved ≢ LockWait)
IsRested false task = (task.state ≢ LockWait) × (task.saved ≡ Running)

-- so each task
abbrev pub StatesLaw : State → Type 0
StatesLaw s = (t : TaskId) → IsRested (waits_spinning (thread_part s t) (task_part s t)) (task_part s t)
