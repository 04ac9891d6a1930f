-- Woken-writer law.
use Rattle.std.specs.Prelude.{◌≡◌, ◌≢◌, true, Some}
use Rattle.rt_base.specs.declared.id.LockId.{LockId}
use Rattle.rt_base.specs.declared.id.TaskId.{TaskId}
use Rattle.rt_base.specs.declared.state.TaskState.TheVariants.{Running}
use Rattle.rt_model.specs.declared.phase.Phase.TheVariants.{WakeWriter}
use Rattle.rt_model.specs.Choice.{present_lock}
use Rattle.rt_model.specs.State.{State, reader_part, task_part, thread_part}
use Rattle.rt_model.specs.laws.States.{has_slept}

-- a thread is to wake the writer of this lock
pub record IsWaker (s : State) (l : LockId) (u : TaskId) : Type 0 where
  pub phase : (thread_part s u).phase ≡ WakeWriter
  pub lock : present_lock (thread_part s u) ≡ Some l

-- a writer that sleeps at a lock with no reader left is to be woken by some thread
abbrev pub WokenWriterLaw : State → Type 0
WokenWriterLaw s = (t : TaskId) (l : LockId) → has_slept (thread_part s t).phase ≡ true → present_lock (thread_part s t) ≡ Some l
    → (task_part s t).state ≢ Running → (reader_part s l).count ≡ 0 → (u : TaskId) × IsWaker s l u
