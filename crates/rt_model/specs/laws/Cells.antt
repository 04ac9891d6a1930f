-- Cells law: who has a cell of a local lock, or waits for one, is on the cell's processor.
use Rattle.std.specs.Prelude.{◌≡◌, ◌<◌, true, length, Some, IfSome}
use Rattle.rt_base.specs.Script.{Script, lock_line}
use Rattle.rt_base.specs.declared.call.Call.TheVariants as calls
use Rattle.rt_base.specs.declared.id.Cpu.{Cpu}
use Rattle.rt_base.specs.declared.id.LockId.{LockId}
use Rattle.rt_base.specs.declared.id.TaskId.{TaskId}
use Rattle.rt_model.specs.Parts.{call_of, hold_of}
use Rattle.rt_model.specs.State.{State, task_part, thread_part}

-- the lock is the cell of this processor, of some local lock
abbrev pub IsCellOn : Script → LockId → Cpu → Type 0
IsCellOn script l cpu = (lock_line script l).cell ≡ Some cpu

-- each task is on a processor of the script; who holds a cell, is queued at one, or is at a call for one, is on the cell's
pub record CellsLaw (script : Script) (s : State) : Type 0 where
  pub on : (t : TaskId) → t.0 < length s.threads → (thread_part s t).cpu.0 < script.cpus
  pub held : (t : TaskId) (l : LockId) (cpu : Cpu) → (hold_of (thread_part s t) l).owns ≡ true → IsCellOn script l cpu → (thread_part s t).cpu ≡ cpu
  pub waits : (t : TaskId) (cpu : Cpu) → IfSome (task_part s t).blocked (λ at. IsCellOn script at.0 cpu → (thread_part s t).cpu ≡ cpu)
  pub called : (t : TaskId) (l : LockId) → call_of (thread_part s t) ≡ Some (calls.Local l) → IsCellOn script l (thread_part s t).cpu
