-- Owners law.
use Rattle.std.specs.Prelude.{◌≡◌, Bool, true, false, ◌&&◌, ◌||◌, Option, Some, None, nat_eq}
use Rattle.rt_base.specs.declared.call.Call.{Call}
use Rattle.rt_base.specs.declared.call.Call.TheVariants.{Unwrite, Downgrade}
use Rattle.rt_base.specs.declared.id.LockId.{LockId}
use Rattle.rt_base.specs.declared.id.TaskId.{TaskId}
use Rattle.rt_model.specs.declared.phase.Phase.{Phase}
use Rattle.rt_model.specs.declared.phase.Phase.TheVariants as phases
use Rattle.rt_model.specs.Parts.{ThreadPart, call_of, hold_of}
use Rattle.rt_model.specs.Choice.{present_lock, is_on}
use Rattle.rt_model.specs.State.{State, owner_part, thread_part}

-- the task owns the lock
abbrev pub owned_by : Option TaskId → TaskId → Bool
owned_by None t = false
owned_by (Some owner) t = nat_eq owner.0 t.0

-- a reader or a writer in this phase has the inner lock: it passes it on its way in, or out
abbrev pub has_inner : Phase → Bool
has_inner phases.Unbias = true
has_inner phases.WTry = true
has_inner phases.WWait = true
has_inner phases.ReadIn = true
has_inner phases.Release = true
has_inner _ = false

-- the thread's call on this lock is in such a phase
abbrev pub is_passing : ThreadPart → LockId → Bool
is_passing thread l = has_inner thread.phase && is_on (present_lock thread) l

-- so by its own part a thread has the owner part of this lock: it owns it by a hold, or is on its way
abbrev pub has_owner_part : ThreadPart → LockId → Bool
has_owner_part thread l = (hold_of thread l).owns || is_passing thread l

-- a writer that has left, or downgraded, is to release the inner lock
abbrev pub gives_back : Phase → Option Call → Bool
gives_back phases.Release (Some (Unwrite l)) = true
gives_back phases.Release (Some (Downgrade l)) = true
gives_back phase call = false

-- a task owns a lock exactly where it has the owner part by its own thread; who is on its way owns it by a hold exactly where it
-- gives that back
pub record OwnersLaw (s : State) : Type 0 where
  pub owned : (l : LockId) (t : TaskId) → has_owner_part (thread_part s t) l ≡ owned_by (owner_part s l).owner t
  pub inside : (l : LockId) (t : TaskId) → is_passing (thread_part s t) l ≡ true
      → (hold_of (thread_part s t) l).owns ≡ gives_back (thread_part s t).phase (call_of (thread_part s t))
