-- Readers law.
use Rattle.std.specs.Prelude.{◌≡◌, ℕ, ◌+◌, ◌-◌, ◌≤◌, Bool, true, false, not, ◌&&◌, ◌||◌, List, length, map, sum, Option, Some, None, if◌then◌else◌}
use Rattle.rt_base.specs.declared.call.Call.{Call}
use Rattle.rt_base.specs.declared.call.Call.TheVariants.{Read, Downgrade}
use Rattle.rt_base.specs.declared.id.LockId.{LockId}
use Rattle.rt_base.specs.declared.id.TaskId.{TaskId}
use Rattle.rt_model.specs.declared.phase.Phase.{Phase}
use Rattle.rt_model.specs.declared.phase.Phase.TheVariants as phases
use Rattle.rt_model.specs.Parts.{ThreadPart, call_of, hold_of, kind_of, has_readers}
use Rattle.rt_model.specs.Choice.{present_lock, is_on}
use Rattle.rt_model.specs.State.{State, owner_part, reader_part, thread_part}
use Rattle.rt_model.specs.laws.Owners.{is_passing}
use Rattle.rt_model.specs.laws.Shape.{calls_of}

-- ---- writers

-- a writer in this phase has removed the bias, and isn't in
abbrev pub is_unbiased : Phase → Bool
is_unbiased phases.WTry = true
is_unbiased phases.WWait = true
is_unbiased _ = false

-- the thread's writer has removed the lock's bias, and isn't in
abbrev pub is_closing : ThreadPart → LockId → Bool
is_closing thread l = is_unbiased thread.phase && is_on (present_lock thread) l

-- the thread's writer is in: it holds the reader/writer lock for writing, and isn't on its way out
abbrev pub is_writing : ThreadPart → LockId → Bool
is_writing thread l = has_readers (kind_of thread l) && (hold_of thread l).owns && not (is_passing thread l)

-- something of a lock's owner, where it has one
abbrev pub of_owner : (ThreadPart → Bool) → State → Option TaskId → Bool
of_owner test s None = false
of_owner test s (Some t) = test (thread_part s t)

-- ---- readers

-- a call in this phase has a reader in and no answer: one that got in by the inner lock, or that downgraded
abbrev pub has_come : Phase → Option Call → Bool
has_come phases.Release (Some (Read l)) = true
has_come phases.Release (Some (Downgrade l)) = true
has_come phase call = false

-- one in this phase has left, and has no answer: the last reader, that is to wake the writer
abbrev pub has_gone : Phase → Bool
has_gone phases.WakeWriter = true
has_gone _ = false

-- how many readers a thread's call on this lock adds to its holds, or takes from them
abbrev pub coming : ThreadPart → LockId → ℕ
coming thread l = if has_come thread.phase (call_of thread) && is_on (present_lock thread) l then 1 else 0

abbrev pub going : ThreadPart → LockId → ℕ
going thread l = if has_gone thread.phase && is_on (present_lock thread) l then 1 else 0

-- how many readers of this lock a thread is
abbrev pub readers_by : ThreadPart → LockId → ℕ
readers_by thread l = (hold_of thread l).reads + coming thread l - going thread l

-- how many all threads are
abbrev pub all_readers : List ThreadPart → LockId → ℕ
all_readers threads l = sum (map (λ (thread : ThreadPart). readers_by thread l) threads)

-- ---- the law

-- the bias is off exactly where the lock's owner is a writer that has removed it, until it sets it again; the write flag is set
-- exactly while it is in, with no reader beside it; the count is that of the threads' readers; who is to wake a writer has a read
-- hold of its lock; no thread has more read holds of a lock than answers, nor more answers than calls, so the count is at most the
-- number of all calls
pub record ReadersLaw (s : State) : Type 0 where
  pub bias : (l : LockId)
      → (reader_part s l).bias ≡ not (of_owner (λ thread. is_closing thread l || is_writing thread l) s (owner_part s l).owner)
  pub writer : (l : LockId) → (reader_part s l).writer ≡ of_owner (λ thread. is_writing thread l) s (owner_part s l).owner
  pub alone : (l : LockId) → (reader_part s l).writer ≡ true → (reader_part s l).count ≡ 0
  pub count : (l : LockId) → (reader_part s l).count ≡ all_readers s.threads l
  pub gone : (l : LockId) (t : TaskId) → going (thread_part s t) l ≤ (hold_of (thread_part s t) l).reads
  pub few : (l : LockId) (t : TaskId) → (hold_of (thread_part s t) l).reads ≤ (thread_part s t).answered
  pub within : (t : TaskId) → (thread_part s t).answered ≤ length (thread_part s t).calls
  pub most : (l : LockId) → (reader_part s l).count ≤ calls_of s.threads
