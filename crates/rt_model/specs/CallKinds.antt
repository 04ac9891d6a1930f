-- Which calls the threads of a state make, and in which of them a phase can stand.
use Rattle.std.specs.Prelude.{◌≡◌, ◌≢◌, ◌⊎◌, ℕ, ◌<◌, ◌≤◌, Bool, true, false, List, length, All, Option, Some, option_map, slice_get}
use Rattle.rt_base.specs.declared.call.Call.{Call}
use Rattle.rt_base.specs.declared.call.Call.TheVariants.{Lock, LockInt, TryLock, Unlock, Spin, TrySpin, Unspin, Read, TryRead, Unread, Write, TryWrite, Unwrite, Downgrade, Local, Unlocal, State as SetState, Schedule, Wake, Signal, SetPrio, Move}
use Rattle.rt_base.specs.declared.id.Cpu.{Cpu}
use Rattle.rt_base.specs.declared.kind.Kind.{Kind}
use Rattle.rt_base.specs.declared.kind.Kind.TheVariants as kinds
use Rattle.rt_base.specs.declared.limits.TheConstants.{MAX_PRIO}
use Rattle.rt_base.specs.declared.reply.Reply.{Reply}
use Rattle.rt_base.specs.declared.reply.Reply.TheVariants.{Deadlock, Interrupted, Done}
use Rattle.rt_base.specs.declared.state.TaskState.TheVariants.{LockWait}
use Rattle.rt_model.specs.declared.phase.Phase.{Phase}
use Rattle.rt_model.specs.declared.phase.Phase.TheVariants as phases
use Rattle.rt_model.specs.declared.phase.Route.TheVariants.{Full, Short}
use Rattle.rt_model.specs.Parts.{ThreadPart, has_readers, made_on}
use Rattle.rt_model.specs.State.{State}

-- the call names a lock or a task that is there, sets a state that a task may set itself, or a priority in its range
abbrev pub IsServed : ℕ → ℕ → Call → Type 0
IsServed tasks locks (Lock l) = l.0 < locks
IsServed tasks locks (LockInt l) = l.0 < locks
IsServed tasks locks (TryLock l) = l.0 < locks
IsServed tasks locks (Unlock l) = l.0 < locks
IsServed tasks locks (Spin l) = l.0 < locks
IsServed tasks locks (TrySpin l) = l.0 < locks
IsServed tasks locks (Unspin l) = l.0 < locks
IsServed tasks locks (Read l) = l.0 < locks
IsServed tasks locks (TryRead l) = l.0 < locks
IsServed tasks locks (Unread l) = l.0 < locks
IsServed tasks locks (Write l) = l.0 < locks
IsServed tasks locks (TryWrite l) = l.0 < locks
IsServed tasks locks (Unwrite l) = l.0 < locks
IsServed tasks locks (Downgrade l) = l.0 < locks
IsServed tasks locks (SetState state) = state ≢ LockWait
IsServed tasks locks Schedule = Unit {0}
IsServed tasks locks (Wake t) = t.0 < tasks
IsServed tasks locks (Signal t) = t.0 < tasks
IsServed tasks locks (SetPrio t prio) = (t.0 < tasks) × (prio ≤ MAX_PRIO)
IsServed tasks locks (Local l) = l.0 < locks
IsServed tasks locks (Unlocal l) = l.0 < locks
IsServed tasks locks (Move cpu) = Unit {0}

-- the lock of this number is of a reader/writer kind
abbrev pub HasReadersAt : List Kind → ℕ → Type 0
HasReadersAt all l = option_map has_readers (slice_get all l) ≡ Some true

-- the call is one that its lock's kind has
abbrev pub IsForKind : List Kind → Call → Type 0
IsForKind all (Lock l) = slice_get all l.0 ≡ Some kinds.Mutex
IsForKind all (LockInt l) = slice_get all l.0 ≡ Some kinds.Mutex
IsForKind all (TryLock l) = slice_get all l.0 ≡ Some kinds.Mutex
IsForKind all (Unlock l) = slice_get all l.0 ≡ Some kinds.Mutex
IsForKind all (Spin l) = slice_get all l.0 ≡ Some kinds.Spin
IsForKind all (TrySpin l) = slice_get all l.0 ≡ Some kinds.Spin
IsForKind all (Unspin l) = slice_get all l.0 ≡ Some kinds.Spin
IsForKind all (Read l) = HasReadersAt all l.0
IsForKind all (TryRead l) = HasReadersAt all l.0
IsForKind all (Unread l) = HasReadersAt all l.0
IsForKind all (Write l) = HasReadersAt all l.0
IsForKind all (TryWrite l) = HasReadersAt all l.0
IsForKind all (Unwrite l) = HasReadersAt all l.0
IsForKind all (Downgrade l) = HasReadersAt all l.0
IsForKind all (Local l) = slice_get all l.0 ≡ Some kinds.Local
IsForKind all (Unlocal l) = slice_get all l.0 ≡ Some kinds.Local
IsForKind all _ = Unit {0}

-- a `move` is to one of so many processors
abbrev pub MovesWithin : ℕ → Call → Type 0
MovesWithin cpus (Move cpu) = cpu.0 < cpus
MovesWithin cpus call = Unit {0}

-- this holds of the call on whichever of the processors it is made
abbrev pub OnEachCpu : ℕ → (Call → Type 0) → Call → Type 0
OnEachCpu cpus P call = (cpu : Cpu) → cpu.0 < cpus → P (made_on cpu call)

-- each thread is on one of the processors, and stays on these; each of its calls is served there, and is for its lock's kind
pub record CallsFit (s : State) : Type 0 where
  pub cpus : ℕ
  pub on : All (λ (thread : ThreadPart). thread.cpu.0 < cpus) s.threads
  pub moves : All (λ (thread : ThreadPart). All (MovesWithin cpus) thread.calls) s.threads
  pub served : All (λ (thread : ThreadPart). All (OnEachCpu cpus (IsServed (length s.threads) (length s.locks))) thread.calls) s.threads
  pub fit : All (λ (thread : ThreadPart). All (OnEachCpu cpus (IsForKind thread.kinds)) thread.calls) s.threads

-- a call that waits where it may not have its lock's owner part at once
abbrev pub waits : Call → Bool
waits (Lock l) = true
waits (LockInt l) = true
waits (Spin l) = true
waits (Local l) = true
waits (Read l) = true
waits (Write l) = true
waits _ = false

-- a call that waits to read, one that waits to write, and one that writes, which may also only try
abbrev pub waits_to_read : Call → Bool
waits_to_read (Read l) = true
waits_to_read _ = false

abbrev pub waits_to_write : Call → Bool
waits_to_write (Write l) = true
waits_to_write _ = false

abbrev pub writes : Call → Bool
writes (Write l) = true
writes (TryWrite l) = true
writes _ = false

-- a call that ends with the release of an inner lock, and one that ends a read
abbrev pub releases_inner : Call → Bool
releases_inner (Read l) = true
releases_inner (TryWrite l) = true
releases_inner (Unwrite l) = true
releases_inner (Downgrade l) = true
releases_inner _ = false

abbrev pub ends_read : Call → Bool
ends_read (Unread l) = true
ends_read _ = false

-- the answers that are still to come while a call makes its short walk
abbrev pub IsToCome : Call → Reply → Type 0
IsToCome (Lock l) answer = answer ≡ Deadlock
IsToCome (LockInt l) answer = (answer ≡ Deadlock) ⊎ (answer ≡ Interrupted)
IsToCome (Spin l) answer = answer ≡ Deadlock
IsToCome (Local l) answer = answer ≡ Deadlock
IsToCome (Read l) answer = answer ≡ Deadlock
IsToCome (Write l) answer = answer ≡ Deadlock
IsToCome (SetPrio t prio) answer = answer ≡ Done
IsToCome _ answer = ⊥

-- the calls in which a phase can stand: a full walk in one that waits, a short one before such an answer, and what a reader or a
-- writer does in one of its own
abbrev pub IsPhaseOf : Phase → Option Call → Type 0
IsPhaseOf phases.Start call = Unit {0}
IsPhaseOf phases.Inner (Some call) = waits_to_read call ≡ true
IsPhaseOf phases.Slow (Some call) = waits call ≡ true
IsPhaseOf phases.Wait (Some call) = waits call ≡ true
IsPhaseOf (phases.Walk cursor (Full path)) (Some call) = waits call ≡ true
IsPhaseOf (phases.Walk cursor (Short answer)) (Some call) = IsToCome call answer
IsPhaseOf (phases.Confirm path) (Some call) = waits call ≡ true
IsPhaseOf phases.ReadIn (Some call) = waits_to_read call ≡ true
IsPhaseOf phases.Unbias (Some call) = writes call ≡ true
IsPhaseOf phases.WTry (Some call) = writes call ≡ true
IsPhaseOf phases.WWait (Some call) = waits_to_write call ≡ true
IsPhaseOf phases.Release (Some call) = releases_inner call ≡ true
IsPhaseOf phases.WakeWriter (Some call) = ends_read call ≡ true
IsPhaseOf _ call = ⊥
