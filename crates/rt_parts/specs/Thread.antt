-- What holds of the private part of a thread.
use Rattle.std.specs.Prelude.{◌≡◌, ℕ, ◌+◌, ◌<◌, ◌≤◌, List, length, All, Option, Some, None, IfSome, option_map, slice_get}
use Rattle.rt_base.specs.declared.call.Call.{Call}
use Rattle.rt_base.specs.declared.call.Call.TheVariants as calls
use Rattle.rt_base.specs.declared.id.Cpu.{Cpu}
use Rattle.rt_base.specs.declared.id.LockId.{LockId}
use Rattle.rt_base.specs.declared.kind.Kind.{Kind}
use Rattle.rt_base.specs.declared.limits.TheConstants.{MAX_LOCKS, MAX_TASKS}
use Rattle.rt_base.specs.declared.reply.Reply.{Reply}
use Rattle.rt_base.specs.declared.reply.Reply.TheVariants as replies
use Rattle.rt_model.specs.declared.hold.Hold.{Hold}
use Rattle.rt_model.specs.Parts.{ThreadPart, hold_of, kind_of, made_on}
use Rattle.rt_model.specs.Choice.{called_lock}
use Rattle.rt_model.specs.events.Own.{spinning_holds}
use Rattle.rt_model.specs.steps.Thread.{pins_taken, is_start}
use Rattle.rt_model.specs.laws.Migration.{pinned}
use Rattle.rt_model.specs.laws.Shape.{IsThread}

-- what the call gives back with this answer the thread has: a read hold
abbrev pub HasRead : ThreadPart → Option Call → Reply → Type 0
HasRead thread (Some (calls.Unread l)) replies.Done = 0 < (hold_of thread l).reads
HasRead thread call answer = Unit {0}

-- what an event of the call takes from the migration count is counted there
abbrev pub HasPins : ThreadPart → Option Call → Option Reply → Type 0
HasPins thread None reply = Unit {0}
HasPins thread (Some call) reply = pins_taken call (option_map (kind_of thread) (called_lock call)) (is_start thread.phase) reply ≤ thread.migration

-- the migration count is no more than what the holds count, and one for the call
abbrev pub IsCounted : ThreadPart → Type 0
IsCounted thread = thread.migration ≤ pinned thread + 1

pub record CanAnswer (thread : ThreadPart) (call : Option Call) (answer : Reply) : Type 0 where
  pub read : HasRead thread call answer
  pub pins : HasPins thread call (Some answer)
  pub counted : IsCounted thread

-- the thread reads each lock less often than it has answers
abbrev pub CanReadMore : ThreadPart → Type 0
CanReadMore thread = (l : LockId) → (hold_of thread l).reads < thread.answered

-- the lock that the call is about, as it is made on the processor, is one that a script may have
abbrev pub HasLockOn : Cpu → Call → Type 0
HasLockOn cpu call = IfSome (called_lock (made_on cpu call)) (λ l. l.0 < MAX_LOCKS)

-- a thread knows a kind and a hold of each lock, its calls are served where it is and goes, and what it holds of spinning kinds is
-- counted; it reads no lock more often than it has answers, and the kept call is the one that it is at, as made on its processor
pub record IsPrivate (kinds : List Kind) (calls : List Call) (answered : ℕ) (held : List Hold) (count : ℕ) (cpu : Cpu) (at : Option Call) : Type 0 where
  pub thread : IsThread calls answered cpu MAX_TASKS (length kinds)
  pub few : length kinds ≤ MAX_LOCKS
  pub holds : length held ≡ length kinds
  pub spinning : count ≡ spinning_holds kinds held
  pub reads : All (λ (hold : Hold). hold.reads ≤ answered) held
  pub call : at ≡ option_map (made_on cpu) (slice_get calls answered)
