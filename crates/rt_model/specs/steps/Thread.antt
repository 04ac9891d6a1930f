-- Steps on a thread.
use Rattle.std.specs.Prelude.{ℕ, ◌+◌, ◌-◌, Bool, true, false, List, Option, Some, None, option_map, slice_set}
use Rattle.rt_base.specs.declared.call.Call.{Call}
use Rattle.rt_base.specs.declared.call.Call.TheVariants as calls
use Rattle.rt_base.specs.declared.id.Cpu.{Cpu}
use Rattle.rt_base.specs.declared.id.LockId.{LockId}
use Rattle.rt_base.specs.declared.kind.Kind.{Kind}
use Rattle.rt_base.specs.declared.kind.Kind.TheVariants.{RwLock}
use Rattle.rt_base.specs.declared.reply.Reply.{Reply}
use Rattle.rt_base.specs.declared.reply.Reply.TheVariants as replies
use Rattle.rt_model.specs.declared.hold.Hold.{Hold}
use Rattle.rt_model.specs.declared.phase.Phase.{Phase}
use Rattle.rt_model.specs.declared.phase.Phase.TheVariants as phases
use Rattle.rt_model.specs.Parts.{ThreadPart, call_of, hold_of, kind_of}
use Rattle.rt_model.specs.Choice.{called_lock}

-- ---- an owner part is acquired, or released

-- got: the acquire of an owner part is over. A reader gets in next, a writer removes the bias, and any other call is answered
abbrev pub phase_after_got : Option Call → Phase → Phase
phase_after_got (Some (calls.Read l)) phase = phases.ReadIn
phase_after_got (Some (calls.Write l)) phase = phases.Unbias
phase_after_got (Some (calls.TryWrite l)) phase = phases.Unbias
phase_after_got call phase = phase

abbrev pub got_answer : Option Call → Option Reply
got_answer (Some (calls.Read l)) = None
got_answer (Some (calls.Write l)) = None
got_answer (Some (calls.TryWrite l)) = None
got_answer call = Some replies.Got

-- the release of an owner part ends a call: a reader that came in by the inner lock has what it asked for, a writer that only tried
-- hasn't, and a releasing call is done
abbrev pub released_answer : Option Call → Reply
released_answer (Some (calls.Read l)) = replies.Got
released_answer (Some (calls.TryWrite l)) = replies.Busy
released_answer call = replies.Done

-- a reader that finds a writer in goes on to the inner lock
abbrev pub phase_after_busy : Option Call → Phase → Phase
phase_after_busy (Some (calls.Read l)) phase = phases.Inner
phase_after_busy call phase = phase

-- ---- holds

-- the thread holds the lock, or no longer does
abbrev pub with_hold : ThreadPart → LockId → Bool → List Hold
with_hold thread l owns = slice_set thread.holds l.0 (record (hold_of thread l) { owns = owns })

-- it holds it for reading once more, or once less
abbrev pub with_read : ThreadPart → LockId → List Hold
with_read thread l = slice_set thread.holds l.0 (record (hold_of thread l) { reads = (hold_of thread l).reads + 1 })

abbrev pub without_read : ThreadPart → LockId → List Hold
without_read thread l = slice_set thread.holds l.0 (record (hold_of thread l) { reads = (hold_of thread l).reads - 1 })

-- its write hold becomes a read hold
abbrev pub downgraded : ThreadPart → LockId → List Hold
downgraded thread l = slice_set thread.holds l.0 (record { owns = false; reads = (hold_of thread l).reads + 1 })

-- what a thread holds once its call has this answer
abbrev pub holds_after : ThreadPart → Option Call → Reply → List Hold
holds_after thread (Some (calls.Lock l)) replies.Got = with_hold thread l true
holds_after thread (Some (calls.LockInt l)) replies.Got = with_hold thread l true
holds_after thread (Some (calls.TryLock l)) replies.Got = with_hold thread l true
holds_after thread (Some (calls.Unlock l)) replies.Done = with_hold thread l false
holds_after thread (Some (calls.Spin l)) replies.Got = with_hold thread l true
holds_after thread (Some (calls.TrySpin l)) replies.Got = with_hold thread l true
holds_after thread (Some (calls.Unspin l)) replies.Done = with_hold thread l false
holds_after thread (Some (calls.Read l)) replies.Got = with_read thread l
holds_after thread (Some (calls.TryRead l)) replies.Got = with_read thread l
holds_after thread (Some (calls.Unread l)) replies.Done = without_read thread l
holds_after thread (Some (calls.Write l)) replies.Got = with_hold thread l true
holds_after thread (Some (calls.TryWrite l)) replies.Got = with_hold thread l true
holds_after thread (Some (calls.Unwrite l)) replies.Done = with_hold thread l false
holds_after thread (Some (calls.Downgrade l)) replies.Done = downgraded thread l
holds_after thread (Some (calls.Local l)) replies.Got = with_hold thread l true
holds_after thread (Some (calls.Unlocal l)) replies.Done = with_hold thread l false
holds_after thread call answer = thread.holds

-- ---- migration: who has a lock of a spinning kind, or waits for a local lock, stays on its processor (`migrate_disable` and
-- `migrate_enable` in `rt_spin_lock`, `rt_read_lock`, `rt_write_lock`, `local_lock` and their unlocks)

-- a hold of an `rwlock_t` counts one, and one of an `rw_semaphore` nothing
abbrev pub rwlock_pins : Option Kind → ℕ
rwlock_pins (Some RwLock) = 1
rwlock_pins kind = 0

-- what an event of this call, with this answer, adds to its thread's migration count: `first` is whether it is the call's first
abbrev pub pins_added : Call → Option Kind → Bool → Option Reply → ℕ
pins_added (calls.Spin l) kind first (Some replies.Got) = 1
pins_added (calls.TrySpin l) kind first (Some replies.Got) = 1
pins_added (calls.Read l) kind first (Some replies.Got) = rwlock_pins kind
pins_added (calls.TryRead l) kind first (Some replies.Got) = rwlock_pins kind
pins_added (calls.Write l) kind first (Some replies.Got) = rwlock_pins kind
pins_added (calls.TryWrite l) kind first (Some replies.Got) = rwlock_pins kind
pins_added (calls.Local l) kind true (Some replies.Got) = 2
pins_added (calls.Local l) kind true None = 1
pins_added (calls.Local l) kind false (Some replies.Got) = 1
pins_added call kind first reply = 0

-- and what it takes
abbrev pub pins_taken : Call → Option Kind → Bool → Option Reply → ℕ
pins_taken (calls.Unspin l) kind first (Some replies.Done) = 1
pins_taken (calls.Unread l) kind first (Some replies.Done) = rwlock_pins kind
pins_taken (calls.Unwrite l) kind first (Some replies.Done) = rwlock_pins kind
pins_taken (calls.Local l) kind false (Some replies.Deadlock) = 1
pins_taken (calls.Unlocal l) kind first (Some replies.Done) = 2
pins_taken call kind first reply = 0

-- so the count after it, from the one before
abbrev pub migration_after : Call → Option Kind → Bool → Option Reply → ℕ → ℕ
migration_after call kind first reply before = before + pins_added call kind first reply - pins_taken call kind first reply

-- a call has made no event yet
abbrev pub is_start : Phase → Bool
is_start phases.Start = true
is_start _ = false

-- a thread's count after an event of its call
abbrev pub migration_with : ThreadPart → Option Call → Option Reply → ℕ
migration_with thread None reply = thread.migration
migration_with thread (Some call) reply = migration_after call (option_map (kind_of thread) (called_lock call)) (is_start thread.phase) reply thread.migration

-- ---- answers

-- a `move` that is done has brought its task to the processor that it names
abbrev pub cpu_after : Option Call → Reply → Cpu → Cpu
cpu_after (Some (calls.Move cpu)) replies.Done before = cpu
cpu_after call answer before = before

-- an answer moves the thread to the start of its next call
abbrev pub answered_with : ThreadPart → Option Reply → ThreadPart
answered_with thread None = thread
answered_with thread (Some answer) = record thread {
  answered = thread.answered + 1;
  phase = phases.Start;
  holds = holds_after thread (call_of thread) answer;
  migration = migration_with thread (call_of thread) (Some answer);
  cpu = cpu_after (call_of thread) answer thread.cpu;
}
