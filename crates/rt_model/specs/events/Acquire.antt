-- Acquires: fast, mark, take, busy.
use Rattle.std.specs.Prelude.{ℕ, zero, suc, Bool, true, ◌&&◌, not, Option, Some, None, is_none, if◌then◌else◌}
use Rattle.rt_base.specs.Kind.{spins}
use Rattle.rt_base.specs.declared.call.Call.{Call}
use Rattle.rt_base.specs.declared.id.LockId.{LockId}
use Rattle.rt_base.specs.declared.id.TaskId.{TaskId}
use Rattle.rt_base.specs.declared.kind.Kind.{Kind}
use Rattle.rt_base.specs.declared.reply.Reply.TheVariants.{Busy}
use Rattle.rt_model.specs.declared.event.Event.{Event}
use Rattle.rt_model.specs.declared.event_kind.EventKind.TheVariants as kinds
use Rattle.rt_model.specs.declared.phase.Phase.TheVariants.{Slow}
use Rattle.rt_model.specs.Parts.{OwnerPart, TaskPart, effective_of, kind_named, call_of}
use Rattle.rt_model.specs.Rows.{can_take}
use Rattle.rt_model.specs.steps.Lock.{taken_by}
use Rattle.rt_model.specs.steps.Task.{refreshed, leave_queue}
use Rattle.rt_model.specs.steps.Thread.{phase_after_got, got_answer, phase_after_busy, migration_with}
use Rattle.rt_model.specs.Effect.{Touched, Rule, nothing, unchanged}
use Rattle.rt_model.specs.Choice.{bare, boost_of}

-- ---- fast, mark: a call that doesn't try gets an owner part with no owner and its bit clear at once, and else sets the bit

abbrev pub fast_event : Option Call → TaskId → LockId → Event
fast_event call t l = record (bare t kinds.Fast) { lock = Some l; reply = got_answer call }

abbrev pub mark_event : TaskId → LockId → Event
mark_event t l = record (bare t kinds.Mark) { lock = Some l }

-- the lock has no owner, and its bit is clear
abbrev pub is_free : OwnerPart → Bool
is_free lock = is_none lock.owner && not lock.bit

abbrev pub acquire_event : Option Call → TaskId → LockId → OwnerPart → Event
acquire_event call t l lock = if is_free lock then fast_event call t l else mark_event t l

-- the task is the owner
abbrev pub fast : Rule
fast = record {
  touched = λ e. record nothing { lock = e.lock };
  effect = λ e thread found. record unchanged {
    lock = λ lock. record lock { owner = Some e.task };
    thread = λ left th. record th { phase = phase_after_got (call_of thread) th.phase };
  };
}

-- the bit is set; a call for a local lock, of which this is the first event, stays on its processor from here on
abbrev pub mark : Rule
mark = record {
  touched = λ e. record nothing { lock = e.lock };
  effect = λ e thread found. record unchanged {
    lock = λ lock. record lock { bit = true };
    thread = λ left th. record th { phase = Slow; migration = migration_with th (call_of thread) None };
  };
}

-- ---- take: a call that has set the bit, is queued and runs, or tries, takes the lock where it may

-- the task isn't queued any more, and keeps the key of the top waiter that is left
abbrev pub taker : Option LockId → Kind → OwnerPart → TaskPart → TaskPart
taker l kind lock task = refreshed l lock.rows (leave_queue (spins kind) task)

abbrev pub take_event : Option Call → TaskId → LockId → Kind → OwnerPart → TaskPart → Event
take_event call t l kind lock task = record (bare t kinds.Take) {
  lock = Some l;
  reply = got_answer call;
  boost = boost_of t (effective_of task) (effective_of (taker (Some l) kind (taken_by t lock) task));
}

abbrev pub take_or : Event → Option Call → TaskId → LockId → Kind → OwnerPart → TaskPart → Event
take_or other call t l kind lock task = if can_take t kind lock task then take_event call t l kind lock task else other

-- the lock is the task's, whose row goes
abbrev pub take : Rule
take = record {
  touched = λ e. record nothing { lock = e.lock; own = Some e.task };
  effect = λ e thread found. record unchanged {
    lock = taken_by e.task;
    own = taker e.lock (kind_named thread e.lock);
    thread = λ left th. record th { phase = phase_after_got (call_of thread) th.phase };
  };
}

-- ---- busy: a call that tries for an owner part may not have it (of a reader, events/Readers)

abbrev pub busy_event : TaskId → LockId → OwnerPart → Event
busy_event t l lock = record (bare t kinds.Busy) { lock = Some l; owner = lock.owner; reply = Some Busy }

-- a call that tries gets a free lock at once, takes one that it may take, and else is answered busy
abbrev pub try_event : Option Call → TaskId → LockId → Kind → OwnerPart → TaskPart → Event
try_event call t l kind lock task = if is_free lock then fast_event call t l else take_or (busy_event t l lock) call t l kind lock task

-- it looks at the reader part where it reads, which the number 1 tells; else at the owner part, and where that has no owner at its own task
abbrev pub unowned : TaskId → Option TaskId → Option TaskId
unowned t None = Some t
unowned t (Some owner) = None

abbrev pub busy_touched : ℕ → Event → Touched
busy_touched zero e = record nothing { lock = e.lock; own = unowned e.task e.owner }
busy_touched (suc n) e = record nothing { readers = e.lock }

-- nothing but its answer; a reader that waits goes on to the inner lock
abbrev pub busy : Rule
busy = record {
  touched = λ e. busy_touched e.value e;
  effect = λ e thread found. record unchanged { thread = λ left th. record th { phase = phase_after_busy (call_of thread) th.phase } };
}
