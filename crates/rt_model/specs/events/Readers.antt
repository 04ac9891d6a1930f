-- Readers and writers of a reader/writer lock, after `rwbase_rt.c` of Linux 6.1: rin, rout, unbias, wtake, wsleep, wopen, wwake.
--
-- Such a lock has an inner lock, which is its owner part, and a reader part: a bias, a write flag and a count of readers. Readers
-- get in and out by the reader part alone, unless they find a writer in: then they take the inner lock first, get in, and release it.
-- A writer takes the inner lock, removes the bias, and gets in once no reader is left; it sleeps until the last one wakes it. It
-- leaves by setting the bias again, and then releases the inner lock.
use Rattle.std.specs.Prelude.{ℕ, Option, Some, None, nat_eq, if◌then◌else◌}
use Rattle.rt_base.specs.Kind.{spins}
use Rattle.rt_base.specs.declared.call.Call.{Call}
use Rattle.rt_base.specs.declared.call.Call.TheVariants as calls
use Rattle.rt_base.specs.declared.id.LockId.{LockId}
use Rattle.rt_base.specs.declared.id.TaskId.{TaskId}
use Rattle.rt_base.specs.declared.reply.Reply.{Reply}
use Rattle.rt_base.specs.declared.reply.Reply.TheVariants.{Got, Busy, Done}
use Rattle.rt_base.specs.declared.state.TaskState.{TaskState}
use Rattle.rt_model.specs.declared.event.Event.{Event}
use Rattle.rt_model.specs.declared.event_kind.EventKind.TheVariants as kinds
use Rattle.rt_model.specs.declared.phase.Phase.{Phase}
use Rattle.rt_model.specs.declared.phase.Phase.TheVariants as phases
use Rattle.rt_model.specs.declared.reader_cell.ReaderCell.{ReaderCell}
use Rattle.rt_model.specs.Parts.{OwnerPart, TaskPart, kind_named, call_of}
use Rattle.rt_model.specs.steps.Readers.{can_read, with_reader, without_reader, wakes_writer, unbiased, can_write, with_writer, without_writer}
use Rattle.rt_model.specs.steps.Task.{rest_of, put_to_rest, put_back, restored, runs, lock_woken}
use Rattle.rt_model.specs.Effect.{Rule, nothing, unchanged}
use Rattle.rt_model.specs.Choice.{bare}

-- ---- rin: a reader gets in (`rwbase_read_trylock`, and the slow path of `__rwbase_read_lock`)

abbrev pub rin_event : TaskId → LockId → Option Reply → Event
rin_event t l answer = record (bare t kinds.RIn) { lock = Some l; reply = answer }

-- a reader finds the lock closed to it, which the number 1 tells apart from a call that tries for the owner part
abbrev pub shut_event : TaskId → LockId → Option Reply → Event
shut_event t l answer = record (bare t kinds.Busy) { lock = Some l; value = 1; reply = answer }

-- a reader that waits looks for a writer that is in, one that tries for the bias, which a writer on its way has removed
abbrev pub read_event : TaskId → LockId → ReaderCell → Event
read_event t l readers = if can_read readers then rin_event t l (Some Got) else shut_event t l None

abbrev pub tryread_event : TaskId → LockId → ReaderCell → Event
tryread_event t l readers = if readers.bias then rin_event t l (Some Got) else shut_event t l (Some Busy)

-- a reader that owns the inner lock is to release it
abbrev pub phase_after_rin : Phase → Phase
phase_after_rin phases.ReadIn = phases.Release
phase_after_rin phase = phase

-- one reader more
abbrev pub rin : Rule
rin = record {
  touched = λ e. record nothing { readers = e.lock };
  effect = λ e thread found. record unchanged {
    readers = with_reader;
    thread = λ left th. record th { phase = phase_after_rin th.phase };
  };
}

-- ---- rout, wwake: a reader leaves (`rwbase_read_unlock`), and the last one wakes the writer (`__rwbase_read_unlock`)

abbrev pub rout_event : TaskId → LockId → ReaderCell → Event
rout_event t l readers = record (bare t kinds.ROut) {
  lock = Some l;
  reply = if wakes_writer (without_reader readers) then None else Some Done;
}

-- one reader less; where it is the last, and a writer has removed the bias, that one is to be woken
abbrev pub rout : Rule
rout = record {
  touched = λ e. record nothing { readers = e.lock };
  effect = λ e thread found. record unchanged {
    readers = without_reader;
    thread = λ left th. record th { phase = if wakes_writer left.readers then phases.WakeWriter else th.phase };
  };
}

-- whoever owns the inner lock then is woken
abbrev pub wwake_event : TaskId → LockId → OwnerPart → Event
wwake_event t l lock = record (bare t kinds.WWake) { lock = Some l; owner = lock.owner; woken = lock.owner; reply = Some Done }

abbrev pub wwake : Rule
wwake = record {
  touched = λ e. record nothing { lock = e.lock; woken = e.woken };
  effect = λ e thread found. record unchanged { woken = λ lock task. lock_woken (spins (kind_named thread e.lock)) task };
}

-- ---- unbias: a writer that owns the inner lock removes the bias

abbrev pub unbias_event : TaskId → LockId → Event
unbias_event t l = record (bare t kinds.Unbias) { lock = Some l }

abbrev pub unbias : Rule
unbias = record {
  touched = λ e. record nothing { readers = e.lock };
  effect = λ e thread found. record unchanged { readers = unbiased; thread = λ left th. record th { phase = phases.WTry } };
}

-- ---- wtake, wsleep: it gets in where no reader is left (`__rwbase_write_trylock`), and else sleeps

-- where it has slept, it is named as the owner
abbrev pub wtake_event : TaskId → LockId → Option TaskId → Event
wtake_event t l slept = record (bare t kinds.WTake) { lock = Some l; owner = slept; reply = Some Got }

abbrev pub where_slept : TaskId → Option TaskId → Option TaskId
where_slept t None = None
where_slept t (Some owner) = Some t

-- the write flag is set; after a sleep its state is restored
abbrev pub wtake : Rule
wtake = record {
  touched = λ e. record nothing { readers = e.lock; own = where_slept e.task e.owner };
  effect = λ e thread found. record unchanged {
    readers = with_writer;
    own = λ lock task. restored (spins (kind_named thread e.lock)) task;
  };
}

abbrev pub wsleep_event : TaskId → LockId → Event
wsleep_event t l = record (bare t kinds.WSleep) { lock = Some l }

-- a writer that was woken, and finds readers, sleeps again
abbrev pub writer_rests : Phase → TaskState → TaskPart → TaskPart
writer_rests phases.WWait rest task = put_back rest task
writer_rests phase rest task = put_to_rest rest task

abbrev pub wsleep : Rule
wsleep = record {
  touched = λ e. record nothing { readers = e.lock; own = Some e.task };
  effect = λ e thread found. record unchanged {
    own = λ lock task. writer_rests thread.phase (rest_of (kind_named thread e.lock) (call_of thread)) task;
    thread = λ left th. record th { phase = phases.WWait };
  };
}

-- ---- wopen: a writer leaves, or gives up its way in, or stays as a reader (`__rwbase_write_unlock`, `rwbase_write_downgrade`)

-- the number 1 tells a downgrade
abbrev pub wopen_event : TaskId → LockId → ℕ → Event
wopen_event t l value = record (bare t kinds.WOpen) { lock = Some l; value = value }

abbrev pub wopen : Rule
wopen = record {
  touched = λ e. record nothing { readers = e.lock };
  effect = λ e thread found. record unchanged {
    readers = without_writer (nat_eq e.value 1);
    thread = λ left th. record th { phase = phases.Release };
  };
}

-- ---- a writer on its way, once the bias is removed

-- where readers are in, one that waits sleeps, and one that only tries gives up
abbrev pub held_up_event : Option Call → TaskId → LockId → Event
held_up_event (Some (calls.TryWrite l)) t m = wopen_event t m 0
held_up_event call t m = wsleep_event t m

abbrev pub writer_event : Option Call → TaskId → LockId → ReaderCell → Event
writer_event call t l readers = if can_write readers then wtake_event t l None else held_up_event call t l

-- one that has slept does something where it runs
abbrev pub awake_writer_event : TaskId → LockId → ReaderCell → Event
awake_writer_event t l readers = if can_write readers then wtake_event t l (Some t) else wsleep_event t l

abbrev pub waiting_writer_event : TaskId → LockId → ReaderCell → TaskPart → Option Event
waiting_writer_event t l readers task = if runs task.state then Some (awake_writer_event t l readers) else None
