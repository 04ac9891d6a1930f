-- Releases: free, give.
use Rattle.std.specs.Prelude.{Option, Some, None, if◌then◌else◌}
use Rattle.rt_base.specs.Kind.{spins}
use Rattle.rt_base.specs.declared.call.Call.{Call}
use Rattle.rt_base.specs.declared.id.LockId.{LockId}
use Rattle.rt_base.specs.declared.id.TaskId.{TaskId}
use Rattle.rt_model.specs.declared.event.Event.{Event}
use Rattle.rt_model.specs.declared.event_kind.EventKind.TheVariants as kinds
use Rattle.rt_model.specs.Parts.{OwnerPart, TaskPart, effective_of, kind_named}
use Rattle.rt_model.specs.Rows.{top_task}
use Rattle.rt_model.specs.steps.Lock.{given_up}
use Rattle.rt_model.specs.steps.Task.{with_top, lock_woken}
use Rattle.rt_model.specs.steps.Thread.{released_answer}
use Rattle.rt_model.specs.Effect.{Rule, nothing, unchanged}
use Rattle.rt_model.specs.Choice.{bare, boost_of}

-- ---- free, give: an owner part whose bit is clear is released at once, and else given up; each ends the call

abbrev pub free_event : Option Call → TaskId → LockId → Event
free_event call t l = record (bare t kinds.Free) { lock = Some l; reply = Some (released_answer call) }

abbrev pub give_event : Option Call → TaskId → LockId → OwnerPart → TaskPart → Event
give_event call t l lock task = record (bare t kinds.Give) {
  lock = Some l;
  woken = top_task lock.rows;
  boost = boost_of t (effective_of task) (effective_of (with_top (Some l) None task));
  reply = Some (released_answer call);
}

abbrev pub release_event : Option Call → TaskId → LockId → OwnerPart → TaskPart → Event
release_event call t l lock task = if lock.bit then give_event call t l lock task else free_event call t l

-- the lock has no owner
abbrev pub free : Rule
free = record {
  touched = λ e. record nothing { lock = e.lock };
  effect = λ e thread found. record unchanged { lock = λ lock. record lock { owner = None } };
}

-- the lock has no owner, the task keeps nothing of it, and the top waiter is woken
abbrev pub give : Rule
give = record {
  touched = λ e. record nothing { lock = e.lock; own = Some e.task; woken = e.woken };
  effect = λ e thread found. record unchanged {
    lock = given_up;
    own = λ lock task. with_top e.lock None task;
    woken = λ lock task. lock_woken (spins (kind_named thread e.lock)) task;
  };
}
