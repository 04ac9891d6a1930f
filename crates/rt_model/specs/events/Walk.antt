-- Chain walks: walk, walkend, restart, cycle.
--
-- A walk follows a chain: from a task to the lock on which it is blocked, to the owner of that lock, and so on. It stands at its
-- cursor, and one event is one link. These are the steps of a link, and what each needs of the walker's own thread (W), the
-- cursor (C), the lock on which the cursor is blocked (L) and that lock's owner (O).
--
--    step                                                                                                         needs
--    1  The cursor isn't blocked: the walk ends, by a walkend. Else the link goes through the lock.               W C
--    2  The cursor's key isn't its effective priority: it is queued anew, with that and the next ticket.          C L
--    3  The top waiter is another row now, by key, ticket or task, and the lock has an owner: the owner keeps     L O
--       the new top waiter's key, and may have another effective priority by that.
--    4  The top waiter is another row now, and the lock has no owner: that waiter is woken, as it may take it.    L
--    5  The walk is full: its path has the link.                                                                  W C L
--    6  The lock has no owner, or the owner isn't blocked: the chain ends, and with it the walk.                  L O
--    7  The walk is full, and the owner is the walker itself: its path goes round, and is to be confirmed.        W O
--    8  The walk is full, and the owner is another task of its path: where the owner's key is old the path is cut W O
--       before the owner's link, and the walk goes on there; else it ends.
--    9  The walk is short, and the owner's key isn't old: the rest of the chain is right, and the walk ends.      W O
--   10  Else the owner is the cursor.                                                                             W O
--
-- A full walk that ends leaves its task waiting, a short one answers its call. Nothing is held between two links, so what a full
-- walk has seen of a cycle may be gone when it comes back. Its path is then looked at in one event: where each link stands its
-- task leaves the queue, and is answered deadlock once the priorities along the rest of the chain are adjusted; else the walk
-- begins anew.
use Rattle.std.specs.Prelude.{ℕ, List, [], Option, Some, None}
use Rattle.rt_base.specs.Kind.{spins}
use Rattle.rt_base.specs.declared.id.LockId.{LockId}
use Rattle.rt_base.specs.declared.id.TaskId.{TaskId}
use Rattle.rt_base.specs.declared.reply.Reply.TheVariants.{Deadlock}
use Rattle.rt_model.specs.declared.event.Event.{Event}
use Rattle.rt_model.specs.declared.event_kind.EventKind.TheVariants as kinds
use Rattle.rt_model.specs.declared.phase.Phase.{Phase}
use Rattle.rt_model.specs.declared.phase.Phase.TheVariants.{Walk}
use Rattle.rt_model.specs.declared.phase.Route.{Route}
use Rattle.rt_model.specs.declared.phase.Route.TheVariants.{Full}
use Rattle.rt_model.specs.Parts.{OwnerPart, TaskPart, effective_of, kind_named}
use Rattle.rt_model.specs.State.{Shared, lock_in, lock_at, task_at}
use Rattle.rt_model.specs.steps.Task.{lock_woken, leave_queue}
use Rattle.rt_model.specs.steps.Chain.{requeued_where_old, rekeyed, refreshed_where_changed, newly_top, followed, goes_on, phase_of_walk, answer_of_walk}
use Rattle.rt_model.specs.Effect.{Rule, nothing, unchanged}
use Rattle.rt_model.specs.Choice.{bare, boost_at}
use Rattle.rt_model.specs.Path.{Link, first_lock, first_owner}
use Rattle.rt_model.specs.events.Wait.{left_event, leaves}

-- ---- walk, walkend: a walk makes a link where its cursor is blocked, and else it ends

abbrev pub walkend_event : TaskId → Route → TaskId → Event
walkend_event t route u = record (bare t kinds.WalkEnd) { other = Some u; reply = answer_of_walk route None }

-- the link through a lock, as the walk finds it and leaves it
abbrev pub link_event : TaskId → Route → TaskId → LockId → OwnerPart → OwnerPart → TaskPart → Event
link_event t route u l before after owner = record (bare t kinds.Walk) {
  lock = Some l;
  other = Some u;
  owner = before.owner;
  woken = newly_top before after;
  boost = boost_at before.owner (effective_of owner) (effective_of (refreshed_where_changed (Some l) before.rows after.rows owner));
  reply = answer_of_walk route (goes_on t (followed u l route) before.owner (refreshed_where_changed (Some l) before.rows after.rows owner));
}

abbrev pub walk_event : TaskId → Route → TaskId → LockId → OwnerPart → TaskPart → TaskPart → Event
walk_event t route u l lock cursor owner = link_event t route u l lock (requeued_where_old (Some u) cursor lock) owner

-- the event of a walk on this route, at a cursor that is blocked there
abbrev pub cursor_event : Shared → TaskId → Route → TaskId → TaskPart → Option (LockId × ℕ) → Event
cursor_event sh t route u cursor None = walkend_event t route u
cursor_event sh t route u cursor (Some at) = walk_event t route u at.0 (lock_in sh at.0) cursor (task_at sh (lock_in sh at.0).owner)

-- the phase of a walk that has left this lock, with this owner after it
abbrev pub phase_after_link : TaskId → Option LockId → Option TaskId → TaskPart → Phase → Phase
phase_after_link t (Some l) owner task (Walk cursor route) = phase_of_walk (goes_on t (followed cursor l route) owner task)
phase_after_link t l owner task phase = phase

-- and of one whose cursor isn't blocked
abbrev pub phase_after_end : Phase → Phase
phase_after_end (Walk cursor route) = phase_of_walk None
phase_after_end phase = phase

-- the cursor is queued with its effective priority, the owner keeps the top waiter's key, or that waiter is woken
abbrev pub walk : Rule
walk = record {
  touched = λ e. record nothing { lock = e.lock; other = e.other; owner = e.owner; woken = e.woken };
  effect = λ e thread found. record unchanged {
    lock = requeued_where_old e.other found.other;
    owner = λ lock task. refreshed_where_changed e.lock found.lock.rows lock.rows task;
    other = λ lock task. rekeyed task;
    woken = λ lock task. lock_woken (spins (kind_named thread e.lock)) task;
    thread = λ left th. record th { phase = phase_after_link e.task e.lock e.owner left.owner th.phase };
  };
}

-- nothing but that the walk ends
abbrev pub walkend : Rule
walkend = record {
  touched = λ e. record nothing { other = e.other };
  effect = λ e thread found. record unchanged { thread = λ left th. record th { phase = phase_after_end th.phase } };
}

-- ---- restart, cycle: a full walk that came back to its own task looks at its whole path at once

abbrev pub restart_event : TaskId → List (ℕ × ℕ) → Link → Event
restart_event t path link = record (bare t kinds.Restart) { lock = Some link.lock; other = Some link.from; path = path }

abbrev pub cycle_event : TaskId → List (ℕ × ℕ) → OwnerPart → TaskPart → Event
cycle_event t path lock owner = record (left_event t kinds.Cycle (first_lock path) (first_owner path) Deadlock lock owner) { path = path }

-- where a link of the path is broken the walk begins anew, and where each stands the task leaves the queue
abbrev pub confirmed_event : Shared → TaskId → List (ℕ × ℕ) → Option Link → Event
confirmed_event sh t path (Some link) = restart_event t path link
confirmed_event sh t path None = cycle_event t path (lock_at sh (first_lock path)) (task_at sh (first_owner path))

-- the path is only read, and the walk stands at its own task again
abbrev pub restart : Rule
restart = record {
  touched = λ e. record nothing { path = e.path };
  effect = λ e thread found. record unchanged { thread = λ left th. record th { phase = Walk e.task (Full []) } };
}

-- the lock's owner is the second task of the path
abbrev pub cycle : Rule
cycle = record {
  touched = λ e. record nothing { lock = e.lock; own = Some e.task; owner = first_owner e.path; path = e.path };
  effect = λ e thread found. leaves Deadlock (first_owner e.path) leave_queue e thread;
}
