-- A call that takes its lock where it may, and else waits, sleeps again, or leaves: what its choice reads.
use Rattle.std.proofs.Common.{◌≡◌, Bool, true, false, cond, if◌then◌else◌, refl, sym, ap, ◌∙◌, subst, Option, Some, None}
use Rattle.rt_base.specs.declared.call.Call.{Call}
use Rattle.rt_base.specs.declared.id.LockId.{LockId}
use Rattle.rt_base.specs.declared.id.TaskId.{TaskId}
use Rattle.rt_base.specs.declared.kind.Kind.{Kind}
use Rattle.rt_model.specs.declared.event.Event.{Event}
use Rattle.rt_model.specs.Parts.{OwnerPart, TaskPart}
use Rattle.rt_model.specs.Rows.{can_take}
use Rattle.rt_model.specs.State.{Shared, lock_in, task_in, task_at}
use Rattle.rt_model.specs.Rules.{touched}
use Rattle.rt_model.specs.events.Acquire.{take_event, take_or}
use Rattle.rt_model.specs.events.Wait.{wait_event, slow_event, leave_event, again_event, is_interrupted, is_awake, refused_event, awake_event, queued_event}
use Rattle.rt_model.proofs.Touching.{touches-lock, touches-own, touches-owner}
use Rattle.rt_model.proofs.Alike.{Alike, GivesAlike, same-task_at}

-- two states share a lock, a task, and what becomes of an event by the lock's owner in each
record Sees (a b : Shared) (t : TaskId) (l : LockId) (before after : Event) : Type 0 where
  lock : lock_in b l ≡ lock_in a l
  task : task_in b t ≡ task_in a t
  event : after ≡ before

-- an event that is told by a lock, a task and the lock's owner, as a state has the owner
abbrev by_owner : (sh : Shared) (f : OwnerPart → TaskPart → TaskPart → Event) → OwnerPart → TaskPart → Event
by_owner sh f lock task = f lock task (task_at sh lock.owner)

-- it is one event in both then
seen : (a b : Shared) (t : TaskId) (l : LockId) (f : OwnerPart → TaskPart → TaskPart → Event)
    → Sees a b t l (by_owner a f (lock_in a l) (task_in a t)) (by_owner b f (lock_in a l) (task_in a t))
    → by_owner b f (lock_in b l) (task_in b t) ≡ by_owner a f (lock_in a l) (task_in a t)
seen a b t l f sees = (λ i. by_owner b f (sees.lock i) (sees.task i)) ∙ sees.event

-- a take doesn't look at the owner
sees-take_or : (a b : Shared) (call : Option Call) (t : TaskId) (l : LockId) (kind : Kind) (before after : Event) → (Alike before a b → Sees a b t l before after)
    → Alike (take_or before call t l kind (lock_in a l) (task_in a t)) a b
    → Sees a b t l (take_or before call t l kind (lock_in a l) (task_in a t)) (take_or after call t l kind (lock_in a l) (task_in a t))
sees-take_or a b call t l kind before after other = by_test (can_take t kind (lock_in a l) (task_in a t))
  where
    taken : Event
    taken = take_event call t l kind (lock_in a l) (task_in a t)

    by_test : (c : Bool) → Alike (cond c taken before) a b → Sees a b t l (cond c taken before) (cond c taken after)
    by_test true alike = record { lock = alike.lock l (touches-lock taken l refl); task = alike.task t (touches-own taken t refl); event = refl }
    by_test false alike = other alike

-- an event that touches the lock, the task and the lock's owner does
sees-owner : (a b : Shared) (t : TaskId) (l : LockId) (f : TaskPart → Event) (e : Event) → f (task_at a (lock_in a l).owner) ≡ e
    → (touched e.kind e).lock ≡ Some l → (touched e.kind e).own ≡ Some t → (touched e.kind e).owner ≡ (lock_in a l).owner
    → Alike e a b → Sees a b t l e (f (task_at b (lock_in a l).owner))
sees-owner a b t l f e is lock own owner alike = record {
  lock = alike.lock l (touches-lock e l lock);
  task = alike.task t (touches-own e t own);
  event = ap f (same-task_at a b (lock_in a l).owner (λ u named. alike.task u (touches-owner e u (owner ∙ named)))) ∙ is;
}

-- ---- slow: it takes the lock, or is queued

pub same-slow : (a b : Shared) (call : Option Call) (t : TaskId) (l : LockId) (kind : Kind) → Alike (slow_event call t l kind (lock_in a l) (task_in a t) (task_at a (lock_in a l).owner)) a b
    → slow_event call t l kind (lock_in b l) (task_in b t) (task_at b (lock_in b l).owner) ≡ slow_event call t l kind (lock_in a l) (task_in a t) (task_at a (lock_in a l).owner)
same-slow a b call t l kind alike =
    let waits : Shared → Event = λ (sh : Shared). wait_event t l (lock_in a l) (task_in a t) (task_at sh (lock_in a l).owner) in
    let waiting = sees-owner a b t l (wait_event t l (lock_in a l) (task_in a t)) (waits a) refl refl refl refl in
    seen a b t l (slow_event call t l kind) (sees-take_or a b call t l kind (waits a) (waits b) waiting alike)

-- ---- queued: it takes the lock where its task is awake, or leaves, or sleeps again

pub same-queued : (call : Option Call) (t : TaskId) (l : LockId) (kind : Kind) (a b : Shared)
    → GivesAlike (λ sh. queued_event call t l kind (lock_in sh l) (task_in sh t) (task_at sh (lock_in sh l).owner)) a b
same-queued call t l kind a b e = by_test (is_awake call (task_in a t)) refl
  where
    leaves : Shared → Event
    leaves sh = leave_event t l (lock_in a l) (task_at sh (lock_in a l).owner)

    refused : Shared → Event
    refused sh = by_owner sh (refused_event call t l) (lock_in a l) (task_in a t)

    sees : Alike (refused a) a b → Sees a b t l (refused a) (refused b)
    sees = by_signal (is_interrupted call (task_in a t))
      where
        by_signal : (c : Bool) → Alike (cond c (leaves a) (again_event t l)) a b → Sees a b t l (cond c (leaves a) (again_event t l)) (cond c (leaves b) (again_event t l))
        by_signal true alike = sees-owner a b t l (leave_event t l (lock_in a l)) (leaves a) refl refl refl refl alike
        by_signal false alike = record { lock = alike.lock l (touches-lock (again_event t l) l refl); task = alike.task t (touches-own (again_event t l) t refl); event = refl }

    before : Event
    before = take_or (refused a) call t l kind (lock_in a l) (task_in a t)

    by_test : (c : Bool) → is_awake call (task_in a t) ≡ c → cond c (Some before) None ≡ Some e → Alike e a b
        → queued_event call t l kind (lock_in b l) (task_in b t) (task_at b (lock_in b l).owner) ≡ Some e
    by_test true awake is alike =
        let event : before ≡ e = cc in
        let both = sees-take_or a b call t l kind (refused a) (refused b) sees (subst (λ (x : Event). Alike x a b) (sym event) alike) in
        (λ i. if is_awake call (both.task i) then Some (seen a b t l (awake_event call t l kind) both i) else None)
        ∙ (ap (λ (c : Bool). cond c (Some before) None) awake ∙ is)
    by_test false asleep is alike = cc
