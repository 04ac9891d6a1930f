-- A task that an event doesn't involve has a next event where it had one, and walks as it did. The event may leave it another kept
-- top, as the owner of the lock, another key, or another priority, but these tell nothing of its next event.
use Rattle.std.proofs.Common.{◌≡◌, ℕ, zero, suc, Bool, true, false, cond, ◌||◌, List, refl, sym, ap, ◌∙◌, Option, Some, None, unwrap_or}
use Rattle.std.specs.Prelude.{slice_get, nat_eq, is_some, ◌&&◌, IfSome}
use Rattle.rt_base.specs.declared.call.Call.{Call}
use Rattle.rt_base.specs.declared.call.Call.TheVariants as calls
use Rattle.rt_base.specs.declared.id.LockId.{LockId}
use Rattle.rt_base.specs.declared.id.TaskId.{TaskId}
use Rattle.rt_model.specs.declared.event.Event.{Event}
use Rattle.rt_model.specs.declared.event_kind.EventKind.{EventKind}
use Rattle.rt_model.specs.declared.event_kind.EventKind.TheVariants as kinds
use Rattle.rt_model.specs.declared.phase.Phase.{Phase}
use Rattle.rt_model.specs.declared.phase.Phase.TheVariants as phases
use Rattle.rt_model.specs.Parts.{OwnerPart, TaskPart, ThreadPart, call_of}
use Rattle.rt_model.specs.Rows.{top_key, top_changed}
use Rattle.rt_model.specs.State.{State, shared, no_task, task_part, thread_part}
use Rattle.rt_model.specs.steps.Chain.{rekeyed}
use Rattle.rt_model.specs.steps.Task.{with_top, with_own, runs, is_interruptible}
use Rattle.rt_model.specs.Effect.{Touched, Around, around}
use Rattle.rt_model.specs.Rules.{touched, effect}
use Rattle.rt_model.specs.Choice.{called_lock}
use Rattle.rt_model.specs.events.Own.{own_answer}
use Rattle.rt_model.specs.events.Acquire.{unowned, busy_touched}
use Rattle.rt_model.specs.events.Readers.{where_slept}
use Rattle.rt_model.specs.events.Wait.{is_interrupted, is_awake}
use Rattle.rt_model.specs.StateAfter.{at_task, effect_in, lock_left, state_after}
use Rattle.rt_model.specs.CanMove.{has_first, can_go_on, can_in, can_at, can_move, IsOther, target_at, IsUninvolved}
use Rattle.rt_model.specs.Run.{is_enabled}
use Rattle.rt_model.specs.Order.{in_walk, is_walking}
use Rattle.rt_model.proofs.Lists.{update-other}
use Rattle.rt_model.proofs.Numbers.{other_number}
use Rattle.rt_model.proofs.PartsAfter.{slot-keeps, thread-other}
use Rattle.rt_model.proofs.Local.{has-next}

-- ---- what of a task tells whether it has a next event

-- its state, and its signal
same-interrupted : (call : Option Call) (x y : TaskPart) → y.signal ≡ x.signal → is_interrupted call y ≡ is_interrupted call x
same-interrupted None x y signal = refl
same-interrupted (Some (calls.LockInt l)) x y signal = signal
same-interrupted (Some _) x y signal = refl

same-awake : (call : Option Call) (x y : TaskPart) → y.state ≡ x.state → y.signal ≡ x.signal → is_awake call y ≡ is_awake call x
same-awake call x y state signal = λ i. runs (state i) || same-interrupted call x y signal i

same-goes_on : (phase : Phase) (thread : ThreadPart) (x y : TaskPart) (lock : Option LockId)
    → y.state ≡ x.state → y.signal ≡ x.signal → can_go_on phase thread y lock ≡ can_go_on phase thread x lock
same-goes_on phases.Wait thread x y (Some l) state signal = same-awake (call_of thread) x y state signal
same-goes_on phases.WWait thread x y (Some l) state signal = ap runs state
same-goes_on _ thread x y lock state signal = refl

same-first : (call : Call) (x y : TaskPart) → y.state ≡ x.state → y.signal ≡ x.signal → has_first call y ≡ has_first call x
same-first calls.Schedule x y state signal = λ i. runs (state i) || (is_interruptible (state i) && signal i)
same-first _ x y state signal = refl

same-in : (phase : Phase) (thread : ThreadPart) (x y : TaskPart) (call : Call) → y.state ≡ x.state → y.signal ≡ x.signal → can_in phase thread y call ≡ can_in phase thread x call
same-in phases.Start thread x y call state signal = λ i. is_some (own_answer thread call) || same-first call x y state signal i
same-in phase thread x y call state signal = same-goes_on phase thread x y (called_lock call) state signal

same-at : (thread : ThreadPart) (x y : TaskPart) (call : Option Call) → y.state ≡ x.state → y.signal ≡ x.signal → can_at thread y call ≡ can_at thread x call
same-at thread x y None state signal = refl
same-at thread x y (Some call) state signal = same-in thread.phase thread x y call state signal

-- ---- a lock's owner keeps that, whatever the event

top-moves : (thread : ThreadPart) (l : Option LockId) (top : Option ℕ) (task : TaskPart) → can_move thread (with_top l top task) ≡ can_move thread task
top-moves thread None top task = refl
top-moves thread (Some l) top task = same-at thread task (with_top (Some l) top task) (call_of thread) refl refl

changed-moves : (thread : ThreadPart) (b : Bool) (l : Option LockId) (top : Option ℕ) (task : TaskPart) → can_move thread (cond b (with_top l top task) task) ≡ can_move thread task
changed-moves thread true l top task = top-moves thread l top task
changed-moves thread false l top task = refl

owner-moves : (kind : EventKind) (e : Event) (th thread : ThreadPart) (found : Around) (lock : OwnerPart) (task : TaskPart)
    → can_move thread ((effect kind e th found).owner lock task) ≡ can_move thread task
owner-moves kinds.Wait e th thread found lock task = top-moves thread e.lock (top_key lock.rows) task
owner-moves kinds.Leave e th thread found lock task = top-moves thread e.lock (top_key lock.rows) task
owner-moves kinds.Cycle e th thread found lock task = top-moves thread e.lock (top_key lock.rows) task
owner-moves kinds.Walk e th thread found lock task = changed-moves thread (top_changed found.lock.rows lock.rows) e.lock (top_key lock.rows) task
owner-moves _ e th thread found lock task = refl

-- ---- the other slots don't name the task

record IsNoSlot (u : TaskId) (named : Touched) : Type 0 where
  own : IsOther u named.own
  woken : IsOther u named.woken

unowned-other : (u t : TaskId) (owner : Option TaskId) → nat_eq t.0 u.0 ≡ false → IsOther u (unowned t owner)
unowned-other u t None ne = ne
unowned-other u t (Some o) ne = tt

busy-other : (value : ℕ) (u : TaskId) (e : Event) → nat_eq e.task.0 u.0 ≡ false → IsNoSlot u (busy_touched value e)
busy-other zero u e ne = record { own = unowned-other u e.task e.owner ne; woken = tt }
busy-other (suc n) u e ne = record { own = tt; woken = tt }

slept-other : (u t : TaskId) (owner : Option TaskId) → nat_eq t.0 u.0 ≡ false → IsOther u (where_slept t owner)
slept-other u t None ne = tt
slept-other u t (Some o) ne = ne

slots : (kind : EventKind) (u : TaskId) (e : Event) → IsUninvolved u e → IsNoSlot u (touched kind e)
slots kinds.Take u e un = record { own = un.task; woken = tt }
slots kinds.Busy u e un = busy-other e.value u e un.task
slots kinds.Wait u e un = record { own = un.task; woken = tt }
slots kinds.Again u e un = record { own = un.task; woken = tt }
slots kinds.Leave u e un = record { own = un.task; woken = tt }
slots kinds.Give u e un = record { own = un.task; woken = un.woken }
slots kinds.Walk u e un = record { own = tt; woken = un.woken }
slots kinds.Cycle u e un = record { own = un.task; woken = tt }
slots kinds.WalkEnd u e un = record { own = tt; woken = tt }
slots kinds.WTake u e un = record { own = slept-other u e.task e.owner un.task; woken = tt }
slots kinds.WWake u e un = record { own = tt; woken = un.woken }
slots kinds.WSleep u e un = record { own = un.task; woken = tt }
slots kinds.State u e un = record { own = un.task; woken = tt }
slots kinds.Sched u e un = record { own = un.task; woken = tt }
slots kinds.Wake u e un = record { own = tt; woken = tt }
slots kinds.SetPrio u e un = record { own = tt; woken = tt }
slots _ u e un = record { own = tt; woken = tt }

-- whoever a wakeup or a signal goes to is the other task of its event
pub target-there : (P : TaskId → Type 0) (kind : EventKind) (e : Event) → IfSome e.other P → IfSome (target_at kind e) P
target-there P kinds.Wake e there = there
target-there P _ e there = tt

apart : (xs : List TaskPart) (named : Option TaskId) (u : TaskId) (f : TaskPart → TaskPart) → IsOther u named → slice_get (at_task xs named f) u.0 ≡ slice_get xs u.0
apart xs None u f is = refl
apart xs (Some v) u f is = update-other xs v.0 u.0 f (λ same. other_number v.0 u.0 is same)

-- of another task a walk changes the key, and setprio the priority; a wakeup and a signal name it
other-moves : (kind : EventKind) (e : Event) (th thread : ThreadPart) (found : Around) (lock : OwnerPart) (xs : List TaskPart) (u : TaskId) → IsOther u (target_at kind e)
    → can_move thread (unwrap_or (slice_get (at_task xs (touched kind e).other ((effect kind e th found).other lock)) u.0) no_task) ≡ can_move thread (unwrap_or (slice_get xs u.0) no_task)
other-moves kinds.Wake e th thread found lock xs u is = ap (λ (o : Option TaskPart). can_move thread (unwrap_or o no_task)) (apart xs e.other u ((effect kinds.Wake e th found).other lock) is)
other-moves kinds.Walk e th thread found lock xs u is =
    slot-keeps (λ task. can_move thread task ≡ can_move thread (unwrap_or (slice_get xs u.0) no_task)) xs e.other u rekeyed refl
    (λ task was. same-at thread task (rekeyed task) (call_of thread) refl refl ∙ was)
other-moves kinds.Busy e th thread found lock xs u is =
    slot-keeps (λ task. can_move thread task ≡ can_move thread (unwrap_or (slice_get xs u.0) no_task)) xs (busy_touched e.value e).other u (λ task. task) refl (λ task was. was)
other-moves kinds.WalkEnd e th thread found lock xs u is =
    slot-keeps (λ task. can_move thread task ≡ can_move thread (unwrap_or (slice_get xs u.0) no_task)) xs e.other u (λ task. task) refl (λ task was. was)
other-moves kinds.SetPrio e th thread found lock xs u is =
    slot-keeps (λ task. can_move thread task ≡ can_move thread (unwrap_or (slice_get xs u.0) no_task)) xs e.other u (with_own e.value) refl
    (λ task was. same-at thread task (with_own e.value task) (call_of thread) refl refl ∙ was)
other-moves _ e th thread found lock xs u is = refl

-- what tells of a next event stays as it was
uninvolved-moves : (s : State) (e : Event) (u : TaskId) (thread : ThreadPart) → IsUninvolved u e → can_move thread (task_part (state_after s e) u) ≡ can_move thread (task_part s u)
uninvolved-moves s e u thread un =
    let th = thread_part s e.task in
    let f = effect_in (shared s) th e in
    let lock = lock_left (shared s) th e in
    let named = touched e.kind e in
    let none = slots e.kind u e un in
    let own = at_task s.tasks named.own (f.own lock) in
    let owner = at_task own named.owner (f.owner lock) in
    let other = at_task owner named.other (f.other lock) in
    let moves : Option TaskPart → Bool = λ (o : Option TaskPart). can_move thread (unwrap_or o no_task) in
    let before : moves (slice_get own u.0) ≡ moves (slice_get s.tasks u.0) = ap moves (apart s.tasks named.own u (f.own lock) none.own) in
    ap moves (apart other named.woken u (f.woken lock) none.woken)
    ∙ other-moves e.kind e th thread (around (shared s) named) lock owner u un.target
    ∙ slot-keeps (λ task. can_move thread task ≡ moves (slice_get s.tasks u.0)) own named.owner u (f.owner lock) before
    (λ task was. owner-moves e.kind e th thread (around (shared s) named) lock task ∙ was)

-- it has a next event as it had before, and walks as it did
pub uninvolved-enabled : (s : State) (e : Event) (u : TaskId) → IsUninvolved u e → is_enabled (state_after s e) u.0 ≡ is_enabled s u.0
uninvolved-enabled s e u un =
    has-next (state_after s e) u
    ∙ ((λ i. can_move (thread-other s e u un.task i) (task_part (state_after s e) u)) ∙ (uninvolved-moves s e u (thread_part s u) un ∙ sym (has-next s u)))

pub uninvolved-walking : (s : State) (e : Event) (u : TaskId) → IsUninvolved u e → is_walking (state_after s e) u.0 ≡ is_walking s u.0
uninvolved-walking s e u un = λ i. in_walk (thread-other s e u un.task i).phase && uninvolved-enabled s e u un i
