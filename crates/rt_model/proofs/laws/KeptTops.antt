-- A next event keeps the kept-tops law.
use Rattle.std.proofs.Common.{◌≡◌, ℕ, ◌<◌, Bool, true, false, cond, List, [], length, refl, sym, ap, ◌∙◌, subst, Option, Some, None, unwrap_or, IfSome}
use Rattle.std.specs.Prelude.{nat_eq, slice_get, if◌then◌else◌}
use Rattle.std.proofs.lemmas.Bool.{cond-true, cond-false, cond_both}
use Rattle.rt_base.specs.Kind.{spins}
use Rattle.rt_base.specs.declared.id.LockId.{LockId}
use Rattle.rt_base.specs.declared.id.TaskId.{TaskId}
use Rattle.rt_model.specs.declared.event.Event.{Event}
use Rattle.rt_model.specs.declared.event_kind.EventKind.{EventKind}
use Rattle.rt_model.specs.declared.event_kind.EventKind.TheVariants as kinds
use Rattle.rt_model.specs.declared.phase.Phase.TheVariants as phases
use Rattle.rt_model.specs.declared.phase.Route.{Route}
use Rattle.rt_model.specs.declared.row.Row.{Row}
use Rattle.rt_model.specs.Parts.{OwnerPart, TaskPart, ThreadPart, call_of, effective_of, kind_of, kind_named}
use Rattle.rt_model.specs.Rows.{top_key, top_changed, without}
use Rattle.rt_model.specs.State.{State, shared, owner_part, task_part, thread_part}
use Rattle.rt_model.specs.steps.Task.{with_top, refreshed, rest_of, blocked_on, restored, leave_queue, interrupted, woken_by, lock_woken}
use Rattle.rt_model.specs.steps.Lock.{left_by, taken_by, queued}
use Rattle.rt_model.specs.events.Readers.{writer_rests}
use Rattle.rt_model.specs.steps.Chain.{requeued_where_old, refreshed_where_changed}
use Rattle.rt_model.specs.Effect.{Around}
use Rattle.rt_model.specs.Rules.{touched, effect}
use Rattle.rt_model.specs.StateAfter.{effect_in, state_after}
use Rattle.rt_model.specs.laws.Lawful.{IsLawful}
use Rattle.rt_model.specs.laws.KeptTops.{KeptTopsLaw, kept_of}
use Rattle.rt_model.specs.laws.Owners.{owned_by}
use Rattle.rt_model.proofs.CellStepLemmas.{restored-like, leave_queue-like, interrupted-like, woken_by-like, lock_woken-like, blocked_on-like, writer_rests-like, where_changed}
use Rattle.rt_model.proofs.NextEvents.{IsNext, by_own, by_acquire, by_wait, by_release, by_reading, by_walk, by_confirm, by_wakeup, by_setprio}
use Rattle.rt_model.proofs.events.Acquire.{IsTake, is_fast, is_mark, is_take, is_busy}
use Rattle.rt_model.proofs.events.Wait.{IsWait, is_wait, is_again, is_leave}
use Rattle.rt_model.proofs.events.Release.{IsGive, is_free, is_give}
use Rattle.rt_model.proofs.events.Walk.{IsWalk, is_walk, is_walkend, is_restart, is_cycle}
use Rattle.rt_model.proofs.Calling.{asks-lock}
use Rattle.rt_model.proofs.Calm.{wakeup-kind, wakeup-locks}
use Rattle.rt_model.proofs.Inside.{returns-owned}
use Rattle.rt_model.proofs.Leaves.{IsLeft, left_made, left-is, leave-left, cycle-left, left-unowned, left-lock_there, left-locks, left-own_like, left-others}
use Rattle.rt_model.proofs.Links.{requeued-owner, link_refreshed, link-like}
use Rattle.rt_model.proofs.PartsAfter.{read-set_same, read-set_other, OthersKeep, lock-made, lock-kept, task-keeps, own-made, owner-made}
use Rattle.rt_model.proofs.Within.{owner_within, owner_room, kept_room, task_room}
use Rattle.rt_model.proofs.Numbers.{at_each_task, one_owner, owner-holds, number_itself}
use Rattle.rt_model.proofs.Queues.{unowned-can_take, unchanged-key}
use Rattle.rt_model.proofs.Reading.{reading-kind, reading-locks}
use Rattle.rt_model.proofs.Waiters.{walk-link}

-- ---- what is kept of one lock

-- the key that a task keeps of the lock
with_top-here : (l : LockId) (top : Option ℕ) (task : TaskPart) → l.0 < length task.kept → kept_of (with_top (Some l) top task) l ≡ top
with_top-here l top task lt = read-set_same task.kept l.0 top None lt

-- nothing changes of another
abbrev IsApartFrom : LockId → Option LockId → Type 0
IsApartFrom m named = IfSome named (λ l. nat_eq l.0 m.0 ≡ false)

with_top-there : (named : Option LockId) (m : LockId) (top : Option ℕ) (task : TaskPart) → IsApartFrom m named → kept_of (with_top named top task) m ≡ kept_of task m
with_top-there None m top task ne = refl
with_top-there (Some l) m top task ne = read-set_other task.kept l.0 m.0 top None ne

kept-same : (m : LockId) (task other : TaskPart) → other.kept ≡ task.kept → kept_of other m ≡ kept_of task m
kept-same m task other same = ap (λ (kept : List (Option ℕ)). unwrap_or (slice_get kept m.0) None) same

-- nothing is kept of a lock that has no rows
nothing : (rows : List Row) (b : Bool) → rows ≡ [] → cond b (top_key rows) None ≡ None
nothing rows true is = ap top_key is
nothing rows false is = refl

-- ---- told by the kind

-- the lock of which an event of this kind changes what is kept
abbrev tops_of : EventKind → Event → Option LockId
tops_of kinds.Take e = e.lock
tops_of kinds.Wait e = e.lock
tops_of kinds.Leave e = e.lock
tops_of kinds.Cycle e = e.lock
tops_of kinds.Give e = e.lock
tops_of kinds.Walk e = e.lock
tops_of _ e = None

there-own : (m : LockId) (top : Option ℕ) (kind : EventKind) (e : Event) (th : ThreadPart) → IsApartFrom m (tops_of kind e)
    → (found : Around) (lock : OwnerPart) (task : TaskPart) → kept_of task m ≡ top → kept_of ((effect kind e th found).own lock task) m ≡ top
there-own m top kinds.Take e th ne found lock task was =
    let left : TaskPart = leave_queue (spins (kind_named th e.lock)) task in
    with_top-there e.lock m (top_key lock.rows) left ne ∙ (kept-same m task left (leave_queue-like (spins (kind_named th e.lock)) task).kept ∙ was)
there-own m top kinds.Wait e th ne found lock task was =
    let rest = rest_of (kind_named th e.lock) (call_of th) in kept-same m task (blocked_on e.lock rest task) (blocked_on-like e.lock rest task).kept ∙ was
there-own m top kinds.Leave e th ne found lock task was =
    let spinning : Bool = spins (kind_named th e.lock) in kept-same m task (interrupted spinning task) (interrupted-like spinning task).kept ∙ was
there-own m top kinds.Cycle e th ne found lock task was =
    let spinning : Bool = spins (kind_named th e.lock) in kept-same m task (leave_queue spinning task) (leave_queue-like spinning task).kept ∙ was
there-own m top kinds.WTake e th ne found lock task was =
    let spinning : Bool = spins (kind_named th e.lock) in kept-same m task (restored spinning task) (restored-like spinning task).kept ∙ was
there-own m top kinds.WSleep e th ne found lock task was =
    let rest = rest_of (kind_named th e.lock) (call_of th) in kept-same m task (writer_rests th.phase rest task) (writer_rests-like th.phase rest task).kept ∙ was
there-own m top kinds.Give e th ne found lock task was = with_top-there e.lock m None task ne ∙ was
there-own m top _ e th ne found lock task was = was

there-others : (m : LockId) (top : Option ℕ) (kind : EventKind) (e : Event) (th : ThreadPart) → IsApartFrom m (tops_of kind e) → (found : Around) (lock : OwnerPart) → OthersKeep (λ task. kept_of task m ≡ top) (effect kind e th found) lock
there-others m top kinds.Wait e th ne found lock = record { owner = λ task was. with_top-there e.lock m (top_key lock.rows) task ne ∙ was; other = λ task was. was; woken = λ task was. was }
there-others m top kinds.Leave e th ne found lock = record { owner = λ task was. with_top-there e.lock m (top_key lock.rows) task ne ∙ was; other = λ task was. was; woken = λ task was. was }
there-others m top kinds.Cycle e th ne found lock = record { owner = λ task was. with_top-there e.lock m (top_key lock.rows) task ne ∙ was; other = λ task was. was; woken = λ task was. was }
there-others m top kinds.Wake e th ne found lock =
    record { owner = λ task was. was; other = λ task was. kept-same m task (woken_by e.value task) (woken_by-like e.value task).like.kept ∙ was; woken = λ task was. was }
there-others m top kinds.Walk e th ne found lock =
    let spinning : Bool = spins (kind_named th e.lock) in
    record {
      owner = λ task was. where_changed (λ (x : TaskPart). kept_of x m ≡ top) e.lock found.lock.rows lock.rows task was (with_top-there e.lock m (top_key lock.rows) task ne ∙ was);
      other = λ task was. was;
      woken = λ task was. kept-same m task (lock_woken spinning task) (lock_woken-like spinning task).like.kept ∙ was;
    }
there-others m top kinds.WWake e th ne found lock =
    let spinning : Bool = spins (kind_named th e.lock) in
    record { owner = λ task was. was; other = λ task was. was; woken = λ task was. kept-same m task (lock_woken spinning task) (lock_woken-like spinning task).like.kept ∙ was }
there-others m top kinds.Give e th ne found lock =
    let spinning : Bool = spins (kind_named th e.lock) in
    record { owner = λ task was. was; other = λ task was. was; woken = λ task was. kept-same m task (lock_woken spinning task) (lock_woken-like spinning task).like.kept ∙ was }
there-others m top _ e th ne found lock = record { owner = λ task was. was; other = λ task was. was; woken = λ task was. was }

-- of an event on lock l it is that lock, or none
apart-on : (m l : LockId) (kind : EventKind) (e : Event) → e.lock ≡ Some l → nat_eq l.0 m.0 ≡ false → IsApartFrom m (tops_of kind e)
apart-on m l kinds.Take e on ne = subst (IsApartFrom m) (sym on) ne
apart-on m l kinds.Wait e on ne = subst (IsApartFrom m) (sym on) ne
apart-on m l kinds.Leave e on ne = subst (IsApartFrom m) (sym on) ne
apart-on m l kinds.Cycle e on ne = subst (IsApartFrom m) (sym on) ne
apart-on m l kinds.Give e on ne = subst (IsApartFrom m) (sym on) ne
apart-on m l kinds.Walk e on ne = subst (IsApartFrom m) (sym on) ne
apart-on m l _ e on ne = tt

-- ---- the law

-- at one lock and one task
abbrev KeepsTop : LockId → TaskId → OwnerPart → TaskPart → Type 0
KeepsTop l u lock task = kept_of task l ≡ (if owned_by lock.owner u then top_key lock.rows else None)

module _ (s : State) (made : ℕ) (t : TaskId) (e : Event) (u : TaskId) (lawful : IsLawful s made) where
  -- an event that comes about as x changes nothing that is kept of m
  same : (x : Event) (m : LockId) → e ≡ x → IsApartFrom m (tops_of x.kind x) → KeepsTop m u (owner_part s m) (task_part (state_after s e) u)
  same x m is ne =
      let th = thread_part s e.task in
      let top = kept_of (task_part s u) m in
      let apart : IsApartFrom m (tops_of e.kind e) = subst (λ (y : Event). IsApartFrom m (tops_of y.kind y)) (sym is) ne in
      task-keeps (λ task. kept_of task m ≡ top) s e u refl (there-own m top e.kind e th apart) (there-others m top e.kind e th apart) ∙ lawful.kept m u

  -- so the law holds afterwards, where it does at the event's lock
  on_lock : (x : Event) (l m : LockId) → e ≡ x → x.lock ≡ Some l → (touched x.kind x).lock ≡ Some l → l.0 < length s.locks
      → KeepsTop l u ((effect_in (shared s) (thread_part s x.task) x).lock (owner_part s l)) (task_part (state_after s e) u) → KeepsTop m u (owner_part (state_after s e) m) (task_part (state_after s e) u)
  on_lock x l m is on named lt here = lock-made (λ k lock. KeepsTop k u lock (task_part (state_after s e) u)) s e x l m is named lt here (λ there. same x m is (apart-on m l x.kind x on there))

  take-here : (l : LockId) → IsTake s t l e → KeepsTop l u (taken_by t (owner_part s l)) (task_part (state_after s e) u)
  take-here l is =
      let rows : List Row = without t (owner_part s l).rows in
      let spinning : Bool = spins (kind_of (thread_part s t) l) in
      let left : TaskPart = leave_queue spinning (task_part s t) in
      let room : l.0 < length left.kept = subst (λ (kept : List (Option ℕ)). l.0 < length kept) (sym (leave_queue-like spinning (task_part s t)).kept) (kept_room s t l lawful.shape is.task is.lock) in
      own-made (λ v task. kept_of task l ≡ cond (nat_eq t.0 v.0) (top_key rows) None) s e _ t u is.event refl (task_room s t lawful.shape is.task) (record { owner = λ task was. was; other = λ task was. was; woken = λ task was. was })
      (with_top-here l (top_key rows) left room ∙ sym (cond-true (nat_eq t.0 t.0) (top_key rows) None (number_itself t.0)))
      (λ others. lawful.kept l u ∙ (ap (λ (o : Option TaskId). cond (owned_by o u) (top_key (owner_part s l).rows) None) (unowned-can_take t (kind_of (thread_part s t) l) (owner_part s l) (task_part s t) is.can)
      ∙ sym (cond-false (nat_eq t.0 u.0) (top_key rows) None others)))

  -- who owns a lock has room for what it keeps of it
  owned_room : (l : LockId) → l.0 < length s.locks → owned_by (owner_part s l).owner u ≡ true → l.0 < length (task_part s u).kept
  owned_room l lt its = kept_room s u l lawful.shape (owner-holds (λ v. v.0 < length s.threads) (owner_part s l).owner u (owner_within s l lawful.shape lt) its) lt

  wait-here : (l : LockId) → IsWait s t l e → KeepsTop l u (queued t (effective_of (task_part s t)) (owner_part s l)) (task_part (state_after s e) u)
  wait-here l is =
      let rows : List Row = (queued t (effective_of (task_part s t)) (owner_part s l)).rows in
      let owner : Option TaskId = (owner_part s l).owner in
      let rest = rest_of (kind_of (thread_part s t) l) (call_of (thread_part s t)) in
      let lock = asks-lock s t phases.Slow l is.at in
      let kept = (task_part s u).kept in
      owner-made (λ task. kept_of task l ≡ cond (owned_by owner u) (top_key rows) None) (λ task. task.kept ≡ kept) s e _ u is.event (owner_room s l lawful.shape lock) refl
      (λ task was. (blocked_on-like (Some l) rest task).kept ∙ was)
      (λ task was mine. with_top-here l (top_key rows) task (subst (λ (old : List (Option ℕ)). l.0 < length old) (sym was) (owned_room l lock mine)) ∙ sym (cond-true (owned_by owner u) (top_key rows) None mine))
      (λ task was others. kept-same l (task_part s u) task was ∙ (lawful.kept l u ∙ (cond-false (owned_by owner u) (top_key (owner_part s l).rows) None others ∙ sym (cond-false (owned_by owner u) (top_key rows) None others))))
      (λ task was. was) (λ task was. was)

  left-here : (l : LockId) (is : IsLeft s t l e) → KeepsTop l u (left_by t (owner_part s l)) (task_part (state_after s e) u)
  left-here l is =
      at_each_task (λ v. kept_of (task_part (state_after s e) v) l ≡ cond (owned_by owner v) (top_key rows) None) t u
      (kept-same l (task_part s t) (task_part (state_after s e) t) (left-own_like s made t l e lawful is).kept
      ∙ (lawful.kept l t ∙ (cond-false (owned_by owner t) (top_key (owner_part s l).rows) None unowned ∙ sym (cond-false (owned_by owner t) (top_key rows) None unowned))))
      (λ ne. ap (λ (task : TaskPart). kept_of task l) (left-others s made t l e lawful is u ne) ∙ refreshed-or_not (owned_by owner u) refl)
    where
      owner : Option TaskId
      owner = (owner_part s l).owner

      rows : List Row
      rows = (left_by t (owner_part s l)).rows

      unowned : owned_by owner t ≡ false
      unowned = left-unowned s made t l e lawful is

      refreshed-or_not : (b : Bool) → owned_by owner u ≡ b → kept_of (cond b (refreshed (Some l) rows (task_part s u)) (task_part s u)) l ≡ cond b (top_key rows) None
      refreshed-or_not true mine = with_top-here l (top_key rows) (task_part s u) (owned_room l (left-lock_there s made t l e lawful is) mine)
      refreshed-or_not false others = lawful.kept l u ∙ cond-false (owned_by owner u) (top_key (owner_part s l).rows) None others

  walk-here : (route : Route) (cursor : TaskId) (l : LockId) (key : ℕ) → IsWalk s t route cursor l key e → KeepsTop l u (requeued_where_old (Some cursor) (task_part s cursor) (owner_part s l)) (task_part (state_after s e) u)
  walk-here route cursor l key is =
      kept-same l (link_refreshed s made t route cursor l key e lawful is u) (task_part (state_after s e) u) (link-like s made t route cursor l key e lawful is u).kept
      ∙ (refreshed-or_not (owned_by owner u) refl ∙ ap (λ (o : Option TaskId). cond (owned_by o u) (top_key after) None) (sym (requeued-owner (Some cursor) (task_part s cursor) (owner_part s l))))
    where
      owner : Option TaskId
      owner = (owner_part s l).owner

      before : List Row
      before = (owner_part s l).rows

      after : List Row
      after = (requeued_where_old (Some cursor) (task_part s cursor) (owner_part s l)).rows

      refreshed-or_not : (b : Bool) → owned_by owner u ≡ b → kept_of (cond b (refreshed_where_changed (Some l) before after (task_part s u)) (task_part s u)) l ≡ cond b (top_key after) None
      refreshed-or_not true mine =
          cond_both (top_changed before after) (refreshed (Some l) after (task_part s u)) (task_part s u) (λ (task : TaskPart). kept_of task l ≡ top_key after)
          (λ changed. with_top-here l (top_key after) (task_part s u) (owned_room l (walk-link s made t route cursor l key e lawful is).lock mine))
          (λ same. lawful.kept l u ∙ (cond-true (owned_by owner u) (top_key before) None mine ∙ sym (unchanged-key before after same)))
      refreshed-or_not false others = lawful.kept l u ∙ cond-false (owned_by owner u) (top_key before) None others

  give-here : (l : LockId) → IsGive s t l e → kept_of (task_part (state_after s e) u) l ≡ None
  give-here l is =
      let spinning : Bool = spins (kind_of (thread_part s t) l) in
      own-made (λ v task. kept_of task l ≡ None) s e _ t u is.event refl (task_room s t lawful.shape is.at.task)
      (record { owner = λ task was. was; other = λ task was. was; woken = λ task was. kept-same l task (lock_woken spinning task) (lock_woken-like spinning task).like.kept ∙ was })
      (with_top-here l None (task_part s t) (kept_room s t l lawful.shape is.at.task is.at.lock))
      (λ others. lawful.kept l u ∙ cond-false (owned_by (owner_part s l).owner u) (top_key (owner_part s l).rows) None (one_owner (owner_part s l).owner t u (returns-owned s t l lawful.owners is.at) others))

-- kept-tops law
pub KeptTopsLaw-next : (s : State) (made : ℕ) (t : TaskId) (e : Event) → IsLawful s made → IsNext s t e → KeptTopsLaw (state_after s e)
KeptTopsLaw-next s made t e lawful next m u = by_kind next
  where
    Keeps : OwnerPart → Type 0
    Keeps lock = KeepsTop m u lock (task_part (state_after s e) u)

    left : (l : LockId) → IsLeft s t l e → Keeps (owner_part (state_after s e) m)
    left l is =
        left-locks s made t l e lawful is (λ k lock. KeepsTop k u lock (task_part (state_after s e) u)) m (left-here s made t e u lawful l is)
        (λ there. same s made t e u lawful (left_made s t l e is) m (left-is s t l e is) (apart-on m l (left_made s t l e is).kind (left_made s t l e is) refl there))

    by_kind : IsNext s t e → Keeps (owner_part (state_after s e) m)
    by_kind (by_own call answer is) = lock-kept Keeps s e _ m is.event (same s made t e u lawful _ m is.event tt) (λ lock was. was)
    by_kind (by_acquire l (is_mark is)) = lock-kept Keeps s e _ m is.event (same s made t e u lawful _ m is.event tt) (λ lock was. was)
    by_kind (by_wait l (is_again is)) = lock-kept Keeps s e _ m is.event (same s made t e u lawful _ m is.event tt) (λ lock was. was)
    by_kind (by_acquire l (is_busy is)) = lock-kept Keeps s e _ m is.event (same s made t e u lawful _ m is.event tt) (λ lock was. was)
    by_kind (by_walk route cursor (is_walkend is)) = lock-kept Keeps s e _ m is.event (same s made t e u lawful _ m is.event tt) (λ lock was. was)
    by_kind (by_confirm l path (is_restart link is)) = lock-kept Keeps s e _ m is.event (same s made t e u lawful _ m is.event tt) (λ lock was. was)
    by_kind (by_wakeup is) =
        let apart : IsApartFrom m (tops_of e.kind e) = wakeup-kind (λ kind. IsApartFrom m (tops_of kind e)) s t e is tt tt tt in
        subst Keeps (sym (wakeup-locks s t e is m)) (same s made t e u lawful e m refl apart)
    by_kind (by_reading l is) =
        let apart : IsApartFrom m (tops_of e.kind e) = reading-kind (λ kind. IsApartFrom m (tops_of kind e)) s t l e is (record { rin = tt; busy = tt; rout = tt; wwake = tt; unbias = tt; wtake = tt; wsleep = tt; wopen = tt }) in
        subst Keeps (sym (reading-locks s t l e is m)) (same s made t e u lawful e m refl apart)
    by_kind (by_setprio target prio is) = lock-kept Keeps s e _ m is.event (same s made t e u lawful _ m is.event tt) (λ lock was. was)
    by_kind (by_wait l (is_leave is)) = left l (leave-left s t l e is)
    by_kind (by_confirm l path (is_cycle is)) = left l (cycle-left s made t l path e lawful is)
    by_kind (by_acquire l (is_fast is)) =
        let none : (owner_part s l).rows ≡ [] = (lawful.rows.queue l).clear is.bit in
        on_lock s made t e u lawful _ l m is.event refl refl is.lock
        (same s made t e u lawful _ l is.event tt ∙ (nothing (owner_part s l).rows (owned_by (owner_part s l).owner u) none ∙ sym (nothing (owner_part s l).rows (nat_eq t.0 u.0) none)))
    by_kind (by_release l (is_free is)) =
        let none : (owner_part s l).rows ≡ [] = (lawful.rows.queue l).clear is.bit in
        on_lock s made t e u lawful _ l m is.event refl refl is.at.lock
        (same s made t e u lawful _ l is.event tt ∙ nothing (owner_part s l).rows (owned_by (owner_part s l).owner u) none)
    by_kind (by_acquire l (is_take is)) = on_lock s made t e u lawful _ l m is.event refl refl is.lock (take-here s made t e u lawful l is)
    by_kind (by_wait l (is_wait is)) = on_lock s made t e u lawful _ l m is.event refl refl (asks-lock s t phases.Slow l is.at) (wait-here s made t e u lawful l is)
    by_kind (by_walk route cursor (is_walk l key is)) =
        on_lock s made t e u lawful _ l m is.event refl refl (walk-link s made t route cursor l key e lawful is).lock (walk-here s made t e u lawful route cursor l key is)
    by_kind (by_release l (is_give is)) = on_lock s made t e u lawful _ l m is.event refl refl is.at.lock (give-here s made t e u lawful l is)
