-- A next event keeps the rows law.
use Rattle.std.proofs.Common.{◌≡◌, ℕ, suc, ◌≤◌, true, false, List, refl, sym, ap, ◌∙◌, subst, arith, Option, Some, None, Bool, []}
use Rattle.std.specs.Prelude.{nat_eq, option_map}
use Rattle.std.proofs.lemmas.Bool.{cond_both}
use Rattle.rt_base.specs.declared.id.LockId.{LockId}
use Rattle.rt_base.specs.declared.id.TaskId.{TaskId}
use Rattle.rt_model.specs.declared.event.Event.{Event}
use Rattle.rt_model.specs.declared.phase.Phase.TheVariants as phases
use Rattle.rt_model.specs.declared.phase.Route.{Route}
use Rattle.rt_model.specs.declared.row.Row.{Row}
use Rattle.rt_model.specs.Parts.{OwnerPart, TaskPart, effective_of}
use Rattle.rt_model.specs.Rows.{queued_key, without, has_rows}
use Rattle.rt_model.specs.State.{State, owner_part, task_part}
use Rattle.rt_model.specs.steps.Lock.{queued, left_by, taken_by, requeued}
use Rattle.rt_model.specs.steps.Chain.{has_old_key, requeued_where_old}
use Rattle.rt_model.specs.StateAfter.{state_after}
use Rattle.rt_model.specs.laws.Rows.{IsQueue, RowsLaw, key_at}
use Rattle.rt_model.specs.laws.Lawful.{IsLawful}
use Rattle.rt_model.proofs.Blocked.{moves, requeues, rows-kept, blocked-kept, blocked-other, take-blocked, wait-blocked}
use Rattle.rt_model.proofs.Calling.{asks-lock}
use Rattle.rt_model.proofs.Calm.{wakeup-kind, wakeup-locks}
use Rattle.rt_model.proofs.Leaves.{IsLeft, leave-left, cycle-left, left-locks, left-blocked, left-own_blocked, left-blocked_other}
use Rattle.rt_model.proofs.PartsAfter.{lock-made, lock-kept}
use Rattle.rt_model.proofs.NextEvents.{IsNext, by_own, by_acquire, by_wait, by_release, by_reading, by_walk, by_confirm, by_wakeup, by_setprio}
use Rattle.rt_model.proofs.events.Acquire.{IsTake, is_fast, is_mark, is_take, is_busy}
use Rattle.rt_model.proofs.events.Wait.{IsWait, is_wait, is_again, is_leave}
use Rattle.rt_model.proofs.events.Release.{is_free, is_give}
use Rattle.rt_model.proofs.events.Walk.{IsWalk, is_walk, is_walkend, is_restart, is_cycle}
use Rattle.rt_model.proofs.Links.{link-locks, link-blocked, link-blocked_other}
use Rattle.rt_model.proofs.Queues.{none_of, queue-ordered, insert-ordered, without-ordered, where_old-queue, where_old-key, where_old-other, row_of-insert, row_of-insert_other, row_of-without, row_of-without_other, no_rows}
use Rattle.rt_model.proofs.Waiters.{blocking, key_elsewhere, take-elsewhere, slow-nowhere, slow-unqueued}
use Rattle.rt_model.proofs.Numbers.{number_itself, at_each_task}
use Rattle.rt_model.proofs.Reading.{reading-kind, reading-locks}

-- ---- where a task is queued

key_there : (l : LockId) (k : ℕ) → Some k ≡ key_at (Some (l, k)) l
key_there l k = rw (number_itself l.0) refl

key_not_there : (l m : LockId) (k : ℕ) → nat_eq l.0 m.0 ≡ false → None ≡ key_at (Some (l, k)) m
key_not_there l m k is = rw is refl

-- a blocked task is queued with its key
pub blocked-queued : (s : State) (made : ℕ) (u : TaskId) (l : LockId) (key : ℕ) → RowsLaw s made → (task_part s u).blocked ≡ Some (l, key) → queued_key u (owner_part s l).rows ≡ Some key
blocked-queued s made u l key law is = law.rows l u ∙ (ap (λ (b : Option (LockId × ℕ)). key_at b l) is ∙ sym (key_there l key))

-- ---- the queue of one lock

-- the rows of a lock and its next ticket, after so many events
pub record IsQueueAt (made : ℕ) (lock : OwnerPart) : Type 0 where
  pub queue : IsQueue lock
  pub ticket : lock.ticket ≤ made

-- where the rows stay, and the bit is clear only where there are none
same_rows : (made : ℕ) (lock : OwnerPart) (owner : Option TaskId) (bit : Bool) → (bit ≡ false → lock.rows ≡ []) → IsQueueAt made lock → IsQueueAt (suc made) (record lock { owner = owner; bit = bit })
same_rows made lock owner bit clear is = let ticket = is.ticket in record { queue = record { clear = clear; order = is.queue.order; tickets = is.queue.tickets }; ticket = omega arith }

-- a task leaves, whoever owns the lock then
fewer : (made : ℕ) (t : TaskId) (lock : OwnerPart) (owner : Option TaskId) → IsQueueAt made lock → IsQueueAt (suc made) (record (left_by t lock) { owner = owner })
fewer made t lock owner is =
    let ticket = is.ticket in
    let ordered = without-ordered t lock.ticket lock.rows (queue-ordered lock is.queue) in
    record { queue = record { clear = no_rows (without t lock.rows); order = ordered.order; tickets = ordered.tickets }; ticket = omega arith }

more : (made : ℕ) (t : TaskId) (key : ℕ) (lock : OwnerPart) → queued_key t lock.rows ≡ None → IsQueueAt made lock → IsQueueAt (suc made) (queued t key lock)
more made t key lock none is =
    let ticket = is.ticket in
    let ordered = insert-ordered t key lock.ticket lock.rows (none_of t lock.rows none) (queue-ordered lock is.queue) in
    record { queue = record { clear = λ is. absurd cc; order = ordered.order; tickets = ordered.tickets }; ticket = omega arith }

-- a task may be queued anew
anew : (made : ℕ) (t : TaskId) (task : TaskPart) (old : ℕ) (lock : OwnerPart) → queued_key t lock.rows ≡ Some old → IsQueueAt made lock → IsQueueAt (suc made) (requeued_where_old (Some t) task lock)
anew made t task old lock was is =
    let ticket = is.ticket in
    record {
      queue = where_old-queue t task lock old was is.queue;
      ticket = cond_both (has_old_key task) (requeued t (effective_of task) lock) lock (λ (x : OwnerPart). x.ticket ≤ suc made) (λ is. omega arith) (λ is. omega arith);
    }

queue-next : (s : State) (made : ℕ) (t : TaskId) (e : Event) (m : LockId) → IsLawful s made → IsNext s t e → IsQueueAt (suc made) (owner_part (state_after s e) m)
queue-next s made t e m lawful next = by_kind next
  where
    Queue : LockId → OwnerPart → Type 0
    Queue k lock = IsQueueAt (suc made) lock

    was : (k : LockId) → IsQueueAt made (owner_part s k)
    was k = record { queue = lawful.rows.queue k; ticket = lawful.rows.tickets k }

    stays : (k : LockId) (owner : Option TaskId) (bit : Bool) → (bit ≡ false → (owner_part s k).rows ≡ []) → IsQueueAt (suc made) (record (owner_part s k) { owner = owner; bit = bit })
    stays k owner bit clear = same_rows made (owner_part s k) owner bit clear (was k)

    same : (k : LockId) → IsQueueAt (suc made) (owner_part s k)
    same k = stays k (owner_part s k).owner (owner_part s k).bit (was k).queue.clear

    left : (l : LockId) → IsLeft s t l e → Queue m (owner_part (state_after s e) m)
    left l is = left-locks s made t l e lawful is Queue m (fewer made t (owner_part s l) (owner_part s l).owner (was l)) (λ there. same m)

    by_kind : IsNext s t e → Queue m (owner_part (state_after s e) m)
    by_kind (by_own call answer is) = lock-kept (Queue m) s e _ m is.event (same m) (λ lock was. was)
    by_kind (by_wait l (is_again is)) = lock-kept (Queue m) s e _ m is.event (same m) (λ lock was. was)
    by_kind (by_acquire l (is_busy is)) = lock-kept (Queue m) s e _ m is.event (same m) (λ lock was. was)
    by_kind (by_walk route u (is_walkend is)) = lock-kept (Queue m) s e _ m is.event (same m) (λ lock was. was)
    by_kind (by_confirm l path (is_restart link is)) = lock-kept (Queue m) s e _ m is.event (same m) (λ lock was. was)
    by_kind (by_wakeup is) = subst (Queue m) (sym (wakeup-locks s t e is m)) (same m)
    by_kind (by_reading l is) = subst (Queue m) (sym (reading-locks s t l e is m)) (same m)
    by_kind (by_setprio u prio is) = lock-kept (Queue m) s e _ m is.event (same m) (λ lock was. was)
    by_kind (by_wait l (is_leave is)) = left l (leave-left s t l e is)
    by_kind (by_confirm l path (is_cycle is)) = left l (cycle-left s made t l path e lawful is)
    by_kind (by_acquire l (is_fast is)) = lock-made Queue s e _ l m is.event refl is.lock (stays l (Some t) (owner_part s l).bit (was l).queue.clear) (λ there. same m)
    by_kind (by_acquire l (is_mark is)) = lock-made Queue s e _ l m is.event refl is.lock (stays l (owner_part s l).owner true (λ clear. absurd cc)) (λ there. same m)
    by_kind (by_acquire l (is_take is)) = lock-made Queue s e _ l m is.event refl is.lock (fewer made t (owner_part s l) (Some t) (was l)) (λ there. same m)
    by_kind (by_wait l (is_wait is)) =
        lock-made Queue s e _ l m is.event refl (asks-lock s t phases.Slow l is.at)
        (more made t (effective_of (task_part s t)) (owner_part s l) (slow-unqueued s made t lawful l is.at.call is.at.at) (was l)) (λ there. same m)
    by_kind (by_walk route u (is_walk l key is)) =
        link-locks s made t route u l key e lawful is Queue m (anew made u (task_part s u) key (owner_part s l) (blocked-queued s made u l key lawful.rows is.blocked) (was l)) (λ there. same m)
    by_kind (by_release l (is_free is)) =
        lock-made Queue s e _ l m is.event refl is.at.lock (stays l None (owner_part s l).bit (was l).queue.clear) (λ there. same m)
    by_kind (by_release l (is_give is)) =
        lock-made Queue s e _ l m is.event refl is.at.lock (stays l None (has_rows (owner_part s l).rows) (no_rows (owner_part s l).rows)) (λ there. same m)

-- ---- rows and blocked tasks

-- the task's row at a lock is the one with which it is blocked there
abbrev HasRow : LockId → TaskId → List Row → Option (LockId × ℕ) → Type 0
HasRow m u rows blocked = queued_key u rows ≡ key_at blocked m

-- where an event changes what task w is blocked on, and leaves lock l so, with the row of w changed
row-moved : (s : State) (e : Event) (l m : LockId) (w u : TaskId) (b : Option (LockId × ℕ)) (left : OwnerPart) → ((k : LockId) (v : TaskId) → HasRow k v (owner_part s k).rows (task_part s v).blocked)
    → ((P : LockId → OwnerPart → Type 0) → P l left → (nat_eq l.0 m.0 ≡ false → P m (owner_part s m)) → P m (owner_part (state_after s e) m))
    → (task_part (state_after s e) w).blocked ≡ b → HasRow l w left.rows b → (nat_eq w.0 u.0 ≡ false → (task_part (state_after s e) u).blocked ≡ (task_part s u).blocked)
    → (nat_eq w.0 u.0 ≡ false → queued_key u left.rows ≡ queued_key u (owner_part s l).rows) → (nat_eq l.0 m.0 ≡ false → key_at (task_part s w).blocked m ≡ key_at b m)
    → HasRow m u (owner_part (state_after s e) m).rows (task_part (state_after s e) u).blocked
row-moved s e l m w u b left law reads at own kept others elsewhere =
    reads (λ k lock. HasRow k u lock.rows (task_part (state_after s e) u).blocked)
    (at_each_task (λ v. HasRow l v left.rows (task_part (state_after s e) v).blocked) w u (own ∙ its l) (λ ne. others ne ∙ (law l u ∙ anothers l ne)))
    (λ there. at_each_task (λ v. HasRow m v (owner_part s m).rows (task_part (state_after s e) v).blocked) w u (law m w ∙ (elsewhere there ∙ its m)) (λ ne. law m u ∙ anothers m ne))
  where
    its : (k : LockId) → key_at b k ≡ key_at (task_part (state_after s e) w).blocked k
    its k = sym (ap (λ (c : Option (LockId × ℕ)). key_at c k) at)

    anothers : (k : LockId) → nat_eq w.0 u.0 ≡ false → key_at (task_part s u).blocked k ≡ key_at (task_part (state_after s e) u).blocked k
    anothers k ne = sym (ap (λ (c : Option (LockId × ℕ)). key_at c k) (kept ne))

-- an event of task t that queues no other anew leaves each other blocked as it was
blocked-still : (s : State) (t : TaskId) (e x : Event) (u : TaskId) → e ≡ x → x.task ≡ t → requeues x.kind ≡ false → nat_eq t.0 u.0 ≡ false → (task_part (state_after s e) u).blocked ≡ (task_part s u).blocked
blocked-still s t e x u is own kept ne = blocked-other s e x u is kept (ap (λ (y : Event). nat_eq y.task.0 u.0) is ∙ (ap (λ (v : TaskId). nat_eq v.0 u.0) own ∙ ne))

module _ (s : State) (made : ℕ) (t : TaskId) (e : Event) (m : LockId) (u : TaskId) (lawful : IsLawful s made) where
  abbrev RowLeft : Type 0
  RowLeft = HasRow m u (owner_part (state_after s e) m).rows (task_part (state_after s e) u).blocked

  key-of : {one other : Option Row} → one ≡ other → option_map (λ (row : Row). row.key) one ≡ option_map (λ (row : Row). row.key) other
  key-of same = ap (option_map (λ (row : Row). row.key)) same

  take-row : (l : LockId) → IsTake s t l e → RowLeft
  take-row l is =
      row-moved s e l m t u None (taken_by t (owner_part s l)) lawful.rows.rows (λ P. lock-made P s e _ l m is.event refl is.lock)
      (take-blocked s t e l lawful.shape is) (key-of (row_of-without t (owner_part s l).rows))
      (blocked-still s t e _ u is.event refl refl) (λ ne. key-of (row_of-without_other t u (owner_part s l).rows ne)) (take-elsewhere s made t lawful l m is.how)

  left-row : (l : LockId) → IsLeft s t l e → RowLeft
  left-row l is =
      row-moved s e l m t u None (left_by t (owner_part s l)) lawful.rows.rows (λ P. left-locks s made t l e lawful is P m)
      (left-own_blocked s made t l e lawful is) (key-of (row_of-without t (owner_part s l).rows))
      (left-blocked_other s made t l e lawful is u) (λ ne. key-of (row_of-without_other t u (owner_part s l).rows ne))
      (key_elsewhere (task_part s t).blocked l m (ap blocking (left-blocked s made t l e lawful is).1))

  wait-row : (l : LockId) → IsWait s t l e → RowLeft
  wait-row l is =
      let key : ℕ = effective_of (task_part s t) in
      let row : Row = record { key = key; ticket = (owner_part s l).ticket; who = t.0 } in
      let none = none_of t (owner_part s l).rows (slow-unqueued s made t lawful l is.at.call is.at.at) in
      row-moved s e l m t u (Some (l, key)) (queued t key (owner_part s l)) lawful.rows.rows (λ P. lock-made P s e _ l m is.event refl (asks-lock s t phases.Slow l is.at))
      (wait-blocked s t e l lawful.shape is) (key-of (row_of-insert t row (owner_part s l).rows (number_itself t.0) none) ∙ key_there l key)
      (blocked-still s t e _ u is.event refl refl) (λ ne. key-of (row_of-insert_other u row (owner_part s l).rows ne))
      (λ there. slow-nowhere s made t lawful m is.at.call is.at.at ∙ key_not_there l m key there)

  -- here it is the cursor that moves
  walk-row : (route : Route) (cursor : TaskId) (l : LockId) (key : ℕ) → IsWalk s t route cursor l key e → RowLeft
  walk-row route cursor l key is =
      let task : TaskPart = task_part s cursor in
      row-moved s e l m cursor u (Some (l, effective_of task)) (requeued_where_old (Some cursor) task (owner_part s l)) lawful.rows.rows
      (λ P. link-locks s made t route cursor l key e lawful is P m) (link-blocked s made t route cursor l key e lawful is)
      (where_old-key cursor task (owner_part s l) l key is.blocked (blocked-queued s made cursor l key lawful.rows is.blocked) ∙ key_there l (effective_of task))
      (link-blocked_other s made t route cursor l key e lawful is u) (λ ne. key-of (where_old-other cursor task (owner_part s l) u ne))
      (λ apart. ap (λ (b : Option (LockId × ℕ)). key_at b m) is.blocked ∙ (sym (key_not_there l m key apart) ∙ key_not_there l m (effective_of task) apart))

  -- an event that moves no task
  still : (x : Event) → e ≡ x → moves x.kind ≡ false → RowLeft
  still x is unmoved = ap (queued_key u) (rows-kept s e x m is unmoved) ∙ (lawful.rows.rows m u ∙ sym (ap (λ (b : Option (LockId × ℕ)). key_at b m) (blocked-kept s e x u is unmoved)))

  row-next : IsNext s t e → RowLeft
  row-next (by_acquire l (is_take is)) = take-row l is
  row-next (by_wait l (is_wait is)) = wait-row l is
  row-next (by_walk route cursor (is_walk l key is)) = walk-row route cursor l key is
  row-next (by_wait l (is_leave is)) = left-row l (leave-left s t l e is)
  row-next (by_confirm l path (is_cycle is)) = left-row l (cycle-left s made t l path e lawful is)
  row-next (by_own call answer is) = still _ is.event refl
  row-next (by_acquire l (is_fast is)) = still _ is.event refl
  row-next (by_acquire l (is_mark is)) = still _ is.event refl
  row-next (by_acquire l (is_busy is)) = still _ is.event refl
  row-next (by_wait l (is_again is)) = still _ is.event refl
  row-next (by_walk route cursor (is_walkend is)) = still _ is.event refl
  row-next (by_confirm l path (is_restart link is)) = still _ is.event refl
  row-next (by_wakeup is) = still e refl (wakeup-kind (λ kind. moves kind ≡ false) s t e is refl refl refl)
  row-next (by_reading l is) =
      still e refl (reading-kind (λ kind. moves kind ≡ false) s t l e is (record { rin = refl; busy = refl; rout = refl; wwake = refl; unbias = refl; wtake = refl; wsleep = refl; wopen = refl }))
  row-next (by_setprio target prio is) = still _ is.event refl
  row-next (by_release l (is_free is)) = still _ is.event refl
  row-next (by_release l (is_give is)) = still _ is.event refl

-- rows law
pub RowsLaw-next : (s : State) (made : ℕ) (t : TaskId) (e : Event) → IsLawful s made → IsNext s t e → RowsLaw (state_after s e) (suc made)
RowsLaw-next s made t e lawful next = record {
  queue = λ l. (queue-next s made t e l lawful next).queue;
  tickets = λ l. (queue-next s made t e l lawful next).ticket;
  rows = λ l u. row-next s made t e l u lawful next;
}
