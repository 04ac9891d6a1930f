-- What a link of a walk leaves, a walk's end, a restart, and a setprio.
use Rattle.std.proofs.Common.{◌≡◌, ℕ, ◌<◌, Bool, true, false, cond, List, [], length, refl, sym, ap, ◌∙◌, subst, Option, Some, None, IfSome, ◌&&◌, is_none}
use Rattle.std.specs.Prelude.{nat_eq}
use Rattle.std.proofs.lemmas.Bool.{cond-true, cond-false, cond_both}
use Rattle.rt_base.specs.Kind.{spins}
use Rattle.rt_base.specs.declared.id.LockId.{LockId}
use Rattle.rt_base.specs.declared.id.TaskId.{TaskId}
use Rattle.rt_base.specs.declared.reply.Reply.TheVariants.{Done}
use Rattle.rt_model.specs.declared.event.Event.{Event}
use Rattle.rt_model.specs.declared.phase.Phase.{Phase}
use Rattle.rt_model.specs.declared.phase.Phase.TheVariants.{Walk}
use Rattle.rt_model.specs.declared.phase.Route.{Route}
use Rattle.rt_model.specs.declared.phase.Route.TheVariants.{Full, Short}
use Rattle.rt_model.specs.declared.row.Row.{Row}
use Rattle.rt_model.specs.Parts.{OwnerPart, TaskPart, ThreadPart, effective_of, kind_of}
use Rattle.rt_model.specs.Rows.{top_changed, top_task}
use Rattle.rt_model.specs.Path.{Link}
use Rattle.rt_model.specs.State.{State, shared, task_at, owner_part, task_part, thread_part}
use Rattle.rt_model.specs.steps.Lock.{requeued}
use Rattle.rt_model.specs.steps.Task.{with_own, lock_woken}
use Rattle.rt_model.specs.steps.Thread.{answered_with}
use Rattle.rt_model.specs.steps.Chain.{has_old_key, requeued_where_old, rekeyed, refreshed_where_changed, newly_top, followed, goes_on, phase_of_walk, answer_of_walk}
use Rattle.rt_model.specs.events.Walk.{walkend_event, walk_event, phase_after_link, phase_after_end, restart_event}
use Rattle.rt_model.specs.events.Wakeups.{setprio_event}
use Rattle.rt_model.specs.Rules.{touched}
use Rattle.rt_model.specs.StateAfter.{effect_in, lock_left, thread_after, state_after}
use Rattle.rt_model.specs.laws.Lawful.{IsLawful}
use Rattle.rt_model.specs.laws.Owners.{owned_by}
use Rattle.rt_model.specs.laws.Shape.{IsShaped, IsWithin}
use Rattle.rt_model.proofs.CellStepLemmas.{IsLike, IsWoken, lock_woken-like, rekeyed-like, rekeyed-at, where_changed-blocked}
use Rattle.rt_model.proofs.Named.{of_walk}
use Rattle.rt_model.proofs.Numbers.{number_itself, other_way}
use Rattle.rt_model.proofs.PartsAfter.{SlotsThere, slots-made, other-made, task-keeps, lock-made, locks-kept}
use Rattle.rt_model.proofs.Waiters.{IsLink, walk-link, walk-phase}
use Rattle.rt_model.proofs.events.Walk.{IsWalk, IsWalkEnd, is_walk, IsRestart}
use Rattle.rt_model.proofs.events.Wakeups.{IsSetPrio}

-- a thread whose walk goes on to this phase, or ends
abbrev pub walked_thread : ThreadPart → Route → Option Phase → ThreadPart
walked_thread thread route next = answered_with (record thread { phase = phase_of_walk next }) (answer_of_walk route next)

-- the tasks that an event names are in the list of tasks
pub slots_there : (s : State) (x : Event) → IsShaped s → IfSome (touched x.kind x).owner (λ v. v.0 < length s.threads) → IfSome (touched x.kind x).other (λ v. v.0 < length s.threads)
    → IfSome (touched x.kind x).woken (λ v. v.0 < length s.threads) → SlotsThere (touched x.kind x) (length s.tasks)
slots_there s x shaped owner other woken = record {
  owner = subst (λ (n : ℕ). IfSome (touched x.kind x).owner (λ v. v.0 < n)) (sym shaped.tasks) owner;
  other = subst (λ (n : ℕ). IfSome (touched x.kind x).other (λ v. v.0 < n)) (sym shaped.tasks) other;
  woken = subst (λ (n : ℕ). IfSome (touched x.kind x).woken (λ v. v.0 < n)) (sym shaped.tasks) woken;
}

-- a queue in which a task is queued anew, or not, has the owner and the bit that it had
pub requeued-owner : (u : Option TaskId) (task : TaskPart) (lock : OwnerPart) → (requeued_where_old u task lock).owner ≡ lock.owner
requeued-owner None task lock = refl
requeued-owner (Some u) task lock = cond_both (has_old_key task) (requeued u (effective_of task) lock) lock (λ (x : OwnerPart). x.owner ≡ lock.owner) (λ is. refl) (λ is. refl)

pub requeued-bit : (u : Option TaskId) (task : TaskPart) (lock : OwnerPart) → (requeued_where_old u task lock).bit ≡ lock.bit
requeued-bit None task lock = refl
requeued-bit (Some u) task lock = cond_both (has_old_key task) (requeued u (effective_of task) lock) lock (λ (x : OwnerPart). x.bit ≡ lock.bit) (λ is. refl) (λ is. refl)

-- ---- a link

module _ (s : State) (made : ℕ) (t : TaskId) (route : Route) (u : TaskId) (l : LockId) (key : ℕ) (e : Event) (lawful : IsLawful s made) (is : IsWalk s t route u l key e) where
  -- the event, the lock as it leaves it, the lock's owner before, and how the walk goes on
  abbrev pub link_made : Event
  link_made = walk_event t route u l (owner_part s l) (task_part s u) (task_at (shared s) (owner_part s l).owner)

  abbrev pub link_lock : OwnerPart
  link_lock = requeued_where_old (Some u) (task_part s u) (owner_part s l)

  abbrev pub link_owner : TaskPart → TaskPart
  link_owner task = refreshed_where_changed (Some l) (owner_part s l).rows link_lock.rows task

  abbrev pub link_woken : Option TaskId
  link_woken = newly_top (owner_part s l) link_lock

  abbrev pub link_next : Option Phase
  link_next = goes_on t (followed u l route) (owner_part s l).owner (link_owner (task_at (shared s) (owner_part s l).owner))

  there : IsLink s u l
  there = walk-link s made t route u l key e lawful is

  -- its lock is left so, and every other as it was
  pub link-locks : (P : LockId → OwnerPart → Type 0) (m : LockId) → P l link_lock → (nat_eq l.0 m.0 ≡ false → P m (owner_part s m)) → P m (owner_part (state_after s e) m)
  link-locks P m here others = lock-made P s e link_made l m is.event refl there.lock here others

  -- a task as the owner, as the cursor, and as the one that is woken
  abbrev pub link_task : TaskId → TaskPart → TaskPart
  link_task v task =
      let owner = cond (owned_by (owner_part s l).owner v) (link_owner task) task in
      let cursor = cond (nat_eq u.0 v.0) (rekeyed owner) owner in
      cond (owned_by link_woken v) (lock_woken (spins (kind_of (thread_part s t) l)) cursor) cursor

  -- the tasks that it names are there
  pub link-slots : SlotsThere (touched link_made.kind link_made) (length s.tasks)
  link-slots =
      let names = subst (IsWithin (length s.threads) (length s.locks)) is.event (of_walk s made t e lawful route u (is_walk l key is)) in
      slots_there s link_made lawful.shape names.owner names.other names.woken

  pub link-task : (v : TaskId) → task_part (state_after s e) v ≡ link_task v (task_part s v)
  link-task v =
      slots-made (λ task. task ≡ task_part s v) (λ task. task ≡ owner) (λ task. task ≡ cursor) (λ task. task ≡ link_task v (task_part s v)) s e link_made v is.event link-slots refl (λ task same. same) (record {
        owner = λ task same its. ap link_owner same ∙ sym (cond-true (owned_by (owner_part s l).owner v) (link_owner (task_part s v)) (task_part s v) its);
        not_owner = λ task same its. same ∙ sym (cond-false (owned_by (owner_part s l).owner v) (link_owner (task_part s v)) (task_part s v) its);
        other = λ task same its. ap rekeyed same ∙ sym (cond-true (nat_eq u.0 v.0) (rekeyed owner) owner its);
        not_other = λ task same its. same ∙ sym (cond-false (nat_eq u.0 v.0) (rekeyed owner) owner its);
        woken = λ task same its. ap (lock_woken spinning) same ∙ sym (cond-true (owned_by link_woken v) (lock_woken spinning cursor) cursor its);
        not_woken = λ task same its. same ∙ sym (cond-false (owned_by link_woken v) (lock_woken spinning cursor) cursor its);
      })
    where
      owner : TaskPart
      owner = cond (owned_by (owner_part s l).owner v) (link_owner (task_part s v)) (task_part s v)

      cursor : TaskPart
      cursor = cond (nat_eq u.0 v.0) (rekeyed owner) owner

      spinning : Bool
      spinning = spins (kind_of (thread_part s t) l)

  -- a lock with an owner wakes nobody
  none_woken : (o : TaskId) → (owner_part s l).owner ≡ Some o → link_woken ≡ None
  none_woken o some =
      ap (λ (p : Option TaskId). cond (is_none p && top_changed (owner_part s l).rows link_lock.rows) (top_task link_lock.rows) None) (requeued-owner (Some u) (task_part s u) (owner_part s l) ∙ some)

  -- the owner is refreshed, and nothing else
  pub link-owner : (o : TaskId) → (owner_part s l).owner ≡ Some o → task_part (state_after s e) o ≡ link_owner (task_part s o)
  link-owner o some =
      let its : owned_by (owner_part s l).owner o ≡ true = ap (λ (p : Option TaskId). owned_by p o) some ∙ number_itself o.0 in
      let owner : TaskPart = cond (owned_by (owner_part s l).owner o) (link_owner (task_part s o)) (task_part s o) in
      let cursor : TaskPart = cond (nat_eq u.0 o.0) (rekeyed owner) owner in
      let asleep : owned_by link_woken o ≡ false = ap (λ (p : Option TaskId). owned_by p o) (none_woken o some) in
      link-task o ∙ (cond-false (owned_by link_woken o) (lock_woken (spins (kind_of (thread_part s t) l)) cursor) cursor asleep
      ∙ (cond-false (nat_eq u.0 o.0) (rekeyed owner) owner (apart o some) ∙ cond-true (owned_by (owner_part s l).owner o) (link_owner (task_part s o)) (task_part s o) its))
    where
      apart : (o : TaskId) → (owner_part s l).owner ≡ Some o → nat_eq u.0 o.0 ≡ false
      apart o some = other_way u o (sym (ap (λ (p : Option TaskId). owned_by p u) some) ∙ there.unowned)

  -- how the walk goes on is told by the owner as it is left
  next_left : goes_on t (followed u l route) (owner_part s l).owner (task_at (shared (state_after s e)) (owner_part s l).owner) ≡ link_next
  next_left = by_owner (owner_part s l).owner refl
    where
      by_owner : (owner : Option TaskId) → (owner_part s l).owner ≡ owner → goes_on t (followed u l route) owner (task_at (shared (state_after s e)) owner) ≡ goes_on t (followed u l route) owner (link_owner (task_at (shared s) owner))
      by_owner None none = refl
      by_owner (Some o) some = ap (λ (task : TaskPart). goes_on t (followed u l route) (Some o) task) (link-owner o some)

  -- its thread
  pub link-thread : thread_after (shared s) (thread_part s t) link_made ≡ walked_thread (thread_part s t) route link_next
  link-thread =
      ap (λ (p : Phase). answered_with (record (thread_part s t) { phase = phase_after_link t (Some l) (owner_part s l).owner (task_at (shared (state_after s link_made)) (owner_part s l).owner) p }) (answer_of_walk route link_next)) (walk-phase s t route u is.how)
      ∙ (ap (λ (y : Event). answered_with (record (thread_part s t) { phase = phase_of_walk (goes_on t (followed u l route) (owner_part s l).owner (task_at (shared (state_after s y)) (owner_part s l).owner)) }) (answer_of_walk route link_next)) (sym is.event)
      ∙ ap (λ (n : Option Phase). answered_with (record (thread_part s t) { phase = phase_of_walk n }) (answer_of_walk route link_next)) next_left)

-- ---- a walk's end

module _ (s : State) (t : TaskId) (route : Route) (u : TaskId) (e : Event) (is : IsWalkEnd s t route u e) where
  pub end-thread : thread_after (shared s) (thread_part s t) (walkend_event t route u) ≡ walked_thread (thread_part s t) route None
  end-thread = ap (λ (p : Phase). answered_with (record (thread_part s t) { phase = phase_after_end p }) (answer_of_walk route None)) (walk-phase s t route u is.how)

  -- all else is as it was
  pub end-task : (v : TaskId) → task_part (state_after s e) v ≡ task_part s v
  end-task v = ap (λ (y : Event). task_part (state_after s y) v) is.event ∙ task-keeps (λ task. task ≡ task_part s v) s (walkend_event t route u) v refl (λ found lock task same. same)
      (λ found lock. record { owner = λ task same. same; other = λ task same. same; woken = λ task same. same })

  pub end-lock : (m : LockId) → owner_part (state_after s e) m ≡ owner_part s m
  end-lock m = ap (λ (y : Event). owner_part (state_after s y) m) is.event ∙ locks-kept s (walkend_event t route u) m (λ lock. refl)

-- ---- a restart

module _ (s : State) (t : TaskId) (l : LockId) (path : List (ℕ × ℕ)) (link : Link) (e : Event) (is : IsRestart s t l path link e) where
  -- its walk stands at its own task again
  pub restart-thread : thread_after (shared s) (thread_part s t) (restart_event t path link) ≡ record (thread_part s t) { phase = Walk t (Full []) }
  restart-thread = refl

  -- all else is as it was
  pub restart-task : (v : TaskId) → task_part (state_after s e) v ≡ task_part s v
  restart-task v = ap (λ (y : Event). task_part (state_after s y) v) is.event ∙ task-keeps (λ task. task ≡ task_part s v) s (restart_event t path link) v refl (λ found lock task same. same)
      (λ found lock. record { owner = λ task same. same; other = λ task same. same; woken = λ task same. same })

  pub restart-lock : (m : LockId) → owner_part (state_after s e) m ≡ owner_part s m
  restart-lock m = ap (λ (y : Event). owner_part (state_after s y) m) is.event ∙ locks-kept s (restart_event t path link) m (λ lock. refl)

-- ---- a setprio: one other task, or the own, is changed

-- an event that changes task u by f, and no other
record ChangesOther (s : State) (x : Event) (u : TaskId) (f : TaskPart → TaskPart) : Type 0 where
  named : (touched x.kind x).other ≡ Some u
  own : (task : TaskPart) → (effect_in (shared s) (thread_part s x.task) x).own (lock_left (shared s) (thread_part s x.task) x) task ≡ task
  owner : (task : TaskPart) → (effect_in (shared s) (thread_part s x.task) x).owner (lock_left (shared s) (thread_part s x.task) x) task ≡ task
  other : (task : TaskPart) → (effect_in (shared s) (thread_part s x.task) x).other (lock_left (shared s) (thread_part s x.task) x) task ≡ f task
  woken : (task : TaskPart) → (effect_in (shared s) (thread_part s x.task) x).woken (lock_left (shared s) (thread_part s x.task) x) task ≡ task

other-task : (s : State) (u : TaskId) (f : TaskPart → TaskPart) (e x : Event) (v : TaskId) → e ≡ x → SlotsThere (touched x.kind x) (length s.tasks) → ChangesOther s x u f
    → task_part (state_after s e) v ≡ cond (nat_eq u.0 v.0) (f (task_part s v)) (task_part s v)
other-task s u f e x v is there alone =
    other-made (λ task. task ≡ left) (λ task. task ≡ task_part s v) s e x v is there refl (λ task same. alone.own task ∙ same) (λ task same. alone.owner task ∙ same)
    (λ task same its. alone.other task ∙ (ap f same ∙ sym (cond-true (nat_eq u.0 v.0) (f (task_part s v)) (task_part s v) (sym (named v) ∙ its))))
    (λ task same its. same ∙ sym (cond-false (nat_eq u.0 v.0) (f (task_part s v)) (task_part s v) (sym (named v) ∙ its))) (λ task same. alone.woken task ∙ same)
  where
    left : TaskPart
    left = cond (nat_eq u.0 v.0) (f (task_part s v)) (task_part s v)

    named : (w : TaskId) → owned_by (touched x.kind x).other w ≡ nat_eq u.0 w.0
    named w = ap (λ (o : Option TaskId). owned_by o w) alone.named

module _ (s : State) (made : ℕ) (t u : TaskId) (prio : ℕ) (e : Event) (lawful : IsLawful s made) (is : IsSetPrio s t u prio e) where
  abbrev pub setprio_made : Event
  setprio_made = setprio_event t u prio (task_part s u)

  -- the walk that begins, or none
  abbrev pub setprio_next : Option Phase
  setprio_next = goes_on t (Short Done) (Some u) (with_own prio (task_part s u))

  -- its target has that own priority, and every other task is as it was
  pub setprio-task : (v : TaskId) → task_part (state_after s e) v ≡ cond (nat_eq u.0 v.0) (with_own prio (task_part s v)) (task_part s v)
  setprio-task v =
      other-task s u (with_own prio) e setprio_made v is.event (slots_there s setprio_made lawful.shape tt is.at.served.0 tt)
      (record { named = refl; own = λ task. refl; owner = λ task. refl; other = λ task. refl; woken = λ task. refl })

  pub setprio-target : task_part (state_after s e) u ≡ with_own prio (task_part s u)
  setprio-target = setprio-task u ∙ cond-true (nat_eq u.0 u.0) (with_own prio (task_part s u)) (task_part s u) (number_itself u.0)

  pub setprio-lock : (m : LockId) → owner_part (state_after s e) m ≡ owner_part s m
  setprio-lock m = ap (λ (y : Event). owner_part (state_after s y) m) is.event ∙ locks-kept s setprio_made m (λ lock. refl)

  pub setprio-thread : thread_after (shared s) (thread_part s t) setprio_made ≡ walked_thread (thread_part s t) (Short Done) setprio_next
  setprio-thread =
      ap (λ (task : TaskPart). answered_with (record (thread_part s t) { phase = phase_of_walk (goes_on t (Short Done) (Some u) task) }) (answer_of_walk (Short Done) setprio_next))
      (sym (ap (λ (y : Event). task_part (state_after s y) u) is.event) ∙ setprio-target)

-- ---- what a link leaves of a task, part by part

module _ (s : State) (made : ℕ) (t : TaskId) (route : Route) (u : TaskId) (l : LockId) (key : ℕ) (e : Event) (lawful : IsLawful s made) (is : IsWalk s t route u l key e) where
  -- a task refreshed, where it owns the lock, and then queued anew, where it is the cursor
  abbrev pub link_refreshed : TaskId → TaskPart
  link_refreshed v = cond (owned_by (owner_part s l).owner v) (link_owner s made t route u l key e lawful is (task_part s v)) (task_part s v)

  abbrev link_rekeyed : TaskId → TaskPart
  link_rekeyed v = cond (nat_eq u.0 v.0) (rekeyed (link_refreshed v)) (link_refreshed v)

  -- whether it is woken changes neither its priorities nor what it is blocked on
  woken-or_not : (v : TaskId) → IsWoken (link_rekeyed v) (task_part (state_after s e) v)
  woken-or_not v =
      let spinning : Bool = spins (kind_of (thread_part s t) l) in
      subst (IsWoken (link_rekeyed v)) (sym (link-task s made t route u l key e lawful is v))
      (cond_both (owned_by (link_woken s made t route u l key e lawful is) v) (lock_woken spinning (link_rekeyed v)) (link_rekeyed v) (IsWoken (link_rekeyed v))
      (λ its. lock_woken-like spinning (link_rekeyed v)) (λ its. record { like = record { own = refl; kept = refl }; blocked = refl }))

  -- its priorities are those of a task that is refreshed or not
  pub link-like : (v : TaskId) → IsLike (link_refreshed v) (task_part (state_after s e) v)
  link-like v =
      let woken = (woken-or_not v).like in
      let anew = cond_both (nat_eq u.0 v.0) (rekeyed (link_refreshed v)) (link_refreshed v) (IsLike (link_refreshed v)) (λ its. rekeyed-like (link_refreshed v)) (λ its. record { own = refl; kept = refl }) in
      record { own = woken.own ∙ anew.own; kept = woken.kept ∙ anew.kept }

  -- the cursor is blocked on its lock with its effective priority
  pub link-blocked : (task_part (state_after s e) u).blocked ≡ Some (l, effective_of (task_part s u))
  link-blocked = (woken-or_not u).blocked ∙ (ap (λ (task : TaskPart). task.blocked) same ∙ rekeyed-at (task_part s u) l key is.blocked)
    where
      unowned : link_refreshed u ≡ task_part s u
      unowned = cond-false (owned_by (owner_part s l).owner u) (link_owner s made t route u l key e lawful is (task_part s u)) (task_part s u) (walk-link s made t route u l key e lawful is).unowned

      same : link_rekeyed u ≡ rekeyed (task_part s u)
      same = cond-true (nat_eq u.0 u.0) (rekeyed (link_refreshed u)) (link_refreshed u) (number_itself u.0) ∙ ap rekeyed unowned

  -- and any other task on what it was
  pub link-blocked_other : (v : TaskId) → nat_eq u.0 v.0 ≡ false → (task_part (state_after s e) v).blocked ≡ (task_part s v).blocked
  link-blocked_other v ne =
      let refreshed : TaskPart = link_owner s made t route u l key e lawful is (task_part s v) in
      let after : List Row = (link_lock s made t route u l key e lawful is).rows in
      (woken-or_not v).blocked ∙ (ap (λ (task : TaskPart). task.blocked) (cond-false (nat_eq u.0 v.0) (rekeyed (link_refreshed v)) (link_refreshed v) ne)
      ∙ cond_both (owned_by (owner_part s l).owner v) refreshed (task_part s v) (λ (task : TaskPart). task.blocked ≡ (task_part s v).blocked)
      (λ its. where_changed-blocked (Some l) (owner_part s l).rows after (task_part s v)) (λ its. refl))
