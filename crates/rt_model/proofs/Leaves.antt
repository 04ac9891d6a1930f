-- What a wait leaves that ends without the lock: by a signal, or by a cycle that stands.
use Rattle.std.proofs.Common.{◌≡◌, inl, inr, ℕ, ◌<◌, Bool, true, false, cond, List, [], ◌∷◌, length, refl, sym, ap, ◌∙◌, subst, Option, Some, None, IfSome}
use Rattle.std.specs.Prelude.{nat_eq, is_some}
use Rattle.std.proofs.lemmas.Bool.{cond-true, cond-false, cond_both, and_parts}
use Rattle.rt_base.specs.Kind.{spins}
use Rattle.rt_base.specs.declared.call.Call.{Call}
use Rattle.rt_base.specs.declared.call.Call.TheVariants as calls
use Rattle.rt_base.specs.declared.id.LockId.{LockId}
use Rattle.rt_base.specs.declared.id.TaskId.{TaskId}
use Rattle.rt_base.specs.declared.reply.Reply.{Reply}
use Rattle.rt_base.specs.declared.reply.Reply.TheVariants.{Deadlock, Interrupted}
use Rattle.rt_model.specs.declared.event.Event.{Event}
use Rattle.rt_model.specs.declared.event_kind.EventKind.{EventKind}
use Rattle.rt_model.specs.declared.event_kind.EventKind.TheVariants as kinds
use Rattle.rt_model.specs.declared.phase.Phase.{Phase}
use Rattle.rt_model.specs.declared.phase.Phase.TheVariants as phases
use Rattle.rt_model.specs.declared.phase.Route.TheVariants.{Short}
use Rattle.rt_model.specs.Parts.{OwnerPart, TaskPart, ThreadPart, effective_of, kind_of, call_of}
use Rattle.rt_model.specs.Rows.{top_key}
use Rattle.rt_model.specs.State.{State, shared, lock_at, task_at, owner_part, task_part, thread_part}
use Rattle.rt_model.specs.CallKinds.{IsToCome, IsPhaseOf}
use Rattle.rt_model.specs.Path.{first_lock, first_owner, first_broken, is_blocked_on, keeps_top}
use Rattle.rt_model.specs.steps.Lock.{left_by}
use Rattle.rt_model.specs.steps.Task.{refreshed, leave_queue, interrupted}
use Rattle.rt_model.specs.steps.Thread.{answered_with}
use Rattle.rt_model.specs.steps.Chain.{goes_on, phase_of_walk, answer_of_walk}
use Rattle.rt_model.specs.Choice.{boost_at}
use Rattle.rt_model.specs.Effect.{Around, around}
use Rattle.rt_model.specs.Rules.{touched}
use Rattle.rt_model.specs.StateAfter.{effect_in, lock_left, shared_after, thread_after, state_after}
use Rattle.rt_model.specs.events.Wait.{owner_left}
use Rattle.rt_model.specs.events.Walk.{cycle_event}
use Rattle.rt_model.specs.laws.KeptTops.{kept_of}
use Rattle.rt_model.specs.laws.Lawful.{IsLawful}
use Rattle.rt_model.specs.laws.Owners.{owned_by}
use Rattle.rt_model.specs.laws.Queued.{awaited_in}
use Rattle.rt_model.proofs.Calling.{Asks, by_lockint, asks-lock, waits-holds}
use Rattle.rt_model.proofs.CellStepLemmas.{IsLike, with_top-blocked, leave_queue-blocked, leave_queue-like, interrupted-blocked, interrupted-like}
use Rattle.rt_model.proofs.Links.{walked_thread, slots_there}
use Rattle.rt_model.proofs.Numbers.{number_itself, other_way, same_task, owner-is}
use Rattle.rt_model.proofs.PartsAfter.{SlotsThere, own-slots-made, lock-made, thread-own}
use Rattle.rt_model.proofs.PathLinks.{first-stands}
use Rattle.rt_model.proofs.Waiters.{blocking, asks-awaited, blocked-unowned, round-begins}
use Rattle.rt_model.proofs.Within.{task_room, owner_within}
use Rattle.rt_model.proofs.events.Wait.{IsLeave}
use Rattle.rt_model.proofs.events.Walk.{IsCycleEvent}

-- the task waits for the lock, and leaves its queue
pub data IsLeft (s : State) (t : TaskId) (l : LockId) (e : Event) : Type 0 where
  by_leave : IsLeave s t l e → IsLeft s t l e
  by_cycle : (path : List (ℕ × ℕ)) (o : TaskId) (m : LockId) (rest : List (ℕ × ℕ)) → IsCycleEvent s t l path e → path ≡ (t.0, l.0) ∷ (o.0, m.0) ∷ rest → (owner_part s l).owner ≡ Some o → IsLeft s t l e

-- ---- which it is

pub leave-left : (s : State) (t : TaskId) (l : LockId) (e : Event) → IsLeave s t l e → IsLeft s t l e
leave-left s t l e is = by_leave is

-- who keeps a top of a lock owns it
keeps-owner : (s : State) (made : ℕ) (l : LockId) (o : TaskId) → IsLawful s made → keeps_top l (task_part s o) ≡ true → (owner_part s l).owner ≡ Some o
keeps-owner s made l o lawful keeps = owner-is (owner_part s l).owner o (by_test (owned_by (owner_part s l).owner o) (lawful.kept l o))
  where
    by_test : (b : Bool) → kept_of (task_part s o) l ≡ cond b (top_key (owner_part s l).rows) None → b ≡ true
    by_test true is = refl
    by_test false is = let none : false ≡ true = sym (ap (λ (k : Option ℕ). is_some k) is) ∙ keeps in absurd cc

-- the owner of a cycle's first lock is its second task
pub cycle-left : (s : State) (made : ℕ) (t : TaskId) (l : LockId) (path : List (ℕ × ℕ)) (e : Event) → IsLawful s made → IsCycleEvent s t l path e → IsLeft s t l e
cycle-left s made t l path e lawful is =
    let round = round-begins s made t path l lawful is.at in
    let stand = first-stands s t round.owner l round.next round.rest (subst (λ (xs : List (ℕ × ℕ)). first_broken (shared s) xs ≡ None) round.is is.stand) in
    by_cycle path round.owner round.next round.rest is round.is
    (keeps-owner s made l round.owner lawful (and_parts (is_blocked_on l (task_part s t)) (keeps_top l (task_part s round.owner)) stand).1)

-- ---- the event

abbrev pub left_answer : {s : State} {t : TaskId} {l : LockId} {e : Event} → IsLeft s t l e → Reply
left_answer (by_leave is) = Interrupted
left_answer (by_cycle path o m rest is round owned) = Deadlock

abbrev pub left_step : {s : State} {t : TaskId} {l : LockId} {e : Event} → IsLeft s t l e → Bool → TaskPart → TaskPart
left_step (by_leave is) = interrupted
left_step (by_cycle path o m rest is round owned) = leave_queue

abbrev pub left_kind : {s : State} {t : TaskId} {l : LockId} {e : Event} → IsLeft s t l e → EventKind
left_kind (by_leave is) = kinds.Leave
left_kind (by_cycle path o m rest is round owned) = kinds.Cycle

abbrev pub left_phase : {s : State} {t : TaskId} {l : LockId} {e : Event} → IsLeft s t l e → Phase
left_phase (by_leave is) = phases.Wait
left_phase (by_cycle path o m rest is round owned) = phases.Confirm path

-- the owner and the path that it names
abbrev pub left_named : {s : State} {t : TaskId} {l : LockId} {e : Event} → IsLeft s t l e → Option TaskId
left_named {s} {t} {l} (by_leave is) = (owner_part s l).owner
left_named (by_cycle path o m rest is round owned) = None

abbrev pub left_path : {s : State} {t : TaskId} {l : LockId} {e : Event} → IsLeft s t l e → List (ℕ × ℕ)
left_path (by_leave is) = []
left_path (by_cycle path o m rest is round owned) = path

-- what both are made of
abbrev left_of : TaskId → LockId → OwnerPart → EventKind → Reply → Option TaskId → List (ℕ × ℕ) → Option TaskId → TaskPart → Event
left_of t l lock kind answer named path owner task = record {
  task = t;
  kind = kind;
  lock = Some l;
  other = None;
  owner = named;
  woken = None;
  value = 0;
  path = path;
  boost = boost_at owner (effective_of task) (effective_of (owner_left t (Some l) lock task));
  reply = answer_of_walk (Short answer) (goes_on t (Short answer) owner (owner_left t (Some l) lock task));
}

abbrev pub left_made : (s : State) (t : TaskId) (l : LockId) (e : Event) → IsLeft s t l e → Event
left_made s t l e is = left_of t l (owner_part s l) (left_kind is) (left_answer is) (left_named is) (left_path is) (owner_part s l).owner (task_at (shared s) (owner_part s l).owner)

pub left-is : (s : State) (t : TaskId) (l : LockId) (e : Event) (is : IsLeft s t l e) → e ≡ left_made s t l e is
left-is s t l e (by_leave is) = is.event
left-is s t l e (by_cycle path o m rest is round owned) =
    let made : List (ℕ × ℕ) → Event = λ xs. cycle_event t xs (lock_at (shared s) (first_lock xs)) (task_at (shared s) (first_owner xs)) in
    is.event ∙ (ap made round ∙ (λ i. left_of t l (owner_part s l) kinds.Cycle Deadlock None (sym round i) (sym owned i) (task_at (shared s) (sym owned i))))

-- what it touches, and what it does there
record Leaving (s : State) (t : TaskId) (l : LockId) (answer : Reply) (step : Bool → TaskPart → TaskPart) (x : Event) : Type 0 where
  lock : (touched x.kind x).lock ≡ Some l
  own : (touched x.kind x).own ≡ Some t
  owner : (touched x.kind x).owner ≡ (owner_part s l).owner
  other : (touched x.kind x).other ≡ None
  woken : (touched x.kind x).woken ≡ None
  locked : (lock : OwnerPart) → (effect_in (shared s) (thread_part s t) x).lock lock ≡ left_by t lock
  stepped : (task : TaskPart) → (effect_in (shared s) (thread_part s t) x).own (lock_left (shared s) (thread_part s t) x) task ≡ step (spins (kind_of (thread_part s t) l)) task
  kept : (task : TaskPart) → (effect_in (shared s) (thread_part s t) x).owner (lock_left (shared s) (thread_part s t) x) task ≡ refreshed (Some l) (left_by t (owner_part s l)).rows task
  thread : (left : Around) → (effect_in (shared s) (thread_part s t) x).thread left (thread_part s t) ≡ record (thread_part s t) { phase = phase_of_walk (goes_on t (Short answer) (owner_part s l).owner left.owner) }

leaving : (s : State) (t : TaskId) (l : LockId) (e : Event) (is : IsLeft s t l e) → Leaving s t l (left_answer is) (left_step is) (left_made s t l e is)
leaving s t l e (by_leave is) =
    record { lock = refl; own = refl; owner = refl; other = refl; woken = refl; locked = λ lock. refl; stepped = λ task. refl; kept = λ task. refl; thread = λ left. refl }
leaving s t l e (by_cycle path o m rest is round owned) =
    let named : first_owner path ≡ (owner_part s l).owner = ap first_owner round ∙ sym owned in
    record {
      lock = refl;
      own = refl;
      owner = named;
      other = refl;
      woken = refl;
      locked = λ lock. refl;
      stepped = λ task. refl;
      kept = λ task. refl;
      thread = λ left. ap (λ (owner : Option TaskId). record (thread_part s t) { phase = phase_of_walk (goes_on t (Short Deadlock) owner left.owner) }) named;
    }

-- ---- what it leaves

module _ (s : State) (made : ℕ) (t : TaskId) (l : LockId) (e : Event) (lawful : IsLawful s made) (is : IsLeft s t l e) where
  -- the lock as it leaves it, and the walk that begins, or none
  abbrev pub left_lock : OwnerPart
  left_lock = left_by t (owner_part s l)

  abbrev pub left_next : Option Phase
  left_next = goes_on t (Short (left_answer is)) (owner_part s l).owner (owner_left t (Some l) (owner_part s l) (task_at (shared s) (owner_part s l).owner))

  does : Leaving s t l (left_answer is) (left_step is) (left_made s t l e is)
  does = leaving s t l e is

  -- the task asks for the lock, which is there
  pub left-asks : Asks s t (left_phase is) l
  left-asks = of_kind is
    where
      of_kind : (i : IsLeft s t l e) → Asks s t (left_phase i) l
      of_kind (by_leave leaves) = record { call = calls.LockInt l; waits_for = by_lockint refl; at = leaves.at }
      of_kind (by_cycle path o m rest tells round owned) = tells.at

  pub left-there : t.0 < length s.threads
  left-there = left-asks.at.task

  pub left-lock_there : l.0 < length s.locks
  left-lock_there = asks-lock s t (left_phase is) l left-asks

  -- it is blocked on it, and doesn't own it
  pub left-blocked : (key : ℕ) × ((task_part s t).blocked ≡ Some (l, key))
  left-blocked = with_key (task_part s t).blocked (asks-awaited s made t lawful (left_phase is) l left-asks ∙ awaited is)
    where
      awaited : (i : IsLeft s t l e) → awaited_in (left_phase i) (Some l) ≡ Some l
      awaited (by_leave leaves) = refl
      awaited (by_cycle path o m rest tells round owned) = refl

      with_key : (b : Option (LockId × ℕ)) → blocking b ≡ Some l → (key : ℕ) × (b ≡ Some (l, key))
      with_key None none = cc
      with_key (Some at) some = let same : at.0 ≡ l = cc in (at.1, λ i. Some (same i, at.1))

  pub left-unowned : owned_by (owner_part s l).owner t ≡ false
  left-unowned = blocked-unowned s t (l, left-blocked.0) lawful.queued left-blocked.1

  -- and the call is one in which that answer is to come
  pub left-fits : (u : TaskId) → IsPhaseOf (phases.Walk u (Short (left_answer is))) (call_of (thread_part s t))
  left-fits u = subst (IsPhaseOf (phases.Walk u (Short (left_answer is)))) (sym left-asks.at.calling) (to_come is left-asks)
    where
      to_come : (i : IsLeft s t l e) (asks : Asks s t (left_phase i) l) → IsToCome asks.call (left_answer i)
      to_come (by_leave leaves) asks = let same : asks.call ≡ calls.LockInt l = let also = leaves.at.calling in let this = asks.at.calling in cc in subst (λ (c : Call). IsToCome c Interrupted) (sym same) (inr refl)
      to_come (by_cycle path o m rest tells round owned) asks = waits-holds (λ c. IsToCome c Deadlock) asks.call l asks.waits_for refl (inl refl) refl refl refl refl

  -- ---- locks

  pub left-locks : (P : LockId → OwnerPart → Type 0) (m : LockId) → P l left_lock → (nat_eq l.0 m.0 ≡ false → P m (owner_part s m)) → P m (owner_part (state_after s e) m)
  left-locks P m here others = lock-made P s e (left_made s t l e is) l m (left-is s t l e is) does.lock left-lock_there (subst (P l) (sym (does.locked (owner_part s l))) here) others

  -- ---- tasks

  -- refreshed, where it owns the lock
  abbrev pub left_refreshed : TaskId → TaskPart
  left_refreshed v = cond (owned_by (owner_part s l).owner v) (refreshed (Some l) left_lock.rows (task_part s v)) (task_part s v)

  abbrev pub left_own : TaskPart → TaskPart
  left_own task = left_step is (spins (kind_of (thread_part s t) l)) task

  left_slots : SlotsThere (touched (left_kind is) (left_made s t l e is)) (length s.tasks)
  left_slots =
      slots_there s (left_made s t l e is) lawful.shape
      (subst (λ (o : Option TaskId). IfSome o (λ v. v.0 < length s.threads)) (sym does.owner) (owner_within s l lawful.shape left-lock_there))
      (subst (λ (o : Option TaskId). IfSome o (λ v. v.0 < length s.threads)) (sym does.other) tt)
      (subst (λ (o : Option TaskId). IfSome o (λ v. v.0 < length s.threads)) (sym does.woken) tt)

  pub left-task : (v : TaskId) → task_part (state_after s e) v ≡ cond (nat_eq t.0 v.0) (left_own (task_part s v)) (left_refreshed v)
  left-task v =
      own-slots-made (λ task. task ≡ mid) (λ task. task ≡ left) (λ task. task ≡ left) (λ task. task ≡ left) s e x v (left-is s t l e is) left_slots
      (subst (λ (o : Option TaskId). IfSome o (λ w. w.0 < length s.tasks)) (sym does.own) (task_room s t lawful.shape left-there))
      (λ its. does.stepped (task_part s v) ∙ sym (cond-true (nat_eq t.0 v.0) (left_own (task_part s v)) (task_part s v) (sym own_named ∙ its)))
      (λ its. sym (cond-false (nat_eq t.0 v.0) (left_own (task_part s v)) (task_part s v) (sym own_named ∙ its)))
      (record {
        owner = λ task same its. does.kept task ∙ (ap (refreshed (Some l) left_lock.rows) same ∙ owned (sym owner_named ∙ its));
        not_owner = λ task same its. same ∙ unowned (sym owner_named ∙ its);
        other = λ task same its. absurd (nobody does.other its);
        not_other = λ task same its. same;
        woken = λ task same its. absurd (nobody does.woken its);
        not_woken = λ task same its. same;
      })
    where
      x : Event
      x = left_made s t l e is

      mid : TaskPart
      mid = cond (nat_eq t.0 v.0) (left_own (task_part s v)) (task_part s v)

      left : TaskPart
      left = cond (nat_eq t.0 v.0) (left_own (task_part s v)) (left_refreshed v)

      own_named : owned_by (touched x.kind x).own v ≡ nat_eq t.0 v.0
      own_named = ap (λ (o : Option TaskId). owned_by o v) does.own

      owner_named : owned_by (touched x.kind x).owner v ≡ owned_by (owner_part s l).owner v
      owner_named = ap (λ (o : Option TaskId). owned_by o v) does.owner

      nobody : {o : Option TaskId} → o ≡ None → owned_by o v ≡ true → ⊥
      nobody {o} none its = let never : false ≡ true = sym (ap (λ (p : Option TaskId). owned_by p v) none) ∙ its in absurd cc

      apart : owned_by (owner_part s l).owner v ≡ true → nat_eq t.0 v.0 ≡ false
      apart its = by_test (nat_eq t.0 v.0) refl
        where
          by_test : (b : Bool) → nat_eq t.0 v.0 ≡ b → b ≡ false
          by_test true same = let never : true ≡ false = sym its ∙ (ap (λ (w : TaskId). owned_by (owner_part s l).owner w) (sym (same_task t v same)) ∙ left-unowned) in absurd cc
          by_test false other = refl

      owned : owned_by (owner_part s l).owner v ≡ true → refreshed (Some l) left_lock.rows mid ≡ left
      owned its =
          ap (refreshed (Some l) left_lock.rows) (cond-false (nat_eq t.0 v.0) (left_own (task_part s v)) (task_part s v) (apart its))
          ∙ (sym (cond-true (owned_by (owner_part s l).owner v) (refreshed (Some l) left_lock.rows (task_part s v)) (task_part s v) its)
          ∙ sym (cond-false (nat_eq t.0 v.0) (left_own (task_part s v)) (left_refreshed v) (apart its)))

      unowned : owned_by (owner_part s l).owner v ≡ false → mid ≡ left
      unowned its =
          ap (λ (task : TaskPart). cond (nat_eq t.0 v.0) (left_own (task_part s v)) task)
          (sym (cond-false (owned_by (owner_part s l).owner v) (refreshed (Some l) left_lock.rows (task_part s v)) (task_part s v) its))

  pub left-own : task_part (state_after s e) t ≡ left_own (task_part s t)
  left-own = left-task t ∙ cond-true (nat_eq t.0 t.0) (left_own (task_part s t)) (left_refreshed t) (number_itself t.0)

  pub left-others : (v : TaskId) → nat_eq t.0 v.0 ≡ false → task_part (state_after s e) v ≡ left_refreshed v
  left-others v ne = left-task v ∙ cond-false (nat_eq t.0 v.0) (left_own (task_part s v)) (left_refreshed v) ne

  -- the owner is refreshed, and nothing else
  pub left-owner : (o : TaskId) → (owner_part s l).owner ≡ Some o → task_part (state_after s e) o ≡ refreshed (Some l) left_lock.rows (task_part s o)
  left-owner o some = left-others o apart ∙ cond-true (owned_by (owner_part s l).owner o) (refreshed (Some l) left_lock.rows (task_part s o)) (task_part s o) its
    where
      its : owned_by (owner_part s l).owner o ≡ true
      its = ap (λ (p : Option TaskId). owned_by p o) some ∙ number_itself o.0

      apart : nat_eq t.0 o.0 ≡ false
      apart = other_way t o (sym (ap (λ (p : Option TaskId). owned_by p t) some) ∙ left-unowned)

  -- its own task isn't blocked any more, and every other is blocked as it was
  pub left-own_blocked : (task_part (state_after s e) t).blocked ≡ None
  left-own_blocked = ap (λ (task : TaskPart). task.blocked) left-own ∙ of_kind is (spins (kind_of (thread_part s t) l)) (task_part s t)
    where
      of_kind : (i : IsLeft s t l e) (spinning : Bool) (task : TaskPart) → (left_step i spinning task).blocked ≡ None
      of_kind (by_leave leaves) spinning task = interrupted-blocked spinning task
      of_kind (by_cycle path o m rest tells round owned) spinning task = leave_queue-blocked spinning task

  pub left-blocked_other : (v : TaskId) → nat_eq t.0 v.0 ≡ false → (task_part (state_after s e) v).blocked ≡ (task_part s v).blocked
  left-blocked_other v ne =
      ap (λ (task : TaskPart). task.blocked) (left-others v ne)
      ∙ cond_both (owned_by (owner_part s l).owner v) (refreshed (Some l) left_lock.rows (task_part s v)) (task_part s v) (λ (task : TaskPart). task.blocked ≡ (task_part s v).blocked)
      (λ its. with_top-blocked (Some l) (top_key left_lock.rows) (task_part s v)) (λ its. refl)

  -- its own task has the priorities that it had
  pub left-own_like : IsLike (task_part s t) (task_part (state_after s e) t)
  left-own_like = subst (IsLike (task_part s t)) (sym left-own) (of_kind is (spins (kind_of (thread_part s t) l)) (task_part s t))
    where
      of_kind : (i : IsLeft s t l e) (spinning : Bool) (task : TaskPart) → IsLike task (left_step i spinning task)
      of_kind (by_leave leaves) spinning task = interrupted-like spinning task
      of_kind (by_cycle path o m rest tells round owned) spinning task = leave_queue-like spinning task

  -- ---- threads

  -- how the walk begins is told by the owner as it is left
  begun : (x : Event) → e ≡ x → goes_on t (Short (left_answer is)) (owner_part s l).owner (task_at (shared (state_after s x)) (owner_part s l).owner) ≡ left_next
  begun x same = by_owner (owner_part s l).owner refl
    where
      by_owner : (owner : Option TaskId) → (owner_part s l).owner ≡ owner
          → goes_on t (Short (left_answer is)) owner (task_at (shared (state_after s x)) owner) ≡ goes_on t (Short (left_answer is)) owner (owner_left t (Some l) (owner_part s l) (task_at (shared s) owner))
      by_owner None none = refl
      by_owner (Some o) some = ap (λ (task : TaskPart). goes_on t (Short (left_answer is)) (Some o) task) (ap (λ (y : Event). task_part (state_after s y) o) (sym same) ∙ left-owner o some)

  -- its thread
  pub left-thread : thread_after (shared s) (thread_part s t) (left_made s t l e is) ≡ walked_thread (thread_part s t) (Short (left_answer is)) left_next
  left-thread =
      ap (λ (th : ThreadPart). answered_with th (left_made s t l e is).reply) (does.thread (around (shared_after (shared s) (thread_part s t) x) (touched x.kind x)))
      ∙ (ap (λ (o : Option TaskId). walked o) does.owner ∙ ap (λ (next : Option Phase). answered_with (record (thread_part s t) { phase = phase_of_walk next }) (left_made s t l e is).reply) (begun x (left-is s t l e is)))
    where
      x : Event
      x = left_made s t l e is

      walked : Option TaskId → ThreadPart
      walked o =
          answered_with (record (thread_part s t) { phase = phase_of_walk (goes_on t (Short (left_answer is)) (owner_part s l).owner (task_at (shared (state_after s x)) o)) })
          (left_made s t l e is).reply

  pub left-thread_own : thread_part (state_after s e) t ≡ walked_thread (thread_part s t) (Short (left_answer is)) left_next
  left-thread_own = thread-own s e (left_made s t l e is) (left-is s t l e is) left-there ∙ left-thread
