-- A next event keeps the awake-top law.
use Rattle.std.proofs.Common.{◌≡◌, ℕ, ◌<◌, Bool, true, false, ◌&&◌, is_none, not, List, [], ◌∷◌, length, refl, sym, ap, ◌∙◌, subst, arith, Option, Some, None, IfSome, All}
use Rattle.std.specs.Prelude.{AllPairs, find, nat_eq, option_map, is_some}
use Rattle.std.proofs.lemmas.Bool.{cond_both, cond-true, and_from}
use Rattle.std.proofs.lemmas.Bool.Decides.{nat_tests}
use Rattle.std.proofs.lemmas.List.Elements.{All-filter}
use Rattle.rt_base.specs.Kind.{spins}
use Rattle.rt_base.specs.declared.id.LockId.{LockId}
use Rattle.rt_base.specs.declared.id.TaskId.{TaskId}
use Rattle.rt_base.specs.declared.state.TaskState.TheVariants as states
use Rattle.rt_model.specs.declared.event.Event.{Event}
use Rattle.rt_model.specs.declared.phase.Phase.TheVariants as phases
use Rattle.rt_model.specs.declared.phase.Route.{Route}
use Rattle.rt_model.specs.declared.row.Row.{Row}
use Rattle.rt_model.specs.Parts.{OwnerPart, TaskPart, call_of, effective_of, kind_of}
use Rattle.rt_model.specs.Rows.{top_waiter, top_task, top_changed, task_of, is_of, queued_key, insert_row, without}
use Rattle.rt_model.specs.State.{State, shared, owner_part, task_part, thread_part}
use Rattle.rt_model.specs.steps.Lock.{requeued, left_by}
use Rattle.rt_model.specs.steps.Task.{lock_woken}
use Rattle.rt_model.specs.steps.Chain.{has_old_key, requeued_where_old, newly_top}
use Rattle.rt_model.specs.Effect.{Around, around}
use Rattle.rt_model.specs.events.Release.{give_event}
use Rattle.rt_model.specs.Rules.{touched}
use Rattle.rt_model.specs.StateAfter.{effect_in, lock_left, state_after}
use Rattle.rt_model.specs.laws.AwakeTop.{AwakeTopLaw}
use Rattle.rt_model.specs.laws.Lawful.{IsLawful}
use Rattle.rt_model.specs.laws.Owners.{owned_by}
use Rattle.rt_model.specs.laws.Rows.{IsAhead, key_at}
use Rattle.rt_model.specs.laws.States.{waits_spinning, IsRested}
use Rattle.rt_model.proofs.Calling.{asks-lock}
use Rattle.rt_model.proofs.Lists.{if_some, if_found, All-both}
use Rattle.rt_model.proofs.Named.{top_within}
use Rattle.rt_model.proofs.NextEvents.{IsNext, by_own, by_acquire, by_wait, by_release, by_reading, by_walk, by_confirm, by_wakeup, by_setprio, task-IsNext}
use Rattle.rt_model.proofs.events.Acquire.{is_fast, is_mark, is_take, is_busy}
use Rattle.rt_model.proofs.events.Wait.{IsWait, IsAgain, is_wait, is_again, is_leave}
use Rattle.rt_model.proofs.events.Release.{IsGive, is_free, is_give}
use Rattle.rt_model.proofs.events.Walk.{IsWalk, is_walk, is_walkend, is_restart, is_cycle}
use Rattle.rt_model.proofs.events.Wakeups.{is_state, is_sched, is_wake, is_signal}
use Rattle.rt_model.proofs.Leaves.{IsLeft, by_leave, by_cycle, leave-left, cycle-left, left-blocked, left-locks}
use Rattle.rt_model.proofs.Links.{slots_there, requeued-owner, link_lock, link-locks, link-slots}
use Rattle.rt_model.proofs.Numbers.{number_itself, at_each_lock}
use Rattle.rt_model.proofs.PartsAfter.{OthersKeep, SlotsThere, lock-kept, lock-made, task-keeps, other-keeps, slots-made}
use Rattle.rt_model.proofs.Queues.{All-insert_row, none_of, own-row, top-at, not_top, top-first, find-top, queued_after, unchanged-waiter}
use Rattle.rt_model.proofs.Reading.{reading-locks}
use Rattle.rt_model.proofs.TaskStates.{HasStates, can_sleep, IsRunning, running-own, running-others, AreRested, rested-states, rested-own, rested-others, lock_woken-runs, waits_as, reading-unblocked}
use Rattle.rt_model.proofs.Waiters.{blocking, key_elsewhere, start-blocked, slow-blocked, slow-unqueued, wait-elsewhere, take-elsewhere, queued-awake, IsLink, walk-link}
use Rattle.rt_model.proofs.Within.{rows_within}
use Rattle.rt_model.proofs.graph.Standing.{lock-blocked}

-- a row that isn't the task's is another's
others_row : (t : TaskId) (row : Row) → is_of t row ≡ false → nat_eq t.0 row.who ≡ false
others_row t row is = grind (arith, nat_tests)

-- the top waiter stays where a row goes that isn't its
top-stays : (t : TaskId) (rows : List Row) → AllPairs IsAhead rows → ((row : Row) → top_waiter rows ≡ Some row → is_of t row ≡ false) → top_waiter (without t rows) ≡ top_waiter rows
top-stays t [] order isnt = refl
top-stays t (row ∷ rows) order isnt =
    let first : top_waiter (row ∷ rows) ≡ Some row = top-first (row ∷ rows) order in
    sym (find-top (λ r. not (is_of t r)) (row ∷ rows) order) ∙ (cond-true (not (is_of t row)) (Some row) (find (λ r. not (is_of t r)) rows) (ap not (isnt row first)) ∙ sym first)

-- ---- the law

-- the row's task runs
abbrev Runs : State → Row → Type 0
Runs s row = (task_part s (task_of row)).state ≡ states.Running

-- the top waiter of the lock runs, where nobody owns it
abbrev HasAwakeTop : State → OwnerPart → Type 0
HasAwakeTop s lock = lock.owner ≡ None → IfSome (top_waiter lock.rows) (Runs s)

-- the row's task is there, and is blocked on this lock
record IsBlockedThere (s : State) (l : LockId) (row : Row) : Type 0 where
  task : row.who < length s.threads
  blocked : blocking (task_part s (task_of row)).blocked ≡ Some l

-- so is that of each row of a lock
rows-blocked : (s : State) (made : ℕ) (l : LockId) → IsLawful s made → l.0 < length s.locks → All (IsBlockedThere s l) (owner_part s l).rows
rows-blocked s made l lawful lt =
    All-both (λ (row : Row). row.who < length s.threads) (λ (row : Row). queued_key (task_of row) rows ≡ Some row.key) (IsBlockedThere s l)
    (λ row there queued. record { task = there; blocked = lock-blocked (task_part s (task_of row)).blocked l (ap (λ (o : Option ℕ). is_some o) (sym (lawful.rows.rows l (task_of row)) ∙ queued)) })
    rows (rows_within s l lawful.shape lt) (own-row rows (lawful.rows.queue l).order)
  where
    rows : List Row
    rows = (owner_part s l).rows

-- also where one of them is queued anew
requeued-rows : (P : Row → Type 0) (u : TaskId) (task : TaskPart) (lock : OwnerPart) → P (record { key = effective_of task; ticket = lock.ticket; who = u.0 }) → All P lock.rows → All P (requeued_where_old (Some u) task lock).rows
requeued-rows P u task lock here all =
    cond_both (has_old_key task) (requeued u (effective_of task) lock) lock (λ (x : OwnerPart). All P x.rows)
    (λ is. All-insert_row P (record { key = effective_of task; ticket = lock.ticket; who = u.0 }) (without u lock.rows) here (All-filter (λ row. not (is_of u row)) P lock.rows all)) (λ is. all)

module _ (s : State) (made : ℕ) (t : TaskId) (e : Event) (lawful : IsLawful s made) (own : e.task ≡ t) where
  -- the top waiter runs afterwards at a lock that is as it was, where it goes on to run
  still_awake : (m : LockId) → ((row : Row) → (owner_part s m).owner ≡ None → top_waiter (owner_part s m).rows ≡ Some row → Runs s row → Runs (state_after s e) row) → HasAwakeTop (state_after s e) (owner_part s m)
  still_awake m stays none = if_some (top_waiter (owner_part s m).rows) (Runs s) (Runs (state_after s e)) (λ row top runs. stays row none top runs) (lawful.awake m none)

  -- each task that runs goes on to, where the event can't leave its own sleeping
  all_awake : (x : Event) (m : LockId) → e ≡ x → can_sleep x.kind ≡ false → HasAwakeTop (state_after s e) (owner_part s m)
  all_awake x m is awake =
      let th = thread_part s e.task in
      let stays = running-own e.kind e th (ap (λ (y : Event). can_sleep y.kind) is ∙ awake) in
      still_awake m (λ row none top runs. task-keeps (HasStates IsRunning) s e (task_of row) runs stays (running-others e.kind e th))

  -- and where that one isn't the top waiter
  others_awake : (m : LockId) → ((row : Row) → (owner_part s m).owner ≡ None → top_waiter (owner_part s m).rows ≡ Some row → is_of t row ≡ false) → HasAwakeTop (state_after s e) (owner_part s m)
  others_awake m isnt =
      still_awake m
      (λ row none top runs. other-keeps (HasStates IsRunning) s e (task_of row) (ap (λ (v : TaskId). nat_eq v.0 row.who) own ∙ others_row t row (isnt row none top)) runs
      (running-others e.kind e (thread_part s e.task)))

  -- as it isn't where it isn't queued
  unqueued_awake : (m : LockId) → key_at (task_part s t).blocked m ≡ None → HasAwakeTop (state_after s e) (owner_part s m)
  unqueued_awake m nowhere =
      others_awake m (λ row none top. top-at (λ (r : Row). is_of t r ≡ false) (owner_part s m).rows row (none_of t (owner_part s m).rows (lawful.rows.rows m t ∙ nowhere)) top)

  unblocked_awake : (m : LockId) → (task_part s t).blocked ≡ None → HasAwakeTop (state_after s e) (owner_part s m)
  unblocked_awake m none = unqueued_awake m (ap (λ (b : Option (LockId × ℕ)). key_at b m) none)

  -- a task that waits anew stands after the top waiter
  wait-here : (l : LockId) → IsWait s t l e → (owner_part s l).owner ≡ None
      → IfSome (top_waiter (insert_row (record { key = effective_of (task_part s t); ticket = (owner_part s l).ticket; who = t.0 }) (owner_part s l).rows)) (Runs (state_after s e))
  wait-here l is none =
      subst (λ (o : Option Row). IfSome o (Runs (state_after s e)))
      (sym (queued_after t (kind_of (thread_part s t) l) (owner_part s l) (task_part s t) is.cannot none (slow-unqueued s made t lawful l is.at.call is.at.at) (lawful.rows.queue l)))
      (unblocked_awake l (slow-blocked s made t lawful is.at.call is.at.at) none)

  -- one that sleeps again isn't the top waiter of a lock that nobody owns
  again-awake : (l m : LockId) → IsAgain s t l e → HasAwakeTop (state_after s e) (owner_part s m)
  again-awake l m is =
      at_each_lock (λ (k : LockId). HasAwakeTop (state_after s e) (owner_part s k)) l m
      (others_awake l (λ row none top. not_top t (kind_of (thread_part s t) l) (owner_part s l) (task_part s t) row is.cannot none top)) (λ there. unqueued_awake m (wait-elsewhere s made t lawful l m is.at there))

  -- a task that an event x wakes, by the kind for which it waits, runs afterwards, whatever else becomes of it
  pub woken-runs : (x : Event) (v : TaskId) (spinning : Bool) → e ≡ x → can_sleep x.kind ≡ false → SlotsThere (touched x.kind x) (length s.tasks) → (touched x.kind x).woken ≡ Some v
      → ((lock : OwnerPart) (task : TaskPart) → (effect_in (shared s) (thread_part s x.task) x).woken lock task ≡ lock_woken spinning task) → waits_spinning (thread_part s v) (task_part s v) ≡ spinning
      → HasStates IsRunning (task_part (state_after s e) v)
  woken-runs x v spinning is awake there named wakes waits =
      slots-made Rested Rested Rested (HasStates IsRunning) s e x v is there (rested-states spinning (task_part s v) (subst (λ (b : Bool). IsRested b (task_part s v)) waits (lawful.states v)))
      (rested-own spinning x.kind x (thread_part s x.task) awake found lock) (record {
        owner = λ task was its. others.owner task was;
        not_owner = λ task was its. was;
        other = λ task was its. others.other task was;
        not_other = λ task was its. was;
        woken = λ task was its. subst (HasStates IsRunning) (sym (wakes lock task)) (lock_woken-runs spinning task was);
        not_woken = λ task was its. absurd (names its);
      })
    where
      Rested : TaskPart → Type 0
      Rested = HasStates (AreRested spinning)

      found : Around
      found = around (shared s) (touched x.kind x)

      lock : OwnerPart
      lock = lock_left (shared s) (thread_part s x.task) x

      others : OthersKeep Rested (effect_in (shared s) (thread_part s x.task) x) lock
      others = rested-others spinning x.kind x (thread_part s x.task) found lock

      names : owned_by (touched x.kind x).woken v ≡ false → ⊥
      names asleep =
          let here : nat_eq v.0 v.0 ≡ false = subst (λ (o : Option TaskId). owned_by o v ≡ false) named asleep in
          let itself = number_itself v.0 in cc

  -- the kind for which a row's task waits is the lock's, as the event's own thread knows it
  row-waits : (l : LockId) (row : Row) → t.0 < length s.threads → IsBlockedThere s l row → waits_spinning (thread_part s (task_of row)) (task_part s (task_of row)) ≡ spins (kind_of (thread_part s t) l)
  row-waits l row lt is = waits_as s (task_of row) t l lawful.shape is.task lt is.blocked (queued-awake s (task_of row) l lawful.queued is.blocked)

  -- so the top waiter of a lock that is given up
  give-here : (l : LockId) → IsGive s t l e → (row : Row) → top_waiter (owner_part s l).rows ≡ Some row → Runs (state_after s e) row
  give-here l is row top =
      woken-runs _ (task_of row) (spins (kind_of (thread_part s t) l)) is.event refl
      (slots_there s (give_event (call_of (thread_part s t)) t l (owner_part s l) (task_part s t)) lawful.shape tt tt (top_within (length s.threads) (owner_part s l).rows (rows_within s l lawful.shape is.at.lock)))
      (ap (option_map task_of) top) (λ lock task. refl)
      (row-waits l row is.at.task (top-at (IsBlockedThere s l) (owner_part s l).rows row (rows-blocked s made l lawful is.at.lock) top))

  -- and one that a link of a walk makes the top waiter; else that is who it was
  walk-here : (route : Route) (u : TaskId) (l : LockId) (key : ℕ) (is : IsWalk s t route u l key e) → HasAwakeTop (state_after s e) (link_lock s made t route u l key e lawful is)
  walk-here route u l key is none = by_top (top_changed before after.rows) refl
    where
      before : List Row
      before = (owner_part s l).rows

      after : OwnerPart
      after = link_lock s made t route u l key e lawful is

      there : IsLink s u l
      there = walk-link s made t route u l key e lawful is

      waiters : All (IsBlockedThere s l) after.rows
      waiters = requeued-rows (IsBlockedThere s l) u (task_part s u) (owner_part s l) (record { task = there.cursor; blocked = ap blocking is.blocked }) (rows-blocked s made l lawful there.lock)

      newly : top_changed before after.rows ≡ true → (row : Row) → top_waiter after.rows ≡ Some row → newly_top (owner_part s l) after ≡ Some (task_of row)
      newly changed row top =
          cond-true (is_none after.owner && top_changed before after.rows) (top_task after.rows) None (and_from (is_none after.owner) (top_changed before after.rows) (ap is_none none) changed)
          ∙ ap (option_map task_of) top

      by_top : (b : Bool) → top_changed before after.rows ≡ b → IfSome (top_waiter after.rows) (Runs (state_after s e))
      by_top true changed =
          if_found (top_waiter after.rows) (Runs (state_after s e))
          (λ row top. woken-runs _ (task_of row) (spins (kind_of (thread_part s t) l)) is.event refl (link-slots s made t route u l key e lawful is) (newly changed row top) (λ lock task. refl)
          (row-waits l row is.task (top-at (IsBlockedThere s l) after.rows row waiters top)))
      by_top false same =
          subst (λ (o : Option Row). IfSome o (Runs (state_after s e))) (sym (unchanged-waiter before after.rows same))
          (all_awake _ l is.event refl (sym (requeued-owner (Some u) (task_part s u) (owner_part s l)) ∙ none))

  -- who leaves a queue may not take the lock, or the lock has an owner: so it isn't the top waiter where there is none
  left-not_top : (l : LockId) → IsLeft s t l e → (row : Row) → (owner_part s l).owner ≡ None → top_waiter (owner_part s l).rows ≡ Some row → is_of t row ≡ false
  left-not_top l (by_leave is) row none top = not_top t (kind_of (thread_part s t) l) (owner_part s l) (task_part s t) row is.cannot none top
  left-not_top l (by_cycle path o m rest is round owned) row none top = cc

  left-here : (l : LockId) → IsLeft s t l e → HasAwakeTop (state_after s e) (left_by t (owner_part s l))
  left-here l is none =
      subst (λ (o : Option Row). IfSome o (Runs (state_after s e))) (sym (top-stays t (owner_part s l).rows (lawful.rows.queue l).order (λ row top. left-not_top l is row none top)))
      (others_awake l (left-not_top l is) none)

  -- and it is queued at no other
  left-awake : (l m : LockId) → IsLeft s t l e → nat_eq l.0 m.0 ≡ false → HasAwakeTop (state_after s e) (owner_part s m)
  left-awake l m is there = unqueued_awake m (key_elsewhere (task_part s t).blocked l m (ap blocking (left-blocked s made t l e lawful is).1) there)

-- awake-top law
pub AwakeTopLaw-next : (s : State) (made : ℕ) (t : TaskId) (e : Event) → IsLawful s made → IsNext s t e → AwakeTopLaw (state_after s e)
AwakeTopLaw-next s made t e lawful next m = by_kind next
  where
    own : e.task ≡ t
    own = task-IsNext s t e next

    Awake : LockId → OwnerPart → Type 0
    Awake k lock = HasAwakeTop (state_after s e) lock

    -- an event that changes neither owners nor rows, and can't leave its task sleeping
    kept : (x : Event) → e ≡ x → can_sleep x.kind ≡ false → ((lock : OwnerPart) → Awake m lock → Awake m ((effect_in (shared s) (thread_part s x.task) x).lock lock)) → Awake m (owner_part (state_after s e) m)
    kept x is awake keeps = lock-kept (Awake m) s e x m is (all_awake s made t e lawful own x m is awake) keeps

    left : (l : LockId) → IsLeft s t l e → Awake m (owner_part (state_after s e) m)
    left l is = left-locks s made t l e lawful is Awake m (left-here s made t e lawful own l is) (λ there. left-awake s made t e lawful own l m is there)

    by_kind : IsNext s t e → Awake m (owner_part (state_after s e) m)
    by_kind (by_own call answer is) = kept _ is.event refl (λ lock was. was)
    by_kind (by_acquire l (is_mark is)) = kept _ is.event refl (λ lock was. was)
    by_kind (by_acquire l (is_fast is)) = kept _ is.event refl (λ lock was none. absurd cc)
    by_kind (by_acquire l (is_take is)) =
        lock-made Awake s e _ l m is.event refl is.lock (λ none. absurd cc) (λ there. unqueued_awake s made t e lawful own m (take-elsewhere s made t lawful l m is.how there))
    by_kind (by_acquire l (is_busy is)) = kept _ is.event refl (λ lock was. was)
    by_kind (by_reading l is) = subst (Awake m) (sym (reading-locks s t l e is m)) (unblocked_awake s made t e lawful own m (reading-unblocked s made t l e lawful is))
    by_kind (by_walk route u (is_walkend is)) = kept _ is.event refl (λ lock was. was)
    by_kind (by_wakeup (is_state state is)) = lock-kept (Awake m) s e _ m is.event (unblocked_awake s made t e lawful own m (start-blocked s made t lawful _ is.at)) (λ lock was. was)
    by_kind (by_wakeup (is_sched is)) = kept _ is.event refl (λ lock was. was)
    by_kind (by_wakeup (is_wake u is)) = kept _ is.event refl (λ lock was. was)
    by_kind (by_wakeup (is_signal u is)) = kept _ is.event refl (λ lock was. was)
    by_kind (by_confirm l path (is_restart link is)) = kept _ is.event refl (λ lock was. was)
    by_kind (by_confirm l path (is_cycle is)) = left l (cycle-left s made t l path e lawful is)
    by_kind (by_wait l (is_leave is)) = left l (leave-left s t l e is)
    by_kind (by_setprio u prio is) = kept _ is.event refl (λ lock was. was)
    by_kind (by_walk route u (is_walk l key is)) =
        link-locks s made t route u l key e lawful is Awake m (walk-here s made t e lawful own route u l key is) (λ there. all_awake s made t e lawful own _ m is.event refl)
    by_kind (by_wait l (is_wait is)) =
        lock-made Awake s e _ l m is.event refl (asks-lock s t phases.Slow l is.at) (wait-here s made t e lawful own l is) (λ there. unblocked_awake s made t e lawful own m (slow-blocked s made t lawful is.at.call is.at.at))
    by_kind (by_wait l (is_again is)) = lock-kept (Awake m) s e _ m is.event (again-awake s made t e lawful own l m is) (λ lock was. was)
    by_kind (by_release l (is_free is)) =
        lock-made Awake s e _ l m is.event refl is.at.lock
        (λ none. subst (λ (rows : List Row). IfSome (top_waiter rows) (Runs (state_after s e))) (sym ((lawful.rows.queue l).clear is.bit)) tt) (λ there. all_awake s made t e lawful own _ m is.event refl)
    by_kind (by_release l (is_give is)) =
        lock-made Awake s e _ l m is.event refl is.at.lock
        (λ none. if_found (top_waiter (owner_part s l).rows) (Runs (state_after s e)) (give-here s made t e lawful own l is)) (λ there. all_awake s made t e lawful own _ m is.event refl)
