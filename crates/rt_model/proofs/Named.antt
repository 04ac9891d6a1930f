-- What a next event names is there.
use Rattle.std.proofs.Common.{◌≡◌, refl, ℕ, ◌<◌, [], Bool, true, false, cond, not, ◌&&◌, List, length, sym, ap, ◌∙◌, subst, Option, Some, None, IfSome, All, is_none}
use Rattle.std.specs.Prelude.{nat_eq, option_map}
use Rattle.std.proofs.lemmas.Bool.{cond_both}
use Rattle.std.proofs.lemmas.List.Elements.{All-nil, All-filter}
use Rattle.rt_base.specs.declared.call.Call.{Call}
use Rattle.rt_base.specs.declared.call.Call.TheVariants as calls
use Rattle.rt_base.specs.declared.id.LockId.{LockId}
use Rattle.rt_base.specs.declared.id.TaskId.{TaskId}
use Rattle.rt_base.specs.declared.reply.Reply.{Reply}
use Rattle.rt_model.specs.declared.event.Event.{Event}
use Rattle.rt_model.specs.declared.phase.Phase.TheVariants as phases
use Rattle.rt_model.specs.declared.phase.Route.{Route}
use Rattle.rt_model.specs.declared.row.Row.{Row}
use Rattle.rt_model.specs.Parts.{OwnerPart, TaskPart, effective_of}
use Rattle.rt_model.specs.Rows.{top_waiter, top_changed, top_task, task_of, is_of, without}
use Rattle.rt_model.specs.State.{State, shared, lock_at, task_at, owner_part, task_part}
use Rattle.rt_model.specs.Choice.{called_lock, boost_of, boost_at}
use Rattle.rt_model.specs.CallKinds.{IsServed}
use Rattle.rt_model.specs.Path.{Link, first_lock, first_owner}
use Rattle.rt_model.specs.events.Walk.{cycle_event}
use Rattle.rt_model.specs.steps.Lock.{requeued}
use Rattle.rt_model.specs.steps.Chain.{has_old_key, requeued_where_old, newly_top}
use Rattle.rt_model.specs.laws.Lawful.{IsLawful}
use Rattle.rt_model.specs.laws.Shape.{IsWithin}
use Rattle.rt_model.proofs.Calling.{asks-lock}
use Rattle.rt_model.proofs.NextEvents.{IsNext, by_own, by_acquire, by_wait, by_release, by_reading, by_walk, by_confirm, by_wakeup, by_setprio}
use Rattle.rt_model.proofs.events.Own.{IsOwn}
use Rattle.rt_model.proofs.events.Acquire.{IsAcquire, is_fast, is_mark, is_take, is_busy}
use Rattle.rt_model.proofs.events.Wait.{IsWaiting, is_wait, is_again, is_leave}
use Rattle.rt_model.proofs.events.Release.{IsRelease, is_free, is_give}
use Rattle.rt_model.proofs.events.Readers.{IsReading, reading-in, reading-holds}
use Rattle.rt_model.proofs.events.Walk.{IsWalking, is_walk, is_walkend, IsRestart, IsCycleEvent, is_restart, is_cycle}
use Rattle.rt_model.proofs.events.Wakeups.{IsWakeup, is_state, is_sched, is_wake, is_signal, IsSetPrio}
use Rattle.rt_model.proofs.Queues.{top-holds, All-insert_row}
use Rattle.rt_model.proofs.Waiters.{cursor-there, confirm-walk, round-begins, walk-link}
use Rattle.rt_model.proofs.PathLinks.{All-links_of, broken-holds}
use Rattle.rt_model.proofs.Within.{owner_within, rows_within}

called_within : (m n : ℕ) (call : Call) → IsServed m n call → IfSome (called_lock call) (λ l. l.0 < n)
called_within m n (calls.Lock l) served = served
called_within m n (calls.LockInt l) served = served
called_within m n (calls.TryLock l) served = served
called_within m n (calls.Unlock l) served = served
called_within m n (calls.Spin l) served = served
called_within m n (calls.TrySpin l) served = served
called_within m n (calls.Unspin l) served = served
called_within m n (calls.Read l) served = served
called_within m n (calls.TryRead l) served = served
called_within m n (calls.Unread l) served = served
called_within m n (calls.Write l) served = served
called_within m n (calls.TryWrite l) served = served
called_within m n (calls.Unwrite l) served = served
called_within m n (calls.Downgrade l) served = served
called_within m n (calls.State state) served = tt
called_within m n calls.Schedule served = tt
called_within m n (calls.Wake u) served = tt
called_within m n (calls.Signal u) served = tt
called_within m n (calls.SetPrio u prio) served = tt
called_within m n (calls.Local l) served = served
called_within m n (calls.Unlocal l) served = served
called_within m n (calls.Move cpu) served = tt

boost_within : (n : ℕ) (t : TaskId) (before after : ℕ) → t.0 < n → IfSome (boost_of t before after) (λ b. b.0.0 < n)
boost_within n t before after lt = by_test (nat_eq before after)
  where
    by_test : (b : Bool) → IfSome (cond b None (Some (t, after))) (λ (b : TaskId × ℕ). b.0.0 < n)
    by_test true = tt
    by_test false = lt

boost_at_within : (n : ℕ) (t : Option TaskId) (before after : ℕ) → IfSome t (λ u. u.0 < n) → IfSome (boost_at t before after) (λ b. b.0.0 < n)
boost_at_within n None before after lt = tt
boost_at_within n (Some t) before after lt = boost_within n t before after lt

pub top_within : (n : ℕ) (rows : List Row) → All (λ (row : Row). row.who < n) rows → IfSome (top_task rows) (λ t. t.0 < n)
top_within n rows all = by_top (top_waiter rows) (top-holds (λ (row : Row). row.who < n) rows all)
  where
    by_top : (top : Option Row) → IfSome top (λ (row : Row). row.who < n) → IfSome (option_map task_of top) (λ t. t.0 < n)
    by_top None is = tt
    by_top (Some row) is = is

-- the rows of a lock at which a task may have been queued anew
pub requeued_within : (n : ℕ) (u : TaskId) (task : TaskPart) (lock : OwnerPart) → u.0 < n → All (λ (row : Row). row.who < n) lock.rows → All (λ (row : Row). row.who < n) (requeued_where_old (Some u) task lock).rows
requeued_within n u task lock lt all =
    cond_both (has_old_key task) (requeued u (effective_of task) lock) lock (λ (x : OwnerPart). All (λ (row : Row). row.who < n) x.rows)
    (λ is. All-insert_row (λ (row : Row). row.who < n) (record { key = effective_of task; ticket = lock.ticket; who = u.0 }) (without u lock.rows) lt (All-filter (λ row. not (is_of u row)) (λ (row : Row). row.who < n) lock.rows all))
    (λ is. all)

newly_top_within : (n : ℕ) (before after : OwnerPart) → All (λ (row : Row). row.who < n) after.rows → IfSome (newly_top before after) (λ t. t.0 < n)
newly_top_within n before after all =
    cond_both (is_none after.owner && top_changed before.rows after.rows) (top_task after.rows) None (λ (o : Option TaskId). IfSome o (λ t. t.0 < n)) (λ is. top_within n after.rows all) (λ is. tt)

-- ---- by families

module _ (s : State) (made : ℕ) (t : TaskId) (e : Event) (lawful : IsLawful s made) where
  abbrev Within : Event → Type 0
  Within x = IsWithin (length s.threads) (length s.locks) x

  abbrev IsThere : ℕ × ℕ → Type 0
  IsThere pair = (pair.0 < length s.threads) × (pair.1 < length s.locks)

  -- most events have no path
  none : All IsThere []
  none = All-nil IsThere

  of_own : (call : Call) (answer : Reply) → IsOwn s t call answer e → Within e
  of_own call answer is =
      let lock = called_within (length s.threads) (length s.locks) call is.at.served in
      subst Within (sym is.event) (record { task = is.at.task; lock = lock; other = tt; owner = tt; woken = tt; boost = tt; path = none })

  of_acquire : (l : LockId) → IsAcquire s t l e → Within e
  of_acquire l (is_fast is) = subst Within (sym is.event) (record { task = is.task; lock = is.lock; other = tt; owner = tt; woken = tt; boost = tt; path = none })
  of_acquire l (is_mark is) = subst Within (sym is.event) (record { task = is.task; lock = is.lock; other = tt; owner = tt; woken = tt; boost = tt; path = none })
  of_acquire l (is_take is) = subst Within (sym is.event) (record { task = is.task; lock = is.lock; other = tt; owner = tt; woken = tt; boost = boost_within (length s.threads) t _ _ is.task; path = none })
  of_acquire l (is_busy is) = subst Within (sym is.event) (record { task = is.at.at.task; lock = is.at.lock; other = tt; owner = owner_within s l lawful.shape is.at.lock; woken = tt; boost = tt; path = none })

  of_wait : (l : LockId) → IsWaiting s t l e → Within e
  of_wait l (is_wait is) =
      let lock = asks-lock s t phases.Slow l is.at in
      let owner = owner_within s l lawful.shape lock in
      subst Within (sym is.event) (record { task = is.at.at.task; lock = lock; other = tt; owner = owner; woken = tt; boost = boost_at_within (length s.threads) (owner_part s l).owner _ _ owner; path = none })
  of_wait l (is_again is) = subst Within (sym is.event) (record { task = is.at.at.task; lock = asks-lock s t phases.Wait l is.at; other = tt; owner = tt; woken = tt; boost = tt; path = none })
  of_wait l (is_leave is) =
      let owner = owner_within s l lawful.shape is.at.served in
      subst Within (sym is.event) (record { task = is.at.task; lock = is.at.served; other = tt; owner = owner; woken = tt; boost = boost_at_within (length s.threads) (owner_part s l).owner _ _ owner; path = none })

  of_release : (l : LockId) → IsRelease s t l e → Within e
  of_release l (is_free is) = subst Within (sym is.event) (record { task = is.at.task; lock = is.at.lock; other = tt; owner = tt; woken = tt; boost = tt; path = none })
  of_release l (is_give is) =
      let woken = top_within (length s.threads) (owner_part s l).rows (rows_within s l lawful.shape is.at.lock) in
      subst Within (sym is.event) (record { task = is.at.task; lock = is.at.lock; other = tt; owner = tt; woken = woken; boost = boost_within (length s.threads) t _ _ is.at.task; path = none })

  of_reading : (l : LockId) → IsReading s t l e → Within e
  of_reading l is =
      let at = reading-in s t l e is in
      let owner = owner_within s l lawful.shape at.lock in
      let plain : (x : Event) → (x.task ≡ t) × (x.lock ≡ Some l) × (x.other ≡ None) × IfSome x.owner (λ v. v.0 < length s.threads) × IfSome x.woken (λ v. v.0 < length s.threads) × (x.boost ≡ None) × (x.path ≡ []) → Within x = λ x named. record {
        task = subst (λ (v : TaskId). v.0 < length s.threads) (sym named.0) at.at.task;
        lock = subst (λ (o : Option LockId). IfSome o (λ m. m.0 < length s.locks)) (sym named.1) at.lock;
        other = subst (λ (o : Option TaskId). IfSome o (λ v. v.0 < length s.threads)) (sym named.2) tt;
        owner = named.3;
        woken = named.4;
        boost = subst (λ (o : Option (TaskId × ℕ)). IfSome o (λ b. b.0.0 < length s.threads)) (sym named.5) tt;
        path = subst (All IsThere) (sym named.6) none;
      } in
      reading-holds (λ phase. Within) s t l e is
      (record {
        read = plain _ (refl, refl, refl, tt, tt, refl, refl);
        let_in = plain _ (refl, refl, refl, tt, tt, refl, refl);
        shut = plain _ (refl, refl, refl, tt, tt, refl, refl);
        tryshut = plain _ (refl, refl, refl, tt, tt, refl, refl);
        out = plain _ (refl, refl, refl, tt, tt, refl, refl);
        wwake = plain _ (refl, refl, refl, owner, owner, refl, refl);
        unbias = plain _ (refl, refl, refl, tt, tt, refl, refl);
        written = plain _ (refl, refl, refl, tt, tt, refl, refl);
        late = plain _ (refl, refl, refl, at.at.task, tt, refl, refl);
        sleep = plain _ (refl, refl, refl, tt, tt, refl, refl);
        again = plain _ (refl, refl, refl, tt, tt, refl, refl);
        given_up = plain _ (refl, refl, refl, tt, tt, refl, refl);
        opened = plain _ (refl, refl, refl, tt, tt, refl, refl);
        downgraded = plain _ (refl, refl, refl, tt, tt, refl, refl);
      })

  pub of_walk : (route : Route) (u : TaskId) → IsWalking s t route u e → Within e
  of_walk route u (is_walk l key is) =
      let link = walk-link s made t route u l key e lawful is in
      let owner = owner_within s l lawful.shape link.lock in
      let rows = requeued_within (length s.threads) u (task_part s u) (owner_part s l) link.cursor (rows_within s l lawful.shape link.lock) in
      subst Within (sym is.event) (record {
        task = is.task;
        lock = link.lock;
        other = link.cursor;
        owner = owner;
        woken = newly_top_within (length s.threads) (owner_part s l) (requeued_where_old (Some u) (task_part s u) (owner_part s l)) rows;
        boost = boost_at_within (length s.threads) (owner_part s l).owner _ _ owner;
        path = none;
      })
  of_walk route u (is_walkend is) = subst Within (sym is.event) (record { task = is.task; lock = tt; other = cursor-there s made t route u lawful is.how; owner = tt; woken = tt; boost = tt; path = none })

  -- a path that is to be confirmed begins with the task and its lock, and another task comes next
  of_cycle : (l : LockId) (path : List (ℕ × ℕ)) → IsCycleEvent s t l path e → Within e
  of_cycle l path is =
      let round = round-begins s made t path l lawful is.at in
      let made_by : List (ℕ × ℕ) → Event = λ xs. cycle_event t xs (lock_at (shared s) (first_lock xs)) (task_at (shared s) (first_owner xs)) in
      subst Within (sym (is.event ∙ ap made_by round.is)) (record {
        task = is.at.at.task;
        lock = asks-lock s t (phases.Confirm path) l is.at;
        other = tt;
        owner = tt;
        woken = tt;
        boost = boost_within (length s.threads) round.owner _ _ round.there;
        path = subst (All IsThere) round.is (confirm-walk s made t path l lawful is.at).there;
      })

  -- the lock of a broken link is one of the path
  of_restart : (l : LockId) (path : List (ℕ × ℕ)) (link : Link) → IsRestart s t l path link e → Within e
  of_restart l path link is =
      let there = All-links_of (λ n m. (n < length s.threads) × (m < length s.locks)) path (confirm-walk s made t path l lawful is.at).there in
      let link_there = broken-holds (λ (link : Link). (link.from.0 < length s.threads) × (link.lock.0 < length s.locks)) s path link there is.broken in
      subst Within (sym is.event) (record { task = is.at.at.task; lock = link_there.1; other = link_there.0; owner = tt; woken = tt; boost = tt; path = (confirm-walk s made t path l lawful is.at).there })

  of_wakeup : IsWakeup s t e → Within e
  of_wakeup (is_state state is) = subst Within (sym is.event) (record { task = is.at.task; lock = tt; other = tt; owner = tt; woken = tt; boost = tt; path = none })
  of_wakeup (is_sched is) = subst Within (sym is.event) (record { task = is.at.task; lock = tt; other = tt; owner = tt; woken = tt; boost = tt; path = none })
  of_wakeup (is_wake u is) = subst Within (sym is.event) (record { task = is.at.task; lock = tt; other = is.at.served; owner = tt; woken = tt; boost = tt; path = none })
  of_wakeup (is_signal u is) = subst Within (sym is.event) (record { task = is.at.task; lock = tt; other = is.at.served; owner = tt; woken = tt; boost = tt; path = none })

  of_setprio : (u : TaskId) (prio : ℕ) → IsSetPrio s t u prio e → Within e
  of_setprio u prio is = subst Within (sym is.event) (record { task = is.at.task; lock = tt; other = is.at.served.0; owner = tt; woken = tt; boost = boost_within (length s.threads) u _ _ is.at.served.0; path = none })

-- what a next event names is there
pub within : (s : State) (made : ℕ) (t : TaskId) (e : Event) → IsLawful s made → IsNext s t e → IsWithin (length s.threads) (length s.locks) e
within s made t e lawful (by_own call answer is) = of_own s made t e lawful call answer is
within s made t e lawful (by_acquire l is) = of_acquire s made t e lawful l is
within s made t e lawful (by_wait l is) = of_wait s made t e lawful l is
within s made t e lawful (by_reading l is) = of_reading s made t e lawful l is
within s made t e lawful (by_release l is) = of_release s made t e lawful l is
within s made t e lawful (by_walk route u is) = of_walk s made t e lawful route u is
within s made t e lawful (by_confirm l path (is_restart link is)) = of_restart s made t e lawful l path link is
within s made t e lawful (by_confirm l path (is_cycle is)) = of_cycle s made t e lawful l path is
within s made t e lawful (by_wakeup is) = of_wakeup s made t e lawful is
within s made t e lawful (by_setprio u prio is) = of_setprio s made t e lawful u prio is
