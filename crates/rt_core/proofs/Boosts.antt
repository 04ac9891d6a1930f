-- A boost is within the range, by the law on own priorities.
use Rattle.std.proofs.Common.{◌≡◌, ℕ, ◌≤◌, Bool, true, false, cond, List, [], ◌∷◌, sym, subst, arith, Option, Some, None, IfSome}
use Rattle.std.specs.Prelude.{nat_eq}
use Rattle.rt_base.specs.Kind.{spins}
use Rattle.rt_base.specs.declared.id.LockId.{LockId}
use Rattle.rt_base.specs.declared.id.TaskId.{TaskId}
use Rattle.rt_base.specs.declared.limits.TheConstants.{MAX_PRIO}
use Rattle.rt_model.specs.declared.event.Event.{Event}
use Rattle.rt_model.specs.declared.row.Row.{Row}
use Rattle.rt_model.specs.Parts.{TaskPart, least, keys_in, effective_of, kind_of}
use Rattle.rt_model.specs.Choice.{boost_of, boost_at}
use Rattle.rt_model.specs.Path.{first_lock, first_owner}
use Rattle.rt_model.specs.State.{State, shared, lock_at, task_at, owner_part, task_part, thread_part}
use Rattle.rt_model.specs.steps.Lock.{queued, left_by, taken_by}
use Rattle.rt_model.specs.steps.Task.{leave_queue, refreshed, with_own, with_top}
use Rattle.rt_model.specs.steps.Chain.{requeued_where_old, refreshed_where_changed}
use Rattle.rt_model.specs.events.Acquire.{taker}
use Rattle.rt_model.specs.laws.Lawful.{IsLawful}
use Rattle.rt_model.proofs.CellStepLemmas.{leave_queue-like, where_changed}
use Rattle.rt_model.proofs.Calm.{wakeup-holds}
use Rattle.rt_model.proofs.NextEvents.{IsNext, by_own, by_acquire, by_wait, by_reading, by_walk, by_confirm, by_wakeup, by_setprio, by_release}
use Rattle.rt_model.proofs.events.Acquire.{is_fast, is_mark, is_take, is_busy}
use Rattle.rt_model.proofs.events.Wait.{is_wait, is_again, is_leave}
use Rattle.rt_model.proofs.events.Walk.{is_walk, is_walkend, is_restart, is_cycle}
use Rattle.rt_model.proofs.events.Release.{is_free, is_give}
use Rattle.rt_model.proofs.events.Readers.{reading-holds}

least-le : (prio : ℕ) (keys : List ℕ) → least prio keys ≤ prio
least-le prio [] = omega arith
least-le prio (key ∷ keys) = omega (arith, least-le prio keys)

-- an effective priority is no worse than the own one
effective-le : (task : TaskPart) → task.own ≤ MAX_PRIO → effective_of task ≤ MAX_PRIO
effective-le task own = omega (arith, least-le task.own (keys_in task.kept), own)

abbrev IsWithin : Option (TaskId × ℕ) → Type 0
IsWithin boost = IfSome boost (λ b. b.1 ≤ MAX_PRIO)

of-within : (t : TaskId) (before after : ℕ) → after ≤ MAX_PRIO → IsWithin (boost_of t before after)
of-within t before after within = by_test (nat_eq before after)
  where
    by_test : (b : Bool) → IsWithin (cond b None (Some (t, after)))
    by_test true = tt
    by_test false = within

-- of a task that may not be named, and that an event changes like this
at-within : (s : State) (made : ℕ) (lawful : IsLawful s made) (owner : Option TaskId) (f : TaskPart → TaskPart) → ((task : TaskPart) → task.own ≤ MAX_PRIO → (f task).own ≤ MAX_PRIO)
    → IsWithin (boost_at owner (effective_of (task_at (shared s) owner)) (effective_of (f (task_at (shared s) owner))))
at-within s made lawful None f keeps = tt
at-within s made lawful (Some o) f keeps = of-within o _ _ (effective-le (f (task_part s o)) (keeps (task_part s o) (lawful.priorities o)))

told : (e x : Event) → e ≡ x → IsWithin x.boost → IsWithin e.boost
told e x is within = subst (λ (y : Event). IsWithin y.boost) (sym is) within

taken-own : (spinning : Bool) (task : TaskPart) → task.own ≤ MAX_PRIO → (leave_queue spinning task).own ≤ MAX_PRIO
taken-own spinning task own = subst (λ (n : ℕ). n ≤ MAX_PRIO) (sym (leave_queue-like spinning task).own) own

refreshed-own : (l : Option LockId) (rows : List Row) (task : TaskPart) → task.own ≤ MAX_PRIO → (refreshed l rows task).own ≤ MAX_PRIO
refreshed-own None rows task own = own
refreshed-own (Some l) rows task own = own

module _ (s : State) (made : ℕ) (t : TaskId) (e : Event) (lawful : IsLawful s made) where
  pub boost-within : IsNext s t e → IfSome e.boost (λ b. b.1 ≤ MAX_PRIO)
  boost-within (by_acquire l (is_take is)) =
      let kind = kind_of (thread_part s t) l in
      told e _ is.event (of-within t _ _ (effective-le (taker (Some l) kind (taken_by t (owner_part s l)) (task_part s t)) (taken-own (spins kind) (task_part s t) (lawful.priorities t))))
  boost-within (by_wait l (is_wait is)) =
      told e _ is.event (at-within s made lawful (owner_part s l).owner (refreshed (Some l) (queued t (effective_of (task_part s t)) (owner_part s l)).rows) (λ task own. own))
  boost-within (by_walk route u (is_walk l key is)) =
      let before = (owner_part s l).rows in
      let after = (requeued_where_old (Some u) (task_part s u) (owner_part s l)).rows in
      told e _ is.event (at-within s made lawful (owner_part s l).owner (refreshed_where_changed (Some l) before after) (λ task own. where_changed (λ (x : TaskPart). x.own ≤ MAX_PRIO) (Some l) before after task own own))
  boost-within (by_wait l (is_leave is)) =
      let rows = (left_by t (owner_part s l)).rows in
      told e _ is.event (at-within s made lawful (owner_part s l).owner (refreshed (Some l) rows) (refreshed-own (Some l) rows))
  boost-within (by_confirm l path (is_cycle is)) =
      let rows = (left_by t (lock_at (shared s) (first_lock path))).rows in
      told e _ is.event (at-within s made lawful (first_owner path) (refreshed (first_lock path) rows) (refreshed-own (first_lock path) rows))
  boost-within (by_setprio u prio is) = told e _ is.event (of-within u _ _ (effective-le (with_own prio (task_part s u)) is.at.served.1))
  boost-within (by_release l (is_give is)) = told e _ is.event (of-within t _ _ (effective-le (with_top (Some l) None (task_part s t)) (lawful.priorities t)))
  boost-within (by_own call answer is) = told e _ is.event tt
  boost-within (by_acquire l (is_fast is)) = told e _ is.event tt
  boost-within (by_acquire l (is_mark is)) = told e _ is.event tt
  boost-within (by_acquire l (is_busy is)) = told e _ is.event tt
  boost-within (by_wait l (is_again is)) = told e _ is.event tt
  boost-within (by_walk route u (is_walkend is)) = told e _ is.event tt
  boost-within (by_confirm l path (is_restart link is)) = told e _ is.event tt
  boost-within (by_wakeup is) = wakeup-holds (λ (x : Event). IsWithin x.boost) s t e is (λ state. tt) tt (λ u. tt) (λ u. tt)
  boost-within (by_release l (is_free is)) = told e _ is.event tt
  boost-within (by_reading l is) =
      reading-holds (λ phase x. IsWithin x.boost) s t l e is
      (record { read = tt; let_in = tt; shut = tt; tryshut = tt; out = tt; wwake = tt; unbias = tt; written = tt; late = tt; sleep = tt; again = tt; given_up = tt; opened = tt; downgraded = tt })
