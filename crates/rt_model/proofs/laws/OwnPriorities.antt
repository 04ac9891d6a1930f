-- A next event keeps the own-priorities law.
use Rattle.std.proofs.Common.{◌≡◌, ℕ, ◌≤◌, sym, subst, Option, Some, None}
use Rattle.rt_base.specs.Kind.{spins}
use Rattle.rt_base.specs.declared.id.LockId.{LockId}
use Rattle.rt_base.specs.declared.id.TaskId.{TaskId}
use Rattle.rt_base.specs.declared.limits.TheConstants.{MAX_PRIO}
use Rattle.rt_model.specs.declared.event.Event.{Event}
use Rattle.rt_model.specs.declared.event_kind.EventKind.{EventKind}
use Rattle.rt_model.specs.declared.event_kind.EventKind.TheVariants as kinds
use Rattle.rt_model.specs.Parts.{OwnerPart, TaskPart, ThreadPart, call_of, kind_named}
use Rattle.rt_model.specs.Rows.{top_key}
use Rattle.rt_model.specs.State.{State, thread_part}
use Rattle.rt_model.specs.steps.Task.{rest_of, with_top, leave_queue}
use Rattle.rt_model.specs.Effect.{Around}
use Rattle.rt_model.specs.Rules.{effect}
use Rattle.rt_model.specs.StateAfter.{state_after}
use Rattle.rt_model.specs.laws.Lawful.{IsLawful}
use Rattle.rt_model.specs.laws.OwnPriorities.{OwnPrioritiesLaw}
use Rattle.rt_model.proofs.Calm.{wakeup-kind}
use Rattle.rt_model.proofs.CellStepLemmas.{IsLike, leave_queue-like, interrupted-like, woken_by-like, lock_woken-like, blocked_on-like, restored-like, writer_rests-like, where_changed}
use Rattle.rt_model.proofs.NextEvents.{IsNext, by_own, by_acquire, by_wait, by_release, by_reading, by_walk, by_confirm, by_wakeup, by_setprio}
use Rattle.rt_model.proofs.PartsAfter.{OthersKeep, task-keeps}
use Rattle.rt_model.proofs.Reading.{reading-kind}
use Rattle.rt_model.proofs.events.Acquire.{is_fast, is_mark, is_take, is_busy}
use Rattle.rt_model.proofs.events.Wait.{is_wait, is_again, is_leave}
use Rattle.rt_model.proofs.events.Release.{is_free, is_give}
use Rattle.rt_model.proofs.events.Walk.{is_walk, is_walkend, is_restart, is_cycle}

-- an event of this kind sets a priority within the range, where it sets one
abbrev SetsWithin : EventKind → ℕ → Type 0
SetsWithin kinds.SetPrio prio = prio ≤ MAX_PRIO
SetsWithin _ prio = Unit {0}

-- ---- a task

-- its own priority is within the range
abbrev IsInRange : TaskPart → Type 0
IsInRange task = task.own ≤ MAX_PRIO

-- so is that of one like it
range-like : {task other : TaskPart} → IsLike task other → IsInRange task → IsInRange other
range-like like was = subst (λ (n : ℕ). n ≤ MAX_PRIO) (sym like.own) was

range-with_top : (l : Option LockId) (top : Option ℕ) (task : TaskPart) → IsInRange task → IsInRange (with_top l top task)
range-with_top None top task was = was
range-with_top (Some l) top task was = was

range-own : (kind : EventKind) (e : Event) (th : ThreadPart) (found : Around) (lock : OwnerPart) (task : TaskPart) → IsInRange task → IsInRange ((effect kind e th found).own lock task)
range-own kinds.Take e th found lock task was =
    let spinning = spins (kind_named th e.lock) in
    range-with_top e.lock (top_key lock.rows) (leave_queue spinning task) (range-like (leave_queue-like spinning task) was)
range-own kinds.Wait e th found lock task was = range-like (blocked_on-like e.lock (rest_of (kind_named th e.lock) (call_of th)) task) was
range-own kinds.Leave e th found lock task was = range-like (interrupted-like (spins (kind_named th e.lock)) task) was
range-own kinds.Cycle e th found lock task was = range-like (leave_queue-like (spins (kind_named th e.lock)) task) was
range-own kinds.Give e th found lock task was = range-with_top e.lock None task was
range-own kinds.WTake e th found lock task was = range-like (restored-like (spins (kind_named th e.lock)) task) was
range-own kinds.WSleep e th found lock task was = range-like (writer_rests-like th.phase (rest_of (kind_named th e.lock) (call_of th)) task) was
range-own _ e th found lock task was = was

range-others : (kind : EventKind) (e : Event) (th : ThreadPart) (found : Around) (lock : OwnerPart) → SetsWithin kind e.value → OthersKeep IsInRange (effect kind e th found) lock
range-others kinds.Wait e th found lock sets = record { owner = range-with_top e.lock (top_key lock.rows); other = λ task was. was; woken = λ task was. was }
range-others kinds.Leave e th found lock sets = record { owner = range-with_top e.lock (top_key lock.rows); other = λ task was. was; woken = λ task was. was }
range-others kinds.Cycle e th found lock sets = record { owner = range-with_top e.lock (top_key lock.rows); other = λ task was. was; woken = λ task was. was }
range-others kinds.Wake e th found lock sets = record { owner = λ task was. was; other = λ task was. range-like (woken_by-like e.value task).like was; woken = λ task was. was }
range-others kinds.Give e th found lock sets = record { owner = λ task was. was; other = λ task was. was; woken = λ task was. range-like (lock_woken-like (spins (kind_named th e.lock)) task).like was }
range-others kinds.WWake e th found lock sets = record { owner = λ task was. was; other = λ task was. was; woken = λ task was. range-like (lock_woken-like (spins (kind_named th e.lock)) task).like was }
range-others kinds.Walk e th found lock sets = record {
  owner = λ task was. where_changed IsInRange e.lock found.lock.rows lock.rows task was (range-with_top e.lock (top_key lock.rows) task was);
  other = λ task was. was;
  woken = λ task was. range-like (lock_woken-like (spins (kind_named th e.lock)) task).like was;
}
range-others kinds.SetPrio e th found lock sets = record { owner = λ task was. was; other = λ task was. sets; woken = λ task was. was }
range-others _ e th found lock sets = record { owner = λ task was. was; other = λ task was. was; woken = λ task was. was }

-- ---- the law

-- a next event sets a priority within the range
sets-within : (s : State) (t : TaskId) (e : Event) → IsNext s t e → SetsWithin e.kind e.value
sets-within s t e next = by_kind next
  where
    written : (x : Event) → e ≡ x → SetsWithin x.kind x.value → SetsWithin e.kind e.value
    written x is sets = subst (λ (y : Event). SetsWithin y.kind y.value) (sym is) sets

    by_kind : IsNext s t e → SetsWithin e.kind e.value
    by_kind (by_setprio u prio is) = written _ is.event is.at.served.1
    by_kind (by_own call answer is) = written _ is.event tt
    by_kind (by_acquire l (is_fast is)) = written _ is.event tt
    by_kind (by_acquire l (is_mark is)) = written _ is.event tt
    by_kind (by_acquire l (is_take is)) = written _ is.event tt
    by_kind (by_acquire l (is_busy is)) = written _ is.event tt
    by_kind (by_wait l (is_wait is)) = written _ is.event tt
    by_kind (by_wait l (is_again is)) = written _ is.event tt
    by_kind (by_wait l (is_leave is)) = written _ is.event tt
    by_kind (by_release l (is_free is)) = written _ is.event tt
    by_kind (by_release l (is_give is)) = written _ is.event tt
    by_kind (by_reading l is) = reading-kind (λ kind. SetsWithin kind e.value) s t l e is (record { rin = tt; busy = tt; rout = tt; wwake = tt; unbias = tt; wtake = tt; wsleep = tt; wopen = tt })
    by_kind (by_walk route u (is_walk l key is)) = written _ is.event tt
    by_kind (by_walk route u (is_walkend is)) = written _ is.event tt
    by_kind (by_confirm l path (is_restart link is)) = written _ is.event tt
    by_kind (by_confirm l path (is_cycle is)) = written _ is.event tt
    by_kind (by_wakeup is) = wakeup-kind (λ kind. SetsWithin kind e.value) s t e is tt tt tt

-- own-priorities law
pub OwnPrioritiesLaw-next : (s : State) (made : ℕ) (t : TaskId) (e : Event) → IsLawful s made → IsNext s t e → OwnPrioritiesLaw (state_after s e)
OwnPrioritiesLaw-next s made t e lawful next u =
    let th = thread_part s e.task in
    task-keeps IsInRange s e u (lawful.priorities u) (range-own e.kind e th) (λ found lock. range-others e.kind e th found lock (sets-within s t e next))
