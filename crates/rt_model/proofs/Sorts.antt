-- Which next event one is that begins a walk anew, tells of a cycle, or heeds a signal.
use Rattle.std.proofs.Common.{◌≡◌, ℕ, Bool, true, false, List, refl, ap}
use Rattle.rt_base.specs.declared.id.LockId.{LockId}
use Rattle.rt_base.specs.declared.id.TaskId.{TaskId}
use Rattle.rt_model.specs.declared.event.Event.{Event}
use Rattle.rt_model.specs.declared.event_kind.EventKind.{EventKind}
use Rattle.rt_model.specs.declared.event_kind.EventKind.TheVariants as kinds
use Rattle.rt_model.specs.State.{State}
use Rattle.rt_model.specs.Path.{Link}
use Rattle.rt_model.proofs.NextEvents.{IsNext, by_own, by_acquire, by_wait, by_release, by_reading, by_walk, by_confirm, by_wakeup, by_setprio}
use Rattle.rt_model.proofs.Reading.{reading-kind}
use Rattle.rt_model.proofs.events.Acquire.{is_fast, is_mark, is_take, is_busy}
use Rattle.rt_model.proofs.events.Release.{is_free, is_give}
use Rattle.rt_model.proofs.events.Wait.{IsLeave, is_wait, is_again, is_leave}
use Rattle.rt_model.proofs.events.Wakeups.{is_state, is_sched, is_wake, is_signal}
use Rattle.rt_model.proofs.events.Walk.{is_walk, is_walkend, IsRestart, IsCycleEvent, is_restart, is_cycle}

-- an event of this kind is one of these
abbrev pub is_sorted : EventKind → Bool
is_sorted kinds.Restart = true
is_sorted kinds.Cycle = true
is_sorted kinds.Leave = true
is_sorted _ = false

pub data Sort (s : State) (t : TaskId) (e : Event) : Type 0 where
  unsorted : is_sorted e.kind ≡ false → Sort s t e
  begins : (l : LockId) (path : List (ℕ × ℕ)) (link : Link) → IsRestart s t l path link e → Sort s t e
  breaks : (l : LockId) (path : List (ℕ × ℕ)) → IsCycleEvent s t l path e → Sort s t e
  heeds : (l : LockId) → IsLeave s t l e → Sort s t e

sorts : (e x : Event) → e ≡ x → is_sorted x.kind ≡ false → is_sorted e.kind ≡ false
sorts e x is isnt = let same = ap (λ (y : Event). is_sorted y.kind) is in cc

pub sort : (s : State) (t : TaskId) (e : Event) → IsNext s t e → Sort s t e
sort s t e (by_own call answer is) = unsorted (sorts e _ is.event refl)
sort s t e (by_acquire l (is_fast is)) = unsorted (sorts e _ is.event refl)
sort s t e (by_acquire l (is_mark is)) = unsorted (sorts e _ is.event refl)
sort s t e (by_acquire l (is_take is)) = unsorted (sorts e _ is.event refl)
sort s t e (by_acquire l (is_busy is)) = unsorted (sorts e _ is.event refl)
sort s t e (by_wait l (is_wait is)) = unsorted (sorts e _ is.event refl)
sort s t e (by_wait l (is_again is)) = unsorted (sorts e _ is.event refl)
sort s t e (by_wait l (is_leave is)) = heeds l is
sort s t e (by_release l (is_free is)) = unsorted (sorts e _ is.event refl)
sort s t e (by_release l (is_give is)) = unsorted (sorts e _ is.event refl)
sort s t e (by_reading l is) = unsorted (reading-kind (λ kind. is_sorted kind ≡ false) s t l e is (record { rin = refl; busy = refl; rout = refl; wwake = refl; unbias = refl; wtake = refl; wsleep = refl; wopen = refl }))
sort s t e (by_walk route u (is_walk l key is)) = unsorted (sorts e _ is.event refl)
sort s t e (by_walk route u (is_walkend is)) = unsorted (sorts e _ is.event refl)
sort s t e (by_confirm l path (is_restart link is)) = begins l path link is
sort s t e (by_confirm l path (is_cycle is)) = breaks l path is
sort s t e (by_wakeup (is_state state is)) = unsorted (sorts e _ is.event refl)
sort s t e (by_wakeup (is_sched is)) = unsorted (sorts e _ is.event refl)
sort s t e (by_wakeup (is_wake u is)) = unsorted (sorts e _ is.event refl)
sort s t e (by_wakeup (is_signal u is)) = unsorted (sorts e _ is.event refl)
sort s t e (by_setprio u prio is) = unsorted (sorts e _ is.event refl)
