-- The entry of a next event is well formed for the script that the state is of.
use Rattle.std.proofs.Common.{◌≡◌, ℕ, ◌<◌, ◌≤◌, ◌^◌, List, length, refl, sym, subst, arith, Option, Some, None, IfSome, All}
use Rattle.rt_base.specs.Script.{Script}
use Rattle.rt_base.specs.declared.id.LockId.{LockId}
use Rattle.rt_base.specs.declared.id.TaskId.{TaskId}
use Rattle.rt_model.specs.declared.event.Event.{Event}
use Rattle.rt_model.specs.declared.event_kind.EventKind.TheVariants.{Cycle}
use Rattle.rt_model.specs.declared.phase.Phase.TheVariants.{Confirm}
use Rattle.rt_model.specs.State.{State}
use Rattle.rt_model.specs.laws.Shape.{IsOf, IsWithin}
use Rattle.rt_model.specs.laws.Lawful.{IsLawful}
use Rattle.rt_model.proofs.laws.Shape.{IsOf-threads}
use Rattle.rt_model.proofs.Calling.{Asks}
use Rattle.rt_model.proofs.Lists.{All-both}
use Rattle.rt_model.proofs.Paths.{few-differ}
use Rattle.rt_model.proofs.Waiters.{confirm-walk}
use Rattle.rt_model.proofs.events.Acquire.{is_fast, is_mark, is_take, is_busy}
use Rattle.rt_model.proofs.events.Wait.{is_wait, is_again, is_leave}
use Rattle.rt_model.proofs.events.Walk.{is_walk, is_walkend, is_restart, is_cycle}
use Rattle.rt_model.proofs.events.Release.{is_free, is_give}
use Rattle.rt_model.proofs.events.Readers.{reading-holds}
use Rattle.rt_base.specs.declared.state.TaskState.{TaskState}
use Rattle.rt_base.specs.declared.state.TaskState.TheVariants as states
use Rattle.rt_model.specs.steps.Task.{state_number}
use Rattle.rt_model.proofs.events.Wakeups.{is_state, is_sched, is_wake, is_signal}
use Rattle.rt_model.proofs.NextEvents.{IsNext, by_own, by_acquire, by_wait, by_reading, by_walk, by_confirm, by_wakeup, by_setprio, by_release}
use Rattle.rt_model.proofs.Named.{within}
use Rattle.rt_events.specs.Entry.{entry, told_path}
use Rattle.rt_events.specs.WellFormed.{IsTaskIn, IsLinkIn, HasLock, HasOther, HasWoken, HasValue, HasPath, IsWellFormed}

-- the event's fields are those of its kind
record HasFields (script : Script) (number : ℕ) (e : Event) : Type 0 where
  lock : HasLock e.kind script (entry number e)
  other : HasOther e.kind script (entry number e)
  woken : HasWoken e.kind script (entry number e)
  value : HasValue e.kind e.value
  path : HasPath e.kind script (told_path e.kind e.path)

-- what an event names is the script's
within_script : (script : Script) (s : State) (made : ℕ) (t : TaskId) (e : Event) → IsOf script s → IsLawful s made → IsNext s t e → IsWithin (length script.tasks) (length script.locks) e
within_script script s made t e is lawful next =
    subst (λ (n : ℕ). IsWithin (length script.tasks) n e) is.locks (subst (λ (n : ℕ). IsWithin n (length s.locks) e) (IsOf-threads script s is) (within s made t e lawful next))

-- an event that comes about as x
fields_of : (script : Script) (number : ℕ) (e x : Event) → e ≡ x → IsWithin (length script.tasks) (length script.locks) e → (IsWithin (length script.tasks) (length script.locks) x → HasFields script number x) → HasFields script number e
fields_of script number e x is names has = subst (λ (y : Event). IsWithin (length script.tasks) (length script.locks) y → HasFields script number y) (sym is) has names

-- the path of a cycle is the script's
cycle_path : (script : Script) (s : State) (made : ℕ) (t : TaskId) (l : LockId) (path : List (ℕ × ℕ)) → IsOf script s → IsLawful s made → Asks s t (Confirm path) l → HasPath Cycle script path
cycle_path script s made t l path of lawful asks =
    let is = confirm-walk s made t path l lawful asks in
    let Within : ℕ → ℕ → ℕ × ℕ → Type 0 = λ tasks locks link. (link.0 < tasks) × (link.1 < locks) in
    let named : All (IsLinkIn script) path = subst (λ (n : ℕ). All (Within (length script.tasks) n) path) of.locks (subst (λ (n : ℕ). All (Within n (length s.locks)) path) (IsOf-threads script s of) is.there) in
    let tasks = All-both (Within (length s.threads) (length s.locks)) (Within (length s.threads) (length s.locks)) (λ (link : ℕ × ℕ). link.0 < length s.threads) (λ link there also. there.0) path is.there is.there in
    let few = few-differ (length s.threads) path tasks is.differ in
    let many = is.many in
    (omega (arith, many), omega (arith, few, lawful.shape.few_tasks), named)

-- a state has one of three numbers
few-states : (state : TaskState) → state_number state ≤ 2
few-states states.Running = omega arith
few-states states.Interruptible = omega arith
few-states _ = omega arith

fields : (script : Script) (number : ℕ) (s : State) (made : ℕ) (t : TaskId) (e : Event) → IsOf script s → IsLawful s made → IsWithin (length script.tasks) (length script.locks) e → IsNext s t e → HasFields script number e
fields script number s made t e of lawful names (by_own call answer how) = fields_of script number e _ how.event names (λ n. record { lock = n.lock; other = refl; woken = refl; value = refl; path = refl })
fields script number s made t e of lawful names (by_acquire l (is_fast how)) = fields_of script number e _ how.event names (λ n. record { lock = n.lock; other = refl; woken = refl; value = refl; path = refl })
fields script number s made t e of lawful names (by_acquire l (is_mark how)) = fields_of script number e _ how.event names (λ n. record { lock = n.lock; other = refl; woken = refl; value = refl; path = refl })
fields script number s made t e of lawful names (by_acquire l (is_take how)) = fields_of script number e _ how.event names (λ n. record { lock = n.lock; other = refl; woken = refl; value = refl; path = refl })
fields script number s made t e of lawful names (by_acquire l (is_busy how)) = fields_of script number e _ how.event names (λ n. record { lock = n.lock; other = refl; woken = refl; value = omega arith; path = refl })
fields script number s made t e of lawful names (by_wait l (is_wait how)) = fields_of script number e _ how.event names (λ n. record { lock = n.lock; other = refl; woken = refl; value = refl; path = refl })
fields script number s made t e of lawful names (by_wait l (is_again how)) = fields_of script number e _ how.event names (λ n. record { lock = n.lock; other = refl; woken = refl; value = refl; path = refl })
fields script number s made t e of lawful names (by_walk route u (is_walk l key how)) = fields_of script number e _ how.event names (λ n. record { lock = n.lock; other = n.other; woken = n.woken; value = refl; path = refl })
fields script number s made t e of lawful names (by_walk route u (is_walkend how)) = fields_of script number e _ how.event names (λ n. record { lock = refl; other = n.other; woken = refl; value = refl; path = refl })
fields script number s made t e of lawful names (by_wait l (is_leave how)) = fields_of script number e _ how.event names (λ n. record { lock = n.lock; other = refl; woken = refl; value = refl; path = refl })
fields script number s made t e of lawful names (by_confirm l path (is_restart link how)) = fields_of script number e _ how.event names (λ n. record { lock = n.lock; other = n.other; woken = refl; value = refl; path = refl })
fields script number s made t e of lawful names (by_confirm l path (is_cycle how)) =
    fields_of script number e _ how.event names (λ n. record { lock = refl; other = refl; woken = refl; value = refl; path = cycle_path script s made t l path of lawful how.at })
fields script number s made t e of lawful names (by_wakeup (is_state state how)) =
    fields_of script number e _ how.event names (λ n. record { lock = refl; other = refl; woken = refl; value = few-states state; path = refl })
fields script number s made t e of lawful names (by_wakeup (is_sched how)) = fields_of script number e _ how.event names (λ n. record { lock = refl; other = refl; woken = refl; value = refl; path = refl })
fields script number s made t e of lawful names (by_wakeup (is_wake u how)) = fields_of script number e _ how.event names (λ n. record { lock = refl; other = n.other; woken = refl; value = omega arith; path = refl })
fields script number s made t e of lawful names (by_wakeup (is_signal u how)) = fields_of script number e _ how.event names (λ n. record { lock = refl; other = n.other; woken = refl; value = omega arith; path = refl })
fields script number s made t e of lawful names (by_setprio u prio how) = fields_of script number e _ how.event names (λ n. record { lock = refl; other = n.other; woken = refl; value = how.at.served.1; path = refl })
fields script number s made t e of lawful names (by_release l (is_free how)) = fields_of script number e _ how.event names (λ n. record { lock = n.lock; other = refl; woken = refl; value = refl; path = refl })
fields script number s made t e of lawful names (by_release l (is_give how)) = fields_of script number e _ how.event names (λ n. record { lock = n.lock; other = refl; woken = n.woken; value = refl; path = refl })
fields script number s made t e of lawful names (by_reading l how) =
    reading-holds (λ phase x. IsWithin (length script.tasks) (length script.locks) x → HasFields script number x) s t l e how (record {
      read = λ n. record { lock = n.lock; other = refl; woken = refl; value = refl; path = refl };
      let_in = λ n. record { lock = n.lock; other = refl; woken = refl; value = refl; path = refl };
      shut = λ n. record { lock = n.lock; other = refl; woken = refl; value = omega arith; path = refl };
      tryshut = λ n. record { lock = n.lock; other = refl; woken = refl; value = omega arith; path = refl };
      out = λ n. record { lock = n.lock; other = refl; woken = refl; value = refl; path = refl };
      wwake = λ n. record { lock = n.lock; other = refl; woken = n.woken; value = refl; path = refl };
      unbias = λ n. record { lock = n.lock; other = refl; woken = refl; value = refl; path = refl };
      written = λ n. record { lock = n.lock; other = refl; woken = refl; value = refl; path = refl };
      late = λ n. record { lock = n.lock; other = refl; woken = refl; value = refl; path = refl };
      sleep = λ n. record { lock = n.lock; other = refl; woken = refl; value = refl; path = refl };
      again = λ n. record { lock = n.lock; other = refl; woken = refl; value = refl; path = refl };
      given_up = λ n. record { lock = n.lock; other = refl; woken = refl; value = omega arith; path = refl };
      opened = λ n. record { lock = n.lock; other = refl; woken = refl; value = omega arith; path = refl };
      downgraded = λ n. record { lock = n.lock; other = refl; woken = refl; value = omega arith; path = refl };
    }) names

boosted : (script : Script) (boost : Option (TaskId × ℕ)) → IfSome boost (λ b. b.0.0 < length script.tasks) → IfSome boost (λ b. b.1 ≤ 139) → IfSome boost (λ b. IsTaskIn script b.0 × (b.1 ≤ 139))
boosted script None task prio = tt
boosted script (Some b) task prio = (task, prio)

pub well_formed : (script : Script) (number : ℕ) (s : State) (made : ℕ) (t : TaskId) (e : Event) → IsOf script s → number < 2 ^ 64 → IsLawful s made → IsNext s t e → IfSome e.boost (λ b. b.1 ≤ 139)
    → IsWellFormed script (entry number e)
well_formed script number s made t e is few lawful next prio =
    let names = within_script script s made t e is lawful next in
    let has = fields script number s made t e is lawful names next in
    record {
      number = few;
      task = names.task;
      lock = has.lock;
      other = has.other;
      woken = has.woken;
      value = has.value;
      path = has.path;
      boost = boosted script e.boost names.boost prio;
    }
