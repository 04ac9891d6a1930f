-- A next event keeps the phases law.
use Rattle.std.proofs.Common.{◌≡◌, ℕ, ◌<◌, Bool, true, false, List, [], length, refl, sym, subst, Option, Some, None}
use Rattle.rt_base.specs.declared.call.Call.{Call}
use Rattle.rt_base.specs.declared.call.Call.TheVariants as calls
use Rattle.rt_base.specs.declared.id.LockId.{LockId}
use Rattle.rt_base.specs.declared.id.TaskId.{TaskId}
use Rattle.rt_base.specs.declared.reply.Reply.{Reply}
use Rattle.rt_base.specs.declared.reply.Reply.TheVariants.{Done}
use Rattle.rt_model.specs.declared.event.Event.{Event}
use Rattle.rt_model.specs.declared.phase.Phase.{Phase}
use Rattle.rt_model.specs.declared.phase.Phase.TheVariants as phases
use Rattle.rt_model.specs.declared.phase.Route.{Route}
use Rattle.rt_model.specs.declared.phase.Route.TheVariants.{Full, Short}
use Rattle.rt_model.specs.Parts.{TaskPart, ThreadPart, call_of}
use Rattle.rt_model.specs.State.{State, shared, owner_part, task_part, thread_part}
use Rattle.rt_model.specs.StateAfter.{thread_after, state_after}
use Rattle.rt_model.specs.CallKinds.{waits, writes, releases_inner, IsPhaseOf}
use Rattle.rt_model.specs.events.Wait.{phase_after_wait}
use Rattle.rt_model.specs.steps.Chain.{followed, goes_on}
use Rattle.rt_model.specs.steps.Task.{with_own}
use Rattle.rt_model.specs.steps.Thread.{phase_after_got, got_answer, answered_with}
use Rattle.rt_model.specs.laws.Phases.{PhasesLaw}
use Rattle.rt_model.specs.laws.Lawful.{IsLawful}
use Rattle.rt_model.proofs.Calling.{Asks, asks-waits, ends-holds, writes-holds}
use Rattle.rt_model.proofs.Calm.{wakeup-threads}
use Rattle.rt_model.proofs.NextEvents.{IsNext, by_own, by_acquire, by_wait, by_release, by_reading, by_walk, by_confirm, by_wakeup, by_setprio}
use Rattle.rt_model.proofs.events.Wait.{is_wait, is_again, is_leave}
use Rattle.rt_model.proofs.events.Acquire.{is_fast, is_mark, is_take, is_busy, asking}
use Rattle.rt_model.proofs.events.Release.{is_free, is_give}
use Rattle.rt_model.proofs.events.Readers.{IsReading, reading-in, reading-task}
use Rattle.rt_model.proofs.events.Walk.{is_walk, is_walkend, is_restart, is_cycle}
use Rattle.rt_model.proofs.Leaves.{IsLeft, left_answer, left_made, left-is, left-there, left-fits, left-thread, leave-left, cycle-left}
use Rattle.rt_model.proofs.Links.{walked_thread, link-thread, end-thread, setprio-thread}
use Rattle.rt_model.proofs.PartsAfter.{thread-made}
use Rattle.rt_model.proofs.Reading.{reading-leaves}
use Rattle.rt_model.proofs.Routes.{walk-fits, setprio-fits, SameSort, SameSort-itself, SameSort-followed, walked-holds}

abbrev Phased : ThreadPart → Type 0
Phased thread = IsPhaseOf thread.phase (call_of thread)

-- a phase of a call that waits
asks_phased : (s : State) (t : TaskId) (phase onward : Phase) (l : LockId) → Asks s t phase l
    → ((call : Call) → waits call ≡ true → IsPhaseOf onward (Some call)) → IsPhaseOf onward (call_of (thread_part s t))
asks_phased s t phase onward l asks fits = subst (IsPhaseOf onward) (sym asks.at.calling) (fits asks.call (asks-waits s t phase l asks))

-- a task that has been queued waits, or walks
waits_phased : (t : TaskId) (l : LockId) (owner : Option TaskId) (blocked : Bool) (call : Call) → waits call ≡ true → IsPhaseOf (phase_after_wait t (Some l) owner blocked) (Some call)
waits_phased t l (Some o) true call is = is
waits_phased t l (Some o) false call is = is
waits_phased t l None blocked call is = is

-- ---- a reader or a writer

-- a call that has acquired an owner part is answered, or goes on as a reader or a writer
got_phased : (thread : ThreadPart) (call : Option Call) → call_of thread ≡ call → Phased (answered_with (record thread { phase = phase_after_got call thread.phase }) (got_answer call))
got_phased thread (Some (calls.Read l)) at = subst (IsPhaseOf phases.ReadIn) (sym at) refl
got_phased thread (Some (calls.Write l)) at = subst (IsPhaseOf phases.Unbias) (sym at) refl
got_phased thread (Some (calls.TryWrite l)) at = subst (IsPhaseOf phases.Unbias) (sym at) refl
got_phased thread _ at = tt

-- what an event at a reader part leaves of its thread
reading_phased : (s : State) (t : TaskId) (l : LockId) (e : Event) → PhasesLaw s → IsReading s t l e → Phased (thread_after (shared s) (thread_part s t) e)
reading_phased s t l e law is =
    reading-leaves Phased s t l e is (record {
      answered = λ phase answer. tt;
      shut = λ at unheld. subst (IsPhaseOf phases.Inner) (sym at.calling) refl;
      last = λ at. subst (IsPhaseOf phases.WakeWriter) (sym at) refl;
      start = λ at. law t;
      unbiased = λ call how at. subst (IsPhaseOf phases.WTry) (sym at) (writes-holds (λ c. writes c ≡ true) call l how refl refl);
      asleep = λ at. subst (IsPhaseOf phases.WWait) (sym at) refl;
      releases = λ call ends at. subst (IsPhaseOf phases.Release) (sym at) (ends-holds (λ c. releases_inner c ≡ true) call l ends refl refl refl refl);
    })

-- ---- a walk that goes on, or ends

full_waits : (u : TaskId) (path : List (ℕ × ℕ)) (call : Option Call) → IsPhaseOf (phases.Walk u (Full path)) call → IsPhaseOf phases.Wait call
full_waits u path (Some call) fits = fits
full_waits u path None fits = absurd fits

full_confirms : (u : TaskId) (path rest : List (ℕ × ℕ)) (call : Option Call) → IsPhaseOf (phases.Walk u (Full path)) call → IsPhaseOf (phases.Confirm rest) call
full_confirms u path rest (Some call) fits = fits
full_confirms u path rest None fits = absurd fits

full_goes : (u o : TaskId) (path rest : List (ℕ × ℕ)) (call : Option Call) → IsPhaseOf (phases.Walk u (Full path)) call → IsPhaseOf (phases.Walk o (Full rest)) call
full_goes u o path rest (Some call) fits = fits
full_goes u o path rest None fits = absurd fits

short_goes : (u o : TaskId) (answer : Reply) (call : Option Call) → IsPhaseOf (phases.Walk u (Short answer)) call → IsPhaseOf (phases.Walk o (Short answer)) call
short_goes u o answer (Some call) fits = fits
short_goes u o answer None fits = absurd fits

-- where it stands in a call, so does what it leaves
walk_phased : (thread : ThreadPart) (t u : TaskId) (route onward : Route) (owner : Option TaskId) (task : TaskPart) → SameSort route onward → IsPhaseOf (phases.Walk u route) (call_of thread)
    → Phased (walked_thread thread route (goes_on t onward owner task))
walk_phased thread t u route onward owner task sort =
    walked-holds (λ r th. IsPhaseOf (phases.Walk u r) (call_of thread) → Phased th) thread t route onward owner task sort
    (λ path. full_waits u path (call_of thread)) (λ path rest. full_confirms u path rest (call_of thread))
    (λ path rest o. full_goes u o path rest (call_of thread)) (λ answer fits. tt) (λ answer o. short_goes u o answer (call_of thread))

-- ---- the law

pub PhasesLaw-next : (s : State) (made : ℕ) (t : TaskId) (e : Event) → IsLawful s made → IsNext s t e → PhasesLaw (state_after s e)
PhasesLaw-next s made t e lawful next u = by_kind next
  where
    -- the thread of an event that comes about as x
    own : (x : Event) → e ≡ x → x.task.0 < length s.threads → Phased (thread_after (shared s) (thread_part s x.task) x) → Phased (thread_part (state_after s e) u)
    own x is lt phased = thread-made (λ v. Phased) s e x u is lt phased (λ others. lawful.phases u)

    -- of one that leaves a queue
    leaves : (l : LockId) → IsLeft s t l e → Phased (thread_part (state_after s e) u)
    leaves l is =
        own (left_made s t l e is) (left-is s t l e is) (left-there s made t l e lawful is) (subst Phased (sym (left-thread s made t l e lawful is))
        (walk_phased (thread_part s t) t t (Short (left_answer is)) (Short (left_answer is)) (owner_part s l).owner _ (SameSort-itself (Short (left_answer is))) (left-fits s made t l e lawful is t)))

    by_kind : IsNext s t e → Phased (thread_part (state_after s e) u)
    by_kind (by_own call answer is) = own _ is.event is.at.task tt
    by_kind (by_acquire l (is_fast is)) = own _ is.event is.task (got_phased (thread_part s t) (call_of (thread_part s t)) refl)
    by_kind (by_acquire l (is_mark is)) = let asks = asking s t l is.how in own _ is.event is.task (asks_phased s t asks.0 phases.Slow l asks.1 (λ call waiting. waiting))
    by_kind (by_acquire l (is_take is)) = own _ is.event is.task (got_phased (thread_part s t) (call_of (thread_part s t)) refl)
    by_kind (by_acquire l (is_busy is)) = own _ is.event is.at.at.task tt
    by_kind (by_wait l (is_wait is)) = own _ is.event is.at.at.task (asks_phased s t phases.Slow _ l is.at (waits_phased t l (owner_part s l).owner _))
    by_kind (by_wait l (is_again is)) = own _ is.event is.at.at.task (lawful.phases t)
    by_kind (by_wait l (is_leave is)) = leaves l (leave-left s t l e is)
    by_kind (by_release l (is_free is)) = own _ is.event is.at.task tt
    by_kind (by_release l (is_give is)) = own _ is.event is.at.task tt
    by_kind (by_reading l is) =
        let task : t ≡ e.task = sym (reading-task s t l e is) in
        own e refl (subst (λ (v : TaskId). v.0 < length s.threads) task (reading-in s t l e is).at.task)
        (subst (λ (v : TaskId). Phased (thread_after (shared s) (thread_part s v) e)) task (reading_phased s t l e lawful.phases is))
    by_kind (by_walk route v (is_walk l key is)) =
        own _ is.event is.task
        (subst Phased (sym (link-thread s made t route v l key e lawful is)) (walk_phased (thread_part s t) t v route (followed v l route) (owner_part s l).owner _ (SameSort-followed v l route) (walk-fits s t route v lawful.phases is.how)))
    by_kind (by_walk route v (is_walkend is)) =
        own _ is.event is.task (subst Phased (sym (end-thread s t route v e is)) (walk_phased (thread_part s t) t v route route None (task_part s v) (SameSort-itself route) (walk-fits s t route v lawful.phases is.how)))
    by_kind (by_confirm l path (is_restart link is)) = own _ is.event is.at.at.task (asks_phased s t (phases.Confirm path) (phases.Walk t (Full [])) l is.at (λ call waiting. waiting))
    by_kind (by_confirm l path (is_cycle is)) = leaves l (cycle-left s made t l path e lawful is)
    by_kind (by_wakeup is) =
        wakeup-threads s t e is (λ v. Phased) u (λ thread start. subst (λ (p : Phase). IsPhaseOf p (call_of thread)) (sym start) tt) (lawful.phases u)
    by_kind (by_setprio v prio is) =
        own _ is.event is.at.task
        (subst Phased (sym (setprio-thread s made t v prio e lawful is))
        (walk_phased (thread_part s t) t v (Short Done) (Short Done) (Some v) (with_own prio (task_part s v)) (SameSort-itself (Short Done)) (setprio-fits s t v prio is.at)))
