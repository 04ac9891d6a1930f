-- A run's interrupted answers have their cause.
use Rattle.std.proofs.Common.{◌≡◌, ◌⊎◌, inl, inr, ℕ, ◌+◌, List, ◌∷◌, length, refl, ap}
use Rattle.rt_base.specs.declared.call.Call.{Call}
use Rattle.rt_base.specs.declared.id.LockId.{LockId}
use Rattle.rt_base.specs.declared.id.TaskId.{TaskId}
use Rattle.rt_base.specs.declared.reply.Reply.TheVariants as replies
use Rattle.rt_model.specs.declared.event.Event.{Event}
use Rattle.rt_model.specs.declared.event_kind.EventKind.TheVariants as kinds
use Rattle.rt_model.specs.declared.phase.Phase.TheVariants as phases
use Rattle.rt_model.specs.Parts.{TaskPart}
use Rattle.rt_model.specs.State.{State, thread_part}
use Rattle.rt_model.specs.Run.{after, IsRun}
use Rattle.rt_model.specs.laws.Lawful.{IsLawful}
use Rattle.rt_model.specs.laws.Interrupts.{HeedsSignal, IsSignalled, InterruptsLaw}
use Rattle.rt_model.proofs.Leaves.{by_leave, left-own}
use Rattle.rt_model.proofs.Sorts.{Sort, unsorted, begins, breaks, heeds, is_sorted, sort}
use Rattle.rt_model.proofs.NextEvents.{IsNext}
use Rattle.rt_model.proofs.Prefixes.{lawful-there, next-there}
use Rattle.rt_model.proofs.events.Wait.{IsLeave}
use Rattle.rt_model.proofs.events.Own.{IsOwn}
use Rattle.rt_model.proofs.laws.Causes.{EndsWait, ended_leave, ended_cycle, ends-out, ends-unblocked, ends-others, own-held, HasCause, has-cause}

-- ---- a wait that a signal ends

heeds-signal : (s : State) (made : ℕ) (l : LockId) (e : Event) → IsLawful s made → IsNext s e.task e → IsLeave s e.task l e → HeedsSignal s e
heeds-signal s made l e lawful next is =
    let ended = ended_leave l refl is in
    record {
      pending = is.signal;
      refused = (l, ap (λ (x : Event). x.lock) is.event, is.cannot);
      taken = ap (λ (task : TaskPart). task.signal) (left-own s made e.task l e lawful (by_leave is));
      unblocked = ends-unblocked s made e.task e replies.Interrupted lawful ended;
      out = ends-out s made e.task e replies.Interrupted lawful next ended;
      others = ends-others s made e.task e replies.Interrupted lawful ended;
    }

ends-signalled : (s : State) (made : ℕ) (e : Event) → IsLawful s made → IsNext s e.task e → EndsWait s e.task e replies.Interrupted → HeedsSignal s e
ends-signalled s made e lawful next (ended_cycle l path its is) = cc
ends-signalled s made e lawful next (ended_leave l its is) = heeds-signal s made l e lawful next is

leaves-signalled : (s : State) (made : ℕ) (e : Event) → IsLawful s made → IsNext s e.task e → e.kind ≡ kinds.Leave → HeedsSignal s e
leaves-signalled s made e lawful next kind = by_sort (sort s e.task e next)
  where
    by_sort : Sort s e.task e → HeedsSignal s e
    by_sort (unsorted isnt) = let is = ap is_sorted kind in absurd (cc)
    by_sort (begins l path link is) = let its = ap (λ (x : Event). x.kind) is.event in absurd (cc)
    by_sort (breaks l path is) = let its = ap (λ (x : Event). x.kind) is.event in absurd (cc)
    by_sort (heeds l is) = heeds-signal s made l e lawful next is

-- ---- over a run, from a state in which no task has made a call's first event

pub interrupts-law : (s : State) (made : ℕ) (events : List Event) → IsLawful s made → IsRun s events → ((t : TaskId) → (thread_part s t).phase ≡ phases.Start) → InterruptsLaw s events
interrupts-law s made events lawful run idle =
    let there = lawful-there s made events lawful run in
    let next = next-there s made events lawful run in
    record {
      answered = λ before rest e is answered. by_cause before e (has-cause replies.Interrupted (λ t s e. HeedsSignal s e) refl (λ s made e. ends-signalled s made e) s made events lawful run idle before rest e is answered);
      left = λ prefix rest e is kind. leaves-signalled (after s prefix) (made + length prefix) e (there prefix (e ∷ rest) is) (next prefix rest e is) kind;
    }
  where
    -- no thread answers so at once
    by_cause : (before : List Event) (e : Event)
        → ((call : Call) × IsOwn (after s before) e.task call replies.Interrupted e) ⊎ HasCause replies.Interrupted (λ t s e. HeedsSignal s e) s before e → IsSignalled s before e
    by_cause before e (inl own) = let deadlock = (own-held (after s before) e.task own.0 replies.Interrupted e own.1 refl).0 in cc
    by_cause before e (inr cause) = record { prefix = cause.prefix; cause = cause.cause; same_call = cause.same_call; heeds = cause.holds }
