-- A run's deadlock answers have their cause.
use Rattle.std.proofs.Common.{◌≡◌, ◌⊎◌, inl, inr, ℕ, suc, ◌+◌, Bool, true, false, cond, not, ◌&&◌, List, [], ◌∷◌, ◌++◌, length, refl, sym, ap, ◌∙◌, subst, Some, None, unwrap_or}
use Rattle.std.specs.Prelude.{slice_get}
use Rattle.rt_base.specs.declared.call.Call.{Call}
use Rattle.rt_base.specs.declared.id.LockId.{LockId}
use Rattle.rt_base.specs.declared.id.TaskId.{TaskId}
use Rattle.rt_base.specs.declared.kind.Kind.{Kind}
use Rattle.rt_base.specs.declared.kind.Kind.TheVariants.{Mutex}
use Rattle.rt_base.specs.declared.reply.Reply.TheVariants as replies
use Rattle.rt_model.specs.declared.event.Event.{Event}
use Rattle.rt_model.specs.declared.phase.Phase.TheVariants as phases
use Rattle.rt_model.specs.Parts.{ThreadPart, hold_of, kind_of, has_readers}
use Rattle.rt_model.specs.State.{State, owner_part, thread_part}
use Rattle.rt_model.specs.StateAfter.{state_after}
use Rattle.rt_model.specs.Run.{after, IsRun}
use Rattle.rt_model.specs.laws.Lawful.{IsLawful}
use Rattle.rt_model.specs.laws.Owners.{has_inner}
use Rattle.rt_model.specs.laws.Readers.{is_writing}
use Rattle.rt_model.specs.laws.Holders.{nobody, holder_of, held_in}
use Rattle.rt_model.specs.laws.Cycles.{BreaksCycle}
use Rattle.rt_model.specs.laws.Deadlocks.{IsHeldItself, IsInCycle, DeadlocksLaw}
use Rattle.rt_model.proofs.Inside.{outside}
use Rattle.rt_model.proofs.NextEvents.{IsNext}
use Rattle.rt_model.proofs.events.Own.{IsOwn}
use Rattle.rt_model.proofs.laws.Cycles.{breaks-cycle}
use Rattle.rt_model.proofs.laws.Causes.{EndsWait, ended_leave, ended_cycle, own-held, HasCause, has-cause}
use Rattle.rt_model.proofs.laws.Holders.{held-owned, owner-writes, holder-told}
use Rattle.rt_model.proofs.laws.States.{kinds-kept}
use Rattle.rt_model.proofs.Prefixes.{run-prefix, run-lawful, lawful-there, next-task}

-- ---- a wait that a cycle ends

ends-cycle : (s : State) (made : ℕ) (e : Event) → IsLawful s made → IsNext s e.task e → EndsWait s e.task e replies.Deadlock → BreaksCycle s e
ends-cycle s made e lawful next (ended_leave l its is) = cc
ends-cycle s made e lawful next (ended_cycle l path its is) = breaks-cycle s made e lawful next (ap (λ (x : Event). x.kind) is.event)

-- ---- a lock that a task holds itself

-- a thread knows the kinds of locks that it knew
kinds-along : (s : State) (made : ℕ) (events : List Event) (u : TaskId) → IsLawful s made → IsRun s events → (thread_part (after s events) u).kinds ≡ (thread_part s u).kinds
kinds-along s made [] u lawful run = refl
kinds-along s made (e ∷ events) u lawful run = kinds-along (state_after s e) (suc made) events u (run-lawful s made e events lawful run) run.1 ∙ kinds-kept s e u (next-task s e.task e run.0)

-- at the start of a call it has what it holds, and not for reading, alone
holds-alone : (s : State) (made : ℕ) (t : TaskId) (l : LockId) → IsLawful s made → (thread_part s t).phase ≡ phases.Start → (hold_of (thread_part s t) l).owns ≡ true
    → holder_of (kind_of (thread_part s t) l) (held_in s l) ≡ Some t
holds-alone s made t l lawful start held = by_kind (has_readers (kind_of thread l)) refl
  where
    thread : ThreadPart
    thread = thread_part s t

    owned : (owner_part s l).owner ≡ Some t
    owned = held-owned s made t l lawful held

    by_kind : (b : Bool) → has_readers (kind_of thread l) ≡ b → cond b (held_in s l).writer (owner_part s l).owner ≡ Some t
    by_kind true is =
        let writes : is_writing thread l ≡ true = λ i. is i && held i && not (outside thread l (ap has_inner start) i) in
        ap (λ (w : Bool). cond w (owner_part s l).owner None) (owner-writes s made t l lawful owned ∙ writes) ∙ owned
    by_kind false is = owned

-- ---- over a run, from a state in which nobody has a lock, and no task has made a call's first event

module _ (s : State) (made : ℕ) (events : List Event) (lawful : IsLawful s made) (run : IsRun s events)
    (free : (l : LockId) → held_in s l ≡ nobody) (idle : (t : TaskId) → (thread_part s t).phase ≡ phases.Start) where
  held-itself : (before rest : List Event) (e : Event) (call : Call) → before ++ e ∷ rest ≡ events → IsOwn (after s before) e.task call replies.Deadlock e → IsHeldItself s before e
  held-itself before rest e call is own =
      let held = (own-held (after s before) e.task call replies.Deadlock e own refl).1 in
      let l : LockId = held.0 in
      let there = lawful-there s made events lawful run before (e ∷ rest) is in
      let same : kind_of (thread_part s e.task) l ≡ kind_of (thread_part (after s before) e.task) l
      = ap (λ (known : List Kind). unwrap_or (slice_get known l.0) Mutex) (sym (kinds-along s made before e.task lawful (run-prefix s before (e ∷ rest) (subst (IsRun s) (sym is) run)))) in
      record {
        kind = ap (λ (x : Event). x.kind) own.event;
        held = (l, held.1, (λ i. holder_of (same i) (holder-told s made events lawful run free before (e ∷ rest) l is i)) ∙ holds-alone (after s before) (made + length before) e.task l there own.at.phased held.2);
      }

  by_cause : (before rest : List Event) (e : Event) → before ++ e ∷ rest ≡ events
      → ((call : Call) × IsOwn (after s before) e.task call replies.Deadlock e) ⊎ HasCause replies.Deadlock (λ t s e. BreaksCycle s e) s before e
      → IsHeldItself s before e ⊎ IsInCycle s before e
  by_cause before rest e is (inl own) = inl (held-itself before rest e own.0 is own.1)
  by_cause before rest e is (inr cause) = inr (record {
    prefix = cause.prefix;
    cause = cause.cause;
    same_call = cause.same_call;
    breaks = cause.holds;
  })

  pub deadlocks-law : DeadlocksLaw s events
  deadlocks-law = λ before rest e is deadlock.
      by_cause before rest e is (has-cause replies.Deadlock (λ t s e. BreaksCycle s e) refl (λ s made e. ends-cycle s made e) s made events lawful run idle before rest e is deadlock)
