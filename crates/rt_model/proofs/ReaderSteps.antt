-- What each step on a reader part asks of it, it has in a lawful state.
use Rattle.std.proofs.Common.{◌≡◌, ℕ, ◌<◌, Bool, true, false, not, ◌&&◌, ◌||◌, length, map, refl, sym, ap, ◌∙◌, subst, arith, Some, IfSome}
use Rattle.std.specs.Prelude.{nat_eq, sum}
use Rattle.std.proofs.lemmas.Bool.{or_left, or_right}
use Rattle.std.proofs.lemmas.Bool.Decides.{nat_tests}
use Rattle.rt_base.specs.declared.call.Call.{Call}
use Rattle.rt_base.specs.declared.id.LockId.{LockId}
use Rattle.rt_base.specs.declared.id.TaskId.{TaskId}
use Rattle.rt_base.specs.declared.limits.TheConstants.{MAX_CALLS}
use Rattle.rt_model.specs.declared.event.Event.{Event}
use Rattle.rt_model.specs.declared.phase.Phase.{Phase}
use Rattle.rt_model.specs.declared.phase.Phase.TheVariants as phases
use Rattle.rt_model.specs.Parts.{ThreadPart, hold_of, kind_of, has_readers}
use Rattle.rt_model.specs.Choice.{called_lock}
use Rattle.rt_model.specs.State.{State, no_thread, reader_part, thread_part}
use Rattle.rt_model.specs.CallKinds.{IsForKind, HasReadersAt}
use Rattle.rt_model.specs.Rules.{touched}
use Rattle.rt_model.specs.steps.Readers.{CanStep}
use Rattle.rt_model.specs.laws.Lawful.{IsLawful}
use Rattle.rt_model.specs.laws.Readers.{has_come, coming, readers_by}
use Rattle.rt_model.specs.laws.Shape.{calls_of}
use Rattle.rt_model.proofs.Counts.{sum-less}
use Rattle.rt_model.proofs.ReaderCounts.{none-comes, readers-most, readers-less}
use Rattle.rt_model.proofs.Calling.{IsIn, writes-called}
use Rattle.rt_model.proofs.Looks.{Facts, off, out}
use Rattle.rt_model.proofs.NextEvents.{IsNext, by_own, by_acquire, by_wait, by_release, by_reading, by_walk, by_confirm, by_wakeup, by_setprio}
use Rattle.rt_model.proofs.events.Acquire.{is_fast, is_mark, is_take, is_busy}
use Rattle.rt_model.proofs.events.Readers.{IsMade, IsReading, is_read, is_tryread, is_let_in, is_shut, is_tryshut, is_out, is_wwake, is_unbias, is_in, is_sleep, is_given_up, is_in_late, is_sleep_again, is_opened, is_downgraded}
use Rattle.rt_model.proofs.events.Release.{is_free, is_give}
use Rattle.rt_model.proofs.events.Wait.{is_wait, is_again, is_leave}
use Rattle.rt_model.proofs.events.Wakeups.{is_state, is_sched, is_wake, is_signal}
use Rattle.rt_model.proofs.events.Walk.{is_walk, is_walkend, is_restart, is_cycle}
use Rattle.rt_model.proofs.laws.Readers.{seen_in, known, reader_kind, fits}

-- so a lock has fewer readers than a script may have calls, where one more comes
fewer : (s : State) (made : ℕ) (t : TaskId) (l : LockId) (phase : Phase) (call : Call) → IsLawful s made → IsIn s t phase call → has_come phase (Some call) ≡ false → (reader_part s l).count < MAX_CALLS
fewer s made t l phase call lawful at not_yet =
    let nobody : coming (thread_part s t) l ≡ 0 = none-comes l (thread_part s t) (lawful.readers.within t) (lawful.readers.few l t) ((λ i. has_come (at.phased i) (at.calling i)) ∙ not_yet) in
    let all : sum (map (λ (thread : ThreadPart). readers_by thread l) s.threads) < calls_of s.threads =
    sum-less (λ (thread : ThreadPart). readers_by thread l) (λ (thread : ThreadPart). length thread.calls) no_thread s.threads t.0
    (λ i. readers-most l (thread_part s (record { 0 = i })) (lawful.readers.within (record { 0 = i })) (lawful.readers.few l (record { 0 = i }))) at.task
    (readers-less l (thread_part s t) (lawful.readers.within t) (lawful.readers.few l t) call at.calling nobody) in
    omega (arith, all, lawful.readers.count l, lawful.shape.few_calls)

-- ---- what an event finds

open_to : (writer : Bool) → writer ≡ false → not writer ≡ true
open_to true is = cc
open_to false is = refl

-- a writer that is in has the write hold of a reader/writer lock
is_writing_by : (rw owns : Bool) → rw ≡ true → owns ≡ true → (rw && owns && true) ≡ true
is_writing_by true true rw owns = refl
is_writing_by true false rw owns = cc
is_writing_by false owns rw holds = cc

module _ (s : State) (made : ℕ) (t : TaskId) (e : Event) (lawful : IsLawful s made) where
  abbrev Fine : Event → Type 0
  Fine x = IfSome (touched x.kind x).readers (λ l. CanStep x.kind x.value (reader_part s l))

  of_made : (l : LockId) (phase : Phase) (call : Call) (x : Event) → IsMade s t l phase call x e → Fine x → Fine e
  of_made l phase call x is fine = subst Fine (sym is.event) fine

  -- what the state says of a call on the lock in this phase
  facts-at : (l : LockId) (phase : Phase) (call : Call) (x : Event) → IsMade s t l phase call x e → called_lock call ≡ Some l → Facts (seen_in s made t lawful l phase call) (reader_part s l)
  facts-at l phase call x is about = known s made t lawful l phase call is.at about

  abbrev rw : LockId → Bool
  rw l = has_readers (kind_of (thread_part s t) l)

  abbrev held : LockId → Bool
  held l = (hold_of (thread_part s t) l).owns

  -- a writer on its way finds the bias off, and nobody in
  unbiased-finds : (l : LockId) (phase : Phase) (call : Call) (x : Event) → IsMade s t l phase call x e → called_lock call ≡ Some l → (seen_in s made t lawful l phase call).closing ≡ true
      → (seen_in s made t lawful l phase call).inside ≡ true → ((reader_part s l).bias ≡ false) × ((reader_part s l).writer ≡ false)
  unbiased-finds l phase call x is about closing inside =
      let facts = facts-at l phase call x is about in
      let has = or_right (held l) (seen_in s made t lawful l phase call).inside inside in (
        facts.bias has ∙ ap (λ (b : Bool). not (b || rw l && held l && not (seen_in s made t lawful l phase call).inside)) closing,
        facts.writer has ∙ (ap (λ (b : Bool). rw l && held l && not b) inside ∙ out (rw l) (held l)),
      )

  -- one that is in finds the bias off, and the write flag set
  written-finds : (l : LockId) (call : Call) (x : Event) → IsMade s t l phases.Start call x e → called_lock call ≡ Some l → (IsForKind (thread_part s t).kinds call → HasReadersAt (thread_part s t).kinds l.0) → held l ≡ true
      → ((reader_part s l).bias ≡ false) × ((reader_part s l).writer ≡ true)
  written-finds l call x is about fit owns =
      let facts = facts-at l phases.Start call x is about in
      let has = or_left (held l) false owns in
      let in_it : (rw l && held l && true) ≡ true = is_writing_by (rw l) (held l) (reader_kind s made t lawful l (fit (fits s made t lawful call is.at.calling))) owns in
      (facts.bias has ∙ ap not in_it, facts.writer has ∙ in_it)

  never : nat_eq 0 1 ≡ true → ⊥
  never is = cc

  by_readers : (l : LockId) → IsReading s t l e → Fine e
  by_readers l (is_read is unheld can) = of_made l _ _ _ is (can, fewer s made t l _ _ lawful is.at refl)
  by_readers l (is_tryread is set) = of_made l _ _ _ is (open_to (reader_part s l).writer ((facts-at l _ _ _ is refl).nobody set), fewer s made t l _ _ lawful is.at refl)
  by_readers l (is_let_in is) =
      of_made l _ _ _ is (open_to (reader_part s l).writer ((facts-at l _ _ _ is refl).writer (or_right (held l) true refl) ∙ out (rw l) (held l)), fewer s made t l _ _ lawful is.at refl)
  by_readers l (is_shut is unheld cannot) = of_made l _ _ _ is tt
  by_readers l (is_tryshut is off) = of_made l _ _ _ is tt
  by_readers l (is_out is holds) =
      let one : 0 < (hold_of (thread_part s t) l).reads = grind (arith, nat_tests) in
      of_made l _ _ _ is (omega (arith, one, (facts-at l _ _ _ is refl).most))
  by_readers l (is_wwake is) = of_made l _ _ _ is tt
  by_readers l (is_unbias call writes is) = of_made l _ _ _ is ((facts-at l _ _ _ is (writes-called call l writes)).bias (or_right (held l) true refl) ∙ ap not (out (rw l) (held l)))
  by_readers l (is_in call writes is can) = let finds = unbiased-finds l _ _ _ is (writes-called call l writes) refl refl in of_made l _ _ _ is (finds.0, finds.1, can)
  by_readers l (is_in_late is runs can) = let finds = unbiased-finds l _ _ _ is refl refl refl in of_made l _ _ _ is (finds.0, finds.1, can)
  by_readers l (is_sleep is cannot) = of_made l _ _ _ is tt
  by_readers l (is_sleep_again is runs cannot) = of_made l _ _ _ is tt
  by_readers l (is_given_up is cannot) = of_made l _ _ _ is ((unbiased-finds l _ _ _ is refl refl refl).0, λ one. absurd (never one))
  by_readers l (is_opened is owns) = of_made l _ _ _ is ((written-finds l _ _ is refl (λ fit. fit) owns).0, λ one. absurd (never one))
  by_readers l (is_downgraded is owns) = let finds = written-finds l _ _ is refl (λ fit. fit) owns in of_made l _ _ _ is (finds.0, λ one. (finds.1, fewer s made t l _ _ lawful is.at refl))

  by_kind : IsNext s t e → Fine e
  by_kind (by_own call answer is) = subst Fine (sym is.event) tt
  by_kind (by_acquire l (is_fast is)) = subst Fine (sym is.event) tt
  by_kind (by_acquire l (is_mark is)) = subst Fine (sym is.event) tt
  by_kind (by_acquire l (is_take is)) = subst Fine (sym is.event) tt
  by_kind (by_acquire l (is_busy is)) = subst Fine (sym is.event) tt
  by_kind (by_wait l (is_wait is)) = subst Fine (sym is.event) tt
  by_kind (by_wait l (is_again is)) = subst Fine (sym is.event) tt
  by_kind (by_wait l (is_leave is)) = subst Fine (sym is.event) tt
  by_kind (by_release l (is_free is)) = subst Fine (sym is.event) tt
  by_kind (by_release l (is_give is)) = subst Fine (sym is.event) tt
  by_kind (by_reading l is) = by_readers l is
  by_kind (by_walk route u (is_walk l key is)) = subst Fine (sym is.event) tt
  by_kind (by_walk route u (is_walkend is)) = subst Fine (sym is.event) tt
  by_kind (by_confirm l path (is_restart link is)) = subst Fine (sym is.event) tt
  by_kind (by_confirm l path (is_cycle is)) = subst Fine (sym is.event) tt
  by_kind (by_wakeup (is_state state is)) = subst Fine (sym is.event) tt
  by_kind (by_wakeup (is_sched is)) = subst Fine (sym is.event) tt
  by_kind (by_wakeup (is_wake u is)) = subst Fine (sym is.event) tt
  by_kind (by_wakeup (is_signal u is)) = subst Fine (sym is.event) tt
  by_kind (by_setprio u prio is) = subst Fine (sym is.event) tt

-- each next event finds what its step asks
pub reader-step : (s : State) (made : ℕ) (t : TaskId) (e : Event) → IsLawful s made → IsNext s t e → IfSome (touched e.kind e).readers (λ l. CanStep e.kind e.value (reader_part s l))
reader-step s made t e lawful next = by_kind s made t e lawful next
