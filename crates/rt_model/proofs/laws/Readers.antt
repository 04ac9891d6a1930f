-- A next event keeps the readers law.
use Rattle.std.proofs.Common.{◌≡◌, ℕ, ◌+◌, ◌<◌, ◌≤◌, Bool, true, false, cond, not, ◌&&◌, ◌||◌, List, [], length, refl, sym, ap, ◌∙◌, subst, arith, Option, Some, None, unwrap_or}
use Rattle.std.specs.Prelude.{slice_get, slice_set, nat_eq, nat_lt, option_map}
use Rattle.std.proofs.lemmas.Bool.{or_left, or_right}
use Rattle.std.proofs.lemmas.Bool.Decides.{nat_tests}
use Rattle.rt_base.specs.declared.call.Call.{Call}
use Rattle.rt_base.specs.declared.call.Call.TheVariants as calls
use Rattle.rt_base.specs.declared.id.LockId.{LockId}
use Rattle.rt_base.specs.declared.id.TaskId.{TaskId}
use Rattle.rt_base.specs.declared.kind.Kind.{Kind}
use Rattle.rt_base.specs.declared.kind.Kind.TheVariants as locks
use Rattle.rt_base.specs.declared.reply.Reply.{Reply}
use Rattle.rt_base.specs.declared.reply.Reply.TheVariants as replies
use Rattle.rt_model.specs.declared.event.Event.{Event}
use Rattle.rt_model.specs.declared.hold.Hold.{Hold}
use Rattle.rt_model.specs.declared.phase.Phase.{Phase}
use Rattle.rt_model.specs.declared.phase.Phase.TheVariants as phases
use Rattle.rt_model.specs.declared.phase.Route.{Route}
use Rattle.rt_model.specs.declared.phase.Route.TheVariants.{Full, Short}
use Rattle.rt_model.specs.declared.reader_cell.ReaderCell.{ReaderCell}
use Rattle.rt_model.specs.Parts.{TaskPart, ThreadPart, call_of, hold_of, kind_of, has_readers}
use Rattle.rt_model.specs.Choice.{called_lock, present_lock, is_on}
use Rattle.rt_model.specs.State.{State, shared, no_readers, no_thread, owner_part, reader_part, task_part, thread_part}
use Rattle.rt_model.specs.CallKinds.{IsForKind, HasReadersAt, IsPhaseOf}
use Rattle.rt_model.specs.Effect.{around}
use Rattle.rt_model.specs.Rules.{touched}
use Rattle.rt_model.specs.StateAfter.{effect_in, shared_after, thread_after, state_after}
use Rattle.rt_model.specs.steps.Chain.{followed, goes_on}
use Rattle.rt_model.specs.steps.Readers.{with_reader, without_reader, wakes_writer, unbiased, with_writer, without_writer}
use Rattle.rt_model.specs.steps.Task.{with_own, wake_answer, signal_answer}
use Rattle.rt_model.specs.steps.Thread.{phase_after_got, got_answer, released_answer, phase_after_busy, with_hold, with_read, holds_after, answered_with}
use Rattle.rt_model.specs.events.Readers.{phase_after_rin, rin_event, rout_event, wopen_event}
use Rattle.rt_model.specs.events.Wait.{phase_after_wait}
use Rattle.rt_model.specs.laws.Lawful.{IsLawful}
use Rattle.rt_model.specs.laws.Owners.{owned_by, has_inner, has_owner_part, gives_back, OwnersLaw}
use Rattle.rt_model.specs.laws.Readers.{is_unbiased, is_closing, is_writing, of_owner, going, readers_by, all_readers, ReadersLaw}
use Rattle.rt_model.proofs.ReaderCounts.{count-most}
use Rattle.rt_model.proofs.Counts.{sum-update, sum-part}
use Rattle.rt_model.proofs.Numbers.{number_itself, other_number, at_each_task, at_each_lock, one_owner, owner-is}
use Rattle.rt_model.proofs.Looks.{Look, look, look_of, plain_look, writing, off, has_part, is_plain, plain-phase, plain-elsewhere, Facts, Turn, Flags, as_were, its_own, Quiet, quiet-turn, plain-quiet, got-quiet, released-quiet, woken-quiet, slept-quiet, read-turn, let_in-turn, out-turn, last-turn, unbias-turn, open-turn, written-turn}
use Rattle.rt_model.proofs.Calling.{at_call, served_call, IsIn, Returns, ReturnsBy, from_hold, from_inside, tries-holds, releases-holds, ends-holds, Writes, writes_by, writes-holds, writes-called, call-within}
use Rattle.rt_model.proofs.Inside.{present-at, inside-gives, unowned-unheld}
use Rattle.rt_model.proofs.events.Acquire.{is_fast, is_mark, is_take, is_busy, IsAcquiring, fast-acquiring, take-acquiring, asks-phased, fast-phased, take-phased, acquiring-holds}
use Rattle.rt_model.proofs.events.Release.{is_free, is_give}
use Rattle.rt_model.proofs.events.Wait.{is_wait, is_again, is_leave}
use Rattle.rt_model.proofs.events.Walk.{is_walk, is_walkend, is_restart, is_cycle}
use Rattle.rt_model.proofs.events.Wakeups.{is_state, is_sched, is_wake, is_signal}
use Rattle.rt_model.proofs.NextEvents.{IsNext, by_own, by_acquire, by_wait, by_release, by_reading, by_walk, by_confirm, by_wakeup, by_setprio, task-IsNext}
use Rattle.rt_model.proofs.laws.Migration.{call-fits, its_answer}
use Rattle.rt_model.proofs.laws.Owners.{own-answers, refused_holds, holds_at, short_holds, OwnersLaw-next}
use Rattle.rt_model.proofs.Queues.{unowned-can_take}
use Rattle.rt_model.proofs.Leaves.{IsLeft, by_leave, by_cycle, left_answer, left_kind, left_phase, left_made, left-is, left-asks, left-there, left-fits, left-thread, leave-left, cycle-left}
use Rattle.rt_model.proofs.Links.{walked_thread, link-thread, end-thread, setprio-thread}
use Rattle.rt_model.proofs.Routes.{walk-fits, setprio-fits, SameSort, SameSort-itself, SameSort-followed, walked-holds}
use Rattle.rt_model.proofs.Waiters.{walk-phase}
use Rattle.rt_model.proofs.events.Readers.{IsMade, IsReading, is_read, is_tryread, is_let_in, is_shut, is_tryshut, is_out, is_wwake, is_unbias, is_in, is_sleep, is_given_up, is_in_late, is_sleep_again, is_opened, is_downgraded}
use Rattle.rt_model.proofs.PartsAfter.{read-update, read-set_same, read-set_other, readers-made, readers-kept, changes_readers, thread-phase, thread-own, thread-other, thread-made}
use Rattle.rt_model.proofs.Within.{holds_room, readers_room}

-- ---- what a lawful state says of a look

module _ (s : State) (made : ℕ) (lawful : IsLawful s made) (t : TaskId) (l : LockId) where
  -- who has the owner part is the owner
  its : has_owner_part (thread_part s t) l ≡ true → (owner_part s l).owner ≡ Some t
  its has = owner-is (owner_part s l).owner t (sym (lawful.owners.owned l t) ∙ has)

  -- with the bias set nobody writes
  not_off : (closing writing : Bool) → not (closing || writing) ≡ true → writing ≡ false
  not_off true writing is = cc
  not_off false true is = cc
  not_off false false is = refl

  nobody_writes : (o : Option TaskId) → not (of_owner (λ thread. is_closing thread l || is_writing thread l) s o) ≡ true → of_owner (λ thread. is_writing thread l) s o ≡ false
  nobody_writes None is = refl
  nobody_writes (Some u) is = not_off (is_closing (thread_part s u) l) (is_writing (thread_part s u) l) is

  pub facts : Facts (look (thread_part s t) l) (reader_part s l)
  facts = record {
    bias = λ has. lawful.readers.bias l ∙ ap (λ (o : Option TaskId). not (of_owner (λ thread. is_closing thread l || is_writing thread l) s o)) (its has);
    writer = λ has. lawful.readers.writer l ∙ ap (of_owner (λ thread. is_writing thread l) s) (its has);
    nobody = λ set. lawful.readers.writer l ∙ nobody_writes (owner_part s l).owner (sym (lawful.readers.bias l) ∙ set);
    alone = lawful.readers.alone l;
    most = subst (λ (n : ℕ). readers_by (thread_part s t) l ≤ n) (sym (lawful.readers.count l)) (sum-part (λ (thread : ThreadPart). readers_by thread l) s.threads t.0 no_thread refl);
    gone = lawful.readers.gone l t;
    few = lawful.readers.few l t;
  }

-- ---- something that a thread has only with a lock's owner part, and its owner

as_much : (a b : Bool) → (a ≡ true → b ≡ true) → (b ≡ true → a ≡ true) → a ≡ b
as_much true b to from = sym (to refl)
as_much false true to from = from refl
as_much false false to from = refl

module _ (l : LockId) (test : ThreadPart → Bool) (needs : (thread : ThreadPart) → test thread ≡ true → has_owner_part thread l ≡ true) where
  holder : (s : State) (u : TaskId) → OwnersLaw s → test (thread_part s u) ≡ true → of_owner test s (owner_part s l).owner ≡ true
  holder s u owners is = ap (of_owner test s) (owner-is (owner_part s l).owner u (sym (owners.owned l u) ∙ needs (thread_part s u) is)) ∙ is

  held_by : (s : State) (o : Option TaskId) → of_owner test s o ≡ true → (u : TaskId) × (test (thread_part s u) ≡ true)
  held_by s None is = cc
  held_by s (Some u) is = (u, is)

  module _ (s left : State) (t : TaskId) (before : OwnersLaw s) (after : OwnersLaw left) (others : (u : TaskId) → nat_eq t.0 u.0 ≡ false → thread_part left u ≡ thread_part s u) where
    -- where the event's own thread has it as before, so has the owner
    same-owner : test (thread_part left t) ≡ test (thread_part s t) → of_owner test left (owner_part left l).owner ≡ of_owner test s (owner_part s l).owner
    same-owner same =
        as_much (of_owner test left (owner_part left l).owner) (of_owner test s (owner_part s l).owner)
        (λ is. let some = held_by left (owner_part left l).owner is in holder s some.0 before (sym (all some.0) ∙ some.1))
        (λ is. let some = held_by s (owner_part s l).owner is in holder left some.0 after (all some.0 ∙ some.1))
      where
        all : (u : TaskId) → test (thread_part left u) ≡ test (thread_part s u)
        all u = at_each_task (λ v. test (thread_part left v) ≡ test (thread_part s v)) t u same (λ ne. ap test (others u ne))

    -- where it has the owner part, the owner has what it has
    own-owner : has_owner_part (thread_part s t) l ≡ true → of_owner test left (owner_part left l).owner ≡ test (thread_part left t)
    own-owner has =
        as_much (of_owner test left (owner_part left l).owner) (test (thread_part left t))
        (λ is. let some = held_by left (owner_part left l).owner is in at_each_task (λ v. test (thread_part left v) ≡ true → test (thread_part left t) ≡ true) t some.0 (λ own. own) (other some.0) some.1)
        (holder left t after)
      where
        other : (u : TaskId) → nat_eq t.0 u.0 ≡ false → test (thread_part left u) ≡ true → test (thread_part left t) ≡ true
        other u ne is =
            let owned : owned_by (owner_part s l).owner u ≡ true = sym (before.owned l u) ∙ needs (thread_part s u) (sym (ap test (others u ne)) ∙ is) in
            let unowned : owned_by (owner_part s l).owner u ≡ false = one_owner (owner_part s l).owner t u (sym (before.owned l t) ∙ has) ne in
            let never : true ≡ false = sym owned ∙ unowned in absurd cc

-- ---- answers

-- no thread has more answers than calls
abbrev Within : State → Type 0
Within s = (t : TaskId) → (thread_part s t).answered ≤ length (thread_part s t).calls

replied : (thread : ThreadPart) (reply : Option Reply) → thread.answered < length thread.calls → (answered_with thread reply).answered ≤ length (answered_with thread reply).calls
replied thread None lt = omega (arith, lt)
replied thread (Some answer) lt = omega (arith, lt)

-- a next event answers a call that is there
Within-next : (s : State) (made : ℕ) (t : TaskId) (e : Event) → IsLawful s made → IsNext s t e → Within (state_after s e)
Within-next s made t e lawful next u =
    let at = its_answer s t made e lawful next in
    let moved = thread-phase e.kind e thread (around (shared s) (touched e.kind e)) (around (shared_after (shared s) thread e) (touched e.kind e)) thread in
    let calling : call_of thread ≡ Some at.call = subst (λ (v : TaskId). call_of (thread_part s v) ≡ Some at.call) (sym (task-IsNext s t e next)) at.calling in
    thread-made (λ v left. left.answered ≤ length left.calls) s e e u refl (at_call s e.task at.call calling).1
    (subst (λ (left : ThreadPart). (answered_with left e.reply).answered ≤ length (answered_with left e.reply).calls) (sym moved) (replied _ e.reply (call-within thread at.call calling))) (λ other. lawful.readers.within u)
  where
    thread : ThreadPart
    thread = thread_part s e.task

-- ---- the law after an event that turns its own thread and its lock so

in_part : (rw owns inside : Bool) → (rw && owns && not inside) ≡ true → (owns || inside) ≡ true
in_part true true inside is = refl
in_part true false inside is = cc
in_part false owns inside is = cc

writing-part : (l : LockId) (thread : ThreadPart) → is_writing thread l ≡ true → has_owner_part thread l ≡ true
writing-part l thread = in_part (has_readers (kind_of thread l)) (hold_of thread l).owns (look thread l).inside

off_part : (closing inside rw owns : Bool) → (closing ≡ true → inside ≡ true) → (closing || (rw && owns && not inside)) ≡ true → (owns || inside) ≡ true
off_part true true rw true within is = refl
off_part true true rw false within is = refl
off_part true false rw owns within is = let never : false ≡ true = within refl in absurd cc
off_part false inside rw owns within is = in_part rw owns inside is

closing_inside : (phase : Phase) (on : Bool) → (is_unbiased phase && on) ≡ true → (has_inner phase && on) ≡ true
closing_inside phases.WTry on is = is
closing_inside phases.WWait on is = is
closing_inside _ on is = cc

off-part : (l : LockId) (thread : ThreadPart) → (is_closing thread l || is_writing thread l) ≡ true → has_owner_part thread l ≡ true
off-part l thread = off_part (look thread l).closing (look thread l).inside (has_readers (kind_of thread l)) (hold_of thread l).owns (closing_inside thread.phase (is_on (present_lock thread) l))

module _ (s : State) (made : ℕ) (t : TaskId) (e : Event) (lawful : IsLawful s made) (owners : OwnersLaw (state_after s e)) (within : Within (state_after s e)) (own : e.task ≡ t) (there : t.0 < length s.threads) where
  others : (u : TaskId) → nat_eq t.0 u.0 ≡ false → thread_part (state_after s e) u ≡ thread_part s u
  others u ne = thread-other s e u (ap (λ (v : TaskId). nat_eq v.0 u.0) own ∙ ne)

  -- what its own thread is as a reader changes the number of all
  counted : (m : LockId) → all_readers (state_after s e).threads m + readers_by (thread_part s t) m ≡ all_readers s.threads m + readers_by (thread_part (state_after s e) t) m
  counted m =
      subst (λ (v : TaskId). v.0 < length s.threads → all_readers (state_after s e).threads m + readers_by (thread_part s v) m ≡ all_readers s.threads m + readers_by (thread_part (state_after s e) v) m) own
      (λ lt. sum-update (λ (thread : ThreadPart). readers_by thread m) s.threads e.task.0 (λ old. thread_after (shared s) (thread_part s e.task) e) no_thread lt
      ∙ ap (λ (thread : ThreadPart). all_readers s.threads m + readers_by thread m) (sym (thread-own s e e refl lt))) there

  turned : ((m : LockId) → Facts (look (thread_part s t) m) (reader_part s m) → Turn (look (thread_part s t) m) (look (thread_part (state_after s e) t) m) (reader_part s m) (reader_part (state_after s e) m)) → ReadersLaw (state_after s e)
  turned turns = record {
    bias = λ m. bias_left m (turn m).flags;
    writer = λ m. writer_left m (turn m).flags;
    alone = λ m. (turn m).alone;
    count = count_left;
    gone = λ m u. at_each_task (λ v. going (thread_part (state_after s e) v) m ≤ (hold_of (thread_part (state_after s e) v) m).reads) t u (turn m).gone
        (λ ne. subst (λ (thread : ThreadPart). going thread m ≤ (hold_of thread m).reads) (sym (others u ne)) (lawful.readers.gone m u));
    few = few_left;
    within = within;
    most = λ m. count-most (state_after s e) m (count_left m) (few_left m) within;
  }
    where
      turn : (m : LockId) → Turn (look (thread_part s t) m) (look (thread_part (state_after s e) t) m) (reader_part s m) (reader_part (state_after s e) m)
      turn m = turns m (facts s made lawful t m)

      count_left : (m : LockId) → (reader_part (state_after s e) m).count ≡ all_readers (state_after s e).threads m
      count_left m = omega (arith, (turn m).count, counted m, lawful.readers.count m)

      few_left : (m : LockId) (u : TaskId) → (hold_of (thread_part (state_after s e) u) m).reads ≤ (thread_part (state_after s e) u).answered
      few_left m u = at_each_task (λ v. (hold_of (thread_part (state_after s e) v) m).reads ≤ (thread_part (state_after s e) v).answered) t u (turn m).few
          (λ ne. subst (λ (thread : ThreadPart). (hold_of thread m).reads ≤ thread.answered) (sym (others u ne)) (lawful.readers.few m u))

      Turned : LockId → Type 0
      Turned m = Flags (look (thread_part s t) m) (look (thread_part (state_after s e) t) m) (reader_part s m) (reader_part (state_after s e) m)

      bias_left : (m : LockId) → Turned m → (reader_part (state_after s e) m).bias ≡ not (of_owner (λ thread. is_closing thread m || is_writing thread m) (state_after s e) (owner_part (state_after s e) m).owner)
      bias_left m (as_were closed writes bias writer) =
          bias ∙ (lawful.readers.bias m ∙ ap not (sym (same-owner m (λ thread. is_closing thread m || is_writing thread m) (off-part m) s (state_after s e) t lawful.owners owners others closed)))
      bias_left m (its_own has bias writer) = bias ∙ ap not (sym (own-owner m (λ thread. is_closing thread m || is_writing thread m) (off-part m) s (state_after s e) t lawful.owners owners others has))

      writer_left : (m : LockId) → Turned m → (reader_part (state_after s e) m).writer ≡ of_owner (λ thread. is_writing thread m) (state_after s e) (owner_part (state_after s e) m).owner
      writer_left m (as_were closed writes bias writer) = writer ∙ (lawful.readers.writer m ∙ sym (same-owner m (λ thread. is_writing thread m) (writing-part m) s (state_after s e) t lawful.owners owners others writes))
      writer_left m (its_own has bias writer) = writer ∙ sym (own-owner m (λ thread. is_writing thread m) (writing-part m) s (state_after s e) t lawful.owners owners others has)

-- ---- what an answer leaves of the holds

-- this is held of the lock, and of every other what was
record Holding (thread : ThreadPart) (l : LockId) (hold : Hold) (holds : List Hold) : Type 0 where
  here : unwrap_or (slice_get holds l.0) (record { owns = false; reads = 0 }) ≡ hold
  there : (m : LockId) → nat_eq l.0 m.0 ≡ false → unwrap_or (slice_get holds m.0) (record { owns = false; reads = 0 }) ≡ hold_of thread m

-- ---- what a thread is at a lock

-- of another kind it may be held or not
other-quiet : (rw owns : Bool) (hold : Hold) (answered : ℕ) → rw ≡ false → hold.reads ≤ answered → Quiet (plain_look rw hold answered) (plain_look rw (record hold { owns = owns }) (answered + 1))
other-quiet true owns hold answered is few = cc
other-quiet false owns hold answered is few = plain-quiet false hold (record hold { owns = owns }) answered (answered + 1) refl refl few (omega arith)

module _ (s : State) (made : ℕ) (t : TaskId) (lawful : IsLawful s made) where
  abbrev pub th : ThreadPart
  th = thread_part s t

  -- what it is at a lock with no call on its way, with this hold of it after an answer, and in this phase of a call on it
  abbrev pub plain_at : LockId → Look
  plain_at l = plain_look (has_readers (kind_of th l)) (hold_of th l) th.answered

  abbrev pub after_at : LockId → Hold → Look
  after_at l hold = plain_look (has_readers (kind_of th l)) hold (th.answered + 1)

  abbrev pub seen_in : LockId → Phase → Call → Look
  seen_in l phase call = look_of phase (Some call) true (has_readers (kind_of th l)) (hold_of th l) th.answered

  module _ (l : LockId) (phase : Phase) (call : Call) (at : IsIn s t phase call) (about : called_lock call ≡ Some l) where
    on : is_on (present_lock th) l ≡ true
    on = ap (λ (lock : Option LockId). is_on lock l) (present-at s t phase call (Some l) at about) ∙ number_itself l.0

    off_others : (m : LockId) → nat_eq l.0 m.0 ≡ false → is_on (present_lock th) m ≡ false
    off_others m ne = ap (λ (lock : Option LockId). is_on lock m) (present-at s t phase call (Some l) at about) ∙ ne

    -- what it is there, in any phase
    seen : (p : Phase) → look (record th { phase = p }) l ≡ seen_in l p call
    seen p = λ i. look_of p (at.calling i) (on i) (has_readers (kind_of th l)) (hold_of th l) th.answered

    -- and at every other lock
    elsewhere : (p : Phase) (m : LockId) → nat_eq l.0 m.0 ≡ false → look (record th { phase = p }) m ≡ plain_at m
    elsewhere p m ne = ap (λ (b : Bool). look_of p (call_of th) b (has_readers (kind_of th m)) (hold_of th m) th.answered) (off_others m ne) ∙ plain-elsewhere p (call_of th) (has_readers (kind_of th m)) (hold_of th m) th.answered

    was : look th l ≡ seen_in l phase call
    was = seen th.phase ∙ ap (λ (p : Phase). seen_in l p call) at.phased

    -- what the state says of that
    pub known : Facts (seen_in l phase call) (reader_part s l)
    known = subst (λ (b : Look). Facts b (reader_part s l)) was (facts s made lawful t l)

  -- by its call the lock is of a reader/writer kind, or of another
  other_kind : (l : LockId) (k : Kind) → slice_get th.kinds l.0 ≡ Some k → has_readers k ≡ false → has_readers (kind_of th l) ≡ false
  other_kind l k is none = ap (λ (o : Option Kind). has_readers (unwrap_or o locks.Mutex)) is ∙ none

  pub reader_kind : (l : LockId) → HasReadersAt th.kinds l.0 → has_readers (kind_of th l) ≡ true
  reader_kind l is = of_kind (slice_get th.kinds l.0) is
    where
      of_kind : (o : Option Kind) → option_map has_readers o ≡ Some true → has_readers (unwrap_or o locks.Mutex) ≡ true
      of_kind None is = cc
      of_kind (Some k) is = let same : has_readers k ≡ true = cc in same

  pub fits : (call : Call) → call_of th ≡ Some call → IsForKind th.kinds call
  fits call calling = call-fits s t call lawful.calls calling

  -- ---- events that change a lock's reader part at most

  module _ (e : Event) (owners : OwnersLaw (state_after s e)) (within : Within (state_after s e)) where
    -- an event x that leaves its thread so
    record IsEvent (x : Event) (left : ThreadPart) : Type 0 where
      is : e ≡ x
      own : x.task ≡ t
      there : t.0 < length s.threads
      thread : thread_after (shared s) (thread_part s x.task) x ≡ left

    own-thread : (x : Event) (left : ThreadPart) → IsEvent x left → thread_part (state_after s e) t ≡ left
    own-thread x left event =
        subst (λ (v : TaskId). v.0 < length s.threads → thread_part (state_after s e) v ≡ thread_after (shared s) (thread_part s x.task) x) event.own (thread-own s e x event.is) event.there ∙ event.thread

    abbrev Turns : LockId → ThreadPart → Type 0
    Turns m left = Facts (look th m) (reader_part s m) → Turn (look th m) (look left m) (reader_part s m) (reader_part (state_after s e) m)

    turned-so : (x : Event) (left : ThreadPart) → IsEvent x left → ((m : LockId) → Turns m left) → ReadersLaw (state_after s e)
    turned-so x left event turns =
        turned s made t e lawful owners within (ap (λ (y : Event). y.task) event.is ∙ event.own) event.there (λ m. subst (Turns m) (sym (own-thread x left event)) (turns m))

    -- the reader part of the lock is left so, and every other as it was
    record Cells (l : LockId) (left : ReaderCell) : Type 0 where
      here : reader_part (state_after s e) l ≡ left
      others : (m : LockId) → nat_eq l.0 m.0 ≡ false → reader_part (state_after s e) m ≡ reader_part s m

    kept : (l : LockId) (x : Event) → e ≡ x → changes_readers x.kind ≡ false → Cells l (reader_part s l)
    kept l x is keeps = record { here = readers-kept s e x l is keeps; others = λ m ne. readers-kept s e x m is keeps }

    changed : (l : LockId) (x : Event) → e ≡ x → (touched x.kind x).readers ≡ Some l → l.0 < length s.locks → Cells l ((effect_in (shared s) (thread_part s x.task) x).readers (reader_part s l))
    changed l x is named lt = record {
      here = readers-made (λ m cell. nat_eq m.0 l.0 ≡ true → cell ≡ f (reader_part s l)) s e x l l is named room (λ same. refl) (λ ne. absurd (other_number l.0 l.0 ne refl)) (number_itself l.0);
      others = λ m ne. readers-made (λ k cell. nat_eq l.0 k.0 ≡ false → cell ≡ reader_part s k) s e x l m is named room (λ itself. absurd (other_number l.0 l.0 itself refl)) (λ also apart. refl) ne;
    }
      where
        f : ReaderCell → ReaderCell
        f = (effect_in (shared s) (thread_part s x.task) x).readers

        room : l.0 < length s.readers
        room = readers_room s l lawful.shape lt

    -- ---- a thread with no call on its way, before and after, and the same holds

    record Keeps (left : ThreadPart) : Type 0 where
      before : is_plain th.phase ≡ true
      after : is_plain left.phase ≡ true
      kinds : left.kinds ≡ th.kinds
      holds : left.holds ≡ th.holds
      more : th.answered ≤ left.answered

    plainly : (x : Event) (left : ThreadPart) → IsEvent x left → changes_readers x.kind ≡ false → Keeps left → ReadersLaw (state_after s e)
    plainly x left event keeps plain = turned-so x left event turns
      where
        turns : (m : LockId) → Turns m left
        turns m known = subst (Turn (look th m) (look left m) (reader_part s m)) (sym (kept m x event.is keeps).here) (quiet-turn (look th m) (look left m) (reader_part s m) known still)
          where
            rw : Bool
            rw = has_readers (kind_of th m)

            was : look th m ≡ plain_at m
            was = plain-phase th.phase (call_of th) (is_on (present_lock th) m) rw (hold_of th m) th.answered plain.before

            is : look left m ≡ plain_look rw (hold_of th m) left.answered
            is = (λ i. look_of left.phase (call_of left) (is_on (present_lock left) m) (has_readers (unwrap_or (slice_get (plain.kinds i) m.0) locks.Mutex)) (unwrap_or (slice_get (plain.holds i) m.0) (record { owns = false; reads = 0 })) left.answered)
                ∙ plain-phase left.phase (call_of left) (is_on (present_lock left) m) rw (hold_of th m) left.answered plain.after

            still : Quiet (look th m) (look left m)
            still = subst (λ (b : Look). Quiet b (look left m)) (sym was) (subst (Quiet (plain_at m)) (sym is) (plain-quiet rw (hold_of th m) (hold_of th m) th.answered left.answered refl refl known.few plain.more))

    -- ---- a thread whose call is on a lock

    module _ (l : LockId) (phase : Phase) (call : Call) (at : IsIn s t phase call) (about : called_lock call ≡ Some l) where
      turns-at : (x : Event) (left : ThreadPart) (cell : ReaderCell) → IsEvent x left → Cells l cell
          → (Facts (seen_in l phase call) (reader_part s l) → Turn (seen_in l phase call) (look left l) (reader_part s l) cell)
          → ((m : LockId) → nat_eq l.0 m.0 ≡ false → (hold_of th m).reads ≤ th.answered → Quiet (plain_at m) (look left m)) → ReadersLaw (state_after s e)
      turns-at x left cell event cells here there = turned-so x left event (λ m. at_each_lock (λ k. Turns k left) l m at_l (at_other m))
        where
          at_l : Turns l left
          at_l known =
              subst (Turn (look th l) (look left l) (reader_part s l)) (sym cells.here)
              (subst (λ (b : Look). Facts b (reader_part s l) → Turn b (look left l) (reader_part s l) cell) (sym (was l phase call at about)) here known)

          at_other : (m : LockId) → nat_eq l.0 m.0 ≡ false → Turns m left
          at_other m ne known =
              subst (Turn (look th m) (look left m) (reader_part s m)) (sym (cells.others m ne))
              (quiet-turn (look th m) (look left m) (reader_part s m) known (subst (λ (b : Look). Quiet b (look left m)) (sym (elsewhere l phase call at about th.phase m ne)) (there m ne known.few)))

      -- it goes on in another phase
      goes : (x : Event) (onward : Phase) (cell : ReaderCell) → IsEvent x (record th { phase = onward }) → Cells l cell
          → (Facts (seen_in l phase call) (reader_part s l)
          → Turn (seen_in l phase call) (seen_in l onward call) (reader_part s l) cell) → ReadersLaw (state_after s e)
      goes x onward cell event cells here =
          turns-at x (record th { phase = onward }) cell event cells
          (λ known. subst (λ (a : Look). Turn (seen_in l phase call) a (reader_part s l) cell) (sym (seen l phase call at about onward)) (here known))
          (λ m ne few. subst (Quiet (plain_at m)) (sym (elsewhere l phase call at about onward m ne)) (plain-quiet (has_readers (kind_of th m)) (hold_of th m) (hold_of th m) th.answered th.answered refl refl few (omega arith)))

      -- or is answered, and holds the lock so
      ends : (x : Event) (p : Phase) (answer : Reply) (hold : Hold) (cell : ReaderCell) → IsEvent x (answered_with (record th { phase = p }) (Some answer)) → Holding th l hold (holds_after (record th { phase = p }) (Some call) answer) → Cells l cell
          → (Facts (seen_in l phase call) (reader_part s l)
          → Turn (seen_in l phase call) (after_at l hold) (reader_part s l) cell) → ReadersLaw (state_after s e)
      ends x p answer hold cell event holding cells here =
          turns-at x left cell event cells
          (λ known. subst (λ (h : Hold). Turn (seen_in l phase call) (after_at l h) (reader_part s l) cell) (sym (held l ∙ holding.here)) (here known))
          (λ m ne few. subst (λ (h : Hold). Quiet (plain_at m) (after_at m h)) (sym (held m ∙ holding.there m ne))
          (plain-quiet (has_readers (kind_of th m)) (hold_of th m) (hold_of th m) th.answered (th.answered + 1) refl refl few (omega arith)))
        where
          left : ThreadPart
          left = answered_with (record th { phase = p }) (Some answer)

          held : (m : LockId) → hold_of left m ≡ unwrap_or (slice_get (holds_after (record th { phase = p }) (Some call) answer) m.0) (record { owns = false; reads = 0 })
          held m = ap (λ (c : Option Call). unwrap_or (slice_get (holds_after (record th { phase = p }) c answer) m.0) (record { owns = false; reads = 0 })) at.calling

      -- what an answer writes of its hold, or leaves
      written : l.0 < length s.locks → (hold : Hold) → Holding th l hold (slice_set th.holds l.0 hold)
      written lt hold = record {
        here = read-set_same th.holds l.0 hold (record { owns = false; reads = 0 }) (holds_room s t l lawful.shape at.task lt);
        there = λ m ne. read-set_other th.holds l.0 m.0 hold (record { owns = false; reads = 0 }) ne;
      }

      as_held : Holding th l (hold_of th l) th.holds
      as_held = record { here = refl; there = λ m ne. refl }

      -- where the lock's reader part stays, too
      ends-quiet : (x : Event) (p : Phase) (answer : Reply) (hold : Hold) → IsEvent x (answered_with (record th { phase = p }) (Some answer)) → Holding th l hold (holds_after (record th { phase = p }) (Some call) answer)
          → changes_readers x.kind ≡ false
          → ((hold_of th l).reads ≤ th.answered → Quiet (seen_in l phase call) (after_at l hold)) → ReadersLaw (state_after s e)
      ends-quiet x p answer hold event holding keeps quiet =
          ends x p answer hold (reader_part s l) event holding (kept l x event.is keeps)
          (λ known. quiet-turn (seen_in l phase call) (after_at l hold) (reader_part s l) known (quiet known.few))

      goes-quiet : (x : Event) (onward : Phase) → IsEvent x (record th { phase = onward }) → changes_readers x.kind ≡ false
          → ((hold_of th l).reads ≤ th.answered → Quiet (seen_in l phase call) (seen_in l onward call)) → ReadersLaw (state_after s e)
      goes-quiet x onward event keeps quiet =
          goes x onward (reader_part s l) event (kept l x event.is keeps)
          (λ known. quiet-turn (seen_in l phase call) (seen_in l onward call) (reader_part s l) known (quiet known.few))

    -- ---- an acquire

    -- a task that gets an owner part that nobody has
    acquires : (x : Event) (l : LockId) → e ≡ x → x.task ≡ t → t.0 < length s.threads → l.0 < length s.locks → changes_readers x.kind ≡ false → (owner_part s l).owner ≡ None → IsAcquiring s t l → is_plain th.phase ≡ true
        → thread_after (shared s) (thread_part s x.task) x ≡ answered_with (record th { phase = phase_after_got (call_of th) th.phase }) (got_answer (call_of th)) → ReadersLaw (state_after s e)
    acquires x l is own there lt keeps none acquiring plain left =
        acquiring-holds Acquires acquiring.call l acquiring.acquires
        (got (calls.Lock l) locks.Mutex refl (λ fit. fit) refl (λ so. so) refl) (got (calls.LockInt l) locks.Mutex refl (λ fit. fit) refl (λ so. so) refl) (got (calls.Spin l) locks.Spin refl (λ fit. fit) refl (λ so. so) refl)
        (got (calls.Local l) locks.Local refl (λ fit. fit) refl (λ so. so) refl)
        (got (calls.TryLock l) locks.Mutex refl (λ fit. fit) refl (λ so. so) refl) (got (calls.TrySpin l) locks.Spin refl (λ fit. fit) refl (λ so. so) refl)
        (onward (calls.Read l) phases.ReadIn refl (λ so. so) inside) (onward (calls.Write l) phases.Unbias refl (λ so. so) inside) (onward (calls.TryWrite l) phases.Unbias refl (λ so. so) inside)
        acquiring.calling (subst Left acquiring.calling left)
      where
        Left : Option Call → Type 0
        Left c = thread_after (shared s) (thread_part s x.task) x ≡ answered_with (record th { phase = phase_after_got c th.phase }) (got_answer c)

        Acquires : Call → Type 0
        Acquires call = call_of th ≡ Some call → Left (Some call) → ReadersLaw (state_after s e)

        event : (left : ThreadPart) → thread_after (shared s) (thread_part s x.task) x ≡ left → IsEvent x left
        event left so = record { is = is; own = own; there = there; thread = so }

        at : (call : Call) → call_of th ≡ Some call → IsIn s t th.phase call
        at call calling = record { calling = calling; phased = refl; task = there; served = served_call s t call lawful.calls calling }

        rw : Bool
        rw = has_readers (kind_of th l)

        was : (call : Call) → seen_in l th.phase call ≡ plain_at l
        was call = plain-phase th.phase (Some call) true rw (hold_of th l) th.answered plain

        unheld : (hold_of th l).owns ≡ false
        unheld = unowned-unheld s t l lawful.owners none

        inside : (hold_of th l).reads ≤ th.answered → Quiet (plain_at l) (look_of phases.Unbias None true rw (hold_of th l) th.answered)
        inside = got-quiet rw (hold_of th l) th.answered unheld

        got : (call : Call) (k : Kind) → has_readers k ≡ false → (IsForKind th.kinds call → slice_get th.kinds l.0 ≡ Some k) → called_lock call ≡ Some l → (Left (Some call) → Left None)
            → holds_after th (Some call) replies.Got ≡ with_hold th l true → Acquires call
        got call k none fit about so holds calling left =
            ends-quiet l th.phase call (at call calling) about x th.phase replies.Got (record (hold_of th l) { owns = true }) (event _ (so left))
            (subst (Holding th l (record (hold_of th l) { owns = true })) (sym holds) (written l th.phase call (at call calling) about lt (record (hold_of th l) { owns = true }))) keeps
            (λ few. subst (λ (b : Look). Quiet b (after_at l (record (hold_of th l) { owns = true }))) (sym (was call)) (other-quiet rw true (hold_of th l) th.answered (other_kind l k (fit (fits call calling)) none) few))

        onward : (call : Call) (p : Phase) → called_lock call ≡ Some l → (Left (Some call) → thread_after (shared s) (thread_part s x.task) x ≡ record th { phase = p })
            → ((hold_of th l).reads ≤ th.answered → Quiet (plain_at l) (seen_in l p call)) → Acquires call
        onward call p about so quiet calling left =
            goes-quiet l th.phase call (at call calling) about x p (event _ (so left)) keeps
            (λ few. subst (λ (b : Look). Quiet b (seen_in l p call)) (sym (was call)) (quiet few))

    -- ---- a release

    -- a task releases a lock that it holds, or goes through an inner lock
    releases : (x : Event) (l : LockId) → e ≡ x → x.task ≡ t → changes_readers x.kind ≡ false → Returns s t l
        → thread_after (shared s) (thread_part s x.task) x ≡ answered_with th (Some (released_answer (call_of th))) → ReadersLaw (state_after s e)
    releases x l is own keeps at left = by_how at.by
      where
        rw : Bool
        rw = has_readers (kind_of th l)

        Left : Call → Type 0
        Left call = thread_after (shared s) (thread_part s x.task) x ≡ answered_with th (Some (released_answer (Some call)))

        so : Left at.call
        so = subst (λ (c : Option Call). thread_after (shared s) (thread_part s x.task) x ≡ answered_with th (Some (released_answer c))) at.calling left

        event : (left : ThreadPart) → thread_after (shared s) (thread_part s x.task) x ≡ left → IsEvent x left
        event left so = record { is = is; own = own; there = at.task; thread = so }

        given_up : (call : Call) (k : Kind) → has_readers k ≡ false → (IsForKind th.kinds call → slice_get th.kinds l.0 ≡ Some k) → called_lock call ≡ Some l → released_answer (Some call) ≡ replies.Done
            → holds_after th (Some call) replies.Done ≡ with_hold th l false → IsIn s t phases.Start call → Left call → ReadersLaw (state_after s e)
        given_up call k none fit about done holds here left =
            let hold : Hold = record (hold_of th l) { owns = false } in
            ends-quiet l phases.Start call here about x th.phase replies.Done hold (event _ (left ∙ ap (λ (a : Reply). answered_with th (Some a)) done)) (subst (Holding th l hold) (sym holds) (written l phases.Start call here about at.lock hold)) keeps
            (other-quiet rw false (hold_of th l) th.answered (other_kind l k (fit (fits call here.calling)) none))

        passed : (call : Call) (hold : Hold) (coming : ℕ) → called_lock call ≡ Some l → (l.0 < length s.locks → IsIn s t phases.Release call → Holding th l hold (holds_after th (Some call) (released_answer (Some call))))
            → (gives_back phases.Release (Some call) ≡ (hold_of th l).owns → hold.owns ≡ false) → hold.reads ≡ (hold_of th l).reads + coming → coming ≤ 1
            → (Quiet (record (plain_at l) { inside = true; coming = coming }) (after_at l hold) → Quiet (seen_in l phases.Release call) (after_at l hold))
            → IsIn s t phases.Release call → Left call → ReadersLaw (state_after s e)
        passed call hold coming about holding unheld reads one seen here left =
            ends-quiet l phases.Release call here about x th.phase (released_answer (Some call)) hold (event _ left) (holding at.lock here) keeps
            (λ few. seen (released-quiet rw (hold_of th l) th.answered coming hold (unheld (sym (inside-gives s t l lawful.owners phases.Release call here refl about))) reads (omega (arith, reads, one, few))))

        by_how : ReturnsBy s t l at.call → ReadersLaw (state_after s e)
        by_how (from_hold how here held) =
            releases-holds (λ c. IsIn s t phases.Start c → Left c → ReadersLaw (state_after s e)) at.call l how
            (given_up (calls.Unlock l) locks.Mutex refl (λ fit. fit) refl refl refl) (given_up (calls.Unspin l) locks.Spin refl (λ fit. fit) refl refl refl)
            (given_up (calls.Unlocal l) locks.Local refl (λ fit. fit) refl refl refl) here so
        by_how (from_inside how here) =
            ends-holds (λ c. IsIn s t phases.Release c → Left c → ReadersLaw (state_after s e)) at.call l how
            (passed (calls.Read l) (record (hold_of th l) { reads = (hold_of th l).reads + 1 }) 1 refl (λ lt here. written l phases.Release (calls.Read l) here refl lt _) (λ is. sym is) refl (omega arith) (λ quiet. quiet))
            (passed (calls.TryWrite l) (hold_of th l) 0 refl (λ lt here. as_held l phases.Release (calls.TryWrite l) here refl) (λ is. sym is) (omega arith) (omega arith) (λ quiet. quiet))
            (passed (calls.Unwrite l) (record (hold_of th l) { owns = false }) 0 refl (λ lt here. written l phases.Release (calls.Unwrite l) here refl lt _) (λ is. refl) (omega arith) (omega arith) (λ quiet. quiet))
            (passed (calls.Downgrade l) (record { owns = false; reads = (hold_of th l).reads + 1 }) 1 refl (λ lt here. written l phases.Release (calls.Downgrade l) here refl lt _) (λ is. refl) refl (omega arith) (λ quiet. quiet))
            here so

    -- ---- an event at the reader part

    made-event : (phase : Phase) (l : LockId) (call : Call) (x : Event) (left : ThreadPart) → IsMade s t l phase call x e → x.task ≡ t → thread_after (shared s) (thread_part s x.task) x ≡ left → IsEvent x left
    made-event phase l call x left is own so = record { is = is.event; own = own; there = is.at.task; thread = so }

    -- a reader leaves, and is answered, or goes on to wake the writer
    leaves : (l : LockId) → IsMade s t l phases.Start (calls.Unread l) (rout_event t l (reader_part s l)) e → nat_lt 0 (hold_of th l).reads ≡ true → ReadersLaw (state_after s e)
    leaves l is held = by_test (wakes_writer (without_reader (reader_part s l))) refl
      where
        x : Event
        x = rout_event t l (reader_part s l)

        room : l.0 < length s.readers
        room = readers_room s l lawful.shape is.lock

        one : 1 ≤ (hold_of th l).reads
        one = grind (arith, nat_tests)

        left : (b : Bool) → wakes_writer (without_reader (reader_part s l)) ≡ b → thread_after (shared s) th x ≡ answered_with (record th { phase = cond b phases.WakeWriter th.phase }) (cond b None (Some replies.Done))
        left b told =
            let same : reader_part (state_after s x) l ≡ without_reader (reader_part s l) = read-update s.readers l.0 without_reader no_readers room in
            λ i. answered_with (record th { phase = cond ((ap wakes_writer same ∙ told) i) phases.WakeWriter th.phase }) (cond (told i) None (Some replies.Done))

        by_test : (b : Bool) → wakes_writer (without_reader (reader_part s l)) ≡ b → ReadersLaw (state_after s e)
        by_test true told =
            goes l phases.Start (calls.Unread l) is.at refl x phases.WakeWriter (without_reader (reader_part s l)) (made-event _ l _ x _ is refl (left true told)) (changed l x is.event refl is.lock)
            (last-turn (has_readers (kind_of th l)) (hold_of th l) th.answered (reader_part s l) one)
        by_test false told =
            ends l phases.Start (calls.Unread l) is.at refl x th.phase replies.Done _ (without_reader (reader_part s l)) (made-event _ l _ x _ is refl (left false told))
            (written l phases.Start (calls.Unread l) is.at refl is.lock _) (changed l x is.event refl is.lock)
            (out-turn (has_readers (kind_of th l)) (hold_of th l) th.answered (reader_part s l) one)

    not_set : (b : Bool) → not b ≡ true → b ≡ false
    not_set true is = cc
    not_set false is = refl

    -- a reader gets in at its call's start
    comes : (l : LockId) (call : Call) → IsMade s t l phases.Start call (rin_event t l (Some replies.Got)) e → called_lock call ≡ Some l → holds_after th (Some call) replies.Got ≡ with_read th l
        → (Facts (plain_at l) (reader_part s l) → (reader_part s l).writer ≡ false) → ReadersLaw (state_after s e)
    comes l call is about holds none =
        let hold : Hold = record (hold_of th l) { reads = (hold_of th l).reads + 1 } in
        ends l phases.Start call is.at about _ (phase_after_rin th.phase) replies.Got hold (with_reader (reader_part s l)) (made-event _ l _ _ _ is refl refl)
        (subst (Holding th l hold) (sym holds) (written l phases.Start call is.at about is.lock hold)) (changed l _ is.event refl is.lock)
        (λ known. read-turn (has_readers (kind_of th l)) (hold_of th l) th.answered (reader_part s l) (none known) known)

    -- a writer gets in
    gets_in : (l : LockId) (phase : Phase) (call : Call) (x : Event) → Writes call l → IsMade s t l phase call x e → x.task ≡ t → thread_after (shared s) (thread_part s x.task) x ≡ answered_with th (Some replies.Got)
        → Cells l (with_writer (reader_part s l))
        → (Facts (seen_in l phase call) (reader_part s l) → has_readers (kind_of th l) ≡ true
        → Turn (seen_in l phase call) (after_at l (record (hold_of th l) { owns = true })) (reader_part s l) (with_writer (reader_part s l)))
        → ReadersLaw (state_after s e)
    gets_in l phase call x writes is own left cells turn =
        let about : called_lock call ≡ Some l = writes-called call l writes in
        let hold : Hold = record (hold_of th l) { owns = true } in
        let its : Holding th l hold (with_hold th l true) = written l phase call is.at about is.lock hold in
        ends l phase call is.at about x th.phase replies.Got hold (with_writer (reader_part s l)) (made-event _ l _ _ _ is own left)
        (writes-holds (λ c. Holding th l hold (holds_after th (Some c) replies.Got)) call l writes its its) cells
        (λ known. turn known (reader_kind l (writes-holds (λ c. IsForKind th.kinds c → HasReadersAt th.kinds l.0) call l writes (λ fit. fit) (λ fit. fit) (fits call is.at.calling))))

    -- a writer leaves, or gives up its way in, with so many readers more
    opens : (l : LockId) (phase : Phase) (call : Call) (value coming : ℕ) → IsMade s t l phase call (wopen_event t l value) e → called_lock call ≡ Some l → (seen_in l phases.Release call).coming ≡ coming
        → (without_writer (nat_eq value 1) (reader_part s l)).count ≡ (reader_part s l).count + coming → (without_writer (nat_eq value 1) (reader_part s l)).bias ≡ true → (without_writer (nat_eq value 1) (reader_part s l)).writer ≡ false
        → (seen_in l phase call).coming ≡ 0 → (seen_in l phase call).going ≡ 0 → has_part (seen_in l phase call) ≡ true → ReadersLaw (state_after s e)
    opens l phase call value coming is about more count bias writer none also owns =
        let rw : Bool = has_readers (kind_of th l) in
        let left : ReaderCell = without_writer (nat_eq value 1) (reader_part s l) in
        goes l phase call is.at about _ phases.Release left (made-event _ l _ _ _ is refl refl) (changed l _ is.event refl is.lock)
        (λ known. subst (λ (n : ℕ). Turn (seen_in l phase call) (record (plain_at l) { inside = true; coming = n }) (reader_part s l) left) (sym more)
        (open-turn rw (hold_of th l) th.answered (reader_part s l) (seen_in l phase call) coming left refl none also refl owns bias writer count known))

    reads : (l : LockId) → IsReading s t l e → ReadersLaw (state_after s e)
    reads l (is_read is unheld can) = comes l (calls.Read l) is refl refl (λ known. not_set (reader_part s l).writer can)
    reads l (is_tryread is set) = comes l (calls.TryRead l) is refl refl (λ known. known.nobody set)
    reads l (is_let_in is) =
        goes l phases.ReadIn (calls.Read l) is.at refl _ phases.Release (with_reader (reader_part s l)) (made-event _ l _ _ _ is refl (ap (λ (p : Phase). record th { phase = phase_after_rin p }) is.at.phased)) (changed l _ is.event refl is.lock)
        (let_in-turn (has_readers (kind_of th l)) (hold_of th l) th.answered (reader_part s l))
    reads l (is_shut is unheld cannot) =
        plainly _ (record th { phase = phases.Inner }) (made-event _ l _ _ _ is refl (ap (λ (c : Option Call). record th { phase = phase_after_busy c th.phase }) is.at.calling)) refl
        (record { before = ap is_plain is.at.phased; after = refl; kinds = refl; holds = refl; more = omega arith })
    reads l (is_tryshut is off) =
        plainly _ (answered_with (record th { phase = phase_after_busy (call_of th) th.phase }) (Some replies.Busy)) (made-event _ l _ _ _ is refl refl) refl
        (record { before = ap is_plain is.at.phased; after = refl; kinds = refl; holds = ap (λ (c : Option Call). holds_after (record th { phase = phase_after_busy (call_of th) th.phase }) c replies.Busy) is.at.calling; more = omega arith })
    reads l (is_out is held) = leaves l is held
    reads l (is_wwake is) =
        ends-quiet l phases.WakeWriter (calls.Unread l) is.at refl _ th.phase replies.Done _ (made-event _ l _ _ _ is refl refl) (written l phases.WakeWriter (calls.Unread l) is.at refl is.lock _) refl
        (woken-quiet (has_readers (kind_of th l)) (hold_of th l) th.answered)
    reads l (is_unbias call writes is) =
        goes l phases.Unbias call is.at (writes-called call l writes) _ phases.WTry (unbiased (reader_part s l)) (made-event _ l _ _ _ is refl refl) (changed l _ is.event refl is.lock)
        (unbias-turn (has_readers (kind_of th l)) (hold_of th l) th.answered (reader_part s l))
    reads l (is_in call writes is can) = gets_in l phases.WTry call _ writes is refl refl (changed l _ is.event refl is.lock) (λ known rw. written-turn (has_readers (kind_of th l)) (hold_of th l) th.answered (reader_part s l) rw can known)
    reads l (is_in_late is runs can) =
        gets_in l phases.WWait (calls.Write l) _ (writes_by refl) is refl refl (changed l _ is.event refl is.lock) (λ known rw. written-turn (has_readers (kind_of th l)) (hold_of th l) th.answered (reader_part s l) rw can known)
    reads l (is_sleep is cannot) =
        goes-quiet l phases.WTry (calls.Write l) is.at refl _ phases.WWait (made-event _ l _ _ _ is refl refl) refl (slept-quiet (has_readers (kind_of th l)) (hold_of th l) th.answered)
    reads l (is_sleep_again is runs cannot) =
        goes-quiet l phases.WWait (calls.Write l) is.at refl _ phases.WWait (made-event _ l _ _ _ is refl refl) refl (slept-quiet (has_readers (kind_of th l)) (hold_of th l) th.answered)
    reads l (is_given_up is cannot) = opens l phases.WTry (calls.TryWrite l) 0 0 is refl refl (omega arith) refl refl refl refl (or_right (hold_of th l).owns true refl)
    reads l (is_opened is held) = opens l phases.Start (calls.Unwrite l) 0 0 is refl refl (omega arith) refl refl refl refl (or_left (hold_of th l).owns false held)
    reads l (is_downgraded is held) = opens l phases.Start (calls.Downgrade l) 1 1 is refl refl refl refl refl refl refl (or_left (hold_of th l).owns false held)

    -- ---- all others

    moved-with : (p : Phase) (count : ℕ) → is_plain p ≡ true → is_plain th.phase ≡ true → Keeps (record th { phase = p; migration = count })
    moved-with p count after before = record { before = before; after = after; kinds = refl; holds = refl; more = omega arith }

    moved : (p : Phase) → is_plain p ≡ true → is_plain th.phase ≡ true → Keeps (record th { phase = p })
    moved p after before = moved-with p th.migration after before

    answered : (p : Phase) (answer : Reply) → holds_after (record th { phase = p }) (call_of th) answer ≡ th.holds → is_plain th.phase ≡ true → Keeps (answered_with (record th { phase = p }) (Some answer))
    answered p answer holds before = record { before = before; after = refl; kinds = refl; holds = holds; more = omega arith }

    plain-event : (x : Event) (left : ThreadPart) → e ≡ x → x.task ≡ t → t.0 < length s.threads → changes_readers x.kind ≡ false → thread_after (shared s) (thread_part s x.task) x ≡ left → Keeps left → ReadersLaw (state_after s e)
    plain-event x left is own there keeps so = plainly x left (record { is = is; own = own; there = there; thread = so }) keeps

    -- a walk, whose thread is left so
    walks : (x : Event) (u : TaskId) (route onward : Route) (owner : Option TaskId) (task : TaskPart) → e ≡ x → x.task ≡ t → t.0 < length s.threads → changes_readers x.kind ≡ false → is_plain th.phase ≡ true
        → thread_after (shared s) (thread_part s x.task) x ≡ walked_thread th route (goes_on t onward owner task) → SameSort route onward → IsPhaseOf (phases.Walk u route) (call_of th) → ReadersLaw (state_after s e)
    walks x u route onward owner task is own there keeps before so sort fit =
        plain-event x (walked_thread th route (goes_on t onward owner task)) is own there keeps so
        (walked-holds (λ r left. IsPhaseOf (phases.Walk u r) (call_of th) → Keeps left) th t route onward owner task sort
        (λ path f. moved phases.Wait refl before) (λ path rest f. moved (phases.Confirm rest) refl before) (λ path rest o f. moved (phases.Walk o (Full rest)) refl before)
        (λ answer f. answered phases.Wait answer (short_holds (record th { phase = phases.Wait }) u answer (call_of th) f) before) (λ answer o f. moved (phases.Walk o (Short answer)) refl before) fit)

    -- one that leaves a queue
    unqueues : (l : LockId) → IsLeft s t l e → ReadersLaw (state_after s e)
    unqueues l is =
        walks (left_made s t l e is) t (Short (left_answer is)) (Short (left_answer is)) (owner_part s l).owner _ (left-is s t l e is) refl (left-there s made t l e lawful is) (keeps is)
        (ap is_plain (left-asks s made t l e lawful is).at.phased ∙ plain is) (left-thread s made t l e lawful is) (SameSort-itself (Short (left_answer is))) (left-fits s made t l e lawful is t)
      where
        keeps : (i : IsLeft s t l e) → changes_readers (left_kind i) ≡ false
        keeps (by_leave i) = refl
        keeps (by_cycle path o m rest i round owned) = refl

        plain : (i : IsLeft s t l e) → is_plain (left_phase i) ≡ true
        plain (by_leave i) = refl
        plain (by_cycle path o m rest i round owned) = refl

    abbrev IsPlain : Phase → Type 0
    IsPlain phase = is_plain phase ≡ true

    waits-plain : (l : LockId) (owner : Option TaskId) (blocked : Bool) → is_plain (phase_after_wait t (Some l) owner blocked) ≡ true
    waits-plain l (Some o) true = refl
    waits-plain l (Some o) false = refl
    waits-plain l None blocked = refl

    -- a call that is answered by its first event, and holds nothing more or less by that
    called : (call : Call) (answer : Reply) (x : Event) → IsIn s t phases.Start call → e ≡ x → x.task ≡ t → changes_readers x.kind ≡ false → thread_after (shared s) (thread_part s x.task) x ≡ answered_with th (Some answer)
        → holds_after th (Some call) answer ≡ th.holds → ReadersLaw (state_after s e)
    called call answer x at is own keeps so holds =
        plain-event x _ is own at.task keeps so (answered th.phase answer (holds_at th call answer at.calling ∙ holds) (ap is_plain at.phased))

    by_kind : IsNext s t e → ReadersLaw (state_after s e)
    by_kind (by_own call answer is) =
        plain-event _ _ is.event refl is.at.task refl refl (answered th.phase answer (holds_at th call answer is.at.calling ∙ refused_holds th call answer (own-answers s t call answer e is)) (ap is_plain is.at.phased))
    by_kind (by_acquire l (is_fast is)) = acquires _ l is.event refl is.task is.lock refl is.owner (fast-acquiring s t l is.how) (fast-phased IsPlain s t l is.how refl refl) refl
    by_kind (by_acquire l (is_mark is)) = plain-event _ _ is.event refl is.task refl refl (moved-with phases.Slow _ refl (asks-phased IsPlain s t l is.how refl refl))
    by_kind (by_acquire l (is_take is)) =
        acquires _ l is.event refl is.task is.lock refl (unowned-can_take t (kind_of th l) (owner_part s l) (task_part s t) is.can) (take-acquiring s t l is.how) (take-phased IsPlain s t l is.how refl refl refl) refl
    by_kind (by_acquire l (is_busy is)) =
        let p : Phase = phase_after_busy (call_of th) th.phase in
        plain-event _ _ is.event refl is.at.at.task refl refl
        (answered p replies.Busy (holds_at (record th { phase = p }) is.at.call replies.Busy is.at.at.calling ∙ (tries-holds (λ c. holds_after th (Some c) replies.Busy ≡ th.holds) is.at.call l is.at.tries_for refl refl refl)) (ap is_plain is.at.at.phased))
    by_kind (by_wait l (is_wait is)) = plain-event _ _ is.event refl is.at.at.task refl refl (moved _ (waits-plain l (owner_part s l).owner _) (ap is_plain is.at.at.phased))
    by_kind (by_wait l (is_again is)) = plain-event _ _ is.event refl is.at.at.task refl refl (moved th.phase (ap is_plain is.at.at.phased) (ap is_plain is.at.at.phased))
    by_kind (by_wait l (is_leave is)) = unqueues l (leave-left s t l e is)
    by_kind (by_release l (is_free is)) = releases _ l is.event refl refl is.at refl
    by_kind (by_release l (is_give is)) = releases _ l is.event refl refl is.at refl
    by_kind (by_reading l is) = reads l is
    by_kind (by_walk route u (is_walk l key is)) =
        walks _ u route (followed u l route) (owner_part s l).owner _ is.event refl is.task refl (ap is_plain (walk-phase s t route u is.how)) (link-thread s made t route u l key e lawful is)
        (SameSort-followed u l route) (walk-fits s t route u lawful.phases is.how)
    by_kind (by_walk route u (is_walkend is)) =
        walks _ u route route None (task_part s u) is.event refl is.task refl (ap is_plain (walk-phase s t route u is.how)) (end-thread s t route u e is) (SameSort-itself route) (walk-fits s t route u lawful.phases is.how)
    by_kind (by_confirm l path (is_restart link is)) = plain-event _ _ is.event refl is.at.at.task refl refl (moved (phases.Walk t (Full [])) refl (ap is_plain is.at.at.phased))
    by_kind (by_confirm l path (is_cycle is)) = unqueues l (cycle-left s made t l path e lawful is)
    by_kind (by_wakeup (is_state state is)) = called (calls.State state) replies.Done _ is.at is.event refl refl refl refl
    by_kind (by_wakeup (is_sched is)) = called calls.Schedule replies.Done _ is.at is.event refl refl refl refl
    by_kind (by_wakeup (is_wake u is)) = called (calls.Wake u) (wake_answer (task_part s u)) _ is.at is.event refl refl refl refl
    by_kind (by_wakeup (is_signal u is)) = called (calls.Signal u) (signal_answer (task_part s u)) _ is.at is.event refl refl refl refl
    by_kind (by_setprio u prio is) =
        walks _ u (Short replies.Done) (Short replies.Done) (Some u) (with_own prio (task_part s u)) is.event refl is.at.task refl (ap is_plain is.at.phased) (setprio-thread s made t u prio e lawful is)
        (SameSort-itself (Short replies.Done)) (setprio-fits s t u prio is.at)

pub ReadersLaw-next : (s : State) (made : ℕ) (t : TaskId) (e : Event) → IsLawful s made → IsNext s t e → ReadersLaw (state_after s e)
ReadersLaw-next s made t e lawful next = by_kind s made t lawful e (OwnersLaw-next s made t e lawful next) (Within-next s made t e lawful next) next
