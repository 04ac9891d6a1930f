-- A next event keeps the owners law.
use Rattle.std.proofs.Common.{◌≡◌, ℕ, ◌+◌, ◌-◌, ◌<◌, Bool, true, false, cond, ◌&&◌, List, length, refl, sym, ap, ◌∙◌, subst, Option, Some, None, IfSome}
use Rattle.std.specs.Prelude.{nat_eq, nat_lt, slice_set, option_and_then}
use Rattle.std.proofs.lemmas.Bool.{and_right, or_right}
use Rattle.rt_base.specs.declared.call.Call.{Call}
use Rattle.rt_base.specs.declared.call.Call.TheVariants as calls
use Rattle.rt_base.specs.declared.id.LockId.{LockId}
use Rattle.rt_base.specs.declared.id.TaskId.{TaskId}
use Rattle.rt_base.specs.declared.kind.Kind.{Kind}
use Rattle.rt_base.specs.declared.reply.Reply.{Reply}
use Rattle.rt_base.specs.declared.reply.Reply.TheVariants as replies
use Rattle.rt_model.specs.declared.event.Event.{Event}
use Rattle.rt_model.specs.declared.event_kind.EventKind.{EventKind}
use Rattle.rt_model.specs.declared.event_kind.EventKind.TheVariants as kinds
use Rattle.rt_model.specs.declared.hold.Hold.{Hold}
use Rattle.rt_model.specs.declared.phase.Phase.{Phase}
use Rattle.rt_model.specs.declared.phase.Phase.TheVariants as phases
use Rattle.rt_model.specs.declared.phase.Route.{Route}
use Rattle.rt_model.specs.declared.phase.Route.TheVariants.{Short}
use Rattle.rt_model.specs.Parts.{TaskPart, ThreadPart, call_of, hold_of, kind_of}
use Rattle.rt_model.specs.State.{State, shared, owner_part, task_part, thread_part}
use Rattle.rt_model.specs.Choice.{called_lock, present_lock, is_on}
use Rattle.rt_model.specs.Rules.{touched}
use Rattle.rt_model.specs.events.Own.{unless_nested, if_held, if_not_held, private_answer, refusal_on, or_moved}
use Rattle.rt_model.specs.events.Readers.{phase_after_rin}
use Rattle.rt_model.specs.events.Wait.{phase_after_wait}
use Rattle.rt_model.specs.steps.Thread.{with_hold, holds_after, answered_with, phase_after_got, got_answer, phase_after_busy, released_answer}
use Rattle.rt_model.specs.StateAfter.{effect_in, thread_after, state_after}
use Rattle.rt_model.specs.CallKinds.{IsPhaseOf}
use Rattle.rt_model.specs.steps.Chain.{followed, goes_on}
use Rattle.rt_model.specs.steps.Task.{with_own, wake_answer, signal_answer}
use Rattle.rt_model.specs.laws.Owners.{OwnersLaw, owned_by, has_inner, is_passing, has_owner_part, gives_back}
use Rattle.rt_model.specs.laws.Lawful.{IsLawful}
use Rattle.rt_model.proofs.Leaves.{IsLeft, by_leave, by_cycle, left_answer, left_kind, left_phase, left_made, left-is, left-asks, left-there, left-fits, left-thread, leave-left, cycle-left}
use Rattle.rt_model.proofs.Links.{walked_thread, link-thread, end-thread, setprio-thread}
use Rattle.rt_model.proofs.NextEvents.{IsNext, by_own, by_acquire, by_wait, by_release, by_reading, by_walk, by_confirm, by_wakeup, by_setprio}
use Rattle.rt_model.proofs.Inside.{present-at, apart-owns, outside, outside-owns, inside-at, outside-owned, inside-owned, inside-gives, unowned-unheld, returns-owned}
use Rattle.rt_model.proofs.Owned.{changes_owner, owners-kept}
use Rattle.rt_model.proofs.Routes.{walk-fits, setprio-fits, SameSort, SameSort-itself, SameSort-followed, walked-holds}
use Rattle.rt_model.proofs.Calling.{IsIn, Tries, tries-holds, Returns, ReturnsBy, from_hold, from_inside, releases-holds, ends-holds, ends-called, returning-called, Writes, writes_by, writes-holds, writes-called}
use Rattle.rt_model.proofs.ToCome.{to_come-holds}
use Rattle.rt_model.proofs.Waiters.{walk-phase}
use Rattle.rt_model.proofs.events.Acquire.{is_fast, is_mark, is_take, is_busy, AsksBy, asks-phased, IsAcquiring, fast-acquiring, take-acquiring, acquiring-holds, acquiring-called}
use Rattle.rt_model.proofs.events.Own.{IsOwn, read-holds, write-holds}
use Rattle.rt_model.proofs.Reading.{reading-kind}
use Rattle.rt_model.proofs.events.Readers.{IsReading, IsMade, is_read, is_tryread, is_let_in, is_shut, is_tryshut, is_out, is_wwake, is_unbias, is_in, is_sleep, is_given_up, is_in_late, is_sleep_again, is_opened, is_downgraded, reading-in, reading-task}
use Rattle.rt_model.proofs.events.Walk.{is_walk, is_walkend, is_restart, is_cycle}
use Rattle.rt_model.proofs.events.Wait.{is_wait, is_again, is_leave}
use Rattle.rt_model.proofs.events.Release.{is_free, is_give}
use Rattle.rt_model.proofs.events.Wakeups.{is_state, is_sched, is_wake, is_signal}
use Rattle.rt_model.proofs.Numbers.{number_itself, at_each_lock, nobodys, one_owner}
use Rattle.rt_model.proofs.Queues.{unowned-can_take}
use Rattle.rt_model.proofs.Within.{holds_room}
use Rattle.rt_model.proofs.PartsAfter.{read-set_same, read-set_other, lock-made, thread-made}

-- an event of this kind is of a writer that has the inner lock
abbrev pub is_writers : EventKind → Bool
is_writers kinds.WTake = true
is_writers kinds.WOpen = true
is_writers _ = false

-- ---- answers that leave what a thread holds

-- all that a thread answers at once is a refusal
abbrev pub is_refusal : Reply → Bool
is_refusal replies.Deadlock = true
is_refusal replies.Nesting = true
is_refusal replies.NotOwner = true
is_refusal replies.Pinned = true
is_refusal _ = false

abbrev Refuses : Option Reply → Type 0
Refuses o = IfSome o (λ answer. is_refusal answer ≡ true)

held_refuses : (held : Bool) → Refuses (if_held held)
held_refuses true = refl
held_refuses false = tt

unheld_refuses : (held : Bool) → Refuses (if_not_held held)
unheld_refuses true = tt
unheld_refuses false = refl

nested_refuses : (nested : ℕ) (o : Option Reply) → Refuses o → Refuses (unless_nested nested o)
nested_refuses nested o refuses = by_test (nat_lt 0 nested)
  where
    by_test : (b : Bool) → Refuses (cond b (Some replies.Nesting) o)
    by_test true = refl
    by_test false = refuses

pinned_refuses : (pinned : Bool) → Refuses (cond pinned (Some replies.Pinned) None)
pinned_refuses true = refl
pinned_refuses false = tt

private-refuses : (call : Call) (kind : Option Kind) (nested : ℕ) (held : Bool) (migration : ℕ) → Refuses (private_answer call kind nested held migration)
private-refuses (calls.Lock l) kind nested held migration = nested_refuses nested (if_held held) (held_refuses held)
private-refuses (calls.LockInt l) kind nested held migration = nested_refuses nested (if_held held) (held_refuses held)
private-refuses (calls.Spin l) kind nested held migration = held_refuses held
private-refuses (calls.Local l) kind nested held migration = held_refuses held
private-refuses (calls.Read l) kind nested held migration = read-holds Refuses l kind nested held migration (nested_refuses nested (if_held held) (held_refuses held)) (held_refuses held)
private-refuses (calls.Write l) kind nested held migration = write-holds Refuses l kind nested held migration (nested_refuses nested (if_held held) (held_refuses held)) (held_refuses held)
private-refuses (calls.Unlock l) kind nested held migration = unheld_refuses held
private-refuses (calls.Unspin l) kind nested held migration = unheld_refuses held
private-refuses (calls.Unread l) kind nested held migration = unheld_refuses held
private-refuses (calls.Unwrite l) kind nested held migration = unheld_refuses held
private-refuses (calls.Downgrade l) kind nested held migration = unheld_refuses held
private-refuses (calls.Unlocal l) kind nested held migration = unheld_refuses held
private-refuses calls.Schedule kind nested held migration = nested_refuses nested None tt
private-refuses (calls.Move cpu) kind nested held migration = pinned_refuses (nat_lt 0 migration)
private-refuses _ kind nested held migration = tt

-- or a `move` is done
abbrev pub is_own : Call → Reply → Bool
is_own (calls.Move cpu) replies.Done = true
is_own call answer = is_refusal answer

refusal-own : (call : Call) (answer : Reply) → is_refusal answer ≡ true → is_own call answer ≡ true
refusal-own (calls.Move cpu) replies.Done refuses = refl
refusal-own _ _ refuses = refuses

moved-own : (call : Call) (refusal : Option Reply) → Refuses refusal → IfSome (or_moved call refusal) (λ answer. is_own call answer ≡ true)
moved-own (calls.Move cpu) None refuses = refl
moved-own (calls.Move cpu) (Some answer) refuses = refusal-own (calls.Move cpu) answer refuses
moved-own _ None refuses = tt
moved-own _ (Some answer) refuses = refuses

pub own-answers : (s : State) (t : TaskId) (call : Call) (answer : Reply) (e : Event) → IsOwn s t call answer e → is_own call answer ≡ true
own-answers s t call answer e is =
    subst (λ (o : Option Reply). IfSome o (λ answer. is_own call answer ≡ true)) is.why (moved-own call (refusal_on (thread_part s t) call (called_lock call)) (private-refuses call _ _ _ _))

-- which leaves what the thread holds
pub refused_holds : (thread : ThreadPart) (call : Call) (answer : Reply) → is_own call answer ≡ true → holds_after thread (Some call) answer ≡ thread.holds
refused_holds thread (calls.Lock l) replies.Got refuses = cc
refused_holds thread _ replies.Got refuses = cc
refused_holds thread (calls.Move cpu) replies.Done refuses = refl
refused_holds thread _ replies.Done refuses = cc
refused_holds thread _ _ refuses = refl

-- what the thread holds, as its call says
pub holds_at : (thread : ThreadPart) (call : Call) (answer : Reply) → call_of thread ≡ Some call → holds_after thread (call_of thread) answer ≡ holds_after thread (Some call) answer
holds_at thread call answer is = ap (λ (c : Option Call). holds_after thread c answer) is

-- nor does the answer of a short walk
pub short_holds : (thread : ThreadPart) (u : TaskId) (answer : Reply) (call : Option Call) → IsPhaseOf (phases.Walk u (Short answer)) call → holds_after thread call answer ≡ thread.holds
short_holds thread u answer (Some call) fits = to_come-holds (λ c a. holds_after thread (Some c) a ≡ thread.holds) call answer fits (λ l. refl) (λ l. refl) (λ l. refl) (λ l. refl) (λ l. refl) (λ l. refl) (λ l. refl) (λ v prio. refl)
short_holds thread u answer None fits = absurd fits

-- so a walk leaves what its thread holds
pub walk_holds : (thread : ThreadPart) (t u : TaskId) (route onward : Route) (owner : Option TaskId) (task : TaskPart) → SameSort route onward → IsPhaseOf (phases.Walk u route) (call_of thread)
    → (walked_thread thread route (goes_on t onward owner task)).holds ≡ thread.holds
walk_holds thread t u route onward owner task sort =
    walked-holds (λ r th. IsPhaseOf (phases.Walk u r) (call_of thread) → th.holds ≡ thread.holds) thread t route onward owner task sort
    (λ path fits. refl) (λ path rest fits. refl) (λ path rest o fits. refl) (λ answer. short_holds (record thread { phase = phases.Start }) u answer (call_of thread)) (λ answer o fits. refl)

-- ---- what a thread has

-- it has the owner part of this lock, or hasn't; and where it is on its way, it holds it, not for reading, where it gives it back
record Stands (thread : ThreadPart) (l : LockId) (owns : Bool) : Type 0 where
  owned : has_owner_part thread l ≡ owns
  inside : is_passing thread l ≡ true → (hold_of thread l).owns ≡ gives_back thread.phase (call_of thread)

-- where it isn't inside that, it has what it holds
apart : (thread : ThreadPart) (l : LockId) (owns : Bool) → is_passing thread l ≡ false → (hold_of thread l).owns ≡ owns → Stands thread l owns
apart thread l owns out is = record { owned = apart-owns thread l out ∙ is; inside = λ its. let no : false ≡ true = sym out ∙ its in absurd cc }

-- what an event of a call on lock l leaves of its thread: of l it has the owner part, or hasn't, and of every other lock where it held that
record Leaves (thread left : ThreadPart) (l : LockId) (owns : Bool) : Type 0 where
  here : Stands left l owns
  there : (m : LockId) → nat_eq l.0 m.0 ≡ false → Stands left m (hold_of thread m).owns

-- on its way it has the owner part of its lock
on_way : (thread : ThreadPart) (l : LockId) (phase : Phase) → has_inner phase ≡ true → present_lock thread ≡ Some l → (hold_of thread l).owns ≡ gives_back phase (call_of thread)
    → Leaves thread (record thread { phase = phase }) l true
on_way thread l phase has present owns =
    let left : ThreadPart = record thread { phase = phase } in
    record {
      here = record { owned = or_right (hold_of thread l).owns (is_passing left l) (inside-at left l l has present ∙ number_itself l.0); inside = λ its. owns };
      there = λ m ne. apart left m (hold_of thread m).owns (inside-at left l m has present ∙ ne) refl;
    }

-- answered, with this hold of its lock, it has what that says
answered : (thread left : ThreadPart) (l : LockId) (hold : Hold) → l.0 < length thread.holds → has_inner left.phase ≡ false → left.holds ≡ slice_set thread.holds l.0 hold → Leaves thread left l hold.owns
answered thread left l hold lt out is = record {
  here = apart left l hold.owns (outside left l out) (ap (read l) is ∙ ap (λ (h : Hold). h.owns) (read-set_same thread.holds l.0 hold (record { owns = false; reads = 0 }) lt));
  there = λ m ne. apart left m (hold_of thread m).owns (outside left m out) (ap (read m) is ∙ ap (λ (h : Hold). h.owns) (read-set_other thread.holds l.0 m.0 hold (record { owns = false; reads = 0 }) ne));
}
  where
    read : LockId → List Hold → Bool
    read m holds = (hold_of (record thread { holds = holds }) m).owns

-- with the holds that it had, too
unchanged : (thread left : ThreadPart) (l : LockId) → has_inner left.phase ≡ false → left.holds ≡ thread.holds → (owns : Bool) → (hold_of thread l).owns ≡ owns → Stands left l owns
unchanged thread left l out is owns held = apart left l owns (outside left l out) (ap (λ (holds : List Hold). (hold_of (record thread { holds = holds }) l).owns) is ∙ held)

same_holds : (thread left : ThreadPart) (l : LockId) → has_inner left.phase ≡ false → left.holds ≡ thread.holds → Leaves thread left l (hold_of thread l).owns
same_holds thread left l out is = record { here = unchanged thread left l out is (hold_of thread l).owns refl; there = λ m ne. unchanged thread left m out is (hold_of thread m).owns refl }

-- ---- who gets an owner part, and who releases one

-- the lock that a thread's call is about
about : (thread : ThreadPart) (call : Call) → call_of thread ≡ Some call → present_lock thread ≡ called_lock call
about thread call calling = ap (λ (c : Option Call). option_and_then called_lock c) calling

-- the thread of a call that has this answer, in some phase before
abbrev With : ThreadPart → Phase → Reply → ThreadPart
With thread phase answer = answered_with (record thread { phase = phase }) (Some answer)

-- what an acquire leaves of a thread at this call
abbrev Got : ThreadPart → Option Call → ThreadPart
Got thread call = answered_with (record thread { phase = phase_after_got call thread.phase }) (got_answer call)

module _ (s : State) (t : TaskId) (l : LockId) (room : l.0 < length (thread_part s t).holds) where
  abbrev thread : ThreadPart
  thread = thread_part s t

  -- an answer that writes this hold
  writes_hold : (phase : Phase) (call : Call) (answer : Reply) (hold : Hold) → holds_after (record thread { phase = phase }) (Some call) answer ≡ slice_set thread.holds l.0 hold → call_of thread ≡ Some call
      → Leaves thread (With thread phase answer) l hold.owns
  writes_hold phase call answer hold writes calling = answered thread (With thread phase answer) l hold room refl (holds_at (record thread { phase = phase }) call answer calling ∙ writes)

  -- got, by a call that then holds the lock, and not for reading
  got : (call : Call) → holds_after thread (Some call) replies.Got ≡ with_hold thread l true → call_of thread ≡ Some call → Leaves thread (With thread thread.phase replies.Got) l true
  got call = writes_hold thread.phase call replies.Got (record (hold_of thread l) { owns = true })

  -- a step to a phase in which it has the inner lock
  enters : (phase : Phase) (call : Call) → has_inner phase ≡ true → called_lock call ≡ Some l → (hold_of thread l).owns ≡ gives_back phase (Some call) → call_of thread ≡ Some call
      → Leaves thread (record thread { phase = phase }) l true
  enters phase call has lock owns calling = on_way thread l phase has (about thread call calling ∙ lock) (owns ∙ ap (gives_back phase) (sym calling))

  -- an acquire
  acquired : IsAcquiring s t l → (hold_of thread l).owns ≡ false → Leaves thread (Got thread (call_of thread)) l true
  acquired is unheld =
      subst (λ (c : Option Call). Leaves thread (Got thread c) l true) (sym is.calling)
      (acquiring-holds (λ c. call_of thread ≡ Some c → Leaves thread (Got thread (Some c)) l true) is.call l is.acquires
      (got (calls.Lock l) refl) (got (calls.LockInt l) refl) (got (calls.Spin l) refl) (got (calls.Local l) refl) (got (calls.TryLock l) refl) (got (calls.TrySpin l) refl)
      (enters phases.ReadIn (calls.Read l) refl refl unheld) (enters phases.Unbias (calls.Write l) refl refl unheld) (enters phases.Unbias (calls.TryWrite l) refl refl unheld) is.calling)

  -- a release
  released : OwnersLaw s → Returns s t l → Leaves thread (answered_with thread (Some (released_answer (call_of thread)))) l false
  released owners is = subst (λ (c : Option Call). Leaves thread (Freed c) l false) (sym is.calling) (by_how is.by)
    where
      Freed : Option Call → ThreadPart
      Freed c = answered_with thread (Some (released_answer c))

      done : (call : Call) → holds_after thread (Some call) replies.Done ≡ with_hold thread l false → call_of thread ≡ Some call → Leaves thread (With thread thread.phase replies.Done) l false
      done call = writes_hold thread.phase call replies.Done (record (hold_of thread l) { owns = false })

      by_how : ReturnsBy s t l is.call → Leaves thread (Freed (Some is.call)) l false
      by_how (from_hold releases at held) =
          releases-holds (λ c. call_of thread ≡ Some c → Leaves thread (Freed (Some c)) l false) is.call l releases (done (calls.Unlock l) refl) (done (calls.Unspin l) refl) (done (calls.Unlocal l) refl) is.calling
      by_how (from_inside ends at) =
          ends-holds (λ c. (hold_of thread l).owns ≡ gives_back phases.Release (Some c) → call_of thread ≡ Some c → Leaves thread (Freed (Some c)) l false) is.call l ends
          (λ owns calling. subst (Leaves thread (With thread thread.phase replies.Got) l) owns (writes_hold thread.phase (calls.Read l) replies.Got (record (hold_of thread l) { reads = (hold_of thread l).reads + 1 }) refl calling))
          (λ owns calling. subst (Leaves thread (With thread thread.phase replies.Busy) l) owns (same_holds thread (With thread thread.phase replies.Busy) l refl (holds_at thread (calls.TryWrite l) replies.Busy calling)))
          (λ owns. done (calls.Unwrite l) refl)
          (λ owns. writes_hold thread.phase (calls.Downgrade l) replies.Done (record { owns = false; reads = (hold_of thread l).reads + 1 }) refl)
          (inside-gives s t l owners phases.Release is.call at refl (ends-called is.call l ends)) is.calling

-- ---- readers and writers

-- an event at a reader part leaves its thread with the owner part of the lock, or without it, as it was; a writer has it
record Steps (s : State) (t : TaskId) (l : LockId) (e : Event) : Type 0 where
  owns : Bool
  was : owns ≡ owned_by (owner_part s l).owner t
  leaves : Leaves (thread_part s t) (thread_after (shared s) (thread_part s t) e) l owns
  writers : is_writers e.kind ≡ true → owns ≡ true

steps : (s : State) (made : ℕ) (t : TaskId) (l : LockId) (e : Event) → IsLawful s made → IsReading s t l e → Steps s t l e
steps s made t l e lawful reading = by_kind reading
  where
    thread : ThreadPart
    thread = thread_part s t

    room : l.0 < length thread.holds
    room = let at = reading-in s t l e reading in holds_room s t l lawful.shape at.at.task at.lock

    Left : Event → ThreadPart
    Left x = thread_after (shared s) thread x

    -- a reader that goes through no inner lock has what it holds
    stays : (phase : Phase) (call : Call) (x : Event) → IsMade s t l phase call x e → has_inner phase ≡ false → is_writers x.kind ≡ false → Leaves thread (Left x) l (hold_of thread l).owns → Steps s t l e
    stays phase call x is out reads leaves = record {
      owns = (hold_of thread l).owns;
      was = outside-owned s t l lawful.owners phase call is.at out;
      leaves = subst (λ (y : Event). Leaves thread (Left y) l (hold_of thread l).owns) (sym is.event) leaves;
      writers = λ its. let no : false ≡ true = sym reads ∙ (ap (λ (y : Event). is_writers y.kind) (sym is.event) ∙ its) in absurd cc;
    }

    stays_same : (phase : Phase) (call : Call) (x : Event) → IsMade s t l phase call x e → has_inner phase ≡ false → is_writers x.kind ≡ false → has_inner (Left x).phase ≡ false → (Left x).holds ≡ thread.holds → Steps s t l e
    stays_same phase call x is out reads still same = stays phase call x is out reads (same_holds thread (Left x) l still same)

    has : (phase : Phase) (call : Call) (x : Event) → IsMade s t l phase call x e → owned_by (owner_part s l).owner t ≡ true → Leaves thread (Left x) l true → Steps s t l e
    has phase call x is owned leaves = record { owns = true; was = sym owned; leaves = subst (λ (y : Event). Leaves thread (Left y) l true) (sym is.event) leaves; writers = λ its. refl }

    -- who is on its way goes on, or gets in
    goes : (phase onward : Phase) (call : Call) (x : Event) → IsMade s t l phase call x e → has_inner phase ≡ true → has_inner onward ≡ true → called_lock call ≡ Some l
        → gives_back phase (Some call) ≡ gives_back onward (Some call) → Left x ≡ record thread { phase = onward } → Steps s t l e
    goes phase onward call x is inner still lock gives left =
        has phase call x is (inside-owned s t l lawful.owners phase call is.at inner lock)
        (subst (λ (th : ThreadPart). Leaves thread th l true) (sym left) (enters s t l room onward call still lock (inside-gives s t l lawful.owners phase call is.at inner lock ∙ gives) is.at.calling))

    gets : (phase : Phase) (call : Call) (x : Event) → IsMade s t l phase call x e → has_inner phase ≡ true → Writes call l → Left x ≡ With thread thread.phase replies.Got → Steps s t l e
    gets phase call x is inner writes left =
        has phase call x is (inside-owned s t l lawful.owners phase call is.at inner (writes-called call l writes))
        (subst (λ (th : ThreadPart). Leaves thread th l true) (sym left)
        (writes-holds (λ c. call_of thread ≡ Some c → Leaves thread (With thread thread.phase replies.Got) l true) call l writes (got s t l room (calls.Write l) refl) (got s t l room (calls.TryWrite l) refl) is.at.calling))

    -- who leaves, or downgrades, is on its way out
    opens : (call : Call) (x : Event) → IsMade s t l phases.Start call x e → (hold_of thread l).owns ≡ true → called_lock call ≡ Some l → gives_back phases.Release (Some call) ≡ true
        → Left x ≡ record thread { phase = phases.Release } → Steps s t l e
    opens call x is held lock gives left =
        has phases.Start call x is (sym (outside-owned s t l lawful.owners phases.Start call is.at refl) ∙ held)
        (subst (λ (th : ThreadPart). Leaves thread th l true) (sym left) (enters s t l room phases.Release call refl lock (held ∙ sym gives) is.at.calling))

    -- one reader more, or less
    reads : (phase : Phase) (call : Call) (answer : Reply) (n : ℕ) → holds_after thread (Some call) answer ≡ slice_set thread.holds l.0 (record (hold_of thread l) { reads = n }) → call_of thread ≡ Some call
        → Leaves thread (With thread phase answer) l (hold_of thread l).owns
    reads phase call answer n = writes_hold s t l room phase call answer (record (hold_of thread l) { reads = n })

    -- the last reader is still to wake the writer
    out : (last told : Bool) → call_of thread ≡ Some (calls.Unread l) → thread.phase ≡ phases.Start
        → Leaves thread (answered_with (record thread { phase = cond last phases.WakeWriter thread.phase }) (cond told None (Some replies.Done))) l (hold_of thread l).owns
    out last false calling start = reads (cond last phases.WakeWriter thread.phase) (calls.Unread l) replies.Done ((hold_of thread l).reads - 1) refl calling
    out true true calling start = same_holds thread (record thread { phase = phases.WakeWriter }) l refl refl
    out false true calling start = same_holds thread thread l (ap has_inner start) refl

    by_kind : IsReading s t l e → Steps s t l e
    by_kind (is_read is unheld can) = stays _ _ _ is refl refl (reads (phase_after_rin thread.phase) (calls.Read l) replies.Got ((hold_of thread l).reads + 1) refl is.at.calling)
    by_kind (is_tryread is set) = stays _ _ _ is refl refl (reads (phase_after_rin thread.phase) (calls.TryRead l) replies.Got ((hold_of thread l).reads + 1) refl is.at.calling)
    by_kind (is_shut is unheld cannot) = stays_same _ _ _ is refl refl (ap (λ (c : Option Call). has_inner (phase_after_busy c thread.phase)) is.at.calling) refl
    by_kind (is_tryshut is off) = stays_same _ _ _ is refl refl refl (holds_at (record thread { phase = phase_after_busy (call_of thread) thread.phase }) (calls.TryRead l) replies.Busy is.at.calling)
    by_kind (is_out is held) = stays _ _ _ is refl refl (out _ _ is.at.calling is.at.phased)
    by_kind (is_wwake is) = stays _ _ _ is refl refl (reads thread.phase (calls.Unread l) replies.Done ((hold_of thread l).reads - 1) refl is.at.calling)
    by_kind (is_let_in is) = goes _ phases.Release _ _ is refl refl refl refl (ap (λ (p : Phase). record thread { phase = phase_after_rin p }) is.at.phased)
    by_kind (is_unbias call writes is) = goes _ phases.WTry _ _ is refl refl (writes-called call l writes) refl refl
    by_kind (is_sleep is cannot) = goes _ phases.WWait _ _ is refl refl refl refl refl
    by_kind (is_sleep_again is runs cannot) = goes _ phases.WWait _ _ is refl refl refl refl refl
    by_kind (is_given_up is cannot) = goes _ phases.Release _ _ is refl refl refl refl refl
    by_kind (is_in call writes is can) = gets _ _ _ is refl writes refl
    by_kind (is_in_late is runs can) = gets _ _ _ is refl (writes_by refl) refl
    by_kind (is_opened is held) = opens _ _ is held refl refl refl
    by_kind (is_downgraded is held) = opens _ _ is held refl refl refl

-- a writer owns the inner lock
pub writer-owned : (s : State) (made : ℕ) (t : TaskId) (l : LockId) (e : Event) → IsLawful s made → IsReading s t l e → is_writers e.kind ≡ true → owned_by (owner_part s l).owner t ≡ true
writer-owned s made t l e lawful reading its = let is = steps s made t l e lawful reading in sym is.was ∙ is.writers its

-- ---- the law

module _ (s : State) (made : ℕ) (e x : Event) (lawful : IsLawful s made) (is : e ≡ x) (there : x.task.0 < length s.threads) where
  abbrev before : ThreadPart
  before = thread_part s x.task

  abbrev left : ThreadPart
  left = thread_after (shared s) before x

  -- the event's thread stands with the owner after it, and of no other task it changes who it owns
  after_owners : ((m : LockId) → Stands left m (owned_by (owner_part (state_after s e) m).owner x.task))
      → ((m : LockId) (u : TaskId) → nat_eq x.task.0 u.0 ≡ false → owned_by (owner_part (state_after s e) m).owner u ≡ owned_by (owner_part s m).owner u) → OwnersLaw (state_after s e)
  after_owners own others = record { owned = λ m u. (each m u).owned; inside = λ m u. (each m u).inside }
    where
      each : (m : LockId) (u : TaskId) → Stands (thread_part (state_after s e) u) m (owned_by (owner_part (state_after s e) m).owner u)
      each m u =
          thread-made (λ v th. Stands th m (owned_by (owner_part (state_after s e) m).owner v)) s e x u is there (own m)
          (λ other. record { owned = lawful.owners.owned m u ∙ sym (others m u other); inside = lawful.owners.inside m u })

  -- no owner changes
  keeps : changes_owner x.kind ≡ false → ((m : LockId) → Stands left m (owned_by (owner_part s m).owner x.task)) → OwnersLaw (state_after s e)
  keeps kept own =
      let same = λ (m : LockId). owners-kept s e x m is kept in
      after_owners (λ m. subst (λ (o : Option TaskId). Stands left m (owned_by o x.task)) (sym (same m)) (own m)) (λ m u other. ap (λ (o : Option TaskId). owned_by o u) (same m))

  -- nor what a thread holds, that goes through no inner lock
  keeps_holds : has_inner before.phase ≡ false → has_inner left.phase ≡ false → left.holds ≡ before.holds → changes_owner x.kind ≡ false → OwnersLaw (state_after s e)
  keeps_holds was out holds kept = keeps kept (λ m. unchanged before left m out holds _ (sym (outside-owns before m was) ∙ lawful.owners.owned m x.task))

  -- a thread whose call is on lock l owns every other lock that it holds, and not for reading
  elsewhere : (l m : LockId) → present_lock before ≡ Some l → nat_eq l.0 m.0 ≡ false → (hold_of before m).owns ≡ owned_by (owner_part s m).owner x.task
  elsewhere l m present ne =
      sym (apart-owns before m (ap (λ (o : Option LockId). has_inner before.phase && is_on o m) present ∙ and_right (has_inner before.phase) (nat_eq l.0 m.0) ne)) ∙ lawful.owners.owned m x.task

  -- it has its lock's owner part as it had it
  keeps_owner : (l : LockId) (owns : Bool) → present_lock before ≡ Some l → owns ≡ owned_by (owner_part s l).owner x.task → Leaves before left l owns → changes_owner x.kind ≡ false → OwnersLaw (state_after s e)
  keeps_owner l owns present was leaves kept =
      keeps kept (λ m. at_each_lock (λ k. Stands left k (owned_by (owner_part s k).owner x.task)) l m (subst (Stands left l) was leaves.here) (λ ne. subst (Stands left m) (elsewhere l m present ne) (leaves.there m ne)))

  -- or the lock gets another owner, which only changes whether the event's task owns it
  changes_to : (l : LockId) (o : Option TaskId) → present_lock before ≡ Some l → l.0 < length s.locks → (touched x.kind x).lock ≡ Some l → ((effect_in (shared s) before x).lock (owner_part s l)).owner ≡ o
      → Leaves before left l (owned_by o x.task) → ((u : TaskId) → nat_eq x.task.0 u.0 ≡ false → owned_by o u ≡ owned_by (owner_part s l).owner u) → OwnersLaw (state_after s e)
  changes_to l o present lt named gives leaves others =
      after_owners
      (λ m. lock-made (λ k lock. Stands left k (owned_by lock.owner x.task)) s e x l m is named lt (subst (λ (p : Option TaskId). Stands left l (owned_by p x.task)) (sym gives) leaves.here)
      (λ ne. subst (Stands left m) (elsewhere l m present ne) (leaves.there m ne)))
      (λ m u other. lock-made (λ k lock. owned_by lock.owner u ≡ owned_by (owner_part s k).owner u) s e x l m is named lt (ap (λ (p : Option TaskId). owned_by p u) gives ∙ others u other) (λ ne. refl))

pub OwnersLaw-next : (s : State) (made : ℕ) (t : TaskId) (e : Event) → IsLawful s made → IsNext s t e → OwnersLaw (state_after s e)
OwnersLaw-next s made t e lawful next = by_kind next
  where
    thread : ThreadPart
    thread = thread_part s t

    -- in a phase in which it has no inner lock
    idle : (phase : Phase) (call : Call) → IsIn s t phase call → has_inner phase ≡ false → has_inner thread.phase ≡ false
    idle phase call at is = ap has_inner at.phased ∙ is

    left-keeps : (l : LockId) (is : IsLeft s t l e) → (changes_owner (left_kind is) ≡ false) × (has_inner (left_phase is) ≡ false)
    left-keeps l (by_leave is) = (refl, refl)
    left-keeps l (by_cycle path o m rest is round owned) = (refl, refl)

    -- a walk, whose thread is left so
    walked : (x : Event) (u : TaskId) (route onward : Route) (owner : Option TaskId) (task : TaskPart) → e ≡ x → x.task.0 < length s.threads → has_inner (thread_part s x.task).phase ≡ false
        → thread_after (shared s) (thread_part s x.task) x ≡ walked_thread (thread_part s x.task) route (goes_on t onward owner task) → SameSort route onward → IsPhaseOf (phases.Walk u route) (call_of (thread_part s x.task))
        → changes_owner x.kind ≡ false → OwnersLaw (state_after s e)
    walked x u route onward owner task is lt out left sort fits =
        keeps_holds s made e x lawful is lt out
        (ap (λ (th : ThreadPart). has_inner th.phase) left
        ∙ walked-holds (λ r th. has_inner th.phase ≡ false) (thread_part s x.task) t route onward owner task sort (λ path. refl) (λ path rest. refl) (λ path rest o. refl) (λ answer. refl) (λ answer o. refl))
        (ap (λ (th : ThreadPart). th.holds) left ∙ walk_holds (thread_part s x.task) t u route onward owner task sort fits)

    -- one that leaves a queue
    leaves : (l : LockId) → IsLeft s t l e → OwnersLaw (state_after s e)
    leaves l is =
        let asks = left-asks s made t l e lawful is in
        walked (left_made s t l e is) t (Short (left_answer is)) (Short (left_answer is)) (owner_part s l).owner _ (left-is s t l e is) (left-there s made t l e lawful is)
        (idle (left_phase is) asks.call asks.at (left-keeps l is).1) (left-thread s made t l e lawful is) (SameSort-itself (Short (left_answer is))) (left-fits s made t l e lawful is t) (left-keeps l is).0

    -- who asks for a lock is inside none
    asks-out : (l : LockId) → AsksBy s t l → has_inner thread.phase ≡ false
    asks-out l how = asks-phased (λ phase. has_inner phase ≡ false) s t l how refl refl

    waits-out : (l : LockId) (owner : Option TaskId) (blocked : Bool) → has_inner (phase_after_wait t (Some l) owner blocked) ≡ false
    waits-out l None blocked = refl
    waits-out l (Some o) true = refl
    waits-out l (Some o) false = refl

    -- who tries, and doesn't get the lock, holds what it held
    busy-holds : (l : LockId) → Tries s t l → holds_after thread (call_of thread) replies.Busy ≡ thread.holds
    busy-holds l at = holds_at thread at.call replies.Busy at.at.calling ∙ tries-holds (λ c. holds_after thread (Some c) replies.Busy ≡ thread.holds) at.call l at.tries_for refl refl refl

    -- one that gets a lock has its owner part, and nobody had it
    acquiring-about : (l : LockId) → IsAcquiring s t l → present_lock thread ≡ Some l
    acquiring-about l is = about thread is.call is.calling ∙ acquiring-called is.call l is.acquires

    gets : (l : LockId) → t.0 < length s.threads → l.0 < length s.locks → IsAcquiring s t l → (owner_part s l).owner ≡ None → Leaves thread (Got thread (call_of thread)) l (owned_by (Some t) t)
    gets l task lock is none =
        subst (Leaves thread (Got thread (call_of thread)) l) (sym (number_itself t.0)) (acquired s t l (holds_room s t l lawful.shape task lock) is (unowned-unheld s t l lawful.owners none))

    nobodys_before : (l : LockId) → (owner_part s l).owner ≡ None → (u : TaskId) → nat_eq t.0 u.0 ≡ false → nat_eq t.0 u.0 ≡ owned_by (owner_part s l).owner u
    nobodys_before l none u other = other ∙ sym (nobodys (owner_part s l).owner u none)

    -- one that releases it had that
    frees : (l : LockId) → Returns s t l → Leaves thread (answered_with thread (Some (released_answer (call_of thread)))) l false
    frees l at = released s t l (holds_room s t l lawful.shape at.task at.lock) lawful.owners at

    freed-about : (l : LockId) → Returns s t l → present_lock thread ≡ Some l
    freed-about l at = about thread at.call at.calling ∙ returning-called s t l at

    its_before : (l : LockId) → Returns s t l → (u : TaskId) → nat_eq t.0 u.0 ≡ false → false ≡ owned_by (owner_part s l).owner u
    its_before l at u other = sym (one_owner (owner_part s l).owner t u (returns-owned s t l lawful.owners at) other)

    by_kind : IsNext s t e → OwnersLaw (state_after s e)
    by_kind (by_own call answer is) = keeps_holds s made e _ lawful is.event is.at.task (idle _ _ is.at refl) refl (holds_at thread call answer is.at.calling ∙ refused_holds thread call answer (own-answers s t call answer e is)) refl
    by_kind (by_acquire l (is_mark is)) = keeps_holds s made e _ lawful is.event is.task (asks-out l is.how) refl refl refl
    by_kind (by_acquire l (is_busy is)) = keeps_holds s made e _ lawful is.event is.at.at.task (idle _ _ is.at.at refl) refl (busy-holds l is.at) refl
    by_kind (by_wait l (is_wait is)) = keeps_holds s made e _ lawful is.event is.at.at.task (idle _ _ is.at.at refl) (waits-out l (owner_part s l).owner _) refl refl
    by_kind (by_wait l (is_again is)) = keeps_holds s made e _ lawful is.event is.at.at.task (idle _ _ is.at.at refl) (idle _ _ is.at.at refl) refl refl
    by_kind (by_wait l (is_leave is)) = leaves l (leave-left s t l e is)
    by_kind (by_confirm l path (is_cycle is)) = leaves l (cycle-left s made t l path e lawful is)
    by_kind (by_confirm l path (is_restart link is)) = keeps_holds s made e _ lawful is.event is.at.at.task (idle _ _ is.at.at refl) refl refl refl
    by_kind (by_wakeup (is_state state is)) = keeps_holds s made e _ lawful is.event is.at.task (idle _ _ is.at refl) refl (holds_at thread (calls.State state) replies.Done is.at.calling) refl
    by_kind (by_wakeup (is_sched is)) = keeps_holds s made e _ lawful is.event is.at.task (idle _ _ is.at refl) refl (holds_at thread calls.Schedule replies.Done is.at.calling) refl
    by_kind (by_wakeup (is_wake u is)) = keeps_holds s made e _ lawful is.event is.at.task (idle _ _ is.at refl) refl (holds_at thread (calls.Wake u) (wake_answer (task_part s u)) is.at.calling) refl
    by_kind (by_wakeup (is_signal u is)) = keeps_holds s made e _ lawful is.event is.at.task (idle _ _ is.at refl) refl (holds_at thread (calls.Signal u) (signal_answer (task_part s u)) is.at.calling) refl
    by_kind (by_walk route u (is_walk l key is)) =
        walked _ u route (followed u l route) (owner_part s l).owner _ is.event is.task (ap has_inner (walk-phase s t route u is.how)) (link-thread s made t route u l key e lawful is) (SameSort-followed u l route)
        (walk-fits s t route u lawful.phases is.how) refl
    by_kind (by_walk route u (is_walkend is)) =
        walked _ u route route None (task_part s u) is.event is.task (ap has_inner (walk-phase s t route u is.how)) (end-thread s t route u e is) (SameSort-itself route) (walk-fits s t route u lawful.phases is.how) refl
    by_kind (by_setprio u prio is) =
        walked _ u (Short replies.Done) (Short replies.Done) (Some u) (with_own prio (task_part s u)) is.event is.at.task (idle _ _ is.at refl) (setprio-thread s made t u prio e lawful is)
        (SameSort-itself (Short replies.Done)) (setprio-fits s t u prio is.at) refl
    by_kind (by_reading l is) =
        let at = reading-in s t l e is in
        let same : t ≡ e.task = sym (reading-task s t l e is) in
        let step : Steps s e.task l e = subst (λ (v : TaskId). Steps s v l e) same (steps s made t l e lawful is) in
        keeps_owner s made e e lawful refl (subst (λ (v : TaskId). v.0 < length s.threads) same at.at.task) l step.owns
        (subst (λ (v : TaskId). present_lock (thread_part s v) ≡ Some l) same (present-at s t at.phase at.call (Some l) at.at at.about)) step.was step.leaves
        (reading-kind (λ kind. changes_owner kind ≡ false) s t l e is (record { rin = refl; busy = refl; rout = refl; wwake = refl; unbias = refl; wtake = refl; wsleep = refl; wopen = refl }))
    by_kind (by_acquire l (is_fast is)) =
        let how = fast-acquiring s t l is.how in
        changes_to s made e _ lawful is.event is.task l (Some t) (acquiring-about l how) is.lock refl refl (gets l is.task is.lock how is.owner) (nobodys_before l is.owner)
    by_kind (by_acquire l (is_take is)) =
        let how = take-acquiring s t l is.how in
        let none = unowned-can_take t (kind_of thread l) (owner_part s l) (task_part s t) is.can in
        changes_to s made e _ lawful is.event is.task l (Some t) (acquiring-about l how) is.lock refl refl (gets l is.task is.lock how none) (nobodys_before l none)
    by_kind (by_release l (is_free is)) = changes_to s made e _ lawful is.event is.at.task l None (freed-about l is.at) is.at.lock refl refl (frees l is.at) (its_before l is.at)
    by_kind (by_release l (is_give is)) = changes_to s made e _ lawful is.event is.at.task l None (freed-about l is.at) is.at.lock refl refl (frees l is.at) (its_before l is.at)
