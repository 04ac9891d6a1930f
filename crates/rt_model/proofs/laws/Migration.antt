-- A next event keeps the migration law.
use Rattle.std.proofs.Common.{◌≡◌, ◌⊎◌, inl, inr, ℕ, ◌+◌, ◌-◌, ◌<◌, ◌≤◌, Bool, true, false, cond, ◌&&◌, List, [], length, refl, sym, ap, ◌∙◌, subst, arith, Option, Some, None, All, IfSome, unwrap_or, ◌*◌, ◌∷◌}
use Rattle.std.specs.Prelude.{slice_get, slice_set, nat_lt, option_map}
use Rattle.std.proofs.lemmas.Bool.Decides.{nat_tests}
use Rattle.std.proofs.lemmas.List.Elements.{All-head, All-tail}
use Rattle.std.proofs.lemmas.Option.{slice_get_within}
use Rattle.rt_base.specs.declared.call.Call.{Call}
use Rattle.rt_base.specs.declared.call.Call.TheVariants as calls
use Rattle.rt_base.specs.declared.id.LockId.{LockId}
use Rattle.rt_base.specs.declared.id.TaskId.{TaskId}
use Rattle.rt_base.specs.declared.kind.Kind.{Kind}
use Rattle.rt_base.specs.declared.kind.Kind.TheVariants.{Mutex, Spin, RwLock, RwSem, Local}
use Rattle.rt_base.specs.declared.limits.TheConstants.{MAX_CALLS}
use Rattle.rt_base.specs.declared.reply.Reply.{Reply}
use Rattle.rt_base.specs.declared.reply.Reply.TheVariants as replies
use Rattle.rt_model.specs.declared.event.Event.{Event}
use Rattle.rt_model.specs.declared.event_kind.EventKind.{EventKind}
use Rattle.rt_model.specs.declared.event_kind.EventKind.TheVariants as kinds
use Rattle.rt_model.specs.declared.hold.Hold.{Hold}
use Rattle.rt_model.specs.declared.phase.Phase.{Phase}
use Rattle.rt_model.specs.declared.phase.Phase.TheVariants as phases
use Rattle.rt_model.specs.declared.phase.Route.{Route}
use Rattle.rt_model.specs.declared.phase.Route.TheVariants.{Full, Short}
use Rattle.rt_model.specs.Parts.{TaskPart, ThreadPart, call_of, hold_of, kind_of, has_readers, count_holds}
use Rattle.rt_model.specs.Choice.{present_lock, is_on, called_lock}
use Rattle.rt_model.specs.State.{State, shared, lock_at, task_at, owner_part, reader_part, task_part, thread_part}
use Rattle.rt_model.specs.Path.{first_lock, first_owner}
use Rattle.rt_model.specs.Rules.{touched, effect}
use Rattle.rt_model.specs.Effect.{Around, around}
use Rattle.rt_model.specs.steps.Readers.{wakes_writer, without_reader}
use Rattle.rt_model.specs.steps.Thread.{got_answer, released_answer, phase_after_got, phase_after_busy, with_hold, with_read, without_read, downgraded, holds_after, rwlock_pins, migration_after, is_start, migration_with, answered_with, pins_taken}
use Rattle.rt_model.specs.steps.Chain.{followed, goes_on, phase_of_walk, answer_of_walk}
use Rattle.rt_model.specs.events.Wait.{phase_after_wait, leave_event}
use Rattle.rt_model.specs.events.Walk.{phase_after_link, phase_after_end, walk_event, cycle_event}
use Rattle.rt_model.specs.events.Own.{if_held, own_answer}
use Rattle.rt_model.specs.StateAfter.{effect_in, shared_after, thread_after, state_after}
use Rattle.rt_model.specs.CallKinds.{HasReadersAt, IsForKind, OnEachCpu, CallsFit, IsToCome, IsPhaseOf, waits_to_read}
use Rattle.rt_model.specs.laws.Lawful.{IsLawful}
use Rattle.rt_model.specs.laws.Migration.{pins, pinned, pins_calling, MigrationLaw}
use Rattle.rt_model.specs.laws.Owners.{has_inner, gives_back, OwnersLaw}
use Rattle.rt_model.specs.laws.Readers.{has_gone, going}
use Rattle.rt_model.proofs.Lists.{All-at, All-default}
use Rattle.rt_model.proofs.Holds.{count-set, read-some}
use Rattle.rt_model.proofs.Calling.{at_call, at_each_cpu, IsIn, Asks, waits-holds, Tries, tries-holds, Returns, ReturnsBy, from_hold, from_inside, releases-holds, ends-holds, ends-called, Writes, writes_by, writes-holds, writes-called}
use Rattle.rt_model.proofs.Inside.{present-at, inside-gives, unowned-unheld}
use Rattle.rt_model.proofs.Numbers.{number_itself}
use Rattle.rt_model.proofs.NextEvents.{IsNext, by_own, by_acquire, by_wait, by_release, by_reading, by_walk, by_confirm, by_wakeup, by_setprio, task-IsNext}
use Rattle.rt_model.proofs.ToCome.{to_come-holds, answered-holds}
use Rattle.rt_model.proofs.events.Acquire.{AsksBy, from_start, from_reading, is_fast, is_mark, is_take, is_busy, asking, IsAcquiring, fast-acquiring, take-acquiring, acquiring-holds}
use Rattle.rt_model.proofs.events.Wait.{is_wait, is_again, is_leave}
use Rattle.rt_model.proofs.events.Release.{is_free, is_give}
use Rattle.rt_model.proofs.events.Readers.{IsReading, is_read, is_tryread, is_let_in, is_shut, is_tryshut, is_out, is_wwake, is_unbias, is_in, is_sleep, is_given_up, is_in_late, is_sleep_again, is_opened, is_downgraded}
use Rattle.rt_model.proofs.events.Walk.{WalksIn, by_full, by_short, is_walk, is_walkend, is_restart, is_cycle}
use Rattle.rt_model.proofs.events.Wakeups.{is_state, is_sched, is_wake, is_signal}
use Rattle.rt_model.proofs.PartsAfter.{thread-phase, thread-made}
use Rattle.rt_model.proofs.Queues.{unowned-can_take}
use Rattle.rt_model.proofs.Within.{HoldsFit}
use Rattle.rt_model.proofs.Routes.{goes_on-holds}
use Rattle.rt_model.proofs.Waiters.{walk-phase}
use Rattle.rt_model.proofs.laws.Owners.{is_own, own-answers}

-- ---- an answer

-- a lock of a spinning kind that a thread gets, or one that it gets for writing, it didn't hold so, and what it has released it held; so did
-- one that downgrades; a call for a local lock has one of two answers
abbrev pub Counted : ThreadPart → Call → Reply → Type 0
Counted thread (calls.Spin l) replies.Got = (hold_of thread l).owns ≡ false
Counted thread (calls.TrySpin l) replies.Got = (hold_of thread l).owns ≡ false
Counted thread (calls.Unspin l) replies.Done = (hold_of thread l).owns ≡ true
Counted thread (calls.Unread l) replies.Done = 0 < (hold_of thread l).reads
Counted thread (calls.Write l) replies.Got = (hold_of thread l).owns ≡ false
Counted thread (calls.TryWrite l) replies.Got = (hold_of thread l).owns ≡ false
Counted thread (calls.Unwrite l) replies.Done = (hold_of thread l).owns ≡ true
Counted thread (calls.Downgrade l) replies.Done = (hold_of thread l).owns ≡ true
Counted thread (calls.Local l) replies.Got = (hold_of thread l).owns ≡ false
Counted thread (calls.Local l) replies.Deadlock = Unit {0}
Counted thread (calls.Local l) answer = ⊥
Counted thread (calls.Unlocal l) replies.Done = (hold_of thread l).owns ≡ true
Counted thread call answer = Unit {0}

-- before its first event no call counts
pub start-pins : (call : Option Call) → pins_calling call true ≡ 0
start-pins (Some (calls.Local l)) = refl
start-pins (Some _) = refl
start-pins None = refl

-- a reader/writer lock is of one of two kinds
pub reader_kind : (kind : Option Kind) → option_map has_readers kind ≡ Some true → (kind ≡ Some RwLock) ⊎ (kind ≡ Some RwSem)
reader_kind None is = cc
reader_kind (Some Mutex) is = cc
reader_kind (Some Spin) is = cc
reader_kind (Some RwLock) is = inl refl
reader_kind (Some RwSem) is = inr refl
reader_kind (Some Local) is = cc

-- what isn't held counts nothing
pub unpinned : (kind : Kind) → pins kind (record { owns = false; reads = 0 }) ≡ 0
unpinned Spin = refl
unpinned RwLock = refl
unpinned Local = refl
unpinned _ = refl

module _ (thread : ThreadPart) (long : length thread.holds ≡ length thread.kinds) where
  -- the hold of a lock of this kind is written
  pinned-set : (l : LockId) (kind : Kind) (left : Hold) → slice_get thread.kinds l.0 ≡ Some kind
      → count_holds pins thread.kinds (slice_set thread.holds l.0 left) + pins kind (hold_of thread l) ≡ pinned thread + pins kind left
  pinned-set l kind left is =
      let room : l.0 < length thread.holds = subst (λ (n : ℕ). l.0 < n) (sym long) (slice_get_within thread.kinds l.0 kind is) in
      count-set pins thread.kinds thread.holds l.0 kind (hold_of thread l) left is (read-some thread.holds l.0 (record { owns = false; reads = 0 }) room)

  -- so a hold counts no more than all
  pub hold-counts : (l : LockId) (kind : Kind) → slice_get thread.kinds l.0 ≡ Some kind → pins kind (hold_of thread l) ≤ pinned thread
  hold-counts l kind is =
      let none : pins kind (record { owns = false; reads = 0 }) ≡ 0 = unpinned kind in
      omega (arith, pinned-set l kind (record { owns = false; reads = 0 }) is, none)

  -- a spinlock counts one as long as it is held, and a cell of a local lock two
  pub spin-counts : (l : LockId) → slice_get thread.kinds l.0 ≡ Some Spin → (hold_of thread l).owns ≡ true → 1 ≤ pinned thread
  spin-counts l is held =
      let one : pins Spin (hold_of thread l) ≡ 1 = ap (λ (b : Bool). cond b 1 0) held in
      omega (arith, hold-counts l Spin is, one)

  pub cell-counts : (l : LockId) → slice_get thread.kinds l.0 ≡ Some Local → (hold_of thread l).owns ≡ true → 2 ≤ pinned thread
  cell-counts l is held =
      let two : pins Local (hold_of thread l) ≡ 2 = ap (λ (b : Bool). cond b 2 0) held in
      omega (arith, hold-counts l Local is, two)

  -- and an `rwlock_t` as long as it is held for writing or for reading
  pub rwlock-counts : (l : LockId) → slice_get thread.kinds l.0 ≡ Some RwLock → ((hold_of thread l).owns ≡ true) ⊎ (0 < (hold_of thread l).reads) → 1 ≤ pinned thread
  rwlock-counts l is held = by_hold held
    where
      all : pins RwLock (hold_of thread l) ≤ pinned thread
      all = hold-counts l RwLock is

      by_hold : ((hold_of thread l).owns ≡ true) ⊎ (0 < (hold_of thread l).reads) → 1 ≤ pinned thread
      by_hold (inl owns) = let one : pins Spin (hold_of thread l) ≡ 1 = ap (λ (b : Bool). cond b 1 0) owns in omega (arith, all, one)
      by_hold (inr reads) = omega (arith, all, reads)

  -- ---- a hold is written, and the count is adjusted by as much

  -- what the count is where the call counts nothing
  abbrev Right : ℕ → List Hold → Type 0
  Right count holds = count ≡ count_holds pins thread.kinds holds

  -- a mutex counts nothing
  mutex-set : (l : LockId) (owns : Bool) → slice_get thread.kinds l.0 ≡ Some Mutex → thread.migration ≡ pinned thread + 0 → Right (thread.migration + 0 - 0) (with_hold thread l owns)
  mutex-set l owns is law = omega (arith, pinned-set l Mutex (record (hold_of thread l) { owns = owns }) is, law)

  -- a spinlock one
  spin-got : (l : LockId) → slice_get thread.kinds l.0 ≡ Some Spin → (hold_of thread l).owns ≡ false → thread.migration ≡ pinned thread + 0 → Right (thread.migration + 1 - 0) (with_hold thread l true)
  spin-got l is unheld law =
      let none : pins Spin (hold_of thread l) ≡ 0 = ap (λ (b : Bool). cond b 1 0) unheld in
      omega (arith, pinned-set l Spin (record (hold_of thread l) { owns = true }) is, none, law)

  spin-left : (l : LockId) → slice_get thread.kinds l.0 ≡ Some Spin → (hold_of thread l).owns ≡ true → thread.migration ≡ pinned thread + 0 → Right (thread.migration + 0 - 1) (with_hold thread l false)
  spin-left l is held law =
      let one : pins Spin (hold_of thread l) ≡ 1 = ap (λ (b : Bool). cond b 1 0) held in
      omega (arith, pinned-set l Spin (record (hold_of thread l) { owns = false }) is, one, law)

  -- a cell two, of which its call may have counted one
  cell-got : (l : LockId) (more : ℕ) → slice_get thread.kinds l.0 ≡ Some Local → (hold_of thread l).owns ≡ false → thread.migration + more ≡ pinned thread + 2 → Right (thread.migration + more - 0) (with_hold thread l true)
  cell-got l more is unheld law =
      let none : pins Local (hold_of thread l) ≡ 0 = ap (λ (b : Bool). cond b 2 0) unheld in
      omega (arith, pinned-set l Local (record (hold_of thread l) { owns = true }) is, none, law)

  cell-left : (l : LockId) → slice_get thread.kinds l.0 ≡ Some Local → (hold_of thread l).owns ≡ true → thread.migration ≡ pinned thread + 0 → Right (thread.migration + 0 - 2) (with_hold thread l false)
  cell-left l is held law =
      let two : pins Local (hold_of thread l) ≡ 2 = ap (λ (b : Bool). cond b 2 0) held in
      omega (arith, pinned-set l Local (record (hold_of thread l) { owns = false }) is, two, law)

  -- the hold of a reader/writer lock is written: an `rw_semaphore` counts nothing, and an `rwlock_t` what its hold counts
  reader-set : (l : LockId) (left : Hold) (more less : Option Kind → ℕ) → HasReadersAt thread.kinds l.0 → more (Some RwSem) ≡ 0 → less (Some RwSem) ≡ 0
      → ((count : ℕ) → count + pins RwLock (hold_of thread l) ≡ thread.migration + pins RwLock left → thread.migration + more (Some RwLock) - less (Some RwLock) ≡ count) → thread.migration ≡ pinned thread + 0
      → Right (thread.migration + more (Some (kind_of thread l)) - less (Some (kind_of thread l))) (slice_set thread.holds l.0 left)
  reader-set l left more less fits no_more no_less rwlock law = by_kind (reader_kind (slice_get thread.kinds l.0) fits)
    where
      after : ℕ
      after = count_holds pins thread.kinds (slice_set thread.holds l.0 left)

      at : (kind : Kind) → slice_get thread.kinds l.0 ≡ Some kind → thread.migration + more (Some kind) - less (Some kind) ≡ after → thread.migration + more (Some (kind_of thread l)) - less (Some (kind_of thread l)) ≡ after
      at kind is right = ap (λ (k : Option Kind). thread.migration + more (Some (unwrap_or k Mutex)) - less (Some (unwrap_or k Mutex))) is ∙ right

      by_kind : (slice_get thread.kinds l.0 ≡ Some RwLock) ⊎ (slice_get thread.kinds l.0 ≡ Some RwSem) → thread.migration + more (Some (kind_of thread l)) - less (Some (kind_of thread l)) ≡ after
      by_kind (inl is) = at RwLock is (rwlock after (omega (arith, pinned-set l RwLock left is, law)))
      by_kind (inr is) = at RwSem is (omega (arith, no_more, no_less, pinned-set l RwSem left is, law))

  abbrev nothing_of : Option Kind → ℕ
  nothing_of kind = 0

  read-got : (l : LockId) → HasReadersAt thread.kinds l.0 → thread.migration ≡ pinned thread + 0 → Right (thread.migration + rwlock_pins (Some (kind_of thread l)) - 0) (with_read thread l)
  read-got l fits law = reader-set l (record (hold_of thread l) { reads = (hold_of thread l).reads + 1 }) rwlock_pins nothing_of fits refl refl (λ count is. omega (arith, is)) law

  read-left : (l : LockId) → HasReadersAt thread.kinds l.0 → 0 < (hold_of thread l).reads → thread.migration ≡ pinned thread + 0 → Right (thread.migration + 0 - rwlock_pins (Some (kind_of thread l))) (without_read thread l)
  read-left l fits held law = reader-set l (record (hold_of thread l) { reads = (hold_of thread l).reads - 1 }) nothing_of rwlock_pins fits refl refl (λ count is. omega (arith, is, held)) law

  write-got : (l : LockId) → HasReadersAt thread.kinds l.0 → (hold_of thread l).owns ≡ false → thread.migration ≡ pinned thread + 0 → Right (thread.migration + rwlock_pins (Some (kind_of thread l)) - 0) (with_hold thread l true)
  write-got l fits unheld law =
      let none : pins Spin (hold_of thread l) ≡ 0 = ap (λ (b : Bool). cond b 1 0) unheld in
      reader-set l (record (hold_of thread l) { owns = true }) rwlock_pins nothing_of fits refl refl (λ count is. omega (arith, is, none)) law

  write-left : (l : LockId) → HasReadersAt thread.kinds l.0 → (hold_of thread l).owns ≡ true → thread.migration ≡ pinned thread + 0 → Right (thread.migration + 0 - rwlock_pins (Some (kind_of thread l))) (with_hold thread l false)
  write-left l fits held law =
      let one : pins Spin (hold_of thread l) ≡ 1 = ap (λ (b : Bool). cond b 1 0) held in
      reader-set l (record (hold_of thread l) { owns = false }) nothing_of rwlock_pins fits refl refl (λ count is. omega (arith, is, one)) law

  -- a downgrade has a read hold in the place of its write hold
  downgrade-left : (l : LockId) → HasReadersAt thread.kinds l.0 → (hold_of thread l).owns ≡ true → thread.migration ≡ pinned thread + 0 → Right (thread.migration + 0 - 0) (downgraded thread l)
  downgrade-left l fits held law =
      let one : pins Spin (hold_of thread l) ≡ 1 = ap (λ (b : Bool). cond b 1 0) held in
      reader-set l (record { owns = false; reads = (hold_of thread l).reads + 1 }) nothing_of nothing_of fits refl refl (λ count is. omega (arith, is, one)) law

  -- an answer to a call for a local lock, before or after the call's first event
  local-counts : (l : LockId) (answer : Reply) (first : Bool) → slice_get thread.kinds l.0 ≡ Some Local → is_start thread.phase ≡ first → Counted thread (calls.Local l) answer
      → thread.migration ≡ pinned thread + pins_calling (Some (calls.Local l)) first
      → Right (migration_after (calls.Local l) (Some (kind_of thread l)) first (Some answer) thread.migration) (holds_after thread (Some (calls.Local l)) answer)
  local-counts l replies.Got true is at unheld law = cell-got l 2 is unheld (omega (arith, law))
  local-counts l replies.Got false is at unheld law = cell-got l 1 is unheld (omega (arith, law))
  local-counts l replies.Deadlock true is at counted law = omega (arith, law)
  local-counts l replies.Deadlock false is at counted law = omega (arith, law)
  local-counts l _ first is at counted law = absurd counted

  -- what counts nothing leaves the count
  same : thread.migration ≡ pinned thread + 0 → Right (thread.migration + 0 - 0) thread.holds
  same law = omega (arith, law)

  -- so after any answer the count is right
  answer-counts : (call : Call) (answer : Reply) → IsForKind thread.kinds call → Counted thread call answer → thread.migration ≡ pinned thread + pins_calling (Some call) (is_start thread.phase)
      → Right (migration_with thread (Some call) (Some answer)) (holds_after thread (Some call) answer)
  answer-counts (calls.Lock l) replies.Got fits counted law = mutex-set l true fits law
  answer-counts (calls.LockInt l) replies.Got fits counted law = mutex-set l true fits law
  answer-counts (calls.TryLock l) replies.Got fits counted law = mutex-set l true fits law
  answer-counts (calls.Unlock l) replies.Done fits counted law = mutex-set l false fits law
  answer-counts (calls.Spin l) replies.Got fits counted law = spin-got l fits counted law
  answer-counts (calls.TrySpin l) replies.Got fits counted law = spin-got l fits counted law
  answer-counts (calls.Unspin l) replies.Done fits counted law = spin-left l fits counted law
  answer-counts (calls.Read l) replies.Got fits counted law = read-got l fits law
  answer-counts (calls.TryRead l) replies.Got fits counted law = read-got l fits law
  answer-counts (calls.Unread l) replies.Done fits counted law = read-left l fits counted law
  answer-counts (calls.Write l) replies.Got fits counted law = write-got l fits counted law
  answer-counts (calls.TryWrite l) replies.Got fits counted law = write-got l fits counted law
  answer-counts (calls.Unwrite l) replies.Done fits counted law = write-left l fits counted law
  answer-counts (calls.Downgrade l) replies.Done fits counted law = downgrade-left l fits counted law
  answer-counts (calls.Local l) answer fits counted law = local-counts l answer (is_start thread.phase) fits refl counted law
  answer-counts (calls.Unlocal l) replies.Done fits counted law = cell-left l fits counted law
  answer-counts _ _ fits counted law = same law

-- the law of a thread
abbrev pub IsPinned : ThreadPart → Type 0
IsPinned thread = thread.migration ≡ pinned thread + pins_calling (call_of thread) (is_start thread.phase)

-- an event's answer, where it has one
replied : (thread : ThreadPart) (call : Call) (reply : Option Reply) → length thread.holds ≡ length thread.kinds → call_of thread ≡ Some call → IsForKind thread.kinds call → IfSome reply (Counted thread call)
    → IsPinned thread → IsPinned (answered_with thread reply)
replied thread call None long calling fits counted law = law
replied thread call (Some answer) long calling fits counted law =
    let here = subst (λ (c : Option Call). thread.migration ≡ pinned thread + pins_calling c (is_start thread.phase)) calling law in
    let right : migration_with thread (call_of thread) (Some answer) ≡ count_holds pins thread.kinds (holds_after thread (call_of thread) answer) =
    subst (λ (c : Option Call). migration_with thread c (Some answer) ≡ count_holds pins thread.kinds (holds_after thread c answer)) (sym calling) (answer-counts thread long call answer fits counted here) in
    let none = start-pins (call_of (answered_with thread (Some answer))) in
    omega (arith, right, none)

-- ---- what a state says of a thread

-- a call of a state's thread is one that its lock's kind has
pub call-fits : (s : State) (t : TaskId) (call : Call) → CallsFit s → call_of (thread_part s t) ≡ Some call → IsForKind (thread_part s t).kinds call
call-fits s t call fits at =
    let here = at_call s t call at in
    let all = All-at (λ (thread : ThreadPart). All (OnEachCpu fits.cpus (IsForKind thread.kinds)) thread.calls) s.threads t.0 (thread_part s t) fits.fit here.0 in
    let on = All-at (λ (thread : ThreadPart). thread.cpu.0 < fits.cpus) s.threads t.0 (thread_part s t) fits.on here.0 in
    at_each_cpu (IsForKind (thread_part s t).kinds) fits.cpus (thread_part s t) call all on at

-- a thread holds, or doesn't, each lock that it knows
pub holds-long : (s : State) (made : ℕ) (t : TaskId) → IsLawful s made → t.0 < length s.threads → length (thread_part s t).holds ≡ length (thread_part s t).kinds
holds-long s made t lawful there =
    All-default (HoldsFit (length s.locks)) s.threads t.0 _ lawful.shape.holds there
    ∙ sym (All-default (λ (thread : ThreadPart). length thread.kinds ≡ length s.locks) s.threads t.0 _ lawful.shape.kinds there)

-- ---- what the events answer

-- the call that a task is at, and what it is answered
pub record IsCounted (s : State) (t : TaskId) (reply : Option Reply) : Type 0 where
  pub call : Call
  pub calling : call_of (thread_part s t) ≡ Some call
  pub counted : IfSome reply (Counted (thread_part s t) call)

-- what a thread answers at once counts for nothing
held-counted : (thread : ThreadPart) (l : LockId) (held : Bool) (answer : Reply) → if_held held ≡ Some answer → Counted thread (calls.Local l) answer
held-counted thread l true answer is = let same : replies.Deadlock ≡ answer = cc in subst (Counted thread (calls.Local l)) same tt
held-counted thread l false answer is = cc

own-counted : (thread : ThreadPart) (call : Call) (answer : Reply) → own_answer thread call ≡ Some answer → is_own call answer ≡ true → Counted thread call answer
own-counted thread (calls.Local l) answer why is = held-counted thread l (hold_of thread l).owns answer why
own-counted thread (calls.Spin l) replies.Got why is = cc
own-counted thread (calls.Move cpu) answer why is = tt
own-counted thread _ replies.Got why is = cc
own-counted thread _ replies.Done why is = cc
own-counted thread _ _ why is = tt

-- a walk's answer changes none
walk-counted : (thread : ThreadPart) (call : Call) (answer : Reply) (next : Option Phase) → IsToCome call answer → IfSome (answer_of_walk (Short answer) next) (Counted thread call)
walk-counted thread call answer next to_come =
    answered-holds (λ reply. IfSome reply (Counted thread call)) answer next (to_come-holds (λ c a. Counted thread c a) call answer to_come (λ l. tt) (λ l. tt) (λ l. tt) (λ l. tt) (λ l. tt) (λ l. tt) (λ l. tt) (λ u prio. tt)) tt

module _ (s : State) (t : TaskId) where
  -- a call that isn't answered yet, and one of which no answer counts
  unanswered : (phase : Phase) (call : Call) → IsIn s t phase call → IsCounted s t None
  unanswered phase call at = record { call = call; calling = at.calling; counted = tt }

  answered : (phase : Phase) (call : Call) (reply : Option Reply) → IsIn s t phase call → IfSome reply (Counted (thread_part s t) call) → IsCounted s t reply
  answered phase call reply at counted = record { call = call; calling = at.calling; counted = counted }

  -- a task gets the owner part of a lock that it didn't hold
  got : (l : LockId) → IsAcquiring s t l → (hold_of (thread_part s t) l).owns ≡ false → IsCounted s t (got_answer (call_of (thread_part s t)))
  got l at unheld = record {
    call = at.call;
    calling = at.calling;
    counted = subst (λ (c : Option Call). IfSome (got_answer c) (Counted (thread_part s t) at.call)) (sym at.calling)
        (acquiring-holds (λ c. IfSome (got_answer (Some c)) (Counted (thread_part s t) c)) at.call l at.acquires tt tt unheld unheld tt unheld tt tt tt);
  }

  -- it may not have it
  refused : (l : LockId) → Tries s t l → IsCounted s t (Some replies.Busy)
  refused l at = record { call = at.call; calling = at.at.calling; counted = tries-holds (λ c. Counted (thread_part s t) c replies.Busy) at.call l at.tries_for tt tt tt }

  -- it releases one that it held
  done : (l : LockId) → OwnersLaw s → Returns s t l → IsCounted s t (Some (released_answer (call_of (thread_part s t))))
  done l owners is = record { call = is.call; calling = is.calling; counted = subst (λ (c : Option Call). Counted (thread_part s t) is.call (released_answer c)) (sym is.calling) (by_how is.by) }
    where
      Released : Call → Type 0
      Released c = Counted (thread_part s t) c (released_answer (Some c))

      by_how : ReturnsBy s t l is.call → Released is.call
      by_how (from_hold releases at held) = releases-holds Released is.call l releases tt held held
      by_how (from_inside ends at) =
          let owns = inside-gives s t l owners phases.Release is.call at refl (ends-called is.call l ends) in
          ends-holds (λ c. (hold_of (thread_part s t) l).owns ≡ gives_back phases.Release (Some c) → Released c) is.call l ends (λ g. tt) (λ g. tt) (λ g. g) (λ g. g) owns

  -- its walk goes on, or ends
  walked : (route : Route) (u : TaskId) (next : Option Phase) → WalksIn s t route u → IsCounted s t (answer_of_walk route next)
  walked route u next (by_full path l same asks) = subst (λ (r : Route). IsCounted s t (answer_of_walk r next)) (sym same) (unanswered _ asks.call asks.at)
  walked route u next (by_short call answer same at to_come) =
      subst (λ (r : Route). IsCounted s t (answer_of_walk r next)) (sym same) (record { call = call; calling = at.calling; counted = walk-counted (thread_part s t) call answer next to_come })

  -- it leaves a queue
  left : (phase : Phase) (l : LockId) (next : Option Phase) → Asks s t phase l → IsCounted s t (answer_of_walk (Short replies.Deadlock) next)
  left phase l next asks =
      let to_come : IsToCome asks.call replies.Deadlock = waits-holds (λ c. IsToCome c replies.Deadlock) asks.call l asks.waits_for refl (inl refl) refl refl refl refl in
      record { call = asks.call; calling = asks.at.calling; counted = walk-counted (thread_part s t) asks.call replies.Deadlock next to_come }

  -- what an event that comes about as x is answered
  told : (e x : Event) → e ≡ x → IsCounted s t x.reply → IsCounted s t e.reply
  told e x is counted = subst (λ (y : Event). IsCounted s t y.reply) (sym is) counted

  pub its_answer : (made : ℕ) (e : Event) → IsLawful s made → IsNext s t e → IsCounted s t e.reply
  its_answer made e lawful next = by_kind next
    where
      -- a writer that gets in didn't hold the lock
      written : (l : LockId) (phase : Phase) (call : Call) → Writes call l → IsIn s t phase call → has_inner phase ≡ true → gives_back phase (Some call) ≡ false → IsCounted s t (Some replies.Got)
      written l phase call how at inner keeps =
          let owns = inside-gives s t l lawful.owners phase call at inner (writes-called call l how) ∙ keeps in
          answered phase call (Some replies.Got) at (writes-holds (λ c. Counted (thread_part s t) c replies.Got) call l how owns owns)

      -- a reader that leaves was in, also the last one, that wakes the writer
      left_in : (l : LockId) (wakes : Bool) → IsIn s t phases.Start (calls.Unread l) → nat_lt 0 (hold_of (thread_part s t) l).reads ≡ true → IsCounted s t (cond wakes None (Some replies.Done))
      left_in l true at held = unanswered _ _ at
      left_in l false at held = answered _ _ (Some replies.Done) at (grind (arith, nat_tests))

      gone : (l : LockId) → IsIn s t phases.WakeWriter (calls.Unread l) → 0 < (hold_of (thread_part s t) l).reads
      gone l at =
          let on : is_on (present_lock (thread_part s t)) l ≡ true = ap (λ (o : Option LockId). is_on o l) (present-at s t phases.WakeWriter (calls.Unread l) (Some l) at refl) ∙ number_itself l.0 in
          let one : going (thread_part s t) l ≡ 1 = λ i. cond (has_gone (at.phased i) && on i) 1 0 in
          omega (arith, one, lawful.readers.gone l t)

      reading : (l : LockId) → IsReading s t l e → IsCounted s t e.reply
      reading l (is_read is unheld can) = told e _ is.event (answered _ _ (Some replies.Got) is.at tt)
      reading l (is_tryread is set) = told e _ is.event (answered _ _ (Some replies.Got) is.at tt)
      reading l (is_let_in is) = told e _ is.event (unanswered _ _ is.at)
      reading l (is_shut is unheld cannot) = told e _ is.event (unanswered _ _ is.at)
      reading l (is_tryshut is off) = told e _ is.event (answered _ _ (Some replies.Busy) is.at tt)
      reading l (is_out is held) = told e _ is.event (left_in l (wakes_writer (without_reader (reader_part s l))) is.at held)
      reading l (is_wwake is) = told e _ is.event (answered _ _ (Some replies.Done) is.at (gone l is.at))
      reading l (is_unbias call how is) = told e _ is.event (unanswered _ _ is.at)
      reading l (is_in call how is can) = told e _ is.event (written l phases.WTry call how is.at refl refl)
      reading l (is_sleep is cannot) = told e _ is.event (unanswered _ _ is.at)
      reading l (is_given_up is cannot) = told e _ is.event (unanswered _ _ is.at)
      reading l (is_in_late is runs can) = told e _ is.event (written l phases.WWait (calls.Write l) (writes_by refl) is.at refl refl)
      reading l (is_sleep_again is runs cannot) = told e _ is.event (unanswered _ _ is.at)
      reading l (is_opened is held) = told e _ is.event (unanswered _ _ is.at)
      reading l (is_downgraded is held) = told e _ is.event (unanswered _ _ is.at)

      by_kind : IsNext s t e → IsCounted s t e.reply
      by_kind (by_own call answer is) = told e _ is.event (record { call = call; calling = is.at.calling; counted = own-counted (thread_part s t) call answer is.why (own-answers s t call answer e is) })
      by_kind (by_acquire l (is_fast is)) = told e _ is.event (got l (fast-acquiring s t l is.how) (unowned-unheld s t l lawful.owners is.owner))
      by_kind (by_acquire l (is_mark is)) = let asks = asking s t l is.how in told e _ is.event (unanswered asks.0 _ asks.1.at)
      by_kind (by_acquire l (is_take is)) =
          told e _ is.event (got l (take-acquiring s t l is.how) (unowned-unheld s t l lawful.owners (unowned-can_take t (kind_of (thread_part s t) l) (owner_part s l) (task_part s t) is.can)))
      by_kind (by_acquire l (is_busy is)) = told e _ is.event (refused l is.at)
      by_kind (by_reading l is) = reading l is
      by_kind (by_wait l (is_wait is)) = told e _ is.event (unanswered phases.Slow _ is.at.at)
      by_kind (by_wait l (is_again is)) = told e _ is.event (unanswered phases.Wait _ is.at.at)
      by_kind (by_wait l (is_leave is)) =
          told e _ is.event (record { call = calls.LockInt l; calling = is.at.calling; counted = walk-counted (thread_part s t) (calls.LockInt l) replies.Interrupted _ (inr refl) })
      by_kind (by_release l (is_free is)) = told e _ is.event (done l lawful.owners is.at)
      by_kind (by_release l (is_give is)) = told e _ is.event (done l lawful.owners is.at)
      by_kind (by_walk route u (is_walk l key is)) = told e _ is.event (walked route u _ is.how)
      by_kind (by_walk route u (is_walkend is)) = told e _ is.event (walked route u None is.how)
      by_kind (by_confirm l path (is_restart link is)) = told e _ is.event (unanswered _ _ is.at.at)
      by_kind (by_confirm l path (is_cycle is)) = told e _ is.event (left _ l _ is.at)
      by_kind (by_wakeup (is_state state is)) = told e _ is.event (record { call = calls.State state; calling = is.at.calling; counted = tt })
      by_kind (by_wakeup (is_sched is)) = told e _ is.event (record { call = calls.Schedule; calling = is.at.calling; counted = tt })
      by_kind (by_wakeup (is_wake u is)) = told e _ is.event (record { call = calls.Wake u; calling = is.at.calling; counted = tt })
      by_kind (by_wakeup (is_signal u is)) = told e _ is.event (record { call = calls.Signal u; calling = is.at.calling; counted = tt })
      by_kind (by_setprio u prio is) =
          told e _ is.event (record { call = calls.SetPrio u prio; calling = is.at.calling; counted = walk-counted (thread_part s t) (calls.SetPrio u prio) replies.Done _ refl })

-- ---- what an event leaves of its thread, before its answer

abbrev pub left_by_event : State → Event → ThreadPart
left_by_event s x = (effect_in (shared s) (thread_part s x.task) x).thread (around (shared_after (shared s) (thread_part s x.task) x) (touched x.kind x)) (thread_part s x.task)

-- an event of this kind sets the bit, which may be a call's first event
abbrev changes_count : EventKind → Bool
changes_count kinds.Mark = true
changes_count _ = false

count-left : (kind : EventKind) (e : Event) (th : ThreadPart) (found left : Around) (old : ThreadPart) → changes_count kind ≡ false → ((effect kind e th found).thread left old).migration ≡ old.migration
count-left kinds.Mark e th found left old is = cc
count-left _ e th found left old is = refl

-- how far such a call has come counts nothing
abbrev IsQuiet : Call → Type 0
IsQuiet call = (b c : Bool) → pins_calling (Some call) b ≡ pins_calling (Some call) c

got-pins : (call : Option Call) (phase : Phase) → pins_calling call (is_start (phase_after_got call phase)) ≡ pins_calling call (is_start phase)
got-pins (Some (calls.Read l)) phase = refl
got-pins (Some (calls.Write l)) phase = refl
got-pins (Some (calls.TryWrite l)) phase = refl
got-pins (Some _) phase = refl
got-pins None phase = refl

busy-pins : (call : Option Call) (phase : Phase) → pins_calling call (is_start (phase_after_busy call phase)) ≡ pins_calling call (is_start phase)
busy-pins (Some (calls.Read l)) phase = refl
busy-pins (Some _) phase = refl
busy-pins None phase = refl

-- a walk stands in no call's first phase, and leaves it in none
walk-later : (t : TaskId) (route : Route) (owner : Option TaskId) (task : TaskPart) → is_start (phase_of_walk (goes_on t route owner task)) ≡ false
walk-later t route owner task = goes_on-holds (λ next. is_start (phase_of_walk next) ≡ false) t route owner task refl (λ path is own blocked. refl) (λ o onward some stands. refl)

link-later : (t : TaskId) (l : LockId) (owner : Option TaskId) (task : TaskPart) (u : TaskId) (route : Route) (phase : Phase) → phase ≡ phases.Walk u route → is_start (phase_after_link t (Some l) owner task phase) ≡ false
link-later t l owner task u route phase is = ap (λ (p : Phase). is_start (phase_after_link t (Some l) owner task p)) is ∙ walk-later t (followed u l route) owner task

end-later : (u : TaskId) (route : Route) (phase : Phase) → phase ≡ phases.Walk u route → is_start (phase_after_end phase) ≡ false
end-later u route phase is = ap (λ (p : Phase). is_start (phase_after_end p)) is

wait-later : (t : TaskId) (l : LockId) (owner : Option TaskId) (blocked : Bool) → is_start (phase_after_wait t (Some l) owner blocked) ≡ false
wait-later t l None blocked = refl
wait-later t l (Some o) true = refl
wait-later t l (Some o) false = refl

module _ (s : State) (t : TaskId) (e : Event) (made : ℕ) (lawful : IsLawful s made) where
  abbrev thread : ThreadPart
  thread = thread_part s t

  law : IsPinned thread
  law = lawful.migration t

  -- an event that comes about as x
  known : (x : Event) → e ≡ x → IsPinned (left_by_event s x) → IsPinned (left_by_event s e)
  known x is pinned = subst (λ (y : Event). IsPinned (left_by_event s y)) (sym is) pinned

  -- the thread in another phase, which counts as much
  phased : (phase : Phase) → pins_calling (call_of thread) (is_start phase) ≡ pins_calling (call_of thread) (is_start thread.phase) → IsPinned (record thread { phase = phase })
  phased phase same = law ∙ ap (λ (n : ℕ). pinned thread + n) (sym same)

  -- of a call that has made its first event, and goes on
  later : (phase : Phase) → is_start phase ≡ false → is_start thread.phase ≡ false → IsPinned (record thread { phase = phase })
  later phase is was = phased phase (ap (pins_calling (call_of thread)) (is ∙ sym was))

  -- of a call that counts nothing
  quiet : (x : Event) (phase : Phase) (call : Call) → e ≡ x → x.task ≡ t → IsIn s t phase call → IsQuiet call → changes_count x.kind ≡ false → IsPinned (left_by_event s e)
  quiet x phase call is task at calls kept =
      let th = thread_part s x.task in
      let found = around (shared s) (touched x.kind x) in
      let after = around (shared_after (shared s) th x) (touched x.kind x) in
      let moved = thread-phase x.kind x th found after th in
      let calling : call_of th ≡ Some call = ap (λ (v : TaskId). call_of (thread_part s v)) task ∙ at.calling in
      let count : (left_by_event s x).migration ≡ th.migration = count-left x.kind x th found after th kept in
      let same : pins_calling (call_of th) (is_start th.phase) ≡ pins_calling (call_of th) (is_start (left_by_event s x).phase) =
      ap (λ (c : Option Call). pins_calling c (is_start th.phase)) calling ∙ (calls _ _ ∙ ap (λ (c : Option Call). pins_calling c (is_start (left_by_event s x).phase)) (sym calling)) in
      known x is (subst IsPinned (sym moved) (count ∙ (lawful.migration x.task ∙ ap (λ (n : ℕ). pinned th + n) same)))

  -- a first event that sets the bit
  marked : (l : LockId) → AsksBy s t l → IsPinned (record thread { phase = phases.Slow; migration = migration_with thread (call_of thread) None })
  marked l (from_start asks unheld) =
      subst (λ (c : Option Call). migration_with thread c None ≡ pinned thread + pins_calling c false) (sym asks.at.calling)
      (waits-holds (λ c. Before c → migration_with thread (Some c) None ≡ pinned thread + pins_calling (Some c) false) asks.call l asks.waits_for
      (λ was. omega (arith, was)) (λ was. omega (arith, was)) (λ was. omega (arith, was)) first (λ was. omega (arith, was)) (λ was. omega (arith, was))
      (subst (λ (c : Option Call). thread.migration ≡ pinned thread + pins_calling c (is_start thread.phase)) asks.at.calling law))
    where
      Before : Call → Type 0
      Before c = thread.migration ≡ pinned thread + pins_calling (Some c) (is_start thread.phase)

      first : Before (calls.Local l) → migration_with thread (Some (calls.Local l)) None ≡ pinned thread + 1
      first was =
          let start : is_start thread.phase ≡ true = ap is_start asks.at.phased in
          let none : thread.migration ≡ pinned thread + 0 = was ∙ ap (λ (b : Bool). pinned thread + pins_calling (Some (calls.Local l)) b) start in
          let one : migration_with thread (Some (calls.Local l)) None ≡ thread.migration + 1 - 0 = ap (λ (b : Bool). migration_after (calls.Local l) (Some (kind_of thread l)) b None thread.migration) start in
          omega (arith, none, one)
  marked l (from_reading asks) =
      subst (λ (c : Option Call). migration_with thread c None ≡ pinned thread + pins_calling c false) (sym asks.at.calling)
      (waits-holds (λ c. waits_to_read c ≡ true → thread.migration ≡ pinned thread + pins_calling (Some c) (is_start thread.phase) → migration_with thread (Some c) None ≡ pinned thread + pins_calling (Some c) false) asks.call l asks.waits_for
      (λ reads was. cc) (λ reads was. cc) (λ reads was. cc) (λ reads was. cc) (λ reads was. omega (arith, was)) (λ reads was. cc)
      reads (subst (λ (c : Option Call). thread.migration ≡ pinned thread + pins_calling c (is_start thread.phase)) asks.at.calling law))
    where
      reads : waits_to_read asks.call ≡ true
      reads = subst (λ (p : Phase). IsPhaseOf p (Some asks.call)) asks.at.phased (subst (IsPhaseOf thread.phase) asks.at.calling (lawful.phases t))

  reading-pinned : (l : LockId) → IsReading s t l e → IsPinned (left_by_event s e)
  reading-pinned l (is_read is unheld can) = quiet _ _ _ is.event refl is.at (λ b c. refl) refl
  reading-pinned l (is_tryread is set) = quiet _ _ _ is.event refl is.at (λ b c. refl) refl
  reading-pinned l (is_let_in is) = quiet _ _ _ is.event refl is.at (λ b c. refl) refl
  reading-pinned l (is_shut is unheld cannot) = quiet _ _ _ is.event refl is.at (λ b c. refl) refl
  reading-pinned l (is_tryshut is off) = quiet _ _ _ is.event refl is.at (λ b c. refl) refl
  reading-pinned l (is_out is held) = quiet _ _ _ is.event refl is.at (λ b c. refl) refl
  reading-pinned l (is_wwake is) = quiet _ _ _ is.event refl is.at (λ b c. refl) refl
  reading-pinned l (is_unbias call how is) = quiet _ _ call is.event refl is.at (writes-holds IsQuiet call l how (λ b c. refl) (λ b c. refl)) refl
  reading-pinned l (is_in call how is can) = quiet _ _ call is.event refl is.at (writes-holds IsQuiet call l how (λ b c. refl) (λ b c. refl)) refl
  reading-pinned l (is_sleep is cannot) = quiet _ _ _ is.event refl is.at (λ b c. refl) refl
  reading-pinned l (is_given_up is cannot) = quiet _ _ _ is.event refl is.at (λ b c. refl) refl
  reading-pinned l (is_in_late is runs can) = quiet _ _ _ is.event refl is.at (λ b c. refl) refl
  reading-pinned l (is_sleep_again is runs cannot) = quiet _ _ _ is.event refl is.at (λ b c. refl) refl
  reading-pinned l (is_opened is held) = quiet _ _ _ is.event refl is.at (λ b c. refl) refl
  reading-pinned l (is_downgraded is held) = quiet _ _ _ is.event refl is.at (λ b c. refl) refl

  -- a call in this phase has made its first event
  gone_on : (phase : Phase) (call : Call) → IsIn s t phase call → is_start phase ≡ false → is_start thread.phase ≡ false
  gone_on phase call at is = ap is_start at.phased ∙ is

  walks-on : (route : Route) (u : TaskId) → WalksIn s t route u → is_start thread.phase ≡ false
  walks-on route u how = ap is_start (walk-phase s t route u how)

  -- what an event leaves of the owner, and of another task
  abbrev owner_of : Event → TaskPart
  owner_of x = (around (shared_after (shared s) thread x) (touched x.kind x)).owner

  pub left-pinned : IsNext s t e → IsPinned (left_by_event s e)
  left-pinned (by_own call answer is) = known _ is.event law
  left-pinned (by_acquire l (is_fast is)) = known _ is.event (phased _ (got-pins (call_of thread) thread.phase))
  left-pinned (by_acquire l (is_mark is)) = known _ is.event (marked l is.how)
  left-pinned (by_acquire l (is_take is)) = known _ is.event (phased _ (got-pins (call_of thread) thread.phase))
  left-pinned (by_acquire l (is_busy is)) = known _ is.event (phased _ (busy-pins (call_of thread) thread.phase))
  left-pinned (by_wait l (is_wait is)) = known _ is.event (later _ (wait-later t l (owner_part s l).owner _) (gone_on _ _ is.at.at refl))
  left-pinned (by_wait l (is_again is)) = known _ is.event law
  left-pinned (by_wait l (is_leave is)) = let x = leave_event t l (owner_part s l) (task_at (shared s) (owner_part s l).owner) in
      known x is.event (later _ (walk-later t (Short replies.Interrupted) (owner_part s l).owner (owner_of x)) (gone_on _ _ is.at refl))
  left-pinned (by_release l (is_free is)) = known _ is.event law
  left-pinned (by_release l (is_give is)) = known _ is.event law
  left-pinned (by_reading l is) = reading-pinned l is
  left-pinned (by_walk route u (is_walk l key is)) = let x = walk_event t route u l (owner_part s l) (task_part s u) (task_at (shared s) (owner_part s l).owner) in
      known x is.event (later _ (link-later t l (owner_part s l).owner (owner_of x) u route thread.phase (walk-phase s t route u is.how)) (walks-on route u is.how))
  left-pinned (by_walk route u (is_walkend is)) = known _ is.event (later _ (end-later u route thread.phase (walk-phase s t route u is.how)) (walks-on route u is.how))
  left-pinned (by_confirm l path (is_restart link is)) = known _ is.event (later (phases.Walk t (Full [])) refl (gone_on _ _ is.at.at refl))
  left-pinned (by_confirm l path (is_cycle is)) = let x = cycle_event t path (lock_at (shared s) (first_lock path)) (task_at (shared s) (first_owner path)) in
      known x is.event (later _ (walk-later t (Short replies.Deadlock) (first_owner path) (owner_of x)) (gone_on _ _ is.at.at refl))
  left-pinned (by_wakeup (is_state state is)) = known _ is.event law
  left-pinned (by_wakeup (is_sched is)) = known _ is.event law
  left-pinned (by_wakeup (is_wake u is)) = known _ is.event law
  left-pinned (by_wakeup (is_signal u is)) = known _ is.event law
  left-pinned (by_setprio u prio is) = quiet _ _ _ is.event refl is.at (λ b c. refl) refl

-- ---- the law

-- what an event and its answer leave of its own thread
own-left : (s : State) (made : ℕ) (e : Event) → IsLawful s made → IsCounted s e.task e.reply → IsPinned (left_by_event s e) → IsPinned (thread_after (shared s) (thread_part s e.task) e)
own-left s made e lawful is left =
    let th = thread_part s e.task in
    let moved = thread-phase e.kind e th (around (shared s) (touched e.kind e)) (around (shared_after (shared s) th e) (touched e.kind e)) th in
    subst (λ (x : ThreadPart). IsPinned (answered_with x e.reply)) (sym moved)
    (replied _ is.call e.reply (holds-long s made e.task lawful (at_call s e.task is.call is.calling).1) is.calling (call-fits s e.task is.call lawful.calls is.calling) is.counted (subst IsPinned moved left))

pub MigrationLaw-next : (s : State) (made : ℕ) (t : TaskId) (e : Event) → IsLawful s made → IsNext s t e → MigrationLaw (state_after s e)
MigrationLaw-next s made t e lawful next u =
    let is : IsCounted s e.task e.reply = subst (λ (v : TaskId). IsCounted s v e.reply) (sym (task-IsNext s t e next)) (its_answer s t made e lawful next) in
    thread-made (λ v th. IsPinned th) s e e u refl (at_call s e.task is.call is.calling).1 (own-left s made e lawful is (left-pinned s t e made lawful next)) (λ other. lawful.migration u)

-- ---- how great the count is, and what an answer takes

cond-most : (b : Bool) (n : ℕ) → cond b n 0 ≤ n
cond-most true n = omega arith
cond-most false n = omega arith

-- no hold counts more than two, and one for each reading, of which there are no more than calls
hold-most : (kind : Kind) (hold : Hold) → hold.reads ≤ MAX_CALLS → pins kind hold ≤ MAX_CALLS + 2
hold-most Spin hold few = omega (arith, cond-most hold.owns 1)
hold-most Local hold few = omega (arith, cond-most hold.owns 2)
hold-most RwLock hold few = omega (arith, cond-most hold.owns 1, few)
hold-most Mutex hold few = omega arith
hold-most RwSem hold few = omega arith

pub holds-most : (kinds : List Kind) (holds : List Hold) → All (λ (hold : Hold). hold.reads ≤ MAX_CALLS) holds → count_holds pins kinds holds ≤ length kinds * (MAX_CALLS + 2)
holds-most [] holds few = omega arith
holds-most (kind ∷ kinds) [] few = omega arith
holds-most (kind ∷ kinds) (hold ∷ holds) few =
    let one = hold-most kind hold (All-head (λ (h : Hold). h.reads ≤ MAX_CALLS) hold holds few) in
    let others = holds-most kinds holds (All-tail (λ (h : Hold). h.reads ≤ MAX_CALLS) hold holds few) in omega (arith, one, others)

-- a call counts at most one
pub calling-most : (call : Option Call) (first : Bool) → pins_calling call first ≤ 1
calling-most None first = omega arith
calling-most (Some (calls.Local l)) true = omega arith
calling-most (Some (calls.Local l)) false = omega arith
calling-most (Some _) first = omega arith

-- what an answer takes was counted
module _ (thread : ThreadPart) (long : length thread.holds ≡ length thread.kinds) where
  reader-taken : (l : LockId) → HasReadersAt thread.kinds l.0 → ((hold_of thread l).owns ≡ true) ⊎ (0 < (hold_of thread l).reads) → rwlock_pins (Some (kind_of thread l)) ≤ pinned thread
  reader-taken l fits held = by_kind (reader_kind (slice_get thread.kinds l.0) fits)
    where
      at : (kind : Kind) → slice_get thread.kinds l.0 ≡ Some kind → rwlock_pins (Some kind) ≤ pinned thread → rwlock_pins (Some (kind_of thread l)) ≤ pinned thread
      at kind is most = subst (λ (k : Option Kind). rwlock_pins (Some (unwrap_or k Mutex)) ≤ pinned thread) (sym is) most

      by_kind : (slice_get thread.kinds l.0 ≡ Some RwLock) ⊎ (slice_get thread.kinds l.0 ≡ Some RwSem) → rwlock_pins (Some (kind_of thread l)) ≤ pinned thread
      by_kind (inl is) = at RwLock is (rwlock-counts thread long l is held)
      by_kind (inr is) = at RwSem is (omega arith)

  local-taken : (l : LockId) (answer : Reply) (first : Bool) → thread.migration ≡ pinned thread + pins_calling (Some (calls.Local l)) first → pins_taken (calls.Local l) (Some (kind_of thread l)) first (Some answer) ≤ thread.migration
  local-taken l replies.Deadlock false law = omega (arith, law)
  local-taken l _ true law = omega arith
  local-taken l _ false law = omega arith

  pub taken-counted : (call : Call) (answer : Reply) → IsForKind thread.kinds call → Counted thread call answer → thread.migration ≡ pinned thread + pins_calling (Some call) (is_start thread.phase)
      → pins_taken call (option_map (kind_of thread) (called_lock call)) (is_start thread.phase) (Some answer) ≤ thread.migration
  taken-counted (calls.Unspin l) replies.Done fits counted law = omega (arith, spin-counts thread long l fits counted, law)
  taken-counted (calls.Unread l) replies.Done fits counted law = omega (arith, reader-taken l fits (inr counted), law)
  taken-counted (calls.Unwrite l) replies.Done fits counted law = omega (arith, reader-taken l fits (inl counted), law)
  taken-counted (calls.Local l) answer fits counted law = local-taken l answer (is_start thread.phase) law
  taken-counted (calls.Unlocal l) replies.Done fits counted law = omega (arith, cell-counts thread long l fits counted, law)
  taken-counted _ _ fits counted law = omega arith
