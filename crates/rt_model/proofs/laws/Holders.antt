-- What a run's events tell of who has a lock is so.
use Rattle.std.proofs.Common.{◌≡◌, ℕ, suc, ◌+◌, ◌-◌, ◌<◌, Bool, true, false, cond, not, ◌&&◌, List, [], ◌∷◌, ◌++◌, length, refl, sym, ap, ◌∙◌, subst, Option, Some, None, IfSome, unwrap_or}
use Rattle.std.specs.Prelude.{slice_get, nat_eq}
use Rattle.std.specs.List.{fold}
use Rattle.std.proofs.lemmas.Bool.{and_right, or_left, not-true}
use Rattle.rt_base.specs.Script.{Script}
use Rattle.rt_base.specs.declared.id.LockId.{LockId}
use Rattle.rt_base.specs.declared.id.TaskId.{TaskId}
use Rattle.rt_base.specs.declared.kind.Kind.{Kind}
use Rattle.rt_base.specs.declared.kind.Kind.TheVariants as locks
use Rattle.rt_model.specs.declared.event.Event.{Event}
use Rattle.rt_model.specs.declared.event_kind.EventKind.{EventKind}
use Rattle.rt_model.specs.declared.event_kind.EventKind.TheVariants as kinds
use Rattle.rt_model.specs.declared.phase.Phase.TheVariants as phases
use Rattle.rt_model.specs.declared.reader_cell.ReaderCell.{ReaderCell}
use Rattle.rt_model.specs.Parts.{OwnerPart, ThreadPart, hold_of, kind_of, has_readers}
use Rattle.rt_model.specs.State.{State, shared, free_lock, no_readers, start, owner_part, reader_part, task_part, thread_part}
use Rattle.rt_model.specs.Choice.{called_lock, is_on}
use Rattle.rt_model.specs.Effect.{Around, around}
use Rattle.rt_model.specs.Rules.{touched, effect}
use Rattle.rt_model.specs.CallKinds.{IsForKind}
use Rattle.rt_model.specs.Run.{after, IsRun}
use Rattle.rt_model.specs.StateAfter.{update, at_lock, state_after}
use Rattle.rt_model.specs.steps.Readers.{CanStep, can_read, can_write, with_reader, without_reader, unbiased, with_writer, without_writer}
use Rattle.rt_model.specs.steps.Lock.{taken_by, given_up}
use Rattle.rt_model.specs.Path.{first_lock}
use Rattle.rt_model.specs.laws.Lawful.{IsLawful}
use Rattle.rt_model.specs.laws.Owners.{is_passing}
use Rattle.rt_model.specs.laws.Shape.{IsWithin}
use Rattle.rt_model.specs.laws.Readers.{is_writing, of_owner}
use Rattle.rt_model.specs.laws.Holders.{Held, nobody, acquires, releases, held_after, holders_of, held_in, IsExclusive, HoldersLaw}
use Rattle.rt_model.proofs.Calling.{Returns, ReturnsBy, from_hold, from_inside, releases-holds, ends-called}
use Rattle.rt_model.proofs.Inside.{inside-its, returns-owned}
use Rattle.rt_model.proofs.Lists.{at_lock-none, read-replicate}
use Rattle.rt_model.proofs.NextEvents.{IsNext, by_own, by_acquire, by_wait, by_release, by_reading, by_walk, by_confirm, by_wakeup, by_setprio}
use Rattle.rt_model.proofs.Owned.{changes_owner, owner-left}
use Rattle.rt_model.proofs.Reading.{reading-kind, reading-lock}
use Rattle.rt_model.proofs.events.Acquire.{is_fast, is_mark, is_take, is_busy}
use Rattle.rt_model.proofs.events.Wait.{is_wait, is_again, is_leave}
use Rattle.rt_model.proofs.events.Release.{is_free, is_give}
use Rattle.rt_model.proofs.events.Walk.{is_walk, is_walkend, is_restart, is_cycle}
use Rattle.rt_model.proofs.events.Wakeups.{is_state, is_sched, is_wake, is_signal}
use Rattle.rt_model.proofs.laws.Migration.{call-fits}
use Rattle.rt_model.proofs.laws.Owners.{is_writers, writer-owned}
use Rattle.rt_model.proofs.PartsAfter.{read-update, read-update_other, kept-at, changes_readers, readers-left}
use Rattle.rt_model.proofs.Numbers.{same_number, same_lock, owner-is}
use Rattle.rt_model.proofs.Queues.{unowned-can_take}
use Rattle.rt_model.proofs.Named.{within}
use Rattle.rt_model.proofs.Prefixes.{run-prefix, run-next, run-lawful, lawful-there, next-there}
use Rattle.rt_model.proofs.ReaderSteps.{reader-step}

-- ---- what an event leaves of who has a lock, by its kind alone

-- who has it by its two parts, and in lists of them
abbrev held_of : Option TaskId → ReaderCell → Held
held_of owner cell = record { owner = owner; writer = cond cell.writer owner None; readers = cell.count }

abbrev read_held : List OwnerPart → List ReaderCell → LockId → Held
read_held locks cells l = held_of (unwrap_or (slice_get locks l.0) free_lock).owner (unwrap_or (slice_get cells l.0) no_readers)

-- a part that is there is changed, so that this is told by it
changed : {X : Type 0} (told : X → Held) (xs : List X) (named : Option LockId) (l : LockId) (f : X → X) (d : X) (left : Held) → IfSome named (λ m. m.0 < length xs)
    → (is_on named l ≡ true → told (f (unwrap_or (slice_get xs l.0) d)) ≡ left) → told (unwrap_or (slice_get (at_lock xs named f) l.0) d) ≡ cond (is_on named l) left (told (unwrap_or (slice_get xs l.0) d))
changed told xs None l f d left lt is = refl
changed told xs (Some m) l f d left lt is = by_test (nat_eq m.0 l.0) refl
  where
    by_test : (b : Bool) → nat_eq m.0 l.0 ≡ b → told (unwrap_or (slice_get (at_lock xs (Some m) f) l.0) d) ≡ cond b left (told (unwrap_or (slice_get xs l.0) d))
    by_test true here =
        subst (λ (k : LockId). told (unwrap_or (slice_get (update xs m.0 f) k.0) d) ≡ told (f (unwrap_or (slice_get xs k.0) d))) (same_lock m l here) (ap told (read-update xs m.0 f d lt)) ∙ is here
    by_test false there = ap told (read-update_other xs m.0 l.0 f d there)

-- where no writer is in, the owner alone changes
unwritten : (owner left : Option TaskId) (cell : ReaderCell) → cell.writer ≡ false → held_of left cell ≡ record (held_of owner cell) { owner = left }
unwritten owner left cell is = ap (λ (w : Bool). record { owner = left; writer = cond w left None; readers = cell.count }) is ∙ sym (ap (λ (w : Bool). record { owner = left; writer = cond w owner None; readers = cell.count }) is)

opened : (reader : Bool) (owner : Option TaskId) (cell : ReaderCell) → held_of owner (without_writer reader cell) ≡ record { owner = owner; writer = None; readers = cond reader (cell.count + 1) cell.count }
opened true owner cell = refl
opened false owner cell = refl

either : {X : Type 0} (b : Bool) (x : X) → cond b x x ≡ x
either true x = refl
either false x = refl

module _ (e : Event) (thread : ThreadPart) (found : Around) (owners : List OwnerPart) (cells : List ReaderCell) (l : LockId)
    (locks_lt : IfSome e.lock (λ m. m.0 < length owners)) (cells_lt : IfSome e.lock (λ m. m.0 < length cells)) where
  abbrev its_owner : Option TaskId
  its_owner = (unwrap_or (slice_get owners l.0) free_lock).owner

  abbrev its_cell : ReaderCell
  its_cell = unwrap_or (slice_get cells l.0) no_readers

  -- who had it before, and who has it after an event of this kind
  abbrev held_here : Held
  held_here = held_of its_owner its_cell

  abbrev Left : EventKind → Held
  Left kind = read_held (at_lock owners (touched kind e).lock (effect kind e thread found).lock) (at_lock cells (touched kind e).readers (effect kind e thread found).readers) l

  -- a kind that changes neither part
  kept : (kind : EventKind) → changes_owner kind ≡ false → changes_readers kind ≡ false → Left kind ≡ cond (is_on e.lock l) held_here held_here
  kept kind keeps reads = (λ i. held_of (same (touched kind e).lock i) (unwrap_or (slice_get (cells_kept i) l.0) no_readers)) ∙ sym (either (is_on e.lock l) held_here)
    where
      same : (o : Option LockId) → (unwrap_or (slice_get (at_lock owners o (effect kind e thread found).lock) l.0) free_lock).owner ≡ its_owner
      same None = refl
      same (Some m) = kept-at (λ (lock : OwnerPart). lock.owner ≡ its_owner) owners m.0 l.0 (effect kind e thread found).lock free_lock refl (λ lock is. owner-left kind e thread found keeps lock ∙ is)

      cells_kept : at_lock cells (touched kind e).readers (effect kind e thread found).readers ≡ cells
      cells_kept = at_lock-none cells (touched kind e).readers (effect kind e thread found).readers (readers-left kind e thread found reads)

  -- one that changes the owner, where no writer is in
  gives : (f : OwnerPart → OwnerPart) (left : Option TaskId) → ((lock : OwnerPart) → (f lock).owner ≡ left) → (is_on e.lock l ≡ true → its_cell.writer ≡ false)
      → held_of (unwrap_or (slice_get (at_lock owners e.lock f) l.0) free_lock).owner its_cell ≡ cond (is_on e.lock l) (record held_here { owner = left }) held_here
  gives f left writes free =
      changed (λ (lock : OwnerPart). held_of lock.owner its_cell) owners e.lock l f free_lock (record held_here { owner = left }) locks_lt
      (λ on. ap (λ (o : Option TaskId). held_of o its_cell) (writes (unwrap_or (slice_get owners l.0) free_lock)) ∙ unwritten its_owner left its_cell (free on))

  -- and one that changes the reader part
  steps : (f : ReaderCell → ReaderCell) (left : Held) → (is_on e.lock l ≡ true → held_of its_owner (f its_cell) ≡ left) → held_of its_owner (unwrap_or (slice_get (at_lock cells e.lock f) l.0) no_readers) ≡ cond (is_on e.lock l) left held_here
  steps f left is = changed (held_of its_owner) cells e.lock l f no_readers left cells_lt is

  -- what is told by the kind, where the writer that gets in is the owner
  held-by_kind : (kind : EventKind) → (changes_owner kind ≡ true → is_on e.lock l ≡ true → its_cell.writer ≡ false) → (kind ≡ kinds.WTake → is_on e.lock l ≡ true → its_owner ≡ Some e.task)
      → Left kind ≡ cond (is_on e.lock l) (held_after kind e held_here) held_here
  held-by_kind kinds.Fast free mine = gives (λ lock. record lock { owner = Some e.task }) (Some e.task) (λ lock. refl) (free refl)
  held-by_kind kinds.Take free mine = gives (taken_by e.task) (Some e.task) (λ lock. refl) (free refl)
  held-by_kind kinds.Free free mine = gives (λ lock. record lock { owner = None }) None (λ lock. refl) (free refl)
  held-by_kind kinds.Give free mine = gives given_up None (λ lock. refl) (free refl)
  held-by_kind kinds.RIn free mine = steps with_reader (record held_here { readers = its_cell.count + 1 }) (λ on. refl)
  held-by_kind kinds.ROut free mine = steps without_reader (record held_here { readers = its_cell.count - 1 }) (λ on. refl)
  held-by_kind kinds.Unbias free mine = steps unbiased held_here (λ on. refl)
  held-by_kind kinds.WTake free mine = steps with_writer (record held_here { writer = Some e.task }) (λ on. ap (λ (o : Option TaskId). record held_here { writer = o }) (mine refl on))
  held-by_kind kinds.WOpen free mine = steps (without_writer (nat_eq e.value 1)) _ (λ on. opened (nat_eq e.value 1) its_owner its_cell)
  held-by_kind kind free mine = kept kind refl refl

-- ---- what an event finds at its lock

-- who acquires a lock finds no owner, and who releases it, gets in to write, or opens it to readers is the owner; no writer is in
-- where the owner changes
abbrev Finds : EventKind → TaskId → Option TaskId → Bool → Type 0
Finds kinds.Fast t owner writer = (owner ≡ None) × (writer ≡ false)
Finds kinds.Take t owner writer = (owner ≡ None) × (writer ≡ false)
Finds kinds.Free t owner writer = (owner ≡ Some t) × (writer ≡ false)
Finds kinds.Give t owner writer = (owner ≡ Some t) × (writer ≡ false)
Finds kinds.WTake t owner writer = owner ≡ Some t
Finds kinds.WOpen t owner writer = owner ≡ Some t
Finds kind t owner writer = Unit {0}

acquires-free : (kind : EventKind) (t : TaskId) (owner : Option TaskId) (writer : Bool) → Finds kind t owner writer → acquires kind ≡ true → owner ≡ None
acquires-free kinds.Fast t owner writer finds gets = finds.0
acquires-free kinds.Take t owner writer finds gets = finds.0
acquires-free kind t owner writer finds gets = cc

releases-own : (kind : EventKind) (t : TaskId) (owner : Option TaskId) (writer : Bool) → Finds kind t owner writer → releases kind ≡ true → owner ≡ Some t
releases-own kinds.Free t owner writer finds gone = finds.0
releases-own kinds.Give t owner writer finds gone = finds.0
releases-own kind t owner writer finds gone = cc

changes-unwritten : (kind : EventKind) (t : TaskId) (owner : Option TaskId) (writer : Bool) → Finds kind t owner writer → changes_owner kind ≡ true → writer ≡ false
changes-unwritten kinds.Fast t owner writer finds changes = finds.1
changes-unwritten kinds.Take t owner writer finds changes = finds.1
changes-unwritten kinds.Free t owner writer finds changes = finds.1
changes-unwritten kinds.Give t owner writer finds changes = finds.1
changes-unwritten kind t owner writer finds changes = cc

-- a task that holds a lock, and not for reading, is its owner
pub held-owned : (s : State) (made : ℕ) (t : TaskId) (l : LockId) → IsLawful s made → (hold_of (thread_part s t) l).owns ≡ true → (owner_part s l).owner ≡ Some t
held-owned s made t l lawful held =
    let thread : ThreadPart = thread_part s t in
    owner-is (owner_part s l).owner t (sym (lawful.owners.owned l t) ∙ or_left (hold_of thread l).owns (is_passing thread l) held)

-- whether the owner writes it is told by its flag
pub owner-writes : (s : State) (made : ℕ) (t : TaskId) (l : LockId) → IsLawful s made → (owner_part s l).owner ≡ Some t → (reader_part s l).writer ≡ is_writing (thread_part s t) l
owner-writes s made t l lawful owner = lawful.readers.writer l ∙ ap (of_owner (λ thread. is_writing thread l) s) owner

-- an event that comes about as one of a kind that fails a test
pub other_kind : (test : EventKind → Bool) (e x : Event) → e ≡ x → test x.kind ≡ false → test e.kind ≡ true → ⊥
other_kind test e x is fails passes = let same : test e.kind ≡ test x.kind = ap (λ (y : Event). test y.kind) is in cc

module _ (s : State) (made : ℕ) (t : TaskId) (e : Event) (lawful : IsLawful s made) where
  -- who releases a lock doesn't write it: it isn't a reader/writer lock, or the thread is on its way out
  returns-unwritten : (l : LockId) → Returns s t l → is_writing (thread_part s t) l ≡ false
  returns-unwritten l is = by_how is.by
    where
      thread : ThreadPart
      thread = thread_part s t

      by_how : ReturnsBy s t l is.call → is_writing thread l ≡ false
      by_how (from_hold releases at held) =
          let other : has_readers (kind_of thread l) ≡ false = releases-holds (λ c. IsForKind thread.kinds c → has_readers (kind_of thread l) ≡ false) is.call l releases
          (ap (λ (k : Option Kind). has_readers (unwrap_or k locks.Mutex))) (ap (λ (k : Option Kind). has_readers (unwrap_or k locks.Mutex))) (ap (λ (k : Option Kind). has_readers (unwrap_or k locks.Mutex))) (call-fits s t is.call lawful.calls is.calling) in
          ap (λ (b : Bool). b && (hold_of thread l).owns && not (is_passing thread l)) other
      by_how (from_inside ends at) =
          let inside = inside-its s t l phases.Release is.call at refl (ends-called is.call l ends) in
          ap (λ (b : Bool). has_readers (kind_of thread l) && (hold_of thread l).owns && not b) inside ∙ and_right _ false refl

  finds : IsNext s t e → IfSome e.lock (λ l. Finds e.kind t (owner_part s l).owner (reader_part s l).writer)
  finds next = by_kind next
    where
      Found : Event → Type 0
      Found x = IfSome x.lock (λ l. Finds x.kind t (owner_part s l).owner (reader_part s l).writer)

      of : (x : Event) → e ≡ x → Found x → Found e
      of x is found = subst Found (sym is) found

      anyway : (o : Option LockId) → IfSome o (λ l. Unit {0})
      anyway None = tt
      anyway (Some l) = tt

      unowned : (l : LockId) → (owner_part s l).owner ≡ None → ((owner_part s l).owner ≡ None) × ((reader_part s l).writer ≡ false)
      unowned l none = (none, lawful.readers.writer l ∙ ap (of_owner (λ thread. is_writing thread l) s) none)

      its : (l : LockId) → Returns s t l → ((owner_part s l).owner ≡ Some t) × ((reader_part s l).writer ≡ false)
      its l at = let owner = owner-is (owner_part s l).owner t (returns-owned s t l lawful.owners at) in (owner, owner-writes s made t l lawful owner ∙ returns-unwritten l at)

      by_kind : IsNext s t e → Found e
      by_kind (by_acquire l (is_fast is)) = of _ is.event (unowned l is.owner)
      by_kind (by_acquire l (is_take is)) = of _ is.event (unowned l (unowned-can_take t (kind_of (thread_part s t) l) (owner_part s l) (task_part s t) is.can))
      by_kind (by_release l (is_free is)) = of _ is.event (its l is.at)
      by_kind (by_release l (is_give is)) = of _ is.event (its l is.at)
      by_kind (by_reading l is) =
          subst (λ (o : Option LockId). IfSome o (λ k. Finds e.kind t (owner_part s k).owner (reader_part s k).writer)) (sym (reading-lock s t l e is))
          (reading-kind (λ kind. (is_writers kind ≡ true → (owner_part s l).owner ≡ Some t) → Finds kind t (owner_part s l).owner (reader_part s l).writer) s t l e is
          (record { rin = λ own. tt; busy = λ own. tt; rout = λ own. tt; wwake = λ own. tt; unbias = λ own. tt; wtake = λ own. own refl; wsleep = λ own. tt; wopen = λ own. own refl })
          (λ writers. owner-is (owner_part s l).owner t (writer-owned s made t l e lawful is writers)))
      by_kind (by_own call answer is) = of _ is.event (anyway (called_lock call))
      by_kind (by_acquire l (is_mark is)) = of _ is.event tt
      by_kind (by_acquire l (is_busy is)) = of _ is.event tt
      by_kind (by_wait l (is_wait is)) = of _ is.event tt
      by_kind (by_wait l (is_again is)) = of _ is.event tt
      by_kind (by_wait l (is_leave is)) = of _ is.event tt
      by_kind (by_walk route u (is_walk m key is)) = of _ is.event tt
      by_kind (by_walk route u (is_walkend is)) = of _ is.event tt
      by_kind (by_confirm l path (is_restart link is)) = of _ is.event tt
      by_kind (by_confirm l path (is_cycle is)) = of _ is.event (anyway (first_lock path))
      by_kind (by_wakeup (is_state state is)) = of _ is.event tt
      by_kind (by_wakeup (is_sched is)) = of _ is.event tt
      by_kind (by_wakeup (is_wake u is)) = of _ is.event tt
      by_kind (by_wakeup (is_signal u is)) = of _ is.event tt
      by_kind (by_setprio u prio is) = of _ is.event tt

-- ---- what is told along a run

on_holds : (P : LockId → Type 0) (o : Option LockId) (l : LockId) → IfSome o P → is_on o l ≡ true → P l
on_holds P None l holds on = cc
on_holds P (Some m) l holds on = subst P (same_lock m l on) holds

-- one event more
held-step : (s : State) (made : ℕ) (e : Event) → IsLawful s made → IsNext s e.task e → (l : LockId) → held_in (state_after s e) l ≡ cond (is_on e.lock l) (held_after e.kind e (held_in s l)) (held_in s l)
held-step s made e lawful next l =
    held-by_kind e (thread_part s e.task) (around (shared s) (touched e.kind e)) s.locks s.readers l names.lock (subst (λ (n : ℕ). IfSome e.lock (λ m. m.0 < n)) (sym lawful.shape.readers) names.lock) e.kind
    (λ changes on. changes-unwritten e.kind e.task _ _ (there on) changes) (λ is on. subst (λ (kind : EventKind). Finds kind e.task (owner_part s l).owner (reader_part s l).writer) is (there on))
  where
    names : IsWithin (length s.threads) (length s.locks) e
    names = within s made e.task e lawful next

    there : is_on e.lock l ≡ true → Finds e.kind e.task (owner_part s l).owner (reader_part s l).writer
    there = on_holds (λ k. Finds e.kind e.task (owner_part s k).owner (reader_part s k).writer) e.lock l (finds s made e.task e lawful next)

-- what is told from a lawful state on
told-from : (s : State) (made : ℕ) (events : List Event) (l : LockId) (held : Held) → IsLawful s made → IsRun s events → held ≡ held_in s l
    → fold (λ held e. cond (is_on e.lock l) (held_after e.kind e held) held) held events ≡ held_in (after s events) l
told-from s made [] l held lawful run is = is
told-from s made (e ∷ events) l held lawful run is =
    told-from (state_after s e) (suc made) events l (cond (is_on e.lock l) (held_after e.kind e held) held) (run-lawful s made e events lawful run) run.1
    (ap (λ h. cond (is_on e.lock l) (held_after e.kind e h) h) is ∙ sym (held-step s made e lawful (run-next s made e events lawful run) l))

-- at the start of a script nobody has a lock
pub held-start : (script : Script) (l : LockId) → held_in (start script) l ≡ nobody
held-start script l = λ i. held_of (read-replicate (length script.locks) l.0 free_lock i).owner (read-replicate (length script.locks) l.0 no_readers i)

-- where a writer is in, it owns the lock, and no reader is beside it
exclusive-in : (s : State) (made : ℕ) (l : LockId) → IsLawful s made → IsExclusive (held_in s l)
exclusive-in s made l lawful = by_writer (reader_part s l).writer (owner_part s l).owner refl
  where
    by_writer : (writer : Bool) (owner : Option TaskId) → (reader_part s l).writer ≡ writer → IsExclusive (record { owner = owner; writer = cond writer owner None; readers = (reader_part s l).count })
    by_writer true (Some t) is = (refl, lawful.readers.alone l is)
    by_writer true None is = tt
    by_writer false owner is = tt

-- ---- over a run, from a state in which nobody has a lock

module _ (s : State) (made : ℕ) (events : List Event) (lawful : IsLawful s made) (run : IsRun s events) (free : (l : LockId) → held_in s l ≡ nobody) where
  pub holder-told : (prefix rest : List Event) (l : LockId) → prefix ++ rest ≡ events → holders_of prefix l ≡ held_in (after s prefix) l
  holder-told prefix rest l is = told-from s made prefix l nobody lawful (run-prefix s prefix rest (subst (IsRun s) (sym is) run)) (sym (free l))

  -- an event that comes after a prefix, on a lock
  module _ (prefix rest : List Event) (e : Event) (l : LockId) (is : prefix ++ e ∷ rest ≡ events) (named : e.lock ≡ Some l) where
    abbrev now : State
    now = after s prefix

    told : holders_of prefix l ≡ held_in now l
    told = holder-told prefix (e ∷ rest) l is

    now-lawful : IsLawful now (made + length prefix)
    now-lawful = lawful-there s made events lawful run prefix (e ∷ rest) is

    now-next : IsNext now e.task e
    now-next = next-there s made events lawful run prefix rest e is

    found : Finds e.kind e.task (owner_part now l).owner (reader_part now l).writer
    found = subst (λ (o : Option LockId). IfSome o (λ k. Finds e.kind e.task (owner_part now k).owner (reader_part now k).writer)) named (finds now (made + length prefix) e.task e now-lawful now-next)

    found-by : (kind : EventKind) → e.kind ≡ kind → Finds kind e.task (owner_part now l).owner (reader_part now l).writer
    found-by kind its = subst (λ (k : EventKind). Finds k e.task (owner_part now l).owner (reader_part now l).writer) its found

    -- where it is one at the lock's reader part, that part is fit for it
    can-step : (kind : EventKind) → e.kind ≡ kind → (touched kind e).readers ≡ e.lock → CanStep kind e.value (reader_part now l)
    can-step kind its at =
        subst (λ (o : Option LockId). IfSome o (λ k. CanStep kind e.value (reader_part now k))) (at ∙ named)
        (subst (λ (k : EventKind). IfSome (touched k e).readers (λ m. CanStep k e.value (reader_part now m))) its (reader-step now (made + length prefix) e.task e now-lawful now-next))

    owned : (owner : Option TaskId) → (owner_part now l).owner ≡ owner → (holders_of prefix l).owner ≡ owner
    owned owner its = ap (λ (h : Held). h.owner) told ∙ its

    unset : can_read (reader_part now l) ≡ true → (reader_part now l).writer ≡ false
    unset can = not-true (reader_part now l).writer can

    unwritten-told : can_read (reader_part now l) ≡ true → (holders_of prefix l).writer ≡ None
    unwritten-told can = ap (λ (h : Held). h.writer) told ∙ ap (λ (w : Bool). cond w (owner_part now l).owner None) (unset can)

    alone-told : can_write (reader_part now l) ≡ true → (owner_part now l).owner ≡ Some e.task → (reader_part now l).writer ≡ false → holders_of prefix l ≡ record { owner = Some e.task; writer = None; readers = 0 }
    alone-told can owner unwritten =
        told ∙ (λ i. record { owner = owner i; writer = cond (unwritten i) (owner i) None; readers = same_number (reader_part now l).count 0 can i })

  pub holders-law : HoldersLaw s events
  holders-law = record {
    told = holder-told;
    exclusive = λ prefix rest l is. subst IsExclusive (sym (holder-told prefix rest l is)) (exclusive-in (after s prefix) (made + length prefix) l (lawful-there s made events lawful run prefix rest is));
    acquired = λ prefix e l m gets. owned prefix m.rest e l m.along m.on None (acquires-free e.kind e.task _ _ (found prefix m.rest e l m.along m.on) gets);
    released = λ prefix e l m gone. owned prefix m.rest e l m.along m.on (Some e.task) (releases-own e.kind e.task _ _ (found prefix m.rest e l m.along m.on) gone);
    read_in = λ prefix e l m its. unwritten-told prefix m.rest e l m.along m.on (can-step prefix m.rest e l m.along m.on kinds.RIn its refl).0;
    read_out = λ prefix e l m its. subst (λ (h : Held). 0 < h.readers) (sym (told prefix m.rest e l m.along m.on)) (can-step prefix m.rest e l m.along m.on kinds.ROut its refl);
    written = λ prefix e l m its. let can = can-step prefix m.rest e l m.along m.on kinds.WTake its refl in alone-told prefix m.rest e l m.along m.on can.2 (found-by prefix m.rest e l m.along m.on kinds.WTake its) can.1;
    opened = λ prefix e l m its. owned prefix m.rest e l m.along m.on (Some e.task) (found-by prefix m.rest e l m.along m.on kinds.WOpen its);
  }
