-- A next event keeps the woken-writer law.
use Rattle.std.proofs.Common.{◌≡◌, ◌≢◌, ◌⊎◌, inl, inr, ℕ, zero, suc, ◌<◌, Bool, true, false, cond, not, ◌&&◌, ◌||◌, List, length, refl, sym, ap, ◌∙◌, subst, arith, Option, Some, None, IfSome}
use Rattle.std.specs.Prelude.{nat_eq}
use Rattle.std.proofs.lemmas.Bool.{cond_both}
use Rattle.rt_base.specs.Kind.{spins}
use Rattle.rt_base.specs.declared.call.Call.{Call}
use Rattle.rt_base.specs.declared.id.LockId.{LockId}
use Rattle.rt_base.specs.declared.id.TaskId.{TaskId}
use Rattle.rt_base.specs.declared.kind.Kind.{Kind}
use Rattle.rt_base.specs.declared.reply.Reply.TheVariants.{Done}
use Rattle.rt_base.specs.declared.state.TaskState.TheVariants as states
use Rattle.rt_model.specs.declared.event.Event.{Event}
use Rattle.rt_model.specs.declared.event_kind.EventKind.{EventKind}
use Rattle.rt_model.specs.declared.event_kind.EventKind.TheVariants as kinds
use Rattle.rt_model.specs.declared.phase.Phase.{Phase}
use Rattle.rt_model.specs.declared.phase.Phase.TheVariants as phases
use Rattle.rt_model.specs.declared.reader_cell.ReaderCell.{ReaderCell}
use Rattle.rt_model.specs.Choice.{present_lock, is_on}
use Rattle.rt_model.specs.Parts.{ThreadPart, hold_of, kind_of}
use Rattle.rt_model.specs.State.{State, shared, owner_part, reader_part, task_part, thread_part}
use Rattle.rt_model.specs.Effect.{Around, around}
use Rattle.rt_model.specs.Rules.{touched, effect}
use Rattle.rt_model.specs.StateAfter.{at_lock, effect_in, state_after}
use Rattle.rt_model.specs.steps.Readers.{can_write, opened, with_reader, without_reader, wakes_writer}
use Rattle.rt_model.specs.steps.Thread.{answered_with}
use Rattle.rt_model.specs.events.Readers.{rout_event, wwake_event, wsleep_event}
use Rattle.rt_model.specs.laws.Lawful.{IsLawful}
use Rattle.rt_model.specs.laws.Owners.{has_inner, is_passing}
use Rattle.rt_model.specs.laws.Queued.{awaited_in}
use Rattle.rt_model.specs.laws.Readers.{is_closing, is_unbiased, is_writing, of_owner}
use Rattle.rt_model.specs.laws.States.{has_slept}
use Rattle.rt_model.specs.laws.WokenWriter.{IsWaker, WokenWriterLaw}
use Rattle.rt_model.proofs.Inside.{inside-at, present-at}
use Rattle.rt_model.proofs.Links.{slots_there}
use Rattle.rt_model.proofs.NextEvents.{IsNext, task-IsNext}
use Rattle.rt_model.proofs.Numbers.{number_itself, other_number, owner-is, at_each_task}
use Rattle.rt_model.proofs.PartsAfter.{kept-at, readers-kept, readers-made, thread-own, thread-other, other-keeps}
use Rattle.rt_model.proofs.TaskStates.{HasStates, IsRunning, running-others, IsElse, else-kept, else-up, else-or-reading, at_readers, up-as, falls_asleep, sleeper_waits, alike-kinds}
use Rattle.rt_model.proofs.Waiters.{not_blocking}
use Rattle.rt_model.proofs.Within.{owner_within, readers_room}
use Rattle.rt_model.proofs.events.Readers.{IsMade, IsReading, is_read, is_tryread, is_let_in, is_shut, is_tryshut, is_out, is_wwake, is_unbias, is_in, is_sleep, is_given_up, is_in_late, is_sleep_again, is_opened, is_downgraded, reading-in, reading-holds}
use Rattle.rt_model.proofs.laws.AwakeTop.{woken-runs}

-- ---- counts that don't fall

-- what an effect keeps of any reader part
readers-keep : (P : ReaderCell → Type 0) (s : State) (e : Event) (l : LockId) → P (reader_part s l) → ((cell : ReaderCell) → P cell → P ((effect_in (shared s) (thread_part s e.task) e).readers cell)) → P (reader_part (state_after s e) l)
readers-keep P s e l was keeps = by_name (touched e.kind e).readers
  where
    f : ReaderCell → ReaderCell
    f = (effect_in (shared s) (thread_part s e.task) e).readers

    by_name : (o : Option LockId) → P (reader_part (record s { readers = at_lock s.readers o f }) l)
    by_name None = was
    by_name (Some m) = kept-at P s.readers m.0 l.0 f _ was keeps

-- an event of this kind can leave a lock with no reader
abbrev empties : EventKind → Bool
empties kinds.ROut = true
empties _ = false

abbrev HasReader : ReaderCell → Type 0
HasReader cell = 0 < cell.count

reader-left : (kind : EventKind) (e : Event) (th : ThreadPart) (found : Around) → empties kind ≡ false → (cell : ReaderCell) → HasReader cell → HasReader ((effect kind e th found).readers cell)
reader-left kinds.ROut e th found is cell was = cc
reader-left kinds.RIn e th found is cell was = omega (arith, was)
reader-left kinds.WOpen e th found is cell was =
    cond_both (nat_eq e.value 1) (with_reader (opened cell)) (opened cell) HasReader (λ stays. omega (arith, was)) (λ leaves. was)
reader-left _ e th found is cell was = was

-- ---- a writer that sleeps

-- it sleeps for the readers of this lock
record Sleeps (s : State) (l : LockId) (v : TaskId) : Type 0 where
  slept : has_slept (thread_part s v).phase ≡ true
  lock : present_lock (thread_part s v) ≡ Some l
  asleep : (task_part s v).state ≢ states.Running

-- in its phase it has the inner lock, has removed the bias, and waits for no lock
record SleepsIn (phase : Phase) : Type 0 where
  inner : has_inner phase ≡ true
  unbiased : is_unbiased phase ≡ true
  waits : (lock : Option LockId) → awaited_in phase lock ≡ None

sleeps_in : (phase : Phase) → has_slept phase ≡ true → SleepsIn phase
sleeps_in phases.WWait is = record { inner = refl; unbiased = refl; waits = λ lock. refl }
sleeps_in _ is = cc

module _ (s : State) (made : ℕ) (l : LockId) (v : TaskId) (lawful : IsLawful s made) (sleeps : Sleeps s l v) where
  in_phase : SleepsIn (thread_part s v).phase
  in_phase = sleeps_in (thread_part s v).phase sleeps.slept

  -- so it owns the inner lock
  sleeper-owns : (owner_part s l).owner ≡ Some v
  sleeper-owns =
      let here : is_passing (thread_part s v) l ≡ true = inside-at (thread_part s v) l l in_phase.inner sleeps.lock ∙ number_itself l.0 in
      owner-is (owner_part s l).owner v (sym (lawful.owners.owned l v) ∙ (ap (λ (b : Bool). (hold_of (thread_part s v) l).owns || b) here ∙ or_true (hold_of (thread_part s v) l).owns))
    where
      or_true : (b : Bool) → (b || true) ≡ true
      or_true true = refl
      or_true false = refl

  -- the bias is off
  sleeper-unbiased : (reader_part s l).bias ≡ false
  sleeper-unbiased =
      let th = thread_part s v in
      let closing : is_closing th l ≡ true = (λ i. in_phase.unbiased i && is_on (sleeps.lock i) l) ∙ number_itself l.0 in
      lawful.readers.bias l ∙ (ap (λ (o : Option TaskId). not (of_owner (λ thread. is_closing thread l || is_writing thread l) s o)) sleeper-owns ∙ ap (λ (b : Bool). not (b || is_writing th l)) closing)

  -- and it is blocked on nothing
  sleeper-unblocked : (task_part s v).blocked ≡ None
  sleeper-unblocked = not_blocking (task_part s v).blocked (lawful.queued.blocked v ∙ in_phase.waits (present_lock (thread_part s v)))

-- ---- the law

module _ (s : State) (made : ℕ) (t : TaskId) (e : Event) (lawful : IsLawful s made) (next : IsNext s t e) where
  -- the lock of an event at a reader part is the one that its thread's call is about
  reading-here : (k : LockId) → IsReading s t k e → present_lock (thread_part s t) ≡ Some k
  reading-here k is = let at = reading-in s t k e is in present-at s t at.phase at.call (Some k) at.at at.about

  -- ---- of its own task

  -- one at a reader part leaves it awake, or sends it to sleep where readers are in
  data Left (k : LockId) : Type 0 where
    is_up : has_slept (thread_part (state_after s e) t).phase ≡ false → Left k
    sleeps : e ≡ wsleep_event t k → can_write (reader_part s k) ≡ false → Left k

  reading-left : (k : LockId) → IsReading s t k e → Left k
  reading-left k reads = by_kind reads
    where
      up : (phase : Phase) (call : Call) (x : Event) → IsMade s t k phase call x e → has_slept phase ≡ false → falls_asleep x.kind ≡ false → Left k
      up phase call x is was stays = is_up (up-as s made t e lawful next x is.event stays (ap has_slept is.at.phased ∙ was)).after

      by_kind : IsReading s t k e → Left k
      by_kind (is_read is unheld can) = up _ _ _ is refl refl
      by_kind (is_tryread is set) = up _ _ _ is refl refl
      by_kind (is_let_in is) = up _ _ _ is refl refl
      by_kind (is_shut is unheld cannot) = up _ _ _ is refl refl
      by_kind (is_tryshut is off) = up _ _ _ is refl refl
      by_kind (is_out is held) = up _ _ _ is refl refl
      by_kind (is_wwake is) = up _ _ _ is refl refl
      by_kind (is_unbias call writes is) = up _ _ _ is refl refl
      by_kind (is_in call writes is can) = up _ _ _ is refl refl
      by_kind (is_sleep is cannot) = sleeps is.event cannot
      by_kind (is_given_up is cannot) = up _ _ _ is refl refl
      by_kind (is_in_late is runs can) = is_up (ap (λ (thread : ThreadPart). has_slept thread.phase) (thread-own s e _ is.event is.at.task))
      by_kind (is_sleep_again is runs cannot) = sleeps is.event cannot
      by_kind (is_opened is held) = up _ _ _ is refl refl
      by_kind (is_downgraded is held) = up _ _ _ is refl refl

  -- so it doesn't sleep at a lock with no reader left
  own-unslept : (l : LockId) → has_slept (thread_part (state_after s e) t).phase ≡ true → present_lock (thread_part (state_after s e) t) ≡ Some l → (reader_part (state_after s e) l).count ≡ 0 → ⊥
  own-unslept l slept lock none = either (else-or-reading s made t e lawful next)
    where
      of_reading : (k : LockId) → IsReading s t k e → Left k → ⊥
      of_reading k is (is_up up) = cc
      of_reading k is (sleeps same cannot) =
          let still : present_lock (thread_part (state_after s e) t) ≡ Some k = ap present_lock (thread-own s e _ same (reading-in s t k e is).at.task) ∙ reading-here k is in
          let one : k ≡ l = cc in
          let cell : reader_part (state_after s e) l ≡ reader_part s k = readers-kept s e _ l same refl ∙ ap (reader_part s) (sym one) in
          let can : can_write (reader_part s k) ≡ true = ap can_write (sym cell) ∙ ap (λ (n : ℕ). nat_eq n 0) none in
          cc

      either : IsElse s t e ⊎ ((k : LockId) × IsReading s t k e) → ⊥
      either (inl is) = let up = (else-up s made t e lawful next is).after in cc
      either (inr (k, is)) = of_reading k is (reading-left k is)

  -- ---- of another task that sleeps

  -- the event of a thread that is to wake a writer
  waking : (k : LockId) → IsReading s t k e → (thread_part s t).phase ≡ phases.WakeWriter → e ≡ wwake_event t k (owner_part s k)
  waking k is =
      reading-holds (λ phase x. e ≡ x → phase ≡ phases.WakeWriter → e ≡ wwake_event t k (owner_part s k)) s t k e is
      (record {
        read = λ same at. cc;
        let_in = λ same at. cc;
        shut = λ same at. cc;
        tryshut = λ same at. cc;
        out = λ same at. cc;
        wwake = λ same at. same;
        unbias = λ same at. cc;
        written = λ same at. cc;
        late = λ same at. cc;
        sleep = λ same at. cc;
        again = λ same at. cc;
        given_up = λ same at. cc;
        opened = λ same at. cc;
        downgraded = λ same at. cc;
      }) refl

  module _ (l : LockId) (v : TaskId) (sleeper : Sleeps s l v) where
    -- who is to wake it does so
    woken : IsReading s t l e → e ≡ wwake_event t l (owner_part s l) → HasStates IsRunning (task_part (state_after s e) v)
    woken is same =
        let at = reading-in s t l e is in
        let named = owner_within s l lawful.shape at.lock in
        let owns = sleeper-owns s made l v lawful sleeper in
        let there : v.0 < length s.threads = subst (λ (o : Option TaskId). IfSome o (λ u. u.0 < length s.threads)) owns named in
        woken-runs s made t e lawful (task-IsNext s t e next) _ v (spins (kind_of (thread_part s t) l)) same refl (slots_there s (wwake_event t l (owner_part s l)) lawful.shape tt tt named) owns (λ lock task. refl)
        (sleeper_waits (thread_part s v) (task_part s v) l sleeper.slept sleeper.lock (sleeper-unblocked s made l v lawful sleeper)
        ∙ ap (λ (known : List Kind). spins (kind_of (record (thread_part s v) { kinds = known }) l)) (alike-kinds s v t lawful.shape there at.at.task))

    -- where the thread that is to do so makes the event
    waker-wakes : IsWaker s l t → HasStates IsRunning (task_part (state_after s e) v)
    waker-wakes waker = either (else-or-reading s made t e lawful next)
      where
        either : IsElse s t e ⊎ ((k : LockId) × IsReading s t k e) → HasStates IsRunning (task_part (state_after s e) v)
        either (inl is) = let at = ap at_readers waker.phase in let never = is.phase in cc
        either (inr (k, is)) =
            let one : k ≡ l = let here = reading-here k is in let about = waker.lock in cc in
            woken (subst (λ (m : LockId). IsReading s t m e) one is) (subst (λ (m : LockId). e ≡ wwake_event t m (owner_part s m)) one (waking k is waker.phase))

    -- the last reader that leaves is to wake it
    last-wakes : IsReading s t l e → e ≡ rout_event t l (reader_part s l) → (reader_part (state_after s e) l).count ≡ 0 → IsWaker (state_after s e) l t
    last-wakes is same none = record { phase = ap (λ (thread : ThreadPart). thread.phase) whole; lock = ap present_lock whole ∙ reading-here l is }
      where
        x : Event
        x = rout_event t l (reader_part s l)

        th : ThreadPart
        th = thread_part s t

        left : reader_part (state_after s x) l ≡ without_reader (reader_part s l)
        left = readers-made (λ m cell. cell ≡ without_reader (reader_part s m)) s x x l l refl refl (readers_room s l lawful.shape (reading-in s t l e is).lock) refl (λ ne. absurd (other_number l.0 l.0 ne refl))

        last : (without_reader (reader_part s l)).count ≡ 0
        last = ap (λ (cell : ReaderCell). cell.count) (sym left) ∙ (ap (λ (y : Event). (reader_part (state_after s y) l).count) (sym same) ∙ none)

        wakes : wakes_writer (without_reader (reader_part s l)) ≡ true
        wakes = λ i. not (sleeper-unbiased s made l v lawful sleeper i) && nat_eq (last i) 0

        whole : thread_part (state_after s e) t ≡ record th { phase = phases.WakeWriter }
        whole =
            thread-own s e x same (reading-in s t l e is).at.task
            ∙ (λ i. answered_with (record th { phase = cond ((ap wakes_writer left ∙ wakes) i) phases.WakeWriter th.phase }) (cond (wakes i) None (Some Done)))

    -- and no other event leaves it with no reader
    emptied : 0 < (reader_part s l).count → (reader_part (state_after s e) l).count ≡ 0 → IsWaker (state_after s e) l t
    emptied some none = either (else-or-reading s made t e lawful next)
      where
        has_reader : (x : Event) → empties x.kind ≡ false → e ≡ x → IsWaker (state_after s e) l t
        has_reader x kept same =
            let still = readers-keep HasReader s e l some (reader-left e.kind e (thread_part s e.task) (around (shared s) (touched e.kind e)) (ap (λ (y : Event). empties y.kind) same ∙ kept)) in
            absurd (omega (arith, still, none))

        of_out : (k : LockId) → IsReading s t k e → e ≡ rout_event t k (reader_part s k) → IsWaker (state_after s e) l t
        of_out k is same =
            let room = readers_room s k lawful.shape (reading-in s t k e is).lock in
            let one : k ≡ l = readers-made (λ m cell. cell.count ≡ 0 → 0 < (reader_part s m).count → k ≡ m) s e _ k l same refl room (λ left was. refl) (λ ne left was. absurd (omega (arith, left, was))) none some in
            last-wakes (subst (λ (m : LockId). IsReading s t m e) one is) (subst (λ (m : LockId). e ≡ rout_event t m (reader_part s m)) one same) none

        either : IsElse s t e ⊎ ((k : LockId) × IsReading s t k e) → IsWaker (state_after s e) l t
        either (inl is) = let kept = readers-kept s e e l refl (else-kept e.kind is.kind) in absurd (omega (arith, some, none, ap (λ (cell : ReaderCell). cell.count) kept))
        either (inr (k, is)) =
            reading-holds (λ phase x. e ≡ x → IsWaker (state_after s e) l t) s t k e is
            (record {
              read = has_reader _ refl;
              let_in = has_reader _ refl;
              shut = has_reader _ refl;
              tryshut = has_reader _ refl;
              out = of_out k is;
              wwake = has_reader _ refl;
              unbias = has_reader _ refl;
              written = has_reader _ refl;
              late = has_reader _ refl;
              sleep = has_reader _ refl;
              again = has_reader _ refl;
              given_up = has_reader _ refl;
              opened = has_reader _ refl;
              downgraded = has_reader _ refl;
            }) refl

    -- so it is to be woken afterwards, too
    still-woken : (task_part (state_after s e) v).state ≢ states.Running → (reader_part (state_after s e) l).count ≡ 0 → (u : TaskId) × IsWaker (state_after s e) l u
    still-woken asleep none = by_count (reader_part s l).count refl
      where
        own : e.task ≡ t
        own = task-IsNext s t e next

        stays : (u : TaskId) → IsWaker s l u → (w : TaskId) × IsWaker (state_after s e) l w
        stays u =
            at_each_task (λ w. IsWaker s l w → (w : TaskId) × IsWaker (state_after s e) l w) t u (λ waker. absurd (asleep (waker-wakes waker)))
            (λ ne waker.
            let kept = thread-other s e u (ap (λ (w : TaskId). nat_eq w.0 u.0) own ∙ ne) in
            (u, record { phase = ap (λ (thread : ThreadPart). thread.phase) kept ∙ waker.phase; lock = ap present_lock kept ∙ waker.lock }))

        by_count : (n : ℕ) → (reader_part s l).count ≡ n → (u : TaskId) × IsWaker (state_after s e) l u
        by_count zero is = let found = lawful.woken v l sleeper.slept sleeper.lock sleeper.asleep is in stays found.0 found.1
        by_count (suc n) is = (t, emptied (omega (arith, is)) none)

-- woken-writer law
pub WokenWriterLaw-next : (s : State) (made : ℕ) (t : TaskId) (e : Event) → IsLawful s made → IsNext s t e → WokenWriterLaw (state_after s e)
WokenWriterLaw-next s made t e lawful next v l =
    at_each_task Woken t v (λ slept lock asleep none. absurd (own-unslept s made t e lawful next l slept lock none)) (λ ne slept lock asleep none.
    let ne_own : nat_eq e.task.0 v.0 ≡ false = ap (λ (w : TaskId). nat_eq w.0 v.0) (task-IsNext s t e next) ∙ ne in
    let kept = sym (thread-other s e v ne_own) in
    let rests : (task_part s v).state ≢ states.Running = λ was. asleep (other-keeps (HasStates IsRunning) s e v ne_own was (running-others e.kind e (thread_part s e.task))) in
    still-woken s made t e lawful next l v (record { slept = ap (λ (thread : ThreadPart). has_slept thread.phase) kept ∙ slept; lock = ap present_lock kept ∙ lock; asleep = rests }) asleep none)
  where
    Woken : TaskId → Type 0
    Woken w =
        has_slept (thread_part (state_after s e) w).phase ≡ true → present_lock (thread_part (state_after s e) w) ≡ Some l → (task_part (state_after s e) w).state ≢ states.Running
        → (reader_part (state_after s e) l).count ≡ 0 → (u : TaskId) × IsWaker (state_after s e) l u
