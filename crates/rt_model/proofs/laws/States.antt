-- A next event keeps the states law.
use Rattle.std.proofs.Common.{◌≡◌, ◌⊎◌, inl, inr, ℕ, ◌<◌, Bool, false, ◌&&◌, ◌||◌, refl, sym, ap, ◌∙◌, subst, Option, Some, None, IfSome, length}
use Rattle.std.specs.Prelude.{is_some, nat_eq}
use Rattle.rt_base.specs.Kind.{spins}
use Rattle.rt_base.specs.declared.id.LockId.{LockId}
use Rattle.rt_base.specs.declared.id.TaskId.{TaskId}
use Rattle.rt_base.specs.declared.reply.Reply.{Reply}
use Rattle.rt_base.specs.declared.state.TaskState.{TaskState}
use Rattle.rt_model.specs.declared.event.Event.{Event}
use Rattle.rt_model.specs.declared.phase.Phase.{Phase}
use Rattle.rt_model.specs.declared.phase.Phase.TheVariants as phases
use Rattle.rt_model.specs.Choice.{present_lock}
use Rattle.rt_model.specs.Parts.{TaskPart, ThreadPart, call_of, kind_of, kind_named}
use Rattle.rt_model.specs.State.{State, shared, task_part, thread_part}
use Rattle.rt_model.specs.events.Readers.{wtake_event, wsleep_event}
use Rattle.rt_model.specs.steps.Task.{leave_queue, state_number}
use Rattle.rt_model.specs.steps.Thread.{answered_with}
use Rattle.rt_model.specs.Effect.{around}
use Rattle.rt_model.specs.Rules.{touched}
use Rattle.rt_model.specs.StateAfter.{effect_in, lock_left, shared_after, thread_after, state_after}
use Rattle.rt_model.specs.laws.Lawful.{IsLawful}
use Rattle.rt_model.specs.laws.States.{has_slept, spins_at, sleeps_spinning, waits_spinning, IsRested, StatesLaw}
use Rattle.rt_model.proofs.Blocked.{changes_own, blocking-other, blocking-kept, take-blocked, wait-blocked}
use Rattle.rt_model.proofs.Inside.{present-at}
use Rattle.rt_model.proofs.Named.{within}
use Rattle.rt_model.proofs.NextEvents.{IsNext, by_own, by_acquire, by_wait, by_release, by_reading, by_walk, by_confirm, by_wakeup, by_setprio, task-IsNext}
use Rattle.rt_model.proofs.events.Acquire.{IsTake, TakesIn, from_slow, from_wait, from_trying, is_fast, is_mark, is_take, is_busy}
use Rattle.rt_model.proofs.events.Readers.{IsReading, reading-in, reading-holds}
use Rattle.rt_model.proofs.events.Wait.{IsWait, IsAgain, is_wait, is_again, is_leave}
use Rattle.rt_model.proofs.events.Release.{is_free, is_give}
use Rattle.rt_model.proofs.events.Walk.{is_walk, is_walkend, is_restart, is_cycle}
use Rattle.rt_model.proofs.events.Wakeups.{IsState, is_state, is_sched, is_wake, is_signal}
use Rattle.rt_model.proofs.Leaves.{IsLeft, by_leave, by_cycle, leave-left, cycle-left, left_step, left-blocked, left-own, left-own_blocked}
use Rattle.rt_model.proofs.Numbers.{other_number, at_each_task}
use Rattle.rt_model.proofs.PartsAfter.{task-keeps, other-keeps, own-made, thread-made, thread-own, thread-other, thread-phase}
use Rattle.rt_model.proofs.Reading.{reading-blocked}
use Rattle.rt_model.proofs.TaskStates.{HasStates, can_sleep, AreRested, rested-states, states-rested, rested-own, rested-others, rested-blocked, rested-again, writer-rested, rested-restored, rested-left, rested-set, queued_waits, sleeper_waits, still_waits, same_waits, waits_there, falls_asleep, IsUp, IsElse, up-as, else-up, else-or-reading, reading-unblocked}
use Rattle.rt_model.proofs.Waiters.{blocking, asks-awaited, start-blocked, slow-blocked}
use Rattle.rt_model.proofs.Within.{task_room}

-- ---- what a thread knows stays

answer-kinds : (thread : ThreadPart) (reply : Option Reply) → (answered_with thread reply).kinds ≡ thread.kinds
answer-kinds thread None = refl
answer-kinds thread (Some answer) = refl

pub kinds-kept : (s : State) (e : Event) (u : TaskId) → e.task.0 < length s.threads → (thread_part (state_after s e) u).kinds ≡ (thread_part s u).kinds
kinds-kept s e u lt = thread-made (λ v thread. thread.kinds ≡ (thread_part s v).kinds) s e e u refl lt own (λ ne. refl)
  where
    own : (thread_after (shared s) (thread_part s e.task) e).kinds ≡ (thread_part s e.task).kinds
    own =
        let th = thread_part s e.task in
        answer-kinds _ e.reply ∙ ap (λ (thread : ThreadPart). thread.kinds) (thread-phase e.kind e th (around (shared s) (touched e.kind e)) (around (shared_after (shared s) th e) (touched e.kind e)) th)

-- ---- a task that leaves a queue is in that one, where it is in one

-- it is blocked on this lock, or on none
abbrev IsOnly : LockId → Option (LockId × ℕ) → Type 0
IsOnly l blocked = IfSome blocked (λ at. at.0 ≡ l)

only-this : (l : LockId) (blocked : Option (LockId × ℕ)) → blocking blocked ≡ Some l → IsOnly l blocked
only-this l None is = tt
only-this l (Some at) is = cc

only-none : (l : LockId) (blocked : Option (LockId × ℕ)) → blocked ≡ None → IsOnly l blocked
only-none l None is = tt
only-none l (Some at) is = cc

waits_only : (thread : ThreadPart) (l : LockId) (blocked : Option (LockId × ℕ)) → IsOnly l blocked → spins_at thread blocked ≡ (is_some blocked && spins (kind_of thread l))
waits_only thread l None only = refl
waits_only thread l (Some at) only = ap (λ (m : LockId). spins (kind_of thread m)) only

-- ---- the law

module _ (s : State) (made : ℕ) (t : TaskId) (e : Event) (lawful : IsLawful s made) (next : IsNext s t e) where
  -- whether a task waits for a spinning kind, before and after
  abbrev before : TaskId → Bool
  before u = waits_spinning (thread_part s u) (task_part s u)

  abbrev after : TaskId → Bool
  after u = waits_spinning (thread_part (state_after s e) u) (task_part (state_after s e) u)

  was : (u : TaskId) → HasStates (AreRested (before u)) (task_part s u)
  was u = rested-states (before u) (task_part s u) (lawful.states u)

  -- so its own task, where that is known
  own-was : (b : Bool) → before t ≡ b → HasStates (AreRested b) (task_part s t)
  own-was b is = subst (λ (c : Bool). HasStates (AreRested c) (task_part s t)) is (was t)

  -- where it doesn't sleep for readers, that is told by what it is blocked on
  up-before : IsUp s t e → before t ≡ spins_at (thread_part s t) (task_part s t).blocked
  up-before up = queued_waits (thread_part s t) (task_part s t) up.before

  up-after : has_slept (thread_part (state_after s e) t).phase ≡ false → after t ≡ spins_at (thread_part (state_after s e) t) (task_part (state_after s e) t).blocked
  up-after up = queued_waits (thread_part (state_after s e) t) (task_part (state_after s e) t) up

  unblocked-was : IsUp s t e → (task_part s t).blocked ≡ None → HasStates (AreRested false) (task_part s t)
  unblocked-was up none = own-was false (up-before up ∙ ap (spins_at (thread_part s t)) none)

  known : (u : TaskId) → (thread_part (state_after s e) u).kinds ≡ (thread_part s u).kinds
  known u = kinds-kept s e u (within s made t e lawful next).task

  abbrev Rests : TaskId → Type 0
  Rests u = IsRested (after u) (task_part (state_after s e) u)

  rests : (u : TaskId) (b : Bool) → after u ≡ b → HasStates (AreRested b) (task_part (state_after s e) u) → Rests u
  rests u b is has = subst (λ (c : Bool). IsRested c (task_part (state_after s e) u)) (sym is) (states-rested b (task_part (state_after s e) u) has)

  -- a task that stays blocked as it is
  still : IsUp s t e → blocking (task_part (state_after s e) t).blocked ≡ blocking (task_part s t).blocked → after t ≡ before t
  still up blocked = up-after up.after ∙ (still_waits (thread_part s t) (thread_part (state_after s e) t) (task_part s t).blocked (task_part (state_after s e) t).blocked (known t) blocked ∙ sym (up-before up))

  -- one that isn't blocked
  rests-unblocked : has_slept (thread_part (state_after s e) t).phase ≡ false → (task_part (state_after s e) t).blocked ≡ None → HasStates (AreRested false) (task_part (state_after s e) t) → Rests t
  rests-unblocked up none has = rests t false (up-after up ∙ ap (spins_at (thread_part (state_after s e) t)) none) has

  -- every other task
  others : (u : TaskId) → nat_eq t.0 u.0 ≡ false → Rests u
  others u ne =
      let ne_own : nat_eq e.task.0 u.0 ≡ false = ap (λ (v : TaskId). nat_eq v.0 u.0) (task-IsNext s t e next) ∙ ne in
      rests u (before u) (same_waits (thread_part s u) (thread_part (state_after s e) u) (task_part s u) (task_part (state_after s e) u) (thread-other s e u ne_own) (blocking-other s e u ne_own))
      (other-keeps (HasStates (AreRested (before u))) s e u ne_own (was u) (rested-others (before u) e.kind e (thread_part s e.task)))

  -- its own where it can't be left sleeping
  own-kept : (x : Event) → e ≡ x → can_sleep x.kind ≡ false → changes_own x.kind ≡ false → IsUp s t e → Rests t
  own-kept x is awake stays up =
      rests t (before t) (still up (blocking-kept s e x t is stays))
      (task-keeps (HasStates (AreRested (before t))) s e t (was t) (rested-own (before t) e.kind e (thread_part s e.task) (ap (λ (y : Event). can_sleep y.kind) is ∙ awake))
      (rested-others (before t) e.kind e (thread_part s e.task)))

  -- and where it can: it is as the effect says
  own-left : (x : Event) (b : Bool) → e ≡ x → (touched x.kind x).own ≡ Some t
      → HasStates (AreRested b) ((effect_in (shared s) (thread_part s x.task) x).own (lock_left (shared s) (thread_part s x.task) x) (task_part s t)) → HasStates (AreRested b) (task_part (state_after s e) t)
  own-left x b is named left =
      let th = thread_part s x.task in
      let lt : t.0 < length s.threads = subst (λ (v : TaskId). v.0 < length s.threads) (task-IsNext s t e next) (within s made t e lawful next).task in
      own-made (λ v task. HasStates (AreRested b) task) s e x t t is named (task_room s t lawful.shape lt) (rested-others b x.kind x th (around (shared s) (touched x.kind x)) (lock_left (shared s) th x)) left
      (λ ne. absurd (other_number t.0 t.0 ne refl))

  -- it comes into a queue
  own-wait : (l : LockId) → IsWait s t l e → IsUp s t e → Rests t
  own-wait l is up =
      let spinning : Bool = spins (kind_of (thread_part s t) l) in
      let blocked = wait-blocked s t e l lawful.shape is in
      rests t spinning (up-after up.after ∙ waits_there (thread_part (state_after s e) t) (thread_part s t) (task_part (state_after s e) t).blocked l (known t) (ap blocking blocked))
      (own-left _ spinning is.event refl (rested-blocked spinning (call_of (thread_part s t)) (task_part s t) (unblocked-was up (slow-blocked s made t lawful is.at.call is.at.at))))

  -- it sleeps there again
  own-again : (l : LockId) → IsAgain s t l e → IsUp s t e → Rests t
  own-again l is up =
      let spinning : Bool = spins (kind_of (thread_part s t) l) in
      let waits : before t ≡ spinning = up-before up ∙ waits_there (thread_part s t) (thread_part s t) (task_part s t).blocked l refl (asks-awaited s made t lawful phases.Wait l is.at) in
      rests t spinning (still up (blocking-kept s e _ t is.event refl) ∙ waits) (own-left _ spinning is.event refl (rested-again spinning (call_of (thread_part s t)) (task_part s t) (own-was spinning waits)))

  -- it leaves it
  leaving : (l : LockId) → IsUp s t e → IsOnly l (task_part s t).blocked → HasStates (AreRested false) (leave_queue (spins (kind_of (thread_part s t) l)) (task_part s t))
  leaving l up only =
      let spinning : Bool = spins (kind_of (thread_part s t) l) in
      rested-left spinning (task_part s t) (own-was (is_some (task_part s t).blocked && spinning) (up-before up ∙ waits_only (thread_part s t) l (task_part s t).blocked only))

  take-only : (l : LockId) → TakesIn s t l → IsOnly l (task_part s t).blocked
  take-only l (from_slow is) = only-none l (task_part s t).blocked (slow-blocked s made t lawful is.call is.at)
  take-only l (from_wait is awake) = only-this l (task_part s t).blocked (asks-awaited s made t lawful phases.Wait l is)
  take-only l (from_trying is) = only-none l (task_part s t).blocked (start-blocked s made t lawful is.call is.at)

  own-take : (l : LockId) → IsTake s t l e → IsUp s t e → Rests t
  own-take l is up = rests-unblocked up.after (take-blocked s t e l lawful.shape is) (own-left _ false is.event refl (leaving l up (take-only l is.how)))

  own-leaves : (l : LockId) → IsLeft s t l e → IsUp s t e → Rests t
  own-leaves l is up =
      let blocked = left-blocked s made t l e lawful is in
      rests-unblocked up.after (left-own_blocked s made t l e lawful is)
      (subst (HasStates (AreRested false)) (sym (left-own s made t l e lawful is)) (of_kind is (leaving l up (only-this l (task_part s t).blocked (ap blocking blocked.1)))))
    where
      spinning : Bool
      spinning = spins (kind_of (thread_part s t) l)

      of_kind : (i : IsLeft s t l e) → HasStates (AreRested false) (leave_queue spinning (task_part s t)) → HasStates (AreRested false) (left_step i spinning (task_part s t))
      of_kind (by_leave leaves) has = has
      of_kind (by_cycle path o m rest tells round owned) has = has

  -- it sets its state, and is blocked on nothing
  own-sets : (state : TaskState) → IsState s t state e → IsUp s t e → Rests t
  own-sets state is up =
      let unblocked = start-blocked s made t lawful _ is.at in
      rests t false (still up (blocking-kept s e _ t is.event refl) ∙ (up-before up ∙ ap (spins_at (thread_part s t)) unblocked))
      (own-left _ false is.event refl (rested-set (state_number state) (task_part s t) (unblocked-was up unblocked)))

  -- ---- its own at the reader part of lock l

  module _ (l : LockId) (is : IsReading s t l e) where
    abbrev spinning : Bool
    spinning = spins (kind_of (thread_part s t) l)

    there : t.0 < length s.threads
    there = (reading-in s t l e is).at.task

    here : present_lock (thread_part s t) ≡ Some l
    here = let at = reading-in s t l e is in present-at s t at.phase at.call (Some l) at.at at.about

    unblocked : (task_part s t).blocked ≡ None
    unblocked = reading-unblocked s made t l e lawful is

    -- before it a writer that sleeps waits for the lock's kind, and else its task doesn't wait
    waited : before t ≡ (has_slept (thread_part s t).phase && spinning)
    waited = λ i. spins_at (thread_part s t) (unblocked i) || sleeps_spinning (thread_part s t).phase (kind_named (thread_part s t) (here i))

    -- it sleeps, maybe again
    sleeps : e ≡ wsleep_event t l → Rests t
    sleeps same =
        let task : TaskPart = task_part (state_after s e) t in
        let none : task.blocked ≡ None = reading-blocked s t l e is t ∙ unblocked in
        rests t spinning
        (ap (λ (thread : ThreadPart). waits_spinning thread task) (thread-own s e _ same there) ∙ sleeper_waits (record (thread_part s t) { phase = phases.WWait }) task l refl here none)
        (own-left _ spinning same refl (writer-rested spinning (call_of (thread_part s t)) (thread_part s t).phase (task_part s t) (own-was _ waited)))

    -- it gets in after a sleep
    wakes : e ≡ wtake_event t l (Some t) → (thread_part s t).phase ≡ phases.WWait → Rests t
    wakes same at =
        rests-unblocked (ap (λ (thread : ThreadPart). has_slept thread.phase) (thread-own s e _ same there)) (reading-blocked s t l e is t ∙ unblocked)
        (own-left _ false same refl (rested-restored spinning (task_part s t) (own-was spinning (waited ∙ ap (λ (p : Phase). has_slept p && spinning) at))))

    -- or without one
    gets_in : e ≡ wtake_event t l None → (thread_part s t).phase ≡ phases.WTry → Rests t
    gets_in same at =
        rests t (before t) (still (up-as s made t e lawful next _ same refl (ap has_slept at)) (blocking-kept s e _ t same refl))
        (subst (λ (y : Event). HasStates (AreRested (before t)) (task_part (state_after s y) t)) (sym same) (was t))

    -- any other event at a reader part leaves it as it was
    else_kept : (phase : Phase) (x : Event) → has_slept phase ≡ false → falls_asleep x.kind ≡ false → can_sleep x.kind ≡ false → changes_own x.kind ≡ false → e ≡ x → (thread_part s t).phase ≡ phase → Rests t
    else_kept phase x up stays awake unmoved same at = own-kept x same awake unmoved (up-as s made t e lawful next x same stays (ap has_slept at ∙ up))

    own-reads : Rests t
    own-reads =
        reading-holds (λ phase x. e ≡ x → (thread_part s t).phase ≡ phase → Rests t) s t l e is
        (record {
          read = else_kept _ _ refl refl refl refl;
          let_in = else_kept _ _ refl refl refl refl;
          shut = else_kept _ _ refl refl refl refl;
          tryshut = else_kept _ _ refl refl refl refl;
          out = else_kept _ _ refl refl refl refl;
          wwake = else_kept _ _ refl refl refl refl;
          unbias = else_kept _ _ refl refl refl refl;
          written = gets_in;
          late = wakes;
          sleep = λ same at. sleeps same;
          again = λ same at. sleeps same;
          given_up = else_kept _ _ refl refl refl refl;
          opened = else_kept _ _ refl refl refl refl;
          downgraded = else_kept _ _ refl refl refl refl;
        }) refl refl

  -- ---- its own, whatever it is

  own-else : IsNext s t e → IsUp s t e → Rests t
  own-else (by_own call answer is) = own-kept _ is.event refl refl
  own-else (by_acquire l (is_fast is)) = own-kept _ is.event refl refl
  own-else (by_acquire l (is_mark is)) = own-kept _ is.event refl refl
  own-else (by_acquire l (is_take is)) = own-take l is
  own-else (by_acquire l (is_busy is)) = own-kept _ is.event refl refl
  own-else (by_wait l (is_wait is)) = own-wait l is
  own-else (by_wait l (is_again is)) = own-again l is
  own-else (by_wait l (is_leave is)) = own-leaves l (leave-left s t l e is)
  own-else (by_release l (is_free is)) = own-kept _ is.event refl refl
  own-else (by_release l (is_give is)) = own-kept _ is.event refl refl
  own-else (by_reading l is) = λ up. own-reads l is
  own-else (by_walk route u (is_walk l key is)) = own-kept _ is.event refl refl
  own-else (by_walk route u (is_walkend is)) = own-kept _ is.event refl refl
  own-else (by_confirm l path (is_restart link is)) = own-kept _ is.event refl refl
  own-else (by_confirm l path (is_cycle is)) = own-leaves l (cycle-left s made t l path e lawful is)
  own-else (by_wakeup (is_state state is)) = own-sets state is
  own-else (by_wakeup (is_sched is)) = own-kept _ is.event refl refl
  own-else (by_wakeup (is_wake u is)) = own-kept _ is.event refl refl
  own-else (by_wakeup (is_signal u is)) = own-kept _ is.event refl refl
  own-else (by_setprio u prio is) = own-kept _ is.event refl refl

  own-rests : Rests t
  own-rests = either (else-or-reading s made t e lawful next)
    where
      either : IsElse s t e ⊎ ((l : LockId) × IsReading s t l e) → Rests t
      either (inl is) = own-else next (else-up s made t e lawful next is)
      either (inr (l, is)) = own-reads l is

-- states law
pub StatesLaw-next : (s : State) (made : ℕ) (t : TaskId) (e : Event) → IsLawful s made → IsNext s t e → StatesLaw (state_after s e)
StatesLaw-next s made t e lawful next u =
    let after = state_after s e in
    at_each_task (λ v. IsRested (waits_spinning (thread_part after v) (task_part after v)) (task_part after v)) t u (own-rests s made t e lawful next) (others s made t e lawful next u)
