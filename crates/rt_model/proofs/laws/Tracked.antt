-- What a next event makes of what is seen of a task, and of its two fields, is what the flat wakeup machine makes of them.
use Rattle.std.proofs.Common.{◌≡◌, ◌≢◌, ◌⊎◌, inl, inr, ℕ, zero, suc, ◌<◌, Bool, true, false, cond, not, ◌||◌, List, [], ◌∷◌, length, map, refl, sym, ap, ◌∙◌, subst, Option, Some, None, unwrap_or, option_map}
use Rattle.std.specs.Prelude.{is_some, nat_eq, slice_get}
use Rattle.std.proofs.lemmas.Bool.{cond-true, cond-false, or_from, or_left, or_right}
use Rattle.rt_base.specs.Kind.{spins}
use Rattle.rt_base.specs.Script.{Script, TaskLine, LockLine, task_line, lock_line}
use Rattle.rt_base.specs.declared.call.Call.{Call}
use Rattle.rt_base.specs.declared.call.Call.TheVariants as calls
use Rattle.rt_base.specs.declared.id.Cpu.{Cpu}
use Rattle.rt_base.specs.declared.id.LockId.{LockId}
use Rattle.rt_base.specs.declared.id.TaskId.{TaskId}
use Rattle.rt_base.specs.declared.kind.Kind.{Kind}
use Rattle.rt_base.specs.declared.kind.Kind.TheVariants.{Mutex}
use Rattle.rt_base.specs.declared.reply.Reply.{Reply}
use Rattle.rt_base.specs.declared.state.TaskState.{TaskState}
use Rattle.rt_base.specs.declared.state.TaskState.TheVariants as states
use Rattle.rt_model.specs.declared.event.Event.{Event}
use Rattle.rt_model.specs.declared.event_kind.EventKind.{EventKind}
use Rattle.rt_model.specs.declared.event_kind.EventKind.TheVariants as kinds
use Rattle.rt_model.specs.declared.phase.Phase.{Phase}
use Rattle.rt_model.specs.declared.phase.Phase.TheVariants as phases
use Rattle.rt_model.specs.declared.phase.Route.{Route}
use Rattle.rt_model.specs.Choice.{bare, called_lock}
use Rattle.rt_model.specs.Parts.{OwnerPart, TaskPart, ThreadPart, call_of, kind_of, kind_named, made_on}
use Rattle.rt_model.specs.Rows.{top_key}
use Rattle.rt_model.specs.State.{State, shared, kinds_in, no_thread, owner_part, task_part, thread_part}
use Rattle.rt_model.specs.events.Readers.{wtake_event, wsleep_event, wwake_event, writer_rests}
use Rattle.rt_model.specs.events.Release.{give_event}
use Rattle.rt_model.specs.Effect.{Around, around}
use Rattle.rt_model.specs.Rules.{touched}
use Rattle.rt_model.specs.StateAfter.{effect_in, lock_left, shared_after, state_after}
use Rattle.rt_model.specs.steps.Lock.{taken_by}
use Rattle.rt_model.specs.steps.Task.{state_number, state_numbered, sleep_of, rest_of, restored, leave_queue, lock_woken}
use Rattle.rt_model.specs.steps.Thread.{answered_with}
use Rattle.rt_model.specs.laws.Flat.{Seen, count_answer, waiting_after, seen_after, call_at, Flat, flat_woken, flat_woken_by, is_ordinary, flat_own, is_wakeup, flat_after, Tracked, track_event}
use Rattle.rt_model.specs.laws.Lawful.{IsLawful}
use Rattle.rt_model.specs.laws.Owners.{owned_by}
use Rattle.rt_model.specs.laws.Queued.{awaited_in}
use Rattle.rt_model.specs.laws.Shape.{IsOf}
use Rattle.rt_model.specs.laws.States.{IsRested, has_slept, sleeps_spinning, spins_at, waits_spinning}
use Rattle.rt_model.proofs.Blocked.{changes_own, blocked-kept, blocking-kept, blocking-other, take-blocked, wait-blocked}
use Rattle.rt_model.proofs.Calling.{IsIn}
use Rattle.rt_model.proofs.Inside.{present-at}
use Rattle.rt_model.proofs.Leaves.{IsLeft, by_leave, by_cycle, left-is, leave-left, cycle-left, left-own, left-own_blocked, left-blocked}
use Rattle.rt_model.proofs.Links.{slots_there, link-slots}
use Rattle.rt_model.proofs.Lists.{All-default}
use Rattle.rt_model.proofs.Named.{top_within}
use Rattle.rt_model.proofs.NextEvents.{IsNext, by_own, by_acquire, by_wait, by_release, by_reading, by_walk, by_confirm, by_wakeup, by_setprio}
use Rattle.rt_model.proofs.Numbers.{number_itself, other_number, at_each_task}
use Rattle.rt_model.proofs.PartsAfter.{SlotsThere, task-keeps, other-keeps, own-made, other-made, slots-made, thread-own, thread-other, thread-phase}
use Rattle.rt_model.proofs.TaskStates.{queued_waits, waits_as, rested-states, rested-set, falls_asleep, IsUp, IsElse, up-as, else-up, else-or-reading}
use Rattle.rt_model.proofs.Waiters.{blocking, asks-awaited, idle-blocked, start-blocked, slow-blocked, queued-awake}
use Rattle.rt_model.proofs.Within.{task_room, owner_within, rows_within}
use Rattle.rt_model.proofs.events.Acquire.{IsTake, TakesIn, from_slow, from_wait, from_trying, is_fast, is_mark, is_take, is_busy}
use Rattle.rt_model.proofs.events.Readers.{IsMade, IsReading, is_read, is_tryread, is_let_in, is_shut, is_tryshut, is_out, is_wwake, is_unbias, is_in, is_sleep, is_given_up, is_in_late, is_sleep_again, is_opened, is_downgraded, reading-holds}
use Rattle.rt_model.proofs.events.Wait.{IsWait, IsAgain, is_wait, is_again, is_leave}
use Rattle.rt_model.proofs.events.Release.{IsGive, is_free, is_give}
use Rattle.rt_model.proofs.events.Wakeups.{IsState, IsSched, is_state, is_sched, is_wake, is_signal}
use Rattle.rt_model.proofs.events.Walk.{IsWalk, is_walk, is_walkend, is_restart, is_cycle}
use Rattle.rt_model.proofs.laws.Flat.{flat_at, SavesNone, rested-saves, woken_by-fields, lock_woken-fields, flat_asleep, flat_restored, put_to_rest-fields, put_back-fields, restored-fields, leave_queue-fields, set-fields, KeepsStates, KeepsStates-itself, flat-kept, saves-kept, with_top-keeps, sets_own, wakes_other, keeps-own, keeps-owner, keeps-other, keeps-others, chosen_same, after-quiet, after-other, after-own, after-lock_woken, after-wakeup, flat-others}

-- ---- a state of the script

-- an element, or what stands for one that isn't there, seen by f
read-seen : {X Y : Type 0} (f : X → Y) (xs : List X) (i : ℕ) (d : X) → unwrap_or (slice_get (map f xs) i) (f d) ≡ f (unwrap_or (slice_get xs i) d)
read-seen f [] i d = refl
read-seen f (x ∷ xs) zero d = refl
read-seen f (x ∷ xs) (suc i) d = read-seen f xs i d

-- a call sleeps in one state, wherever it is made
made-sleeps : (cpu : Cpu) (call : Option Call) → sleep_of (option_map (made_on cpu) call) ≡ sleep_of call
made-sleeps cpu None = refl
made-sleeps cpu (Some (calls.Local l)) = refl
made-sleeps cpu (Some (calls.Unlocal l)) = refl
made-sleeps cpu (Some _) = refl

module _ (script : Script) (s : State) (scripted : IsOf script s) (t : TaskId) where
  -- its threads know the kinds of the script's locks
  kind-of : (l : LockId) → t.0 < length s.threads → kind_of (thread_part s t) l ≡ (lock_line script l).kind
  kind-of l lt =
      ap (λ (known : List Kind). unwrap_or (slice_get known l.0) Mutex) (All-default (λ (thread : ThreadPart). thread.kinds ≡ kinds_in script) s.threads t.0 _ scripted.kinds lt)
      ∙ read-seen (λ (line : LockLine). line.kind) script.locks l.0 _

  -- and have the calls of the script's tasks
  calls-of : (thread_part s t).calls ≡ (task_line script t).calls
  calls-of =
      sym (read-seen (λ (thread : ThreadPart). thread.calls) s.threads t.0 no_thread)
      ∙ (ap (λ (all : List (List Call)). unwrap_or (slice_get all t.0) []) scripted.calls ∙ read-seen (λ (line : TaskLine). line.calls) script.tasks t.0 _)

-- a task waits where it is blocked, or sleeps for readers
abbrev waits_in : ThreadPart → TaskPart → Bool
waits_in thread task = is_some task.blocked || has_slept thread.phase

-- where a task's events have brought it, and its two fields
abbrev pub place_at : State → TaskId → Seen
place_at s t = record { answered = (thread_part s t).answered; waiting = waits_in (thread_part s t) (task_part s t) }

abbrev pub tracked_at : State → TaskId → Tracked
tracked_at s t = record { seen = place_at s t; flat = flat_at (task_part s t) }

-- ---- who sleeps for readers

-- an event of this kind is a writer's that gets in, or goes to sleep
abbrev of_sleeper : EventKind → Bool
of_sleeper kinds.WTake = true
of_sleeper kinds.WSleep = true
of_sleeper _ = false

stays : (kind : EventKind) → of_sleeper kind ≡ false → falls_asleep kind ≡ false
stays kinds.WSleep quiet = cc
stays _ quiet = refl

-- ---- which event changes a task's states

-- a wakeup or a signal
abbrev pub targeted : TaskId → TaskId → ℕ → Option Reply → Event
targeted t u n reply = record (bare t kinds.Wake) { other = Some u; value = n; reply = reply }

data Changes (s : State) (t : TaskId) (e : Event) : Type 0 where
  nothing : sets_own e.kind ≡ false → wakes_other e.kind ≡ false → e.woken ≡ None → Changes s t e
  waits : (l : LockId) → IsWait s t l e → Changes s t e
  sleeps_again : (l : LockId) → IsAgain s t l e → Changes s t e
  takes : (l : LockId) → IsTake s t l e → Changes s t e
  leaves : (l : LockId) → IsLeft s t l e → Changes s t e
  sets : (state : TaskState) → IsState s t state e → Changes s t e
  schedules : IsSched s t e → Changes s t e
  wakes : (u : TaskId) (n : ℕ) (reply : Option Reply) → u.0 < length s.threads → e ≡ targeted t u n reply → Changes s t e
  gives : (l : LockId) → IsGive s t l e → Changes s t e
  walks : (route : Route) (u : TaskId) (l : LockId) (key : ℕ) → IsWalk s t route u l key e → Changes s t e
  writes : (l : LockId) (call : Call) → IsMade s t l phases.WTry call (wtake_event t l None) e → Changes s t e
  writes_late : (l : LockId) → IsMade s t l phases.WWait (calls.Write l) (wtake_event t l (Some t)) e → Changes s t e
  sleeps_for : (l : LockId) → IsMade s t l phases.WTry (calls.Write l) (wsleep_event t l) e → Changes s t e
  sleeps_on : (l : LockId) → IsMade s t l phases.WWait (calls.Write l) (wsleep_event t l) e → (task_part s t).state ≡ states.Running → Changes s t e
  wakes_sleeper : (l : LockId) → IsMade s t l phases.WakeWriter (calls.Unread l) (wwake_event t l (owner_part s l)) e → Changes s t e

changes_nothing : (s : State) (t : TaskId) (e x : Event) → e ≡ x → sets_own x.kind ≡ false → wakes_other x.kind ≡ false → x.woken ≡ None → Changes s t e
changes_nothing s t e x is own others none = nothing (ap (λ (y : Event). sets_own y.kind) is ∙ own) (ap (λ (y : Event). wakes_other y.kind) is ∙ others) (ap (λ (y : Event). y.woken) is ∙ none)

changes : (s : State) (made : ℕ) (t : TaskId) (e : Event) → IsLawful s made → IsNext s t e → Changes s t e
changes s made t e lawful (by_own call answer is) = changes_nothing s t e _ is.event refl refl refl
changes s made t e lawful (by_acquire l (is_fast is)) = changes_nothing s t e _ is.event refl refl refl
changes s made t e lawful (by_acquire l (is_mark is)) = changes_nothing s t e _ is.event refl refl refl
changes s made t e lawful (by_acquire l (is_take is)) = takes l is
changes s made t e lawful (by_acquire l (is_busy is)) = changes_nothing s t e _ is.event refl refl refl
changes s made t e lawful (by_wait l (is_wait is)) = waits l is
changes s made t e lawful (by_wait l (is_again is)) = sleeps_again l is
changes s made t e lawful (by_wait l (is_leave is)) = leaves l (leave-left s t l e is)
changes s made t e lawful (by_release l (is_free is)) = changes_nothing s t e _ is.event refl refl refl
changes s made t e lawful (by_release l (is_give is)) = gives l is
changes s made t e lawful (by_walk route u (is_walk l key is)) = walks route u l key is
changes s made t e lawful (by_walk route u (is_walkend is)) = changes_nothing s t e _ is.event refl refl refl
changes s made t e lawful (by_confirm l path (is_restart link is)) = changes_nothing s t e _ is.event refl refl refl
changes s made t e lawful (by_confirm l path (is_cycle is)) = leaves l (cycle-left s made t l path e lawful is)
changes s made t e lawful (by_wakeup (is_state state is)) = sets state is
changes s made t e lawful (by_wakeup (is_sched is)) = schedules is
changes s made t e lawful (by_wakeup (is_wake u is)) = wakes u 0 _ is.at.served is.event
changes s made t e lawful (by_wakeup (is_signal u is)) = wakes u 1 _ is.at.served is.event
changes s made t e lawful (by_setprio u prio is) = changes_nothing s t e _ is.event refl refl refl
changes s made t e lawful (by_reading l (is_in call by is can)) = writes l call is
changes s made t e lawful (by_reading l (is_in_late is runs can)) = writes_late l is
changes s made t e lawful (by_reading l (is_sleep is cannot)) = sleeps_for l is
changes s made t e lawful (by_reading l (is_sleep_again is runs cannot)) = sleeps_on l is runs
changes s made t e lawful (by_reading l (is_wwake is)) = wakes_sleeper l is
changes s made t e lawful (by_reading l (is_read is unheld can)) = changes_nothing s t e _ is.event refl refl refl
changes s made t e lawful (by_reading l (is_tryread is set)) = changes_nothing s t e _ is.event refl refl refl
changes s made t e lawful (by_reading l (is_let_in is)) = changes_nothing s t e _ is.event refl refl refl
changes s made t e lawful (by_reading l (is_shut is unheld cannot)) = changes_nothing s t e _ is.event refl refl refl
changes s made t e lawful (by_reading l (is_tryshut is off)) = changes_nothing s t e _ is.event refl refl refl
changes s made t e lawful (by_reading l (is_out is held)) = changes_nothing s t e _ is.event refl refl refl
changes s made t e lawful (by_reading l (is_unbias call by is)) = changes_nothing s t e _ is.event refl refl refl
changes s made t e lawful (by_reading l (is_given_up is cannot)) = changes_nothing s t e _ is.event refl refl refl
changes s made t e lawful (by_reading l (is_opened is held)) = changes_nothing s t e _ is.event refl refl refl
changes s made t e lawful (by_reading l (is_downgraded is held)) = changes_nothing s t e _ is.event refl refl refl

-- ---- where the event brings a task

answer-counts : (thread : ThreadPart) (reply : Option Reply) → (answered_with thread reply).answered ≡ count_answer thread.answered reply
answer-counts thread None = refl
answer-counts thread (Some answer) = refl

own-answered : (s : State) (e : Event) → e.task.0 < length s.threads → (thread_part (state_after s e) e.task).answered ≡ count_answer (thread_part s e.task).answered e.reply
own-answered s e lt =
    let th = thread_part s e.task in
    let left = around (shared_after (shared s) th e) (touched e.kind e) in
    let moved = thread-phase e.kind e th (around (shared s) (touched e.kind e)) left th in
    ap (λ (thread : ThreadPart). thread.answered) (thread-own s e e refl lt)
    ∙ (answer-counts ((effect_in (shared s) th e).thread left th) e.reply ∙ ap (λ (thread : ThreadPart). count_answer thread.answered e.reply) moved)

is_queued : (blocked : Option (LockId × ℕ)) → is_some (blocking blocked) ≡ is_some blocked
is_queued None = refl
is_queued (Some at) = refl

queued-same : (before after : Option (LockId × ℕ)) → blocking after ≡ blocking before → is_some after ≡ is_some before
queued-same before after is = sym (is_queued after) ∙ (ap (λ (l : Option LockId). is_some l) is ∙ is_queued before)

unmoved : (kind : EventKind) → sets_own kind ≡ false → changes_own kind ≡ false
unmoved kinds.Take is = cc
unmoved kinds.Wait is = cc
unmoved kinds.Leave is = cc
unmoved kinds.Cycle is = cc
unmoved _ is = refl

unslept : (kind : EventKind) → sets_own kind ≡ false → of_sleeper kind ≡ false
unslept kinds.WTake is = cc
unslept kinds.WSleep is = cc
unslept _ is = refl

waiting-kept : (kind : EventKind) (waiting : Bool) → changes_own kind ≡ false → of_sleeper kind ≡ false → waiting_after kind waiting ≡ waiting
waiting-kept kinds.Take waiting kept quiet = cc
waiting-kept kinds.Wait waiting kept quiet = cc
waiting-kept kinds.Leave waiting kept quiet = cc
waiting-kept kinds.Cycle waiting kept quiet = cc
waiting-kept kinds.WTake waiting kept quiet = cc
waiting-kept kinds.WSleep waiting kept quiet = cc
waiting-kept _ waiting kept quiet = refl

-- what is seen of the event's own task, and of every other
module _ (s : State) (made : ℕ) (e : Event) (lawful : IsLawful s made) (next : IsNext s e.task e) (there : e.task.0 < length s.threads) where
  abbrev waited : Bool
  waited = waits_in (thread_part s e.task) (task_part s e.task)

  abbrev waits_then : Bool
  waits_then = waits_in (thread_part (state_after s e) e.task) (task_part (state_after s e) e.task)

  -- the task of an event of another kind sleeps for readers neither before nor after
  up : of_sleeper e.kind ≡ false → IsUp s e.task e
  up quiet = either (else-or-reading s made e.task e lawful next)
    where
      either : IsElse s e.task e ⊎ ((l : LockId) × IsReading s e.task l e) → IsUp s e.task e
      either (inl is) = else-up s made e.task e lawful next is
      either (inr (l, is)) =
          up-as s made e.task e lawful next e refl (stays e.kind quiet)
          (reading-holds (λ phase x. of_sleeper x.kind ≡ false → has_slept phase ≡ false) s e.task l e is
          (record {
            read = λ k. refl;
            let_in = λ k. refl;
            shut = λ k. refl;
            tryshut = λ k. refl;
            out = λ k. refl;
            wwake = λ k. refl;
            unbias = λ k. refl;
            written = λ k. cc;
            late = λ k. cc;
            sleep = λ k. cc;
            again = λ k. cc;
            given_up = λ k. refl;
            opened = λ k. refl;
            downgraded = λ k. refl;
          }) quiet)

  still_waits : changes_own e.kind ≡ false → of_sleeper e.kind ≡ false → waiting_after e.kind waited ≡ waits_then
  still_waits kept quiet =
      let awake = up quiet in
      let queued = queued-same (task_part s e.task).blocked (task_part (state_after s e) e.task).blocked (blocking-kept s e e e.task refl kept) in
      waiting-kept e.kind waited kept quiet ∙ λ i. sym queued i || (awake.before ∙ sym awake.after) i

  -- of one that comes about as x
  waits_by : (x : Event) → e ≡ x → changes_own x.kind ≡ false → of_sleeper x.kind ≡ false → waiting_after e.kind waited ≡ waits_then
  waits_by x is kept quiet = still_waits (ap (λ (y : Event). changes_own y.kind) is ∙ kept) (ap (λ (y : Event). of_sleeper y.kind) is ∙ quiet)

  waits_now : (x : Event) → e ≡ x → waiting_after x.kind waited ≡ waits_then → waiting_after e.kind waited ≡ waits_then
  waits_now x is same = ap (λ (y : Event). waiting_after y.kind waited) is ∙ same

  -- where it isn't blocked then, and doesn't sleep for readers
  waits_no_more : (x : Event) → e ≡ x → waiting_after x.kind waited ≡ false → (task_part (state_after s e) e.task).blocked ≡ None → has_slept (thread_part (state_after s e) e.task).phase ≡ false → waiting_after e.kind waited ≡ waits_then
  waits_no_more x is ends none up = waits_now x is (ends ∙ sym (or_from (is_some (task_part (state_after s e) e.task).blocked) _ (ap (λ (b : Option (LockId × ℕ)). is_some b) none) up))

  left_queue_then : (x : Event) → e ≡ x → waiting_after x.kind waited ≡ false → of_sleeper x.kind ≡ false → (task_part (state_after s e) e.task).blocked ≡ None → waiting_after e.kind waited ≡ waits_then
  left_queue_then x is ends other none =
      waits_no_more x is ends none (up (ap (λ (y : Event). of_sleeper y.kind) is ∙ other)).after

  -- a writer that gets in is blocked on nothing, and its call is answered
  writer_waits : (l : LockId) (phase : Phase) (call : Call) (slept : Option TaskId) → IsMade s e.task l phase call (wtake_event e.task l slept) e → awaited_in phase (called_lock call) ≡ None
      → waiting_after e.kind waited ≡ waits_then
  writer_waits l phase call slept is idle =
      waits_no_more _ is.event refl (blocked-kept s e _ e.task is.event refl ∙ idle-blocked s made e.task lawful phase call is.at idle) (ap (λ (thread : ThreadPart). has_slept thread.phase) (thread-own s e _ is.event there))

  -- and one that goes to sleep waits
  sleeper_waits : (l : LockId) (phase : Phase) → IsMade s e.task l phase (calls.Write l) (wsleep_event e.task l) e → waiting_after e.kind waited ≡ waits_then
  sleeper_waits l phase is =
      waits_now _ is.event (sym (or_right (is_some (task_part (state_after s e) e.task).blocked) _ (ap (λ (thread : ThreadPart). has_slept thread.phase) (thread-own s e _ is.event there))))

  own-waits : Changes s e.task e → waiting_after e.kind waited ≡ waits_then
  own-waits (nothing own others none) = still_waits (unmoved e.kind own) (unslept e.kind own)
  own-waits (waits l is) = waits_now _ is.event (sym (or_left _ (has_slept (thread_part (state_after s e) e.task).phase) (ap (λ (b : Option (LockId × ℕ)). is_some b) (wait-blocked s e.task e l lawful.shape is))))
  own-waits (sleeps_again l is) = waits_by _ is.event refl refl
  own-waits (takes l is) = left_queue_then _ is.event refl refl (take-blocked s e.task e l lawful.shape is)
  own-waits (leaves l (by_leave is)) = left_queue_then _ is.event refl refl (left-own_blocked s made e.task l e lawful (by_leave is))
  own-waits (leaves l (by_cycle path o m rest is round owned)) = left_queue_then _ is.event refl refl (left-own_blocked s made e.task l e lawful (by_cycle path o m rest is round owned))
  own-waits (sets state is) = waits_by _ is.event refl refl
  own-waits (schedules is) = waits_by _ is.event refl refl
  own-waits (wakes u n reply within is) = waits_by _ is refl refl
  own-waits (gives l is) = waits_by _ is.event refl refl
  own-waits (walks route u l key is) = waits_by _ is.event refl refl
  own-waits (writes l call is) = writer_waits l phases.WTry call None is refl
  own-waits (writes_late l is) = writer_waits l phases.WWait (calls.Write l) (Some e.task) is refl
  own-waits (sleeps_for l is) = sleeper_waits l phases.WTry is
  own-waits (sleeps_on l is runs) = sleeper_waits l phases.WWait is
  own-waits (wakes_sleeper l is) = waits_by _ is.event refl refl

  own-seen : Changes s e.task e → seen_after e (place_at s e.task) ≡ place_at (state_after s e) e.task
  own-seen how = λ i. record { answered = sym (own-answered s e there) i; waiting = own-waits how i }

  other-seen : (u : TaskId) → nat_eq e.task.0 u.0 ≡ false → place_at s u ≡ place_at (state_after s e) u
  other-seen u ne =
      let queued = queued-same (task_part s u).blocked (task_part (state_after s e) u).blocked (blocking-other s e u ne) in
      λ i. record { answered = (sym (thread-other s e u ne) i).answered; waiting = sym queued i || has_slept (sym (thread-other s e u ne) i).phase }

  place_left : (u : TaskId) → Changes s e.task e → cond (nat_eq e.task.0 u.0) (seen_after e (place_at s u)) (place_at s u) ≡ place_at (state_after s e) u
  place_left u how =
      at_each_task (λ v. cond (nat_eq e.task.0 v.0) (seen_after e (place_at s v)) (place_at s v) ≡ place_at (state_after s e) v) e.task u
      (cond-true (nat_eq e.task.0 e.task.0) (seen_after e (place_at s e.task)) (place_at s e.task) (number_itself e.task.0) ∙ own-seen how)
      (λ ne. cond-false (nat_eq e.task.0 u.0) (seen_after e (place_at s u)) (place_at s u) ne ∙ other-seen u ne)

-- ---- what the event makes of the two fields

module _ (script : Script) (s : State) (made : ℕ) (e : Event) (lawful : IsLawful s made) (scripted : IsOf script s) (there : e.task.0 < length s.threads) where
  abbrev before : TaskId → Flat
  before u = flat_at (task_part s u)

  abbrev left : TaskId → Flat
  left u = flat_at (task_part (state_after s e) u)

  -- the two fields become those that the task then has
  abbrev Fits : TaskId → Type 0
  Fits u = flat_after script u (place_at s u) e (before u) ≡ left u

  -- a task in an ordinary sleep has saved nothing
  saves : (u : TaskId) → SavesNone (task_part s u).state (task_part s u).saved
  saves u = rested-saves (waits_spinning (thread_part s u) (task_part s u)) (task_part s u) (lawful.states u)

  -- an event that changes nothing
  fits_nothing : sets_own e.kind ≡ false → wakes_other e.kind ≡ false → e.woken ≡ None → (u : TaskId) → Fits u
  fits_nothing own others none u =
      after-quiet script u (place_at s u) e (before u) own others none
      ∙ sym (flat-kept (task_part s u) (task_part (state_after s e) u)
      (task-keeps (KeepsStates (task_part s u)) s e u (KeepsStates-itself (task_part s u)) (keeps-own (task_part s u) e.kind e (thread_part s e.task) own) (keeps-others (task_part s u) e.kind e (thread_part s e.task) others)))

  -- ---- of its own task

  abbrev own_made : Event → Flat
  own_made x = flat_own script e.task (place_at s e.task) x (before e.task)

  -- one that comes about as x, and wakes nobody
  fits_own : (x : Event) → e ≡ x → wakes_other x.kind ≡ false → x.woken ≡ None → own_made x ≡ left e.task → (u : TaskId) → Fits u
  fits_own x is x_others x_none at u =
      at_each_task Fits e.task u
      (after-own script e.task (place_at s e.task) e (before e.task) (number_itself e.task.0) others none ∙ (ap own_made is ∙ at))
      (λ ne. after-other script u (place_at s u) e (before u) ne others none
      ∙ sym (flat-kept (task_part s u) (task_part (state_after s e) u)
      (other-keeps (KeepsStates (task_part s u)) s e u ne (KeepsStates-itself (task_part s u)) (keeps-others (task_part s u) e.kind e (thread_part s e.task) others))))
    where
      others : wakes_other e.kind ≡ false
      others = ap (λ (y : Event). wakes_other y.kind) is ∙ x_others

      none : e.woken ≡ None
      none = ap (λ (y : Event). y.woken) is ∙ x_none

  -- whose own slot leaves these two fields
  fits_slot : (x : Event) → e ≡ x → wakes_other x.kind ≡ false → x.woken ≡ None → (touched x.kind x).own ≡ Some e.task
      → own_made x ≡ flat_at ((effect_in (shared s) (thread_part s x.task) x).own (lock_left (shared s) (thread_part s x.task) x) (task_part s e.task)) → (u : TaskId) → Fits u
  fits_slot x is others none named at =
      fits_own x is others none
      (own-made (λ v task. own_made x ≡ flat_at task) s e x e.task e.task is named (task_room s e.task lawful.shape there)
      (flat-others (own_made x) x.kind x (thread_part s x.task) others (around (shared s) (touched x.kind x)) (lock_left (shared s) (thread_part s x.task) x))
      at (λ ne. absurd (other_number e.task.0 e.task.0 ne refl)))

  abbrev own_task : TaskPart
  own_task = task_part s e.task

  abbrev own_thread : ThreadPart
  own_thread = thread_part s e.task

  -- it rests as it is to, where it waits for no lock and no readers
  free : own_task.blocked ≡ None → has_slept own_thread.phase ≡ false → IsRested false own_task
  free none up = subst (λ (b : Bool). IsRested b own_task) (queued_waits own_thread own_task up ∙ ap (spins_at own_thread) none) (lawful.states e.task)

  -- what becomes of it at this lock
  module _ (l : LockId) where
    abbrev spinning : Bool
    spinning = spins (kind_of own_thread l)

    -- out of the lock's queue
    abbrev out_of_queue : TaskPart
    out_of_queue = leave_queue spinning own_task

    -- it rests as it is to, where it is queued, and where it sleeps for readers
    queued : blocking own_task.blocked ≡ Some l → IsRested spinning own_task
    queued at = subst (λ (b : Bool). IsRested b own_task) (waits_as s e.task e.task l lawful.shape there there at (queued-awake s e.task l lawful.queued at)) (lawful.states e.task)

    asleep : (x : Event) → IsMade s e.task l phases.WWait (calls.Write l) x e → IsRested spinning own_task
    asleep x is =
        let none = idle-blocked s made e.task lawful phases.WWait (calls.Write l) is.at refl in
        let present = present-at s e.task phases.WWait (calls.Write l) (Some l) is.at refl in
        subst (λ (b : Bool). IsRested b own_task) (λ i. spins_at own_thread (none i) || sleeps_spinning (is.at.phased i) (kind_named own_thread (present i))) (lawful.states e.task)

    -- its thread knows the lock's kind, and is at the call that the flat machine finds
    known : spins (lock_line script l).kind ≡ spinning
    known = ap spins (sym (kind-of script s scripted e.task l there))

    calling : sleep_of (call_at script e.task (place_at s e.task)) ≡ sleep_of (call_of own_thread)
    calling =
        ap (λ (all : List Call). sleep_of (slice_get all own_thread.answered)) (sym (calls-of script s scripted e.task))
        ∙ sym (made-sleeps own_thread.cpu (slice_get own_thread.calls own_thread.answered))

    -- so this is what the flat machine makes of its two fields: as it puts it to sleep, and as it gives it the lock
    abbrev sleeps_there : Flat
    sleeps_there = cond (is_ordinary script (Some l)) (record (before e.task) { state = sleep_of (call_at script e.task (place_at s e.task)) }) (before e.task)

    abbrev taken : Bool → Flat
    taken waiting = cond (is_ordinary script (Some l)) (cond waiting (record (before e.task) { state = states.Running }) (before e.task)) (before e.task)

    sleeps-is : sleeps_there ≡ flat_asleep spinning (call_of own_thread) (before e.task)
    sleeps-is = λ i. cond (not (known i)) (record (before e.task) { state = calling i }) (before e.task)

    restored-is : taken true ≡ flat_restored spinning (before e.task)
    restored-is = λ i. cond (not (known i)) (record (before e.task) { state = states.Running }) (before e.task)

    waited-is : waits_in own_thread own_task ≡ true → taken (waits_in own_thread own_task) ≡ flat_restored spinning (before e.task)
    waited-is was = ap taken was ∙ restored-is

    unwaited-is : waits_in own_thread own_task ≡ false → taken (waits_in own_thread own_task) ≡ before e.task
    unwaited-is was = ap taken was ∙ chosen_same (is_ordinary script (Some l)) (before e.task)

    -- a task that takes the lock, queued or not
    queued-there : blocking own_task.blocked ≡ Some l → is_some own_task.blocked ≡ true
    queued-there at = sym (is_queued own_task.blocked) ∙ ap (λ (o : Option LockId). is_some o) at

    takes_queued : blocking own_task.blocked ≡ Some l → flat_restored spinning (before e.task) ≡ flat_at out_of_queue
    takes_queued at = sym (leave_queue-fields spinning own_task (queued-there at) (queued at))

    takes_free : own_task.blocked ≡ None → has_slept own_thread.phase ≡ false → taken (waits_in own_thread own_task) ≡ flat_at out_of_queue
    takes_free none up =
        unwaited-is (λ i. is_some (none i) || up i)
        ∙ ap (λ (blocked : Option (LockId × ℕ)). flat_at (cond (is_some blocked) (record (restored spinning own_task) { blocked = None }) own_task)) (sym none)

    left-fit : IsLeft s e.task l e → taken true ≡ flat_at out_of_queue
    left-fit is = restored-is ∙ takes_queued (ap blocking (left-blocked s made e.task l e lawful is).1)

    takes-fit : TakesIn s e.task l → taken (waits_in own_thread own_task) ≡ flat_at out_of_queue
    takes-fit (from_slow asks) = takes_free (slow-blocked s made e.task lawful asks.call asks.at) (ap has_slept asks.at.phased)
    takes-fit (from_trying tries) = takes_free (start-blocked s made e.task lawful tries.call tries.at) (ap has_slept tries.at.phased)
    takes-fit (from_wait asks awake) =
        let at = asks-awaited s made e.task lawful phases.Wait l asks in
        waited-is (or_left _ (has_slept own_thread.phase) (queued-there at)) ∙ takes_queued at

    -- a writer that goes to sleep, or sleeps again
    sleeps-fit : (phase : Phase) (x : Event) → IsMade s e.task l phase (calls.Write l) x e
        → flat_at (writer_rests phase (rest_of (kind_of own_thread l) (call_of own_thread)) own_task) ≡ flat_asleep spinning (call_of own_thread) (before e.task)
        → sleeps_there ≡ flat_at (writer_rests own_thread.phase (rest_of (kind_of own_thread l) (call_of own_thread)) own_task)
    sleeps-fit phase x is fields = sleeps-is ∙ (sym fields ∙ ap (λ (p : Phase). flat_at (writer_rests p (rest_of (kind_of own_thread l) (call_of own_thread)) own_task)) (sym is.at.phased))

  -- ---- of one that its lock wakes

  fits_lock : (x : Event) (l : LockId) → e ≡ x → sets_own x.kind ≡ false → is_wakeup x.kind ≡ false → x.lock ≡ Some l → (touched x.kind x).woken ≡ x.woken
      → SlotsThere (touched x.kind x) (length s.tasks)
      → ((lock : OwnerPart) (task : TaskPart) → (effect_in (shared s) (thread_part s x.task) x).woken lock task ≡ lock_woken (spinning l) task) → (u : TaskId) → Fits u
  fits_lock x l is own wakeup lock named slots wakes_it u =
      ap (λ (y : Event). flat_after script u (place_at s u) y (before u)) is
      ∙ (after-lock_woken script u (place_at s u) x (before u) own wakeup
      ∙ ((λ i. cond (owned_by x.woken u) (cond (is_ordinary script (lock i)) (flat_woken (before u)) (before u)) (before u))
      ∙ slots-made Keeps Keeps Keeps (λ task. made_of ≡ flat_at task) s e x u is slots (KeepsStates-itself (task_part s u)) (λ task keeps. keeps-own (task_part s u) x.kind x th own found (lock_left (shared s) th x) task keeps) (record {
        owner = λ task keeps its. keeps-owner (task_part s u) x.kind x th found (lock_left (shared s) th x) task keeps;
        not_owner = λ task keeps its. keeps;
        other = λ task keeps its. keeps-other (task_part s u) x.kind x th wakeup found (lock_left (shared s) th x) task keeps;
        not_other = λ task keeps its. keeps;
        woken = λ task keeps its. woken-fit task keeps (sym (ap (λ (o : Option TaskId). owned_by o u) named) ∙ its);
        not_woken = λ task keeps its. cond-false (owned_by x.woken u) _ (before u) (sym (ap (λ (o : Option TaskId). owned_by o u) named) ∙ its) ∙ sym (flat-kept (task_part s u) task keeps);
      })))
    where
      Keeps : TaskPart → Type 0
      Keeps task = KeepsStates (task_part s u) task

      th : ThreadPart
      th = thread_part s x.task

      found : Around
      found = around (shared s) (touched x.kind x)

      made_of : Flat
      made_of = cond (owned_by x.woken u) (cond (is_ordinary script (Some l)) (flat_woken (before u)) (before u)) (before u)

      woken-fit : (task : TaskPart) → Keeps task → owned_by x.woken u ≡ true → made_of ≡ flat_at ((effect_in (shared s) th x).woken (lock_left (shared s) th x) task)
      woken-fit task keeps its =
          cond-true (owned_by x.woken u) (cond (is_ordinary script (Some l)) (flat_woken (before u)) (before u)) (before u) its
          ∙ ((λ i. cond (not (known l i)) (flat_woken (sym (flat-kept (task_part s u) task keeps) i)) (sym (flat-kept (task_part s u) task keeps) i))
          ∙ (sym (lock_woken-fields (spinning l) task (saves-kept (task_part s u) task keeps (saves u))) ∙ ap flat_at (sym (wakes_it (lock_left (shared s) th x) task))))

  -- ---- of the target of a wakeup or a signal

  fits_target : (v : TaskId) (n : ℕ) (reply : Option Reply) → v.0 < length s.threads → e ≡ targeted e.task v n reply → (u : TaskId) → Fits u
  fits_target v n reply within is u =
      ap (λ (y : Event). flat_after script u (place_at s u) y (before u)) is
      ∙ (after-wakeup script u (place_at s u) (targeted e.task v n reply) (before u) refl refl refl
      ∙ other-made (λ task. made_of ≡ flat_at task) (KeepsStates (task_part s u)) s e (targeted e.task v n reply) u is (slots_there s (targeted e.task v n reply) lawful.shape tt within tt) (KeepsStates-itself (task_part s u))
      (λ task keeps. keeps) (λ task keeps. keeps)
      (λ task keeps its. cond-true (nat_eq v.0 u.0) (flat_woken_by n (before u)) (before u) its
      ∙ (ap (flat_woken_by n) (sym (flat-kept (task_part s u) task keeps)) ∙ sym (woken_by-fields n task (saves-kept (task_part s u) task keeps (saves u)))))
      (λ task keeps its. cond-false (nat_eq v.0 u.0) (flat_woken_by n (before u)) (before u) its ∙ sym (flat-kept (task_part s u) task keeps))
      (λ task same. same))
    where
      made_of : Flat
      made_of = cond (nat_eq v.0 u.0) (flat_woken_by n (before u)) (before u)

  -- ---- of each event

  fits_left : (l : LockId) → IsLeft s e.task l e → (u : TaskId) → Fits u
  fits_left l (by_leave is) =
      let its : IsLeft s e.task l e = by_leave is in
      fits_own _ (left-is s e.task l e its) refl refl (ap (λ (flat : Flat). record flat { signal = false }) (left-fit l its) ∙ ap flat_at (sym (left-own s made e.task l e lawful its)))
  fits_left l (by_cycle path o m rest is round owned) =
      let its : IsLeft s e.task l e = by_cycle path o m rest is round owned in
      fits_own _ (left-is s e.task l e its) refl refl (left-fit l its ∙ ap flat_at (sym (left-own s made e.task l e lawful its)))

  fits_take : (l : LockId) → IsTake s e.task l e → (u : TaskId) → Fits u
  fits_take l is =
      let task = out_of_queue l in
      fits_slot _ is.event refl refl refl
      (takes-fit l is.how ∙ sym (flat-kept task _ (with_top-keeps task (Some l) (top_key (taken_by e.task (owner_part s l)).rows) task (KeepsStates-itself task))))

  -- its task isn't blocked, and this becomes its state
  fits_state : (x : Event) (state : TaskState) (call : Call) → e ≡ x → wakes_other x.kind ≡ false → x.woken ≡ None → (touched x.kind x).own ≡ Some e.task → IsIn s e.task phases.Start call → (IsRested false own_task → state ≢ states.LockWait)
      → own_made x ≡ record (before e.task) { state = state }
      → ((lock : OwnerPart) (task : TaskPart) → (effect_in (shared s) (thread_part s x.task) x).own lock task ≡ record task { state = state }) → (u : TaskId) → Fits u
  fits_state x state call is others none named at ne same becomes =
      let rested = free (start-blocked s made e.task lawful call at) (ap has_slept at.phased) in
      fits_slot x is others none named
      (same ∙ (sym (set-fields state own_task (ne rested) rested)
      ∙ ap flat_at (sym (becomes (lock_left (shared s) (thread_part s x.task) x) own_task))))

  -- a writer that gets in at once touches no task
  fits_writer : (l : LockId) (call : Call) → IsMade s e.task l phases.WTry call (wtake_event e.task l None) e → (u : TaskId) → Fits u
  fits_writer l call is =
      fits_own _ is.event refl refl
      (unwaited-is l (λ i. is_some (idle-blocked s made e.task lawful phases.WTry call is.at refl i) || has_slept (is.at.phased i)) ∙ ap (λ (y : Event). flat_at (task_part (state_after s y) e.task)) (sym is.event))

  fits : Changes s e.task e → (u : TaskId) → Fits u
  fits (nothing own others none) = fits_nothing own others none
  fits (waits l is) =
      fits_slot _ is.event refl refl refl (sleeps-is l ∙ sym (put_to_rest-fields (spinning l) (call_of own_thread) own_task (free (slow-blocked s made e.task lawful is.at.call is.at.at) (ap has_slept is.at.at.phased))))
  fits (sleeps_again l is) = fits_slot _ is.event refl refl refl (sleeps-is l ∙ sym (put_back-fields (spinning l) (call_of own_thread) own_task is.state))
  fits (takes l is) = fits_take l is
  fits (leaves l is) = fits_left l is
  fits (sets state is) =
      fits_state _ (state_numbered (state_number state)) (calls.State state) is.event refl refl refl is.at (λ rested. (rested-set (state_number state) own_task (rested-states false own_task rested)).0) refl (λ lock task. refl)
  fits (schedules is) = fits_state _ states.Running calls.Schedule is.event refl refl refl is.at (λ rested same. cc) refl (λ lock task. refl)
  fits (wakes v n reply within is) = fits_target v n reply within is
  fits (gives l is) =
      fits_lock _ l is.event refl refl refl refl
      (slots_there s (give_event (call_of own_thread) e.task l (owner_part s l) own_task) lawful.shape tt tt (top_within (length s.threads) (owner_part s l).rows (rows_within s l lawful.shape is.at.lock))) (λ lock task. refl)
  fits (walks route v l key is) = fits_lock _ l is.event refl refl refl refl (link-slots s made e.task route v l key e lawful is) (λ lock task. refl)
  fits (writes l call is) = fits_writer l call is
  fits (writes_late l is) =
      fits_slot _ is.event refl refl refl
      (waited-is l (or_right (is_some own_task.blocked) _ (ap has_slept is.at.phased)) ∙ sym (restored-fields (spinning l) own_task (asleep l _ is)))
  fits (sleeps_for l is) =
      fits_slot _ is.event refl refl refl
      (sleeps-fit l phases.WTry _ is (put_to_rest-fields (spinning l) (call_of own_thread) own_task (free (idle-blocked s made e.task lawful phases.WTry (calls.Write l) is.at refl) (ap has_slept is.at.phased))))
  fits (sleeps_on l is runs) = fits_slot _ is.event refl refl refl (sleeps-fit l phases.WWait _ is (put_back-fields (spinning l) (call_of own_thread) own_task runs))
  fits (wakes_sleeper l is) =
      fits_lock _ l is.event refl refl refl refl (slots_there s (wwake_event e.task l (owner_part s l)) lawful.shape tt tt (owner_within s l lawful.shape is.lock)) (λ lock task. refl)

  -- so what the task has is what the event makes of it
  pub tracks : IsNext s e.task e → (u : TaskId) → track_event script u (tracked_at s u) e ≡ tracked_at (state_after s e) u
  tracks next u =
      let how = changes s made e.task e lawful next in
      λ i. record { seen = place_left s made e lawful next there u how i; flat = fits how u i }
