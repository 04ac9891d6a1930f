-- The states of tasks and the answers of wakeups along a run are the flat wakeup machine's.
use Rattle.std.proofs.Common.{◌≡◌, ℕ, suc, true, false, ◌||◌, List, [], ◌∷◌, ◌++◌, length, refl, sym, ap, ◌∙◌, subst, Option, Some, None}
use Rattle.std.specs.Prelude.{is_some}
use Rattle.std.specs.List.{fold}
use Rattle.rt_base.specs.Script.{Script, TaskLine}
use Rattle.rt_base.specs.declared.call.Call.{Call}
use Rattle.rt_base.specs.declared.call.Call.TheVariants as calls
use Rattle.rt_base.specs.declared.id.LockId.{LockId}
use Rattle.rt_base.specs.declared.id.TaskId.{TaskId}
use Rattle.rt_base.specs.declared.reply.Reply.{Reply}
use Rattle.rt_base.specs.declared.reply.Reply.TheVariants as replies
use Rattle.rt_model.specs.declared.event.Event.{Event}
use Rattle.rt_model.specs.declared.event_kind.EventKind.TheVariants as kinds
use Rattle.rt_model.specs.declared.phase.Phase.{Phase}
use Rattle.rt_model.specs.declared.phase.Route.{Route}
use Rattle.rt_model.specs.declared.phase.Route.TheVariants.{Full}
use Rattle.rt_model.specs.Parts.{TaskPart, ThreadPart, call_of}
use Rattle.rt_model.specs.CallKinds.{IsToCome}
use Rattle.rt_model.specs.steps.Chain.{answer_of_walk}
use Rattle.rt_model.specs.steps.Readers.{without_reader, wakes_writer}
use Rattle.rt_model.specs.steps.Thread.{got_answer, released_answer}
use Rattle.rt_model.specs.State.{State, start, fresh_task, fresh_thread, kinds_in, no_task, no_thread, reader_part, task_part, thread_part}
use Rattle.rt_model.specs.StateAfter.{state_after}
use Rattle.rt_model.specs.Run.{after, IsRun}
use Rattle.rt_model.specs.laws.Flat.{first_seen, Flat, first_flat, flat_answer, is_wakeup, Tracked, track_event, flat_of}
use Rattle.rt_model.specs.laws.Lawful.{IsLawful}
use Rattle.rt_model.specs.laws.Shape.{IsOf}
use Rattle.rt_model.specs.laws.States.{has_slept, waits_spinning}
use Rattle.rt_model.specs.laws.Wakeups.{flat_state, tells_wakeup, WakeupsLaw}
use Rattle.std.proofs.lemmas.Bool.{cond_both}
use Rattle.rt_model.proofs.ToCome.{to_come-holds, answered-holds}
use Rattle.rt_model.proofs.Lists.{All-read, All-made}
use Rattle.rt_model.proofs.NextEvents.{IsNext, by_own, by_acquire, by_wait, by_release, by_reading, by_walk, by_confirm, by_wakeup, by_setprio}
use Rattle.rt_model.proofs.Prefixes.{run-prefix, run-next, run-lawful, lawful-there, next-there, next-task}
use Rattle.rt_model.proofs.Reading.{reading-kind}
use Rattle.rt_model.proofs.Starts.{IsOf-start}
use Rattle.rt_model.proofs.events.Acquire.{is_fast, is_mark, is_take, is_busy}
use Rattle.rt_model.proofs.events.Wait.{is_wait, is_again, is_leave}
use Rattle.rt_model.proofs.events.Readers.{IsReading, reading-holds}
use Rattle.rt_model.proofs.events.Release.{is_free, is_give}
use Rattle.rt_model.proofs.events.Wakeups.{is_state, is_sched, is_wake, is_signal}
use Rattle.rt_model.proofs.events.Walk.{WalksIn, by_full, by_short, is_walk, is_walkend, is_restart, is_cycle}
use Rattle.rt_model.proofs.laws.Shape.{IsOf-after}
use Rattle.rt_model.proofs.laws.Flat.{flat_at, rested-beneath, rested-saves, wake-answer, signal-answer}
use Rattle.rt_model.proofs.laws.Holders.{other_kind}
use Rattle.rt_model.proofs.laws.Owners.{is_own, own-answers}
use Rattle.rt_model.proofs.laws.Tracked.{tracked_at, targeted, tracks}

-- ---- along a run

along : (script : Script) (s : State) (made : ℕ) (events : List Event) → IsLawful s made → IsOf script s → IsRun s events → (u : TaskId) → fold (track_event script u) (tracked_at s u) events ≡ tracked_at (after s events) u
along script s made [] lawful scripted run u = refl
along script s made (e ∷ events) lawful scripted run u =
    let there = next-task s e.task e run.0 in
    let left = run-lawful s made e events lawful run in
    ap (λ (at : Tracked). fold (track_event script u) at events) (tracks script s made e lawful scripted there (run-next s made e events lawful run) u)
    ∙ along script (state_after s e) (suc made) events left (IsOf-after script s e there scripted) run.1 u

-- at the start no call is answered, and each task runs
task-start : (script : Script) (P : TaskPart → Type 0) (t : TaskId) → ((n own : ℕ) → P (fresh_task n own)) → P (task_part (start script) t)
task-start script P t holds =
    All-read P (start script).tasks t.0 no_task (All-made P (λ (line : TaskLine). fresh_task (length script.locks) line.own) (λ line. holds (length script.locks) line.own) script.tasks) (holds 0 0)

thread-start : (script : Script) (P : ThreadPart → Type 0) (t : TaskId) → ((line : TaskLine) → P (fresh_thread (kinds_in script) line.calls line.cpu)) → P no_thread → P (thread_part (start script) t)
thread-start script P t holds none = All-read P (start script).threads t.0 no_thread (All-made P (λ (line : TaskLine). fresh_thread (kinds_in script) line.calls line.cpu) holds script.tasks) none

tracked-start : (script : Script) (t : TaskId) → record { seen = first_seen; flat = first_flat } ≡ tracked_at (start script) t
tracked-start script t =
    let blocked = task-start script (λ task. is_some task.blocked ≡ false) t (λ n own. refl) in
    let phase = thread-start script (λ thread. has_slept thread.phase ≡ false) t (λ line. refl) refl in
    λ i. record {
      seen = record { answered = sym (thread-start script (λ thread. thread.answered ≡ 0) t (λ line. refl) refl) i; waiting = sym blocked i || sym phase i };
      flat = sym (task-start script (λ task. flat_at task ≡ first_flat) t (λ n own. refl)) i;
    }

-- ---- the law

-- an answer of a wakeup or a signal
record IsAnswered (s : State) (e : Event) : Type 0 where
  target : TaskId
  named : e.other ≡ Some target
  answer : e.reply ≡ Some (flat_answer e.value (flat_at (task_part s target)))

module _ (s : State) (made : ℕ) (e : Event) (lawful : IsLawful s made) where
  -- one that comes about as a wakeup or a signal
  answers_as : (v : TaskId) (n : ℕ) (reply : Reply) → e ≡ targeted e.task v n (Some reply) → reply ≡ flat_answer n (flat_at (task_part s v)) → IsAnswered s e
  answers_as v n reply is same = record {
    target = v;
    named = ap (λ (x : Event). x.other) is;
    answer = ap (λ (x : Event). x.reply) is ∙ (ap Some same ∙ sym (ap (λ (x : Event). Some (flat_answer x.value (flat_at (task_part s v)))) is));
  }

  answered : IsNext s e.task e → is_wakeup e.kind ≡ true → IsAnswered s e
  answered (by_wakeup (is_wake v is)) wakeup = answers_as v 0 _ is.event (wake-answer (task_part s v))
  answered (by_wakeup (is_signal v is)) wakeup = answers_as v 1 _ is.event (signal-answer (task_part s v) (rested-saves (waits_spinning (thread_part s v) (task_part s v)) (task_part s v) (lawful.states v)))
  answered (by_wakeup (is_state state is)) wakeup = absurd (other_kind is_wakeup e _ is.event refl wakeup)
  answered (by_wakeup (is_sched is)) wakeup = absurd (other_kind is_wakeup e _ is.event refl wakeup)
  answered (by_own call answer is) wakeup = absurd (other_kind is_wakeup e _ is.event refl wakeup)
  answered (by_acquire l (is_fast is)) wakeup = absurd (other_kind is_wakeup e _ is.event refl wakeup)
  answered (by_acquire l (is_mark is)) wakeup = absurd (other_kind is_wakeup e _ is.event refl wakeup)
  answered (by_acquire l (is_take is)) wakeup = absurd (other_kind is_wakeup e _ is.event refl wakeup)
  answered (by_acquire l (is_busy is)) wakeup = absurd (other_kind is_wakeup e _ is.event refl wakeup)
  answered (by_wait l (is_wait is)) wakeup = absurd (other_kind is_wakeup e _ is.event refl wakeup)
  answered (by_wait l (is_again is)) wakeup = absurd (other_kind is_wakeup e _ is.event refl wakeup)
  answered (by_wait l (is_leave is)) wakeup = absurd (other_kind is_wakeup e _ is.event refl wakeup)
  answered (by_release l (is_free is)) wakeup = absurd (other_kind is_wakeup e _ is.event refl wakeup)
  answered (by_release l (is_give is)) wakeup = absurd (other_kind is_wakeup e _ is.event refl wakeup)
  answered (by_reading l is) wakeup =
      let quiet : is_wakeup e.kind ≡ false = reading-kind (λ kind. is_wakeup kind ≡ false) s e.task l e is (record { rin = refl; busy = refl; rout = refl; wwake = refl; unbias = refl; wtake = refl; wsleep = refl; wopen = refl }) in
      absurd cc
  answered (by_walk route u (is_walk l key is)) wakeup = absurd (other_kind is_wakeup e _ is.event refl wakeup)
  answered (by_walk route u (is_walkend is)) wakeup = absurd (other_kind is_wakeup e _ is.event refl wakeup)
  answered (by_confirm l path (is_restart link is)) wakeup = absurd (other_kind is_wakeup e _ is.event refl wakeup)
  answered (by_confirm l path (is_cycle is)) wakeup = absurd (other_kind is_wakeup e _ is.event refl wakeup)
  answered (by_setprio u prio is) wakeup = absurd (other_kind is_wakeup e _ is.event refl wakeup)

-- ---- no other event is answered as a wakeup is

abbrev Quiet : Option Reply → Type 0
Quiet reply = tells_wakeup reply ≡ false

-- what a thread answers at once is no such answer
quiet-own : (call : Call) (answer : Reply) → is_own call answer ≡ true → Quiet (Some answer)
quiet-own (calls.Move cpu) replies.Done own = refl
quiet-own _ replies.Woke own = cc
quiet-own _ replies.Missed own = cc
quiet-own _ _ own = refl

-- nor is the answer of an acquire, or of a release
quiet-got : (call : Option Call) → Quiet (got_answer call)
quiet-got (Some (calls.Read l)) = refl
quiet-got (Some (calls.Write l)) = refl
quiet-got (Some (calls.TryWrite l)) = refl
quiet-got _ = refl

quiet-released : (call : Option Call) → Quiet (Some (released_answer call))
quiet-released (Some (calls.Read l)) = refl
quiet-released (Some (calls.TryWrite l)) = refl
quiet-released _ = refl

quiet-reading : (s : State) (t : TaskId) (l : LockId) (e : Event) → IsReading s t l e → Quiet e.reply
quiet-reading s t l e is =
    reading-holds (λ phase x. Quiet x.reply) s t l e is
    (record {
      read = refl;
      let_in = refl;
      shut = refl;
      tryshut = refl;
      out = cond_both (wakes_writer (without_reader (reader_part s l))) None (Some replies.Done) Quiet (λ last. refl) (λ more. refl);
      wwake = refl;
      unbias = refl;
      written = refl;
      late = refl;
      sleep = refl;
      again = refl;
      given_up = refl;
      opened = refl;
      downgraded = refl;
    })

-- a walk's answer is one that was to come
quiet-to_come : (call : Call) (answer : Reply) → IsToCome call answer → Quiet (Some answer)
quiet-to_come call answer to_come = to_come-holds (λ c a. Quiet (Some a)) call answer to_come (λ l. refl) (λ l. refl) (λ l. refl) (λ l. refl) (λ l. refl) (λ l. refl) (λ l. refl) (λ u prio. refl)

quiet-walk : (s : State) (t : TaskId) (route : Route) (u : TaskId) (next : Option Phase) → WalksIn s t route u → Quiet (answer_of_walk route next)
quiet-walk s t route u next (by_full path l same asks) = subst (λ (r : Route). Quiet (answer_of_walk r next)) (sym same) (quiet-full next)
  where
    quiet-full : (next : Option Phase) → Quiet (answer_of_walk (Full path) next)
    quiet-full None = refl
    quiet-full (Some phase) = refl
quiet-walk s t route u next (by_short call answer same at to_come) = subst (λ (r : Route). Quiet (answer_of_walk r next)) (sym same) (answered-holds Quiet answer next (quiet-to_come call answer to_come) refl)

-- an event that comes about as x, which isn't answered so
others : (e x : Event) → e ≡ x → Quiet x.reply → tells_wakeup e.reply ≡ true → ⊥
others e x is quiet told = let same : tells_wakeup e.reply ≡ tells_wakeup x.reply = ap (λ (y : Event). tells_wakeup y.reply) is in cc

wakes : (s : State) (t : TaskId) (e : Event) → IsNext s t e → tells_wakeup e.reply ≡ true → e.kind ≡ kinds.Wake
wakes s t e (by_wakeup (is_wake v is)) told = ap (λ (x : Event). x.kind) is.event
wakes s t e (by_wakeup (is_signal v is)) told = ap (λ (x : Event). x.kind) is.event
wakes s t e (by_wakeup (is_state state is)) told = absurd (others e _ is.event refl told)
wakes s t e (by_wakeup (is_sched is)) told = absurd (others e _ is.event refl told)
wakes s t e (by_own call answer is) told =
    absurd (others e _ is.event (quiet-own call answer (own-answers s t call answer e is)) told)
wakes s t e (by_acquire l (is_fast is)) told = absurd (others e _ is.event (quiet-got (call_of (thread_part s t))) told)
wakes s t e (by_acquire l (is_mark is)) told = absurd (others e _ is.event refl told)
wakes s t e (by_acquire l (is_take is)) told = absurd (others e _ is.event (quiet-got (call_of (thread_part s t))) told)
wakes s t e (by_acquire l (is_busy is)) told = absurd (others e _ is.event refl told)
wakes s t e (by_wait l (is_wait is)) told = absurd (others e _ is.event refl told)
wakes s t e (by_wait l (is_again is)) told = absurd (others e _ is.event refl told)
wakes s t e (by_wait l (is_leave is)) told = absurd (others e _ is.event (answered-holds Quiet replies.Interrupted _ refl refl) told)
wakes s t e (by_release l (is_free is)) told = absurd (others e _ is.event (quiet-released (call_of (thread_part s t))) told)
wakes s t e (by_release l (is_give is)) told = absurd (others e _ is.event (quiet-released (call_of (thread_part s t))) told)
wakes s t e (by_reading l is) told = absurd (others e e refl (quiet-reading s t l e is) told)
wakes s t e (by_walk route u (is_walk l key is)) told = absurd (others e _ is.event (quiet-walk s t route u _ is.how) told)
wakes s t e (by_walk route u (is_walkend is)) told = absurd (others e _ is.event (quiet-walk s t route u None is.how) told)
wakes s t e (by_confirm l path (is_restart link is)) told = absurd (others e _ is.event refl told)
wakes s t e (by_confirm l path (is_cycle is)) told = absurd (others e _ is.event (answered-holds Quiet replies.Deadlock _ refl refl) told)
wakes s t e (by_setprio u prio is) told = absurd (others e _ is.event (answered-holds Quiet replies.Done _ refl refl) told)

module _ (script : Script) (events : List Event) (lawful : IsLawful (start script) 0) (run : IsRun (start script) events) where
  -- the two fields of a task after a prefix
  flat-there : (prefix rest : List Event) (t : TaskId) → prefix ++ rest ≡ events → flat_of script t prefix ≡ flat_at (task_part (after (start script) prefix) t)
  flat-there prefix rest t is =
      ap (λ (at : Tracked). (fold (track_event script t) at prefix).flat) (tracked-start script t)
      ∙ ap (λ (at : Tracked). at.flat) (along script (start script) 0 prefix lawful (IsOf-start script) (run-prefix (start script) prefix rest (subst (IsRun (start script)) (sym is) run)) t)

  state-there : (prefix rest : List Event) (t : TaskId) → prefix ++ rest ≡ events → flat_state (thread_part (after (start script) prefix) t) (task_part (after (start script) prefix) t) ≡ (flat_of script t prefix).state
  state-there prefix rest t is =
      let s = after (start script) prefix in
      rested-beneath (waits_spinning (thread_part s t) (task_part s t)) (task_part s t) ((lawful-there (start script) 0 events lawful run prefix rest is).states t) ∙ sym (ap (λ (flat : Flat). flat.state) (flat-there prefix rest t is))

  answer-there : (prefix rest : List Event) (e : Event) → prefix ++ e ∷ rest ≡ events → e.kind ≡ kinds.Wake → (u : TaskId) × (e.other ≡ Some u) × (e.reply ≡ Some (flat_answer e.value (flat_of script u prefix)))
  answer-there prefix rest e is kind =
      let s = after (start script) prefix in
      let its = answered s _ e (lawful-there (start script) 0 events lawful run prefix (e ∷ rest) is) (next-there (start script) 0 events lawful run prefix rest e is) (ap is_wakeup kind) in
      (its.target, its.named, its.answer ∙ sym (ap (λ (flat : Flat). Some (flat_answer e.value flat)) (flat-there prefix (e ∷ rest) its.target is)))

  pub wakeups-law : WakeupsLaw script events
  wakeups-law = record {
    states = λ prefix rest t is lt. state-there prefix rest t is;
    signals = λ prefix rest t is lt. sym (ap (λ (flat : Flat). flat.signal) (flat-there prefix rest t is));
    answers = answer-there;
    told = λ prefix rest e is told. wakes (after (start script) prefix) e.task e (next-there (start script) 0 events lawful run prefix rest e is) told;
  }
