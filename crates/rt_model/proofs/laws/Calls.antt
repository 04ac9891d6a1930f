-- Each task's events make its calls once and in order.
use Rattle.std.proofs.Common.{◌≡◌, inl, inr, ℕ, zero, suc, ◌+◌, ◌<◌, ◌≤◌, Bool, true, false, cond, ◌||◌, List, [], ◌∷◌, length, drop, refl, sym, ap, ◌∙◌, subst, Option, Some, None, unwrap_or, arith}
use Rattle.std.specs.Prelude.{slice_get, option_map, nat_eq, nat_lt}
use Rattle.std.proofs.lemmas.List.Sums.{AllPass-from_list_all}
use Rattle.std.proofs.lemmas.Option.{slice_get_cases}
use Rattle.rt_base.specs.Script.{Script, TaskLine, task_line}
use Rattle.rt_base.specs.declared.call.Call.{Call}
use Rattle.rt_base.specs.declared.call.Call.TheVariants as calls
use Rattle.rt_base.specs.declared.ended.Ended.TheVariants.{Done, Stuck, Limit}
use Rattle.rt_base.specs.declared.id.Cpu.{Cpu}
use Rattle.rt_base.specs.declared.id.LockId.{LockId}
use Rattle.rt_base.specs.declared.id.TaskId.{TaskId}
use Rattle.rt_base.specs.declared.reply.Reply.{Reply}
use Rattle.rt_base.specs.declared.reply.Reply.TheVariants as replies
use Rattle.rt_model.specs.declared.event.Event.{Event}
use Rattle.rt_model.specs.declared.event_kind.EventKind.{EventKind}
use Rattle.rt_model.specs.declared.event_kind.EventKind.TheVariants as kinds
use Rattle.rt_model.specs.declared.phase.Phase.{Phase}
use Rattle.rt_model.specs.declared.phase.Phase.TheVariants as phases
use Rattle.rt_model.specs.declared.phase.Route.{Route}
use Rattle.rt_model.specs.declared.phase.Route.TheVariants.{Short}
use Rattle.rt_model.specs.Parts.{ThreadPart, made_on, call_of, hold_of, kind_of}
use Rattle.rt_model.specs.State.{State, shared, start, fresh_thread, kinds_in, owner_part, thread_part}
use Rattle.rt_model.specs.Choice.{called_lock}
use Rattle.rt_model.specs.steps.Thread.{got_answer, released_answer, cpu_after, answered_with}
use Rattle.rt_model.specs.steps.Chain.{answer_of_walk}
use Rattle.rt_model.specs.laws.Keys.{StandsAt}
use Rattle.rt_model.specs.Effect.{around}
use Rattle.rt_model.specs.events.Acquire.{busy_event}
use Rattle.rt_model.specs.events.Readers.{unbias_event, wtake_event}
use Rattle.rt_model.specs.events.Own.{unless_nested, if_held, if_not_held, spinning_holds, or_moved, own_event}
use Rattle.rt_model.specs.Rules.{touched}
use Rattle.rt_model.specs.StateAfter.{shared_after, state_after}
use Rattle.rt_model.specs.Run.{after, IsRun, is_at_end, is_done, is_stuck, ended_of}
use Rattle.rt_model.specs.CallKinds.{IsToCome}
use Rattle.rt_model.specs.laws.Lawful.{IsLawful}
use Rattle.rt_model.specs.laws.Shape.{IsOf}
use Rattle.rt_model.specs.laws.Calls.{can_have_waiting, can_have_waking, can_have, called_task, called_number, NamesFor, IsOfCall, IsOfWalk, is_of_walk, then_make, makes_first, Make, events_of, answered_after, CallsLaw}
use Rattle.rt_model.proofs.Lists.{All-default, read-map}
use Rattle.rt_model.proofs.Numbers.{same_task}
use Rattle.rt_model.proofs.Calling.{made-of, returning-holds, returning-called, IsIn, WaitsFor, waits-holds, waits-called, Asks, tries-holds, writes-holds}
use Rattle.rt_model.proofs.Leaves.{IsLeft, by_leave, by_cycle, left-is, leave-left, cycle-left}
use Rattle.rt_model.proofs.NextEvents.{IsNext, by_own, by_acquire, by_wait, by_release, by_reading, by_walk, by_confirm, by_wakeup, by_setprio}
use Rattle.rt_model.proofs.ToCome.{to_come-holds, answered-holds}
use Rattle.rt_model.proofs.events.Own.{IsOwn, read-holds, write-holds}
use Rattle.rt_model.proofs.events.Acquire.{IsBusy, is_fast, is_mark, is_take, is_busy, asking, fast-acquiring, take-acquiring, acquiring-holds, acquiring-called}
use Rattle.rt_model.proofs.events.Wait.{is_wait, is_again, is_leave}
use Rattle.rt_model.proofs.events.Release.{is_free, is_give}
use Rattle.rt_model.proofs.events.Readers.{IsMade, IsReading, is_read, is_tryread, is_let_in, is_shut, is_tryshut, is_out, is_wwake, is_unbias, is_in, is_sleep, is_given_up, is_in_late, is_sleep_again, is_opened, is_downgraded}
use Rattle.rt_model.proofs.events.Wakeups.{is_state, is_sched, is_wake, is_signal}
use Rattle.rt_model.proofs.events.Walk.{WalksIn, by_full, by_short, is_walk, is_walkend, is_restart, is_cycle}
use Rattle.rt_model.proofs.PartsAfter.{thread-own, thread-other, thread-phase}
use Rattle.rt_model.proofs.Prefixes.{run-next, run-lawful, next-there, next-task, IsOf-along}
use Rattle.rt_model.proofs.Reading.{reading-kind}
use Rattle.rt_model.proofs.Starts.{IsOf-start}
use Rattle.rt_model.proofs.Waiters.{blocking, walk-phase}
use Rattle.rt_model.proofs.laws.Holders.{other_kind}
use Rattle.rt_model.proofs.laws.Shape.{IsOf-threads}

-- ---- an event is one of its task's call

-- the call that the task is at, and the event is one of it
record IsAtCall (s : State) (t : TaskId) (e : Event) : Type 0 where
  call : Call
  at : call_of (thread_part s t) ≡ Some call
  of : IsOfCall call e

-- a call that sleeps in an ordinary state may be refused inside a spinning kind
nested-holds : (P : Reply → Type 0) (nested : ℕ) (own : Option Reply) (answer : Reply) → unless_nested nested own ≡ Some answer → P replies.Nesting → (own ≡ Some answer → P answer) → P answer
nested-holds P nested own answer is refused = by_test (nat_lt 0 nested) is
  where
    by_test : (b : Bool) → cond b (Some replies.Nesting) own ≡ Some answer → (own ≡ Some answer → P answer) → P answer
    by_test true some others = let same : replies.Nesting ≡ answer = cc in subst P same refused
    by_test false some others = others some

deadlock-holds : (P : Reply → Type 0) (held : Bool) (answer : Reply) → if_held held ≡ Some answer → P replies.Deadlock → P answer
deadlock-holds P true answer is holds = let same : replies.Deadlock ≡ answer = cc in subst P same holds
deadlock-holds P false answer is holds = cc

notowner-holds : (P : Reply → Type 0) (held : Bool) (answer : Reply) → if_not_held held ≡ Some answer → P replies.NotOwner → P answer
notowner-holds P true answer is holds = cc
notowner-holds P false answer is holds = let same : replies.NotOwner ≡ answer = cc in subst P same holds

-- an event that comes about as x, of a call
written : (call : Call) (e x : Event) → e ≡ x → can_have call x.kind x.reply ≡ true → NamesFor x.kind call x → IsOfCall call e
written call e x is can names = subst (IsOfCall call) (sym is) (record { can = can; names = names })

-- one of two tests passes
in_front : (a b : Bool) → a ≡ true → (a || b) ≡ true
in_front true b is = refl
in_front false b is = cc

behind : (a b : Bool) → b ≡ true → (a || b) ≡ true
behind true b is = refl
behind false b is = is

-- one that waits can have what each that waits can
can-waiting : (call : Call) (l : LockId) (kind : EventKind) (reply : Option Reply) → WaitsFor call l → can_have_waiting kind reply ≡ true → can_have call kind reply ≡ true
can-waiting call l kind reply waits_for can =
    waits-holds (λ c. can_have c kind reply ≡ true) call l waits_for (in_front _ _ (behind _ _ can)) (in_front _ _ (in_front _ _ (behind _ _ can))) (behind _ _ can) (behind _ _ can)
    (in_front _ _ (in_front _ _ (behind _ _ can))) (in_front _ _ (in_front _ _ (in_front _ _ (behind _ _ can))))

-- a call on a lock names no task and no number
lock-named : (call : Call) (l : LockId) → called_lock call ≡ Some l → (None ≡ called_task call) × (0 ≡ called_number call)
lock-named (calls.State state) l is = cc
lock-named calls.Schedule l is = cc
lock-named (calls.Wake u) l is = cc
lock-named (calls.Signal u) l is = cc
lock-named (calls.SetPrio u prio) l is = cc
lock-named (calls.Move to) l is = cc
lock-named _ l is = (refl, refl)

-- ---- answers

-- what a thread answers at once names what its call names
own-named : (s : State) (t : TaskId) (call : Call) (answer : Reply) (e : Event) → e ≡ own_event t (called_lock call) answer → called_task call ≡ None → called_number call ≡ 0
    → can_have call kinds.Own (Some answer) ≡ true → IsOfCall call e
own-named s t call answer e is task number can = written call e _ is can (refl, sym task, sym number)

-- one that sleeps in an ordinary state is refused inside a spinning kind, or where it holds the lock
abbrev nested : State → TaskId → ℕ
nested s t = spinning_holds (thread_part s t).kinds (thread_part s t).holds

own-sleeps : (s : State) (t : TaskId) (call : Call) (l : LockId) (answer : Reply) → unless_nested (nested s t) (if_held (hold_of (thread_part s t) l).owns) ≡ Some answer
    → can_have call kinds.Own (Some replies.Nesting) ≡ true → can_have call kinds.Own (Some replies.Deadlock) ≡ true → can_have call kinds.Own (Some answer) ≡ true
own-sleeps s t call l answer why nesting deadlock =
    let held : Bool = (hold_of (thread_part s t) l).owns in
    nested-holds (λ a. can_have call kinds.Own (Some a) ≡ true) (nested s t) (if_held held) answer why nesting (λ held_already. deadlock-holds (λ a. can_have call kinds.Own (Some a) ≡ true) held answer held_already deadlock)

moves-can : (cpu : Cpu) (answer : Reply) (pinned : Bool) → or_moved (calls.Move cpu) (cond pinned (Some replies.Pinned) None) ≡ Some answer → can_have (calls.Move cpu) kinds.Own (Some answer) ≡ true
moves-can cpu answer true is = let same : replies.Pinned ≡ answer = cc in subst (λ (a : Reply). can_have (calls.Move cpu) kinds.Own (Some a) ≡ true) same refl
moves-can cpu answer false is = let same : replies.Done ≡ answer = cc in subst (λ (a : Reply). can_have (calls.Move cpu) kinds.Own (Some a) ≡ true) same refl

own-of : (s : State) (t : TaskId) (call : Call) (answer : Reply) (e : Event) → IsOwn s t call answer e → IsOfCall call e
own-of s t (calls.Lock l) answer e is = own-named s t (calls.Lock l) answer e is.event refl refl (own-sleeps s t (calls.Lock l) l answer is.why refl refl)
own-of s t (calls.LockInt l) answer e is = own-named s t (calls.LockInt l) answer e is.event refl refl (own-sleeps s t (calls.LockInt l) l answer is.why refl refl)
own-of s t (calls.Spin l) answer e is = own-named s t (calls.Spin l) answer e is.event refl refl (deadlock-holds (λ a. can_have (calls.Spin l) kinds.Own (Some a) ≡ true) _ answer is.why refl)
own-of s t (calls.Read l) answer e is =
    own-named s t (calls.Read l) answer e is.event refl refl
    (read-holds (λ (own : Option Reply). own ≡ Some answer → can_have (calls.Read l) kinds.Own (Some answer) ≡ true) l (Some (kind_of (thread_part s t) l)) _ _ _
    (λ why. own-sleeps s t (calls.Read l) l answer why refl refl) (λ why. deadlock-holds (λ a. can_have (calls.Read l) kinds.Own (Some a) ≡ true) _ answer why refl) is.why)
own-of s t (calls.Write l) answer e is =
    own-named s t (calls.Write l) answer e is.event refl refl
    (write-holds (λ (own : Option Reply). own ≡ Some answer → can_have (calls.Write l) kinds.Own (Some answer) ≡ true) l (Some (kind_of (thread_part s t) l)) _ _ _
    (λ why. own-sleeps s t (calls.Write l) l answer why refl refl) (λ why. deadlock-holds (λ a. can_have (calls.Write l) kinds.Own (Some a) ≡ true) _ answer why refl) is.why)
own-of s t (calls.Unlock l) answer e is = own-named s t (calls.Unlock l) answer e is.event refl refl (notowner-holds (λ a. can_have (calls.Unlock l) kinds.Own (Some a) ≡ true) _ answer is.why refl)
own-of s t (calls.Unspin l) answer e is = own-named s t (calls.Unspin l) answer e is.event refl refl (notowner-holds (λ a. can_have (calls.Unspin l) kinds.Own (Some a) ≡ true) _ answer is.why refl)
own-of s t (calls.Unread l) answer e is = own-named s t (calls.Unread l) answer e is.event refl refl (notowner-holds (λ a. can_have (calls.Unread l) kinds.Own (Some a) ≡ true) _ answer is.why refl)
own-of s t (calls.Unwrite l) answer e is = own-named s t (calls.Unwrite l) answer e is.event refl refl (notowner-holds (λ a. can_have (calls.Unwrite l) kinds.Own (Some a) ≡ true) _ answer is.why refl)
own-of s t (calls.Downgrade l) answer e is = own-named s t (calls.Downgrade l) answer e is.event refl refl (notowner-holds (λ a. can_have (calls.Downgrade l) kinds.Own (Some a) ≡ true) _ answer is.why refl)
own-of s t calls.Schedule answer e is =
    own-named s t calls.Schedule answer e is.event refl refl (nested-holds (λ a. can_have calls.Schedule kinds.Own (Some a) ≡ true) (nested s t) None answer is.why refl (λ why. cc))
own-of s t (calls.TryLock l) answer e is = let why = is.why in cc
own-of s t (calls.TrySpin l) answer e is = let why = is.why in cc
own-of s t (calls.TryRead l) answer e is = let why = is.why in cc
own-of s t (calls.TryWrite l) answer e is = let why = is.why in cc
own-of s t (calls.State state) answer e is = let why = is.why in cc
own-of s t (calls.Wake u) answer e is = let why = is.why in cc
own-of s t (calls.Signal u) answer e is = let why = is.why in cc
own-of s t (calls.SetPrio u prio) answer e is = let why = is.why in cc
own-of s t (calls.Local l) answer e is = own-named s t (calls.Local l) answer e is.event refl refl (deadlock-holds (λ a. can_have (calls.Local l) kinds.Own (Some a) ≡ true) _ answer is.why refl)
own-of s t (calls.Unlocal l) answer e is = own-named s t (calls.Unlocal l) answer e is.event refl refl (notowner-holds (λ a. can_have (calls.Unlocal l) kinds.Own (Some a) ≡ true) _ answer is.why refl)
own-of s t (calls.Move cpu) answer e is = own-named s t (calls.Move cpu) answer e is.event refl refl (moves-can cpu answer (nat_lt 0 (thread_part s t).migration) is.why)

-- a short walk's link, and its end
walk-can : (next : Option Phase) (call : Call) (answer : Reply) → IsToCome call answer → can_have call kinds.Walk (answer_of_walk (Short answer) next) ≡ true
walk-can next call answer to_come =
    let Can : Option Reply → Call → Type 0 = λ reply c. can_have c kinds.Walk reply ≡ true in
    answered-holds (λ reply. Can reply call) answer next (to_come-holds (λ c a. Can (Some a) c) call answer to_come (λ l. refl) (λ l. refl) (λ l. refl) (λ l. refl) (λ l. refl) (λ l. refl) (λ l. refl) (λ v prio. refl))
    (to_come-holds (λ c a. Can None c) call answer to_come (λ l. refl) (λ l. refl) (λ l. refl) (λ l. refl) (λ l. refl) (λ l. refl) (λ l. refl) (λ v prio. refl))

walkend-can : (call : Call) (answer : Reply) → IsToCome call answer → can_have call kinds.WalkEnd (Some answer) ≡ true
walkend-can call answer to_come = to_come-holds (λ c a. can_have c kinds.WalkEnd (Some a) ≡ true) call answer to_come (λ l. refl) (λ l. refl) (λ l. refl) (λ l. refl) (λ l. refl) (λ l. refl) (λ l. refl) (λ v prio. refl)

-- a wakeup and a signal say whether they woke
waking-can : (woke : Bool) → can_have_waking kinds.Wake (Some (cond woke replies.Woke replies.Missed)) ≡ true
waking-can true = refl
waking-can false = refl

-- ---- events

-- an event that comes about as x, in a phase of this call
in_call : (s : State) (t : TaskId) (phase : Phase) (call : Call) (e x : Event) → IsIn s t phase call → e ≡ x → can_have call x.kind x.reply ≡ true → NamesFor x.kind call x → IsAtCall s t e
in_call s t phase call e x at is can names = record { call = call; at = at.calling; of = written call e x is can names }

-- and of one on a lock
lock_call : (s : State) (t : TaskId) (l : LockId) (call : Call) (e x : Event) → call_of (thread_part s t) ≡ Some call → called_lock call ≡ Some l → e ≡ x → can_have call x.kind x.reply ≡ true
    → (Some l ≡ called_lock call → None ≡ called_task call → 0 ≡ called_number call → NamesFor x.kind call x) → IsAtCall s t e
lock_call s t l call e x calling about is can names =
    let none = lock-named call l about in
    record { call = call; at = calling; of = written call e x is can (names (sym about) none.0 none.1) }

-- of one that waits
asks_call : (s : State) (t : TaskId) (phase : Phase) (l : LockId) (e x : Event) (asks : Asks s t phase l) → e ≡ x → can_have_waiting x.kind x.reply ≡ true
    → (Some l ≡ called_lock asks.call → None ≡ called_task asks.call → 0 ≡ called_number asks.call → NamesFor x.kind asks.call x) → IsAtCall s t e
asks_call s t phase l e x asks is can names =
    lock_call s t l asks.call e x asks.at.calling (waits-called asks.call l asks.waits_for) is (can-waiting asks.call l x.kind x.reply asks.waits_for can) names

-- of one whose answer the call tells
told_call : (s : State) (t : TaskId) (l : LockId) (call : Call) (answer : Option Call → Option Reply) (e x : Event) → call_of (thread_part s t) ≡ Some call → called_lock call ≡ Some l → e ≡ x
    → x.reply ≡ answer (call_of (thread_part s t)) → can_have call x.kind (answer (Some call)) ≡ true
    → (Some l ≡ called_lock call → None ≡ called_task call → 0 ≡ called_number call → NamesFor x.kind call x) → IsAtCall s t e
told_call s t l call answer e x calling about is reply can names =
    lock_call s t l call e x calling about is (subst (λ (r : Option Reply). can_have call x.kind r ≡ true) (sym (reply ∙ ap answer calling)) can) names

-- of a task that tries, and may not have the lock
busy_call : (s : State) (t : TaskId) (l : LockId) (e : Event) → IsBusy s t l e → IsAtCall s t e
busy_call s t l e is =
    in_call s t phases.Start is.at.call e _ is.at.at is.event (tries-holds (λ c. can_have c kinds.Busy (Some replies.Busy) ≡ true) is.at.call l is.at.tries_for refl refl refl)
    (tries-holds (λ c. NamesFor kinds.Busy c (busy_event t l (owner_part s l))) is.at.call l is.at.tries_for (refl, refl, refl) (refl, refl, refl) (refl, refl, refl))

-- of one that reads or writes
made_call : (s : State) (t : TaskId) (l : LockId) (phase : Phase) (call : Call) (x e : Event) → IsMade s t l phase call x e → can_have call x.kind x.reply ≡ true → NamesFor x.kind call x → IsAtCall s t e
made_call s t l phase call x e is can names = in_call s t phase call e x is.at is.event can names

out-can : (l : LockId) (wakes : Bool) → can_have (calls.Unread l) kinds.ROut (cond wakes None (Some replies.Done)) ≡ true
out-can l true = refl
out-can l false = refl

reading_call : (s : State) (t : TaskId) (l : LockId) (e : Event) → IsReading s t l e → IsAtCall s t e
reading_call s t l e (is_read is unheld can) = made_call s t l _ _ _ e is refl (refl, refl, refl)
reading_call s t l e (is_tryread is set) = made_call s t l _ _ _ e is refl (refl, refl, refl)
reading_call s t l e (is_let_in is) = made_call s t l _ _ _ e is refl (refl, refl, refl)
reading_call s t l e (is_shut is unheld cannot) = made_call s t l _ _ _ e is refl (refl, refl, refl)
reading_call s t l e (is_tryshut is off) = made_call s t l _ _ _ e is refl (refl, refl, refl)
reading_call s t l e (is_out is held) = made_call s t l _ _ _ e is (out-can l _) (refl, refl, refl)
reading_call s t l e (is_wwake is) = made_call s t l _ _ _ e is refl (refl, refl, refl)
reading_call s t l e (is_unbias call writes is) =
    made_call s t l _ call _ e is (writes-holds (λ c. can_have c kinds.Unbias None ≡ true) call l writes refl refl)
    (writes-holds (λ c. NamesFor kinds.Unbias c (unbias_event t l)) call l writes (refl, refl, refl) (refl, refl, refl))
reading_call s t l e (is_in call writes is can) =
    made_call s t l _ call _ e is (writes-holds (λ c. can_have c kinds.WTake (Some replies.Got) ≡ true) call l writes refl refl)
    (writes-holds (λ c. NamesFor kinds.WTake c (wtake_event t l None)) call l writes (refl, refl, refl) (refl, refl, refl))
reading_call s t l e (is_sleep is cannot) = made_call s t l _ _ _ e is refl (refl, refl, refl)
reading_call s t l e (is_given_up is cannot) = made_call s t l _ _ _ e is refl (refl, refl, refl)
reading_call s t l e (is_in_late is runs can) = made_call s t l _ _ _ e is refl (refl, refl, refl)
reading_call s t l e (is_sleep_again is runs cannot) = made_call s t l _ _ _ e is refl (refl, refl, refl)
reading_call s t l e (is_opened is held) = made_call s t l _ _ _ e is refl (refl, refl, refl)
reading_call s t l e (is_downgraded is held) = made_call s t l _ _ _ e is refl (refl, refl, refl)

-- of a walk, which has an answer where a short one ends
walk_call : (s : State) (t : TaskId) (route : Route) (u : TaskId) (next : Option Phase) (e x : Event) → WalksIn s t route u → e ≡ x → x.reply ≡ answer_of_walk route next
    → ((call : Call) → NamesFor x.kind call x)
    → can_have_waiting x.kind None ≡ true → ((call : Call) (answer : Reply) → IsToCome call answer → can_have call x.kind (answer_of_walk (Short answer) next) ≡ true) → IsAtCall s t e
walk_call s t route u next e x (by_full path l same asks) is reply names waits short =
    let none : x.reply ≡ None = reply ∙ ap (λ (r : Route). answer_of_walk r next) same in
    asks_call s t _ l e x asks is (ap (can_have_waiting x.kind) none ∙ waits) (λ lock task number. names asks.call)
walk_call s t route u next e x (by_short call answer same at to_come) is reply names waits short =
    let ends : x.reply ≡ answer_of_walk (Short answer) next = reply ∙ ap (λ (r : Route). answer_of_walk r next) same in
    in_call s t _ call e x at is (ap (can_have call x.kind) ends ∙ short call answer to_come) (names call)

-- of a task that leaves a queue
left_call : (s : State) (t : TaskId) (l : LockId) (e : Event) → IsLeft s t l e → IsAtCall s t e
left_call s t l e (by_leave is) =
    in_call s t phases.Wait (calls.LockInt l) e _ is.at is.event (answered-holds (λ reply. can_have (calls.LockInt l) kinds.Leave reply ≡ true) replies.Interrupted _ refl refl) (refl, refl, refl)
left_call s t l e (by_cycle path o m rest is round owned) =
    asks_call s t (phases.Confirm path) l e _ is.at (left-is s t l e (by_cycle path o m rest is round owned)) (answered-holds (λ reply. can_have_waiting kinds.Cycle reply ≡ true) replies.Deadlock _ refl refl)
    (λ lock task number. (lock, task, number))

its_call : (s : State) (made : ℕ) (t : TaskId) (e : Event) → IsLawful s made → IsNext s t e → IsAtCall s t e
its_call s made t e lawful (by_own call answer is) = record { call = call; at = is.at.calling; of = own-of s t call answer e is }
its_call s made t e lawful (by_acquire l (is_fast is)) =
    let at = fast-acquiring s t l is.how in
    told_call s t l at.call got_answer e _ at.calling (acquiring-called at.call l at.acquires) is.event refl
    (acquiring-holds (λ c. can_have c kinds.Fast (got_answer (Some c)) ≡ true) at.call l at.acquires refl refl refl refl refl refl refl refl refl) (λ lock task number. (lock, task, number))
its_call s made t e lawful (by_acquire l (is_take is)) =
    let at = take-acquiring s t l is.how in
    told_call s t l at.call got_answer e _ at.calling (acquiring-called at.call l at.acquires) is.event refl
    (acquiring-holds (λ c. can_have c kinds.Take (got_answer (Some c)) ≡ true) at.call l at.acquires refl refl refl refl refl refl refl refl refl) (λ lock task number. (lock, task, number))
its_call s made t e lawful (by_acquire l (is_mark is)) = asks_call s t _ l e _ (asking s t l is.how).1 is.event refl (λ lock task number. (lock, task, number))
its_call s made t e lawful (by_acquire l (is_busy is)) = busy_call s t l e is
its_call s made t e lawful (by_wait l (is_wait is)) = asks_call s t _ l e _ is.at is.event refl (λ lock task number. (lock, task, number))
its_call s made t e lawful (by_wait l (is_again is)) = asks_call s t _ l e _ is.at is.event refl (λ lock task number. (lock, task, number))
its_call s made t e lawful (by_wait l (is_leave is)) = left_call s t l e (leave-left s t l e is)
its_call s made t e lawful (by_release l (is_free is)) =
    told_call s t l is.at.call (λ (c : Option Call). Some (released_answer c)) e _ is.at.calling (returning-called s t l is.at) is.event refl
    (returning-holds (λ c. can_have c kinds.Free (Some (released_answer (Some c))) ≡ true) s t l is.at refl refl refl refl refl refl refl) (λ lock task number. (lock, task, number))
its_call s made t e lawful (by_release l (is_give is)) =
    told_call s t l is.at.call (λ (c : Option Call). Some (released_answer c)) e _ is.at.calling (returning-called s t l is.at) is.event refl
    (returning-holds (λ c. can_have c kinds.Give (Some (released_answer (Some c))) ≡ true) s t l is.at refl refl refl refl refl refl refl) (λ lock task number. (lock, task, number))
its_call s made t e lawful (by_reading l is) = reading_call s t l e is
its_call s made t e lawful (by_walk route u (is_walk l key is)) = walk_call s t route u _ e _ is.how is.event refl (λ call. (refl, refl, refl)) refl (walk-can _)
its_call s made t e lawful (by_walk route u (is_walkend is)) = walk_call s t route u None e _ is.how is.event refl (λ call. (refl, refl, refl)) refl walkend-can
its_call s made t e lawful (by_confirm l path (is_restart link is)) = asks_call s t _ l e _ is.at is.event refl (λ lock task number. (refl, refl, refl))
its_call s made t e lawful (by_confirm l path (is_cycle is)) = left_call s t l e (cycle-left s made t l path e lawful is)
its_call s made t e lawful (by_wakeup (is_state state is)) = in_call s t _ _ e _ is.at is.event refl (refl, refl, refl)
its_call s made t e lawful (by_wakeup (is_sched is)) = in_call s t _ _ e _ is.at is.event refl (refl, refl, refl)
its_call s made t e lawful (by_wakeup (is_wake u is)) = in_call s t _ _ e _ is.at is.event (waking-can _) (refl, refl, refl)
its_call s made t e lawful (by_wakeup (is_signal u is)) = in_call s t _ _ e _ is.at is.event (waking-can _) (refl, refl, refl)
its_call s made t e lawful (by_setprio u prio is) =
    in_call s t _ _ e _ is.at is.event (answered-holds (λ reply. can_have (calls.SetPrio u prio) kinds.SetPrio reply ≡ true) replies.Done _ refl refl) (refl, refl, refl)

-- ---- an event of a walk

-- it stands at its cursor
stands-at : (s : State) (t : TaskId) (route : Route) (u : TaskId) → WalksIn s t route u → StandsAt u (thread_part s t).phase
stands-at s t route u how = subst (StandsAt u) (sym (walk-phase s t route u how)) refl

of-walk : (s : State) (e : Event) → IsNext s e.task e → is_of_walk e.kind ≡ true → IsOfWalk s e
of-walk s e (by_walk route u (is_walk l key is)) walks = record {
  cursor = u;
  named = ap (λ (x : Event). x.other) is.event;
  stands = stands-at s e.task route u is.how;
  lock = ap (λ (x : Event). x.lock) is.event ∙ sym (ap blocking is.blocked);
}
of-walk s e (by_walk route u (is_walkend is)) walks = record {
  cursor = u;
  named = ap (λ (x : Event). x.other) is.event;
  stands = stands-at s e.task route u is.how;
  lock = ap (λ (x : Event). x.lock) is.event ∙ sym (ap blocking is.blocked);
}
of-walk s e (by_own call answer is) walks = absurd (other_kind is_of_walk e _ is.event refl walks)
of-walk s e (by_acquire l (is_fast is)) walks = absurd (other_kind is_of_walk e _ is.event refl walks)
of-walk s e (by_acquire l (is_mark is)) walks = absurd (other_kind is_of_walk e _ is.event refl walks)
of-walk s e (by_acquire l (is_take is)) walks = absurd (other_kind is_of_walk e _ is.event refl walks)
of-walk s e (by_acquire l (is_busy is)) walks = absurd (other_kind is_of_walk e _ is.event refl walks)
of-walk s e (by_wait l (is_wait is)) walks = absurd (other_kind is_of_walk e _ is.event refl walks)
of-walk s e (by_wait l (is_again is)) walks = absurd (other_kind is_of_walk e _ is.event refl walks)
of-walk s e (by_wait l (is_leave is)) walks = absurd (other_kind is_of_walk e _ is.event refl walks)
of-walk s e (by_release l (is_free is)) walks = absurd (other_kind is_of_walk e _ is.event refl walks)
of-walk s e (by_release l (is_give is)) walks = absurd (other_kind is_of_walk e _ is.event refl walks)
of-walk s e (by_reading l is) walks =
    let never : is_of_walk e.kind ≡ false = reading-kind (λ kind. is_of_walk kind ≡ false) s e.task l e is (record { rin = refl; busy = refl; rout = refl; wwake = refl; unbias = refl; wtake = refl; wsleep = refl; wopen = refl }) in
    absurd cc
of-walk s e (by_confirm l path (is_restart link is)) walks = absurd (other_kind is_of_walk e _ is.event refl walks)
of-walk s e (by_confirm l path (is_cycle is)) walks = absurd (other_kind is_of_walk e _ is.event refl walks)
of-walk s e (by_wakeup (is_state state is)) walks = absurd (other_kind is_of_walk e _ is.event refl walks)
of-walk s e (by_wakeup (is_sched is)) walks = absurd (other_kind is_of_walk e _ is.event refl walks)
of-walk s e (by_wakeup (is_wake u is)) walks = absurd (other_kind is_of_walk e _ is.event refl walks)
of-walk s e (by_wakeup (is_signal u is)) walks = absurd (other_kind is_of_walk e _ is.event refl walks)
of-walk s e (by_setprio u prio is) walks = absurd (other_kind is_of_walk e _ is.event refl walks)

-- ---- what an event leaves of a thread's count

-- a thread with the calls of another, this count of answers, and on this processor
record IsAt (thread : ThreadPart) (n : ℕ) (on : Cpu) (other : ThreadPart) : Type 0 where
  answered : other.answered ≡ n
  calls : other.calls ≡ thread.calls
  cpu : other.cpu ≡ on

-- an answer counts, and may say that the task is on another processor
abbrev answers : ℕ → Option Reply → ℕ
answers n None = n
answers n (Some answer) = suc n

abbrev cpu_then : Option Call → Option Reply → Cpu → Cpu
cpu_then call None cpu = cpu
cpu_then call (Some answer) cpu = cpu_after call answer cpu

answer-counts : (thread : ThreadPart) (phase : Phase) (count : ℕ) (reply : Option Reply)
    → IsAt thread (answers thread.answered reply) (cpu_then (call_of thread) reply thread.cpu) (answered_with (record thread { phase = phase; migration = count }) reply)
answer-counts thread phase count None = record { answered = refl; calls = refl; cpu = refl }
answer-counts thread phase count (Some answer) = record { answered = omega arith; calls = refl; cpu = refl }

-- the event's own thread, and every other
own-counts : (s : State) (e : Event) → e.task.0 < length s.threads
    → IsAt (thread_part s e.task) (answers (thread_part s e.task).answered e.reply) (cpu_then (call_of (thread_part s e.task)) e.reply (thread_part s e.task).cpu) (thread_part (state_after s e) e.task)
own-counts s e lt =
    let th = thread_part s e.task in
    let left = around (shared_after (shared s) th e) (touched e.kind e) in
    let moved = thread-phase e.kind e th (around (shared s) (touched e.kind e)) left th in
    subst (IsAt th (answers th.answered e.reply) (cpu_then (call_of th) e.reply th.cpu)) (sym (thread-own s e e refl lt))
    (subst (λ (x : ThreadPart). IsAt th (answers th.answered e.reply) (cpu_then (call_of th) e.reply th.cpu) (answered_with x e.reply)) (sym moved) (answer-counts th _ _ e.reply))

other-counts : (s : State) (e : Event) (t : TaskId) → nat_eq e.task.0 t.0 ≡ false → IsAt (thread_part s t) (thread_part s t).answered (thread_part s t).cpu (thread_part (state_after s e) t)
other-counts s e t other = subst (IsAt (thread_part s t) (thread_part s t).answered (thread_part s t).cpu) (sym (thread-other s e t other)) (record { answered = refl; calls = refl; cpu = refl })

-- ---- over a run

-- these events make the calls that are left at a thread, up to where it stands afterwards
record Made (events : List Event) (before after_all : ThreadPart) : Type 0 where
  count : ℕ
  sum : after_all.answered ≡ before.answered + count
  make : Make events before.cpu (drop before.answered before.calls) count

make-at : (events : List Event) (before between : ThreadPart) (n count : ℕ) (cpu : Cpu) → IsAt before n cpu between → Make events between.cpu (drop between.answered between.calls) count → Make events cpu (drop n before.calls) count
make-at events before between n count cpu at made =
    subst (λ (cs : List Call). Make events cpu cs count) (λ i. drop (at.answered i) (at.calls i)) (subst (λ (on : Cpu). Make events on (drop between.answered between.calls) count) at.cpu made)

-- an event of another task
made-other : (events : List Event) (before between after_all : ThreadPart) → IsAt before before.answered before.cpu between → Made events between after_all → Made events before after_all
made-other events before between after_all at made = record {
  count = made.count;
  sum = made.sum ∙ ap (λ (n : ℕ). n + made.count) at.answered;
  make = make-at events before between before.answered made.count before.cpu at made.make;
}

-- the calls that are left, of which the next one is first
drop-get : (xs : List Call) (i : ℕ) (x : Call) → slice_get xs i ≡ Some x → drop i xs ≡ x ∷ drop (suc i) xs
drop-get [] i x is = cc
drop-get (y ∷ xs) zero x is = let same : y ≡ x = cc in ap (λ z. z ∷ xs) same
drop-get (y ∷ xs) (suc i) x is = drop-get xs i x is

then-made : (rest : Cpu → List Call → ℕ → Type 0) (cpu : Cpu) (xs : List Call) (i n : ℕ) (call : Call) (reply : Option Reply) → drop i xs ≡ call ∷ drop (suc i) xs
    → rest (cpu_then (Some call) reply cpu) (drop (answers i reply) xs) n → then_make rest cpu call (drop (suc i) xs) reply (answers n reply)
then-made rest cpu xs i n call None left made = subst (λ (cs : List Call). rest cpu cs n) left made
then-made rest cpu xs i n call (Some answer) left made = made

sum-answers : (i n : ℕ) (reply : Option Reply) → answers i reply + n ≡ i + answers n reply
sum-answers i n None = refl
sum-answers i n (Some answer) = omega arith

-- a call goes to the same processor wherever it is made
made-goes : (on : Cpu) (call : Call) (reply : Option Reply) (cpu : Cpu) → cpu_then (Some (made_on on call)) reply cpu ≡ cpu_then (Some call) reply cpu
made-goes on (calls.Move to) reply cpu = refl
made-goes on (calls.Local l) None cpu = refl
made-goes on (calls.Local l) (Some answer) cpu = refl
made-goes on (calls.Unlocal l) None cpu = refl
made-goes on (calls.Unlocal l) (Some answer) cpu = refl
made-goes on _ reply cpu = refl

-- an event of the task's own
made-own : (e : Event) (call : Call) (events : List Event) (before between after_all : ThreadPart) → call_of before ≡ Some call → IsOfCall call e
    → IsAt before (answers before.answered e.reply) (cpu_then (call_of before) e.reply before.cpu) between → Made events between after_all → Made (e ∷ events) before after_all
made-own e call events before between after_all calling of at made =
    let listed = made-of before call calling in
    let left = drop-get before.calls before.answered listed.listed listed.at in
    let goes : cpu_then (call_of before) e.reply before.cpu ≡ cpu_then (Some listed.listed) e.reply before.cpu =
    ap (λ (c : Option Call). cpu_then c e.reply before.cpu) (calling ∙ ap Some listed.made) ∙ made-goes before.cpu listed.listed e.reply before.cpu in
    let made_rest = subst (λ (cpu : Cpu). Make events cpu (drop (answers before.answered e.reply) before.calls) made.count) goes
    (make-at events before between (answers before.answered e.reply) made.count (cpu_then (call_of before) e.reply before.cpu) at made.make) in
    record {
      count = answers made.count e.reply;
      sum = made.sum ∙ (ap (λ (n : ℕ). n + made.count) at.answered ∙ sum-answers before.answered made.count e.reply);
      make = subst (λ (cs : List Call). makes_first (Make events) before.cpu cs e (answers made.count e.reply)) (sym left)
          (subst (λ (c : Call). IsOfCall c e) listed.made of, then-made (Make events) before.cpu before.calls before.answered made.count listed.listed e.reply left made_rest);
    }

made-after : (s : State) (made : ℕ) (events : List Event) (t : TaskId) → IsLawful s made → IsRun s events → Made (events_of t events) (thread_part s t) (thread_part (after s events) t)
made-after s made [] t lawful run = record { count = 0; sum = omega arith; make = refl }
made-after s made (e ∷ events) t lawful run =
    by_test (nat_eq e.task.0 t.0) refl (made-after (state_after s e) (suc made) events t (run-lawful s made e events lawful run) run.1)
  where
    here : IsAtCall s e.task e
    here = its_call s made e.task e lawful (run-next s made e events lawful run)

    own : Made (events_of t events) (thread_part (state_after s e) e.task) (thread_part (after (state_after s e) events) t) → Made (e ∷ events_of t events) (thread_part s e.task) (thread_part (after (state_after s e) events) t)
    own rest = made-own e here.call (events_of t events) _ _ _ here.at here.of (own-counts s e (next-task s e.task e run.0)) rest

    by_test : (b : Bool) → nat_eq e.task.0 t.0 ≡ b → Made (events_of t events) (thread_part (state_after s e) t) (thread_part (after (state_after s e) events) t)
        → Made (cond b (e ∷ events_of t events) (events_of t events)) (thread_part s t) (thread_part (after (state_after s e) events) t)
    by_test false other rest = made-other (events_of t events) _ _ _ (other-counts s e t other) rest
    by_test true same rest =
        let one : e.task ≡ t = same_task e.task t same in
        subst (λ (u : TaskId). Made (e ∷ events_of t events) (thread_part s u) (thread_part (after (state_after s e) events) t)) one
        (own (subst (λ (u : TaskId). Made (events_of t events) (thread_part (state_after s e) u) (thread_part (after (state_after s e) events) t)) (sym one) rest))

-- ---- all calls

-- no more calls are answered than there are
reply-le : (rest : Cpu → List Call → ℕ → Type 0) (cpu : Cpu) (call : Call) (calls : List Call) (reply : Option Reply) (n : ℕ) → ((on : Cpu) (cs : List Call) (m : ℕ) → rest on cs m → m ≤ length cs) → then_make rest cpu call calls reply n
    → n ≤ suc (length calls)
reply-le rest cpu call calls None n le made = le cpu (call ∷ calls) n made
reply-le rest cpu call calls (Some answer) zero le made = absurd made
reply-le rest cpu call calls (Some answer) (suc n) le made = let most = le (cpu_after (Some call) answer cpu) calls n made in omega arith

make-le : (events : List Event) (cpu : Cpu) (calls : List Call) (n : ℕ) → Make events cpu calls n → n ≤ length calls
make-le [] cpu calls n made = omega (arith, made)
make-le (e ∷ events) cpu [] n made = absurd made
make-le (e ∷ events) cpu (call ∷ calls) n made = reply-le (Make events) cpu call calls e.reply n (λ on cs m. make-le events on cs m) made.1

-- a run that ended done left every thread at its end
ended-done : (s : State) → ended_of s ≡ Done → is_done s ≡ true
ended-done s ended = by_test (is_done s) (is_stuck s) refl ended
  where
    by_test : (b c : Bool) → is_done s ≡ b → cond b Done (cond c Stuck Limit) ≡ Done → b ≡ true
    by_test true c is eq = refl
    by_test false true is eq = cc
    by_test false false is eq = cc

-- a thread at its end has answered as many as it has
at_end : (thread : ThreadPart) → is_at_end thread ≡ true → length thread.calls ≤ thread.answered
at_end thread none = elim (slice_get_cases thread.calls thread.answered).1 [
  | inl here ↦ absurd (some here.0 here.2 none)
  | inr past ↦ past.0
]
  where
    some : (call : Call) → slice_get thread.calls thread.answered ≡ Some call → is_at_end thread ≡ true → ⊥
    some call is none = let there : call_of thread ≡ Some (made_on thread.cpu call) = ap (option_map (made_on thread.cpu)) is in cc

-- ---- the law

-- a thread at the start
thread-start : (script : Script) (t : TaskId) → t.0 < length script.tasks → thread_part (start script) t ≡ fresh_thread (kinds_in script) (task_line script t).calls (task_line script t).cpu
thread-start script t lt = read-map (λ (line : TaskLine). fresh_thread (kinds_in script) line.calls line.cpu) script.tasks t.0 _ _ lt

-- a thread of a state of the script has the calls of its line
pub calls-of : (script : Script) (s : State) (t : TaskId) → IsOf script s → t.0 < length script.tasks → t.0 < length s.threads → (thread_part s t).calls ≡ (task_line script t).calls
calls-of script s t is lt there =
    sym (read-map (λ (thread : ThreadPart). thread.calls) s.threads t.0 _ [] there)
    ∙ (ap (λ (cs : List (List Call)). unwrap_or (slice_get cs t.0) []) is.calls ∙ read-map (λ (line : TaskLine). line.calls) script.tasks t.0 _ [] lt)

module _ (script : Script) (events : List Event) (lawful : IsLawful (start script) 0) (run : IsRun (start script) events) where
  made-calls : (t : TaskId) → t.0 < length script.tasks → Make (events_of t events) (task_line script t).cpu (task_line script t).calls (answered_after script events t)
  made-calls t lt =
      let made = subst (λ (thread : ThreadPart). Made (events_of t events) thread (thread_part (after (start script) events) t)) (thread-start script t lt) (made-after (start script) 0 events t lawful run) in
      let count : made.count ≡ answered_after script events t = let sum = made.sum in omega arith in
      subst (λ (n : ℕ). Make (events_of t events) (task_line script t).cpu (task_line script t).calls n) count made.make

  all-calls : ended_of (after (start script) events) ≡ Done → (t : TaskId) → t.0 < length script.tasks → answered_after script events t ≡ length (task_line script t).calls
  all-calls ended t lt =
      let s = after (start script) events in
      let is : IsOf script s = IsOf-along script (start script) events (IsOf-start script) run in
      let there : t.0 < length s.threads = subst (λ (n : ℕ). t.0 < n) (sym (IsOf-threads script s is)) lt in
      let done = AllPass-from_list_all is_at_end s.threads (ended-done s ended) in
      let least = at_end (thread_part s t) (All-default (λ (thread : ThreadPart). is_at_end thread ≡ true) s.threads t.0 _ done there) in
      let same : length (thread_part s t).calls ≡ length (task_line script t).calls = ap length (calls-of script s t is lt there) in
      let most = make-le (events_of t events) (task_line script t).cpu (task_line script t).calls (answered_after script events t) (made-calls t lt) in
      omega arith

  pub calls-law : CallsLaw script events
  calls-law = record {
    made = made-calls;
    all = all-calls;
    walks = λ prefix rest e is walks. let s = after (start script) prefix in of-walk s e (next-there (start script) 0 events lawful run prefix rest e is) walks;
  }
