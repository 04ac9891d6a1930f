-- The event from which an answer comes.
use Rattle.std.proofs.Common.{◌≡◌, ◌⊎◌, inl, inr, ℕ, suc, ◌+◌, ◌<◌, Bool, true, false, ◌||◌, cond, List, [], ◌∷◌, ◌++◌, length, refl, sym, ap, ◌∙◌, subst, Option, Some, None, All}
use Rattle.std.specs.Prelude.{nat_eq, nat_lt, option_map}
use Rattle.std.proofs.lemmas.Bool.{cond_both}
use Rattle.std.proofs.lemmas.List.Elements.{All-nil, All-cons, All-head, All-tail}
use Rattle.std.proofs.lemmas.List.{append-nil, append_assoc}
use Rattle.rt_base.specs.declared.call.Call.{Call}
use Rattle.rt_base.specs.declared.call.Call.TheVariants as calls
use Rattle.rt_base.specs.declared.id.Cpu.{Cpu}
use Rattle.rt_base.specs.declared.id.LockId.{LockId}
use Rattle.rt_base.specs.declared.id.TaskId.{TaskId}
use Rattle.rt_base.specs.declared.reply.Reply.{Reply}
use Rattle.rt_base.specs.declared.reply.Reply.TheVariants as replies
use Rattle.rt_base.specs.declared.reply.Reply.TheVariants.{Woke, Missed}
use Rattle.rt_model.specs.declared.event.Event.{Event}
use Rattle.rt_model.specs.declared.event_kind.EventKind.{EventKind}
use Rattle.rt_model.specs.declared.event_kind.EventKind.TheVariants as kinds
use Rattle.rt_model.specs.declared.phase.Phase.{Phase}
use Rattle.rt_model.specs.declared.phase.Phase.TheVariants as phases
use Rattle.rt_model.specs.declared.phase.Route.{Route}
use Rattle.rt_model.specs.declared.phase.Route.TheVariants.{Full, Short}
use Rattle.rt_model.specs.declared.row.Row.{Row}
use Rattle.rt_model.specs.Parts.{TaskPart, ThreadPart, call_of, hold_of, kind_of}
use Rattle.rt_model.specs.Rows.{row_of}
use Rattle.rt_model.specs.State.{State, shared, lock_at, task_at, owner_part, reader_part, task_part, thread_part}
use Rattle.rt_model.specs.steps.Chain.{followed, goes_on, phase_of_walk, answer_of_walk}
use Rattle.rt_model.specs.Path.{first_lock, first_owner}
use Rattle.rt_model.specs.events.Own.{unless_nested, if_held, if_not_held, or_moved}
use Rattle.rt_model.specs.events.Wait.{phase_after_wait, leave_event}
use Rattle.rt_model.specs.events.Walk.{walk_event, cycle_event, phase_after_link, phase_after_end}
use Rattle.rt_model.specs.events.Wakeups.{setprio_event}
use Rattle.rt_model.specs.steps.Readers.{without_reader, wakes_writer}
use Rattle.rt_model.specs.steps.Task.{sleeps, is_interruptible, wake_answer, signal_answer}
use Rattle.rt_model.specs.steps.Thread.{phase_after_got, got_answer, released_answer, answered_with}
use Rattle.rt_model.specs.Effect.{Around, around}
use Rattle.rt_model.specs.Rules.{touched}
use Rattle.rt_model.specs.StateAfter.{effect_in, shared_after, state_after}
use Rattle.rt_model.specs.Run.{after, IsRun}
use Rattle.rt_model.specs.laws.Causes.{IsCause}
use Rattle.rt_model.specs.laws.Lawful.{IsLawful}
use Rattle.rt_model.specs.laws.Rows.{key_at}
use Rattle.rt_model.proofs.Calm.{wakeup-holds, wakeup-task}
use Rattle.rt_model.proofs.Numbers.{other_number, at_each_task}
use Rattle.rt_model.proofs.Leaves.{IsLeft, leave-left, cycle-left, left-locks, left-own_blocked}
use Rattle.rt_model.proofs.Queues.{row_of-without_other}
use Rattle.rt_model.proofs.Routes.{full-holds, short-holds}
use Rattle.rt_model.proofs.NextEvents.{IsNext, by_own, by_acquire, by_wait, by_release, by_reading, by_walk, by_confirm, by_wakeup, by_setprio}
use Rattle.rt_model.proofs.Lawful.{IsLawful-next}
use Rattle.rt_model.proofs.PartsAfter.{thread-own, thread-other}
use Rattle.rt_model.proofs.Reading.{is_idle, reading-threads, reading-was_idle}
use Rattle.rt_model.proofs.Waiters.{walk-phase}
use Rattle.rt_model.proofs.events.Own.{IsOwn, read-holds, write-holds}
use Rattle.rt_model.proofs.events.Acquire.{is_fast, is_mark, is_take, is_busy, IsAcquiring, fast-acquiring, take-acquiring, acquiring-holds}
use Rattle.rt_model.proofs.events.Readers.{reading-holds}
use Rattle.rt_model.proofs.events.Wait.{is_wait, is_again, is_leave, IsLeave}
use Rattle.rt_model.proofs.events.Release.{is_free, is_give}
use Rattle.rt_model.proofs.events.Walk.{WalksIn, by_full, by_short, is_walk, is_walkend, is_restart, is_cycle, IsWalk, IsCycleEvent}
use Rattle.rt_model.proofs.Prefixes.{run-prefix, run-lawful, run-next, lawful-there, next-there, next-task}

-- two values in a `Some`
some-same : {X : Type 0} {x y : X} → Some x ≡ Some y → x ≡ y
some-same is = cc

-- ---- short walks before an answer of a wait that ended

-- the answers of a wait that ended without the lock
abbrev pub of_wait : Reply → Bool
of_wait replies.Deadlock = true
of_wait replies.Interrupted = true
of_wait _ = false

-- an event that ends a task's wait, before this answer
pub data EndsWait (s : State) (t : TaskId) (e : Event) (answer : Reply) : Type 0 where
  ended_leave : (l : LockId) → answer ≡ replies.Interrupted → IsLeave s t l e → EndsWait s t e answer
  ended_cycle : (l : LockId) (path : List (ℕ × ℕ)) → answer ≡ replies.Deadlock → IsCycleEvent s t l path e → EndsWait s t e answer

-- it is of this kind
abbrev pub ended_by : Reply → EventKind
ended_by replies.Interrupted = kinds.Leave
ended_by answer = kinds.Cycle

ends-kind : (s : State) (t : TaskId) (e : Event) (answer : Reply) → EndsWait s t e answer → e.kind ≡ ended_by answer
ends-kind s t e answer (ended_leave l its is) = ap (λ (x : Event). x.kind) is.event ∙ ap ended_by (sym its)
ends-kind s t e answer (ended_cycle l path its is) = ap (λ (x : Event). x.kind) is.event ∙ ap ended_by (sym its)

-- it leaves the queue, and so has no row then
ends-left : (s : State) (made : ℕ) (t : TaskId) (e : Event) (answer : Reply) → IsLawful s made → EndsWait s t e answer → (l : LockId) × IsLeft s t l e
ends-left s made t e answer lawful (ended_leave l its is) = (l, leave-left s t l e is)
ends-left s made t e answer lawful (ended_cycle l path its is) = (l, cycle-left s made t l path e lawful is)

no_row : (row : Option Row) → option_map (λ (r : Row). r.key) row ≡ None → row ≡ None
no_row None is = refl
no_row (Some row) is = cc

pub ends-out : (s : State) (made : ℕ) (t : TaskId) (e : Event) (answer : Reply) → IsLawful s made → IsNext s t e → EndsWait s t e answer
    → (l : LockId) → row_of t (owner_part (state_after s e) l).rows ≡ None
ends-out s made t e answer lawful next ended l =
    let left = ends-left s made t e answer lawful ended in
    let rows = (IsLawful-next s made t e lawful next).rows.rows l t in
    no_row (row_of t (owner_part (state_after s e) l).rows) (rows ∙ ap (λ (b : Option (LockId × ℕ)). key_at b l) (left-own_blocked s made t left.0 e lawful left.1))

-- its task is blocked on no lock, and every other task has the row that it had
pub ends-unblocked : (s : State) (made : ℕ) (t : TaskId) (e : Event) (answer : Reply) → IsLawful s made → EndsWait s t e answer → (task_part (state_after s e) t).blocked ≡ None
ends-unblocked s made t e answer lawful ended = let left = ends-left s made t e answer lawful ended in left-own_blocked s made t left.0 e lawful left.1

pub ends-others : (s : State) (made : ℕ) (t : TaskId) (e : Event) (answer : Reply) → IsLawful s made → EndsWait s t e answer
    → (l : LockId) (u : TaskId) → nat_eq t.0 u.0 ≡ false → row_of u (owner_part (state_after s e) l).rows ≡ row_of u (owner_part s l).rows
ends-others s made t e answer lawful ended l u ne =
    let left = ends-left s made t e answer lawful ended in
    left-locks s made t left.0 e lawful left.1 (λ m lock. row_of u lock.rows ≡ row_of u (owner_part s m).rows) l (row_of-without_other t u (owner_part s left.0).rows ne) (λ there. refl)

-- a short walk goes on before its answer
short-answer : (t : TaskId) (a b : Reply) (owner : Option TaskId) (task : TaskPart) (u : TaskId) → phase_of_walk (goes_on t (Short a) owner task) ≡ phases.Walk u (Short b) → a ≡ b
short-answer t a b owner task u = short-holds (λ next. phase_of_walk next ≡ phases.Walk u (Short b) → a ≡ b) t a owner task (λ is. cc) (λ o some old is. cc)

-- a full walk never goes on as a short one
full-never : (t : TaskId) (path rest : List (ℕ × ℕ)) (b : Reply) (owner : Option TaskId) (task : TaskPart) (u : TaskId)
    → phase_of_walk (goes_on t (Full rest) owner task) ≡ phases.Walk u (Short b) → ⊥
full-never t path rest b owner task u =
    full-holds (λ next. phase_of_walk next ≡ phases.Walk u (Short b) → ⊥) t rest owner task (λ is. cc) (λ some blocked is. cc) (λ o some stands is. cc)

-- a thread that walks after an event has no answer by it
unanswered : (thread : ThreadPart) (reply : Option Reply) (u : TaskId) (route : Route) → (answered_with thread reply).phase ≡ phases.Walk u route → (reply ≡ None) × (thread.phase ≡ phases.Walk u route)
unanswered thread None u route is = (refl, is)
unanswered thread (Some answer) u route is = cc

-- what an event touches, as it leaves that, and the thread that it leaves, but for its answer
abbrev around_left : State → Event → Around
around_left s e = around (shared_after (shared s) (thread_part s e.task) e) (touched e.kind e)

abbrev thread_left : State → Event → ThreadPart
thread_left s e = (effect_in (shared s) (thread_part s e.task) e).thread (around_left s e) (thread_part s e.task)

-- what a task that walks after an event of its own did by it, which comes about as x
record Walked (s : State) (e x : Event) (u : TaskId) (route : Route) : Type 0 where
  none : e.reply ≡ None
  reply : x.reply ≡ None
  left : (thread_left s x).phase ≡ phases.Walk u route

walked : (s : State) (t : TaskId) (e x : Event) (u : TaskId) (route : Route) → e ≡ x → x.task ≡ t → t.0 < length s.threads
    → (thread_part (state_after s e) t).phase ≡ phases.Walk u route → Walked s e x u route
walked s t e x u route is its lt walks =
    let there : x.task.0 < length s.threads = subst (λ (v : TaskId). v.0 < length s.threads) (sym its) lt in
    let own = thread-own s e x is there in
    let here = subst (λ (v : TaskId). (thread_part (state_after s e) v).phase ≡ phases.Walk u route) (sym its) walks in
    let both = unanswered (thread_left s x) x.reply u route (sym (ap (λ (th : ThreadPart). th.phase) own) ∙ here) in
    record { none = ap (λ (y : Event). y.reply) is ∙ both.0; reply = both.0; left = both.1 }

-- a task that makes a short walk after an event of its own made it before, or ends its wait by that event
pub data Comes (s : State) (t : TaskId) (e : Event) (answer : Reply) : Type 0 where
  went_on : (u : TaskId) → (thread_part s t).phase ≡ phases.Walk u (Short answer) → e.reply ≡ None → Comes s t e answer
  begun : EndsWait s t e answer → e.reply ≡ None → Comes s t e answer

-- a task that has been queued makes no short walk
wait-never : (t : TaskId) (l : Option LockId) (owner : Option TaskId) (blocked : Bool) (u : TaskId) (b : Reply) → phase_after_wait t l owner blocked ≡ phases.Walk u (Short b) → ⊥
wait-never t None owner blocked u b is = cc
wait-never t (Some l) None blocked u b is = cc
wait-never t (Some l) (Some o) true u b is = cc
wait-never t (Some l) (Some o) false u b is = cc

-- nor one whose walk has ended
end-never : (cursor u : TaskId) (b : Reply) (route : Route) → phase_after_end (phases.Walk cursor route) ≡ phases.Walk u (Short b) → ⊥
end-never cursor u b (Full path) is = cc
end-never cursor u b (Short a) is = cc

module _ (s : State) (t : TaskId) (e : Event) (answer : Reply) (u : TaskId) (of : of_wait answer ≡ true) (lt : t.0 < length s.threads)
    (walks : (thread_part (state_after s e) t).phase ≡ phases.Walk u (Short answer)) where
  -- an event that leaves no such walk
  no_walk : (x : Event) → e ≡ x → x.task ≡ t → ((thread_left s x).phase ≡ phases.Walk u (Short answer) → ⊥) → Comes s t e answer
  no_walk x is its never = absurd (never (walked s t e x u (Short answer) is its lt walks).left)

  answered : (x : Event) → e ≡ x → x.task ≡ t → (x.reply ≡ None → ⊥) → Comes s t e answer
  answered x is its never = absurd (never (walked s t e x u (Short answer) is its lt walks).reply)

  -- one that begins a short walk before an answer
  starts : (x : Event) (a : Reply) (owner : Option TaskId) (task : TaskPart) → e ≡ x → x.task ≡ t
      → (thread_left s x).phase ≡ phase_of_walk (goes_on t (Short a) owner task) → (a ≡ answer) × (e.reply ≡ None)
  starts x a owner task is its leaves =
      let both = walked s t e x u (Short answer) is its lt walks in
      (short-answer t a answer owner task u (sym leaves ∙ both.left), both.none)

  done_short : replies.Done ≡ answer → ⊥
  done_short is = let never : of_wait answer ≡ false = ap of_wait (sym is) in cc

  -- a link of a walk
  linked : (route : Route) (cursor : TaskId) (l : LockId) (key : ℕ) → IsWalk s t route cursor l key e → Comes s t e answer
  linked route cursor l key is = by_route is.how
    where
      x : Event
      x = walk_event t route cursor l (owner_part s l) (task_part s cursor) (task_at (shared s) (owner_part s l).owner)

      both : Walked s e x u (Short answer)
      both = walked s t e x u (Short answer) is.event refl lt walks

      owner : TaskPart
      owner = (around_left s x).owner

      onward : (r : Route) → route ≡ r → phase_of_walk (goes_on t (followed cursor l r) (owner_part s l).owner owner) ≡ phases.Walk u (Short answer)
      onward r same = ap (λ (p : Phase). phase_after_link t (Some l) (owner_part s l).owner owner p) (sym (walk-phase s t route cursor is.how ∙ ap (phases.Walk cursor) same)) ∙ both.left

      by_route : WalksIn s t route cursor → Comes s t e answer
      by_route (by_full path m same asks) = absurd (full-never t path (path ++ (cursor.0, l.0) ∷ []) answer (owner_part s l).owner owner u (onward (Full path) same))
      by_route (by_short call before same at to_come) =
          let one = short-answer t before answer (owner_part s l).owner owner u (onward (Short before) same) in
          went_on cursor (at.phased ∙ (ap (phases.Walk cursor) same ∙ ap (λ (b : Reply). phases.Walk cursor (Short b)) one)) both.none

  -- one that gets a lock, which either answers, or is the way of a reader or a writer
  got : (l : LockId) (x : Event) → e ≡ x → x.task ≡ t → IsAcquiring s t l → x.reply ≡ got_answer (call_of (thread_part s t))
      → (thread_left s x).phase ≡ phase_after_got (call_of (thread_part s t)) (thread_part s t).phase → Comes s t e answer
  got l x is its at reply left =
      let both = walked s t e x u (Short answer) is its lt walks in
      absurd (acquiring-holds (λ c. got_answer (Some c) ≡ None → phase_after_got (Some c) (thread_part s t).phase ≡ phases.Walk u (Short answer) → ⊥) at.call l at.acquires
      (λ none. cc) (λ none. cc) (λ none. cc) (λ none. cc) (λ none. cc) (λ none. cc) (λ none phase. cc) (λ none phase. cc) (λ none phase. cc)
      (ap got_answer (sym at.calling) ∙ (sym reply ∙ both.reply)) (ap (λ (c : Option Call). phase_after_got c (thread_part s t).phase) (sym at.calling) ∙ (sym left ∙ both.left)))

  -- one that leaves its task idle
  idle : is_idle (thread_part (state_after s e) t).phase ≡ true → Comes s t e answer
  idle is = let never : is_idle (phases.Walk u (Short answer)) ≡ true = ap is_idle (sym walks) ∙ is in absurd cc

  pub comes : IsNext s t e → Comes s t e answer
  comes (by_own call a is) = answered _ is.event refl (λ n. cc)
  comes (by_acquire l (is_fast is)) = got l _ is.event refl (fast-acquiring s t l is.how) refl refl
  comes (by_acquire l (is_mark is)) = no_walk _ is.event refl (λ w. cc)
  comes (by_acquire l (is_take is)) = got l _ is.event refl (take-acquiring s t l is.how) refl refl
  comes (by_acquire l (is_busy is)) = answered _ is.event refl (λ n. cc)
  comes (by_wait l (is_wait is)) = no_walk _ is.event refl (wait-never t (Some l) _ _ u answer)
  comes (by_wait l (is_again is)) = no_walk _ is.event refl (λ w. let at = is.at.at.phased in cc)
  comes (by_wait l (is_leave is)) =
      let x : Event = leave_event t l (owner_part s l) (task_at (shared s) (owner_part s l).owner) in
      let both = starts x replies.Interrupted (owner_part s l).owner (around_left s x).owner is.event refl refl in
      begun (ended_leave l (sym both.0) is) both.1
  comes (by_release l (is_free is)) = answered _ is.event refl (λ n. cc)
  comes (by_release l (is_give is)) = answered _ is.event refl (λ n. cc)
  comes (by_reading l is) = idle (reading-threads s t l e is (λ v thread. is_idle thread.phase ≡ true) t (λ thread still. still) (reading-was_idle s t l e is))
  comes (by_walk route cursor (is_walk l key is)) = linked route cursor l key is
  comes (by_walk route cursor (is_walkend is)) =
      no_walk _ is.event refl (λ w. end-never cursor u answer route (sym (ap phase_after_end (walk-phase s t route cursor is.how)) ∙ w))
  comes (by_confirm l path (is_restart link is)) = no_walk _ is.event refl (λ w. cc)
  comes (by_confirm l path (is_cycle is)) =
      let x : Event = cycle_event t path (lock_at (shared s) (first_lock path)) (task_at (shared s) (first_owner path)) in
      let both = starts x replies.Deadlock (first_owner path) (around_left s x).owner is.event refl refl in
      begun (ended_cycle l path (sym both.0) is) both.1
  comes (by_wakeup is) =
      answered e refl (wakeup-task s t e is) (wakeup-holds (λ x. x.reply ≡ None → ⊥) s t e is (λ state n. cc) (λ n. cc) (λ v n. cc) (λ v n. cc))
  comes (by_setprio v prio is) =
      let x : Event = setprio_event t v prio (task_part s v) in
      absurd (done_short (starts x replies.Done (Some v) (around_left s x).other is.event refl refl).0)

-- an event with such an answer gives it at once, ends a wait with it, or ends the short walk before it
pub data Answers (s : State) (t : TaskId) (e : Event) (answer : Reply) : Type 0 where
  by_itself : (call : Call) → IsOwn s t call answer e → Answers s t e answer
  by_ending : EndsWait s t e answer → Answers s t e answer
  by_walking : (u : TaskId) → (thread_part s t).phase ≡ phases.Walk u (Short answer) → Answers s t e answer

-- the answer of a short walk, where it ends, and of a full one
walk-answer : (a b : Reply) (next : Option Phase) → answer_of_walk (Short a) next ≡ Some b → a ≡ b
walk-answer a b None is = cc
walk-answer a b (Some phase) is = cc

full-unanswered : (path : List (ℕ × ℕ)) (b : Reply) (next : Option Phase) → answer_of_walk (Full path) next ≡ Some b → ⊥
full-unanswered path b next is = cc

-- an answer of another sort
abbrev of_reply : Option Reply → Bool
of_reply None = false
of_reply (Some answer) = of_wait answer

wake-other : (task : TaskPart) → of_wait (wake_answer task) ≡ false
wake-other task = cond_both (sleeps task.state || sleeps task.saved) Woke Missed (λ answer. of_wait answer ≡ false) (λ its. refl) (λ its. refl)

got-other : (call : Option Call) → of_reply (got_answer call) ≡ false
got-other (Some (calls.Read l)) = refl
got-other (Some (calls.Write l)) = refl
got-other (Some (calls.TryWrite l)) = refl
got-other _ = refl

given-other : (call : Option Call) → of_wait (released_answer call) ≡ false
given-other (Some (calls.Read l)) = refl
given-other (Some (calls.TryWrite l)) = refl
given-other _ = refl

out-other : (woken : Bool) → of_reply (cond woken None (Some replies.Done)) ≡ false
out-other true = refl
out-other false = refl

signal-other : (task : TaskPart) → of_wait (signal_answer task) ≡ false
signal-other task = cond_both (is_interruptible task.state || is_interruptible task.saved) Woke Missed (λ answer. of_wait answer ≡ false) (λ its. refl) (λ its. refl)

module _ (s : State) (t : TaskId) (e : Event) (answer : Reply) (of : of_wait answer ≡ true) (is_answered : e.reply ≡ Some answer) where
  told : (x : Event) → e ≡ x → x.reply ≡ Some answer
  told x is = sym (ap (λ (y : Event). y.reply) is) ∙ is_answered

  other : (x : Event) → e ≡ x → of_reply x.reply ≡ false → Answers s t e answer
  other x is not = let never : of_reply x.reply ≡ of_wait answer = ap of_reply (told x is) in absurd cc

  short_done : (route : Route) (u : TaskId) (next : Option Phase) → WalksIn s t route u → answer_of_walk route next ≡ Some answer → Answers s t e answer
  short_done route u next (by_full path l same asks) is = absurd (full-unanswered path answer next (subst (λ (r : Route). answer_of_walk r next ≡ Some answer) same is))
  short_done route u next (by_short call before same at to_come) is =
      let one : before ≡ answer = walk-answer before answer next (subst (λ (r : Route). answer_of_walk r next ≡ Some answer) same is) in
      by_walking u (at.phased ∙ (ap (phases.Walk u) same ∙ ap (λ (b : Reply). phases.Walk u (Short b)) one))

  pub answers : IsNext s t e → Answers s t e answer
  answers (by_own call a is) = let own : a ≡ answer = some-same (told _ is.event) in by_itself call (subst (λ (b : Reply). IsOwn s t call b e) own is)
  answers (by_acquire l (is_fast is)) = other _ is.event (got-other (call_of (thread_part s t)))
  answers (by_acquire l (is_mark is)) = other _ is.event refl
  answers (by_acquire l (is_take is)) = other _ is.event (got-other (call_of (thread_part s t)))
  answers (by_acquire l (is_busy is)) = other _ is.event refl
  answers (by_wait l (is_wait is)) = other _ is.event refl
  answers (by_wait l (is_again is)) = other _ is.event refl
  answers (by_wait l (is_leave is)) = by_ending (ended_leave l (sym (walk-answer replies.Interrupted answer _ (told _ is.event))) is)
  answers (by_release l (is_free is)) = other _ is.event (given-other (call_of (thread_part s t)))
  answers (by_release l (is_give is)) = other _ is.event (given-other (call_of (thread_part s t)))
  answers (by_reading l is) =
      other e refl
      (reading-holds (λ phase x. of_reply x.reply ≡ false) s t l e is
      (record {
        read = refl;
        let_in = refl;
        shut = refl;
        tryshut = refl;
        out = out-other (wakes_writer (without_reader (reader_part s l)));
        wwake = refl;
        unbias = refl;
        written = refl;
        late = refl;
        sleep = refl;
        again = refl;
        given_up = refl;
        opened = refl;
        downgraded = refl;
      }))
  answers (by_walk route u (is_walk l key is)) = short_done route u _ is.how (told _ is.event)
  answers (by_walk route u (is_walkend is)) = short_done route u _ is.how (told _ is.event)
  answers (by_confirm l path (is_restart link is)) = other _ is.event refl
  answers (by_confirm l path (is_cycle is)) = by_ending (ended_cycle l path (sym (walk-answer replies.Deadlock answer _ (told _ is.event))) is)
  answers (by_wakeup is) =
      other e refl
      (wakeup-holds (λ x. of_reply x.reply ≡ false) s t e is (λ state. refl) refl (λ u. wake-other (task_part s u)) (λ u. signal-other (task_part s u)))
  answers (by_setprio u prio is) = let never : of_wait replies.Done ≡ true = subst (λ (b : Reply). of_wait b ≡ true) (sym (walk-answer replies.Done answer _ (told _ is.event))) of in absurd cc

-- ---- what a thread answers at once

spin-held : (held : Bool) (answer : Reply) → if_held held ≡ Some answer → (answer ≡ replies.Deadlock) × (held ≡ true)
spin-held true answer is = (sym (some-same is), refl)
spin-held false answer is = cc

nested-held : (nested : ℕ) (held : Bool) (answer : Reply) → unless_nested nested (if_held held) ≡ Some answer → of_wait answer ≡ true → (answer ≡ replies.Deadlock) × (held ≡ true)
nested-held nested held answer is of = by_test (nat_lt 0 nested) is
  where
    by_test : (b : Bool) → cond b (Some replies.Nesting) (if_held held) ≡ Some answer → (answer ≡ replies.Deadlock) × (held ≡ true)
    by_test true is = let nesting : of_wait replies.Nesting ≡ of_wait answer = ap of_wait (some-same is) in absurd cc
    by_test false is = spin-held held answer is

passed-other : (nested : ℕ) (answer : Reply) → unless_nested nested None ≡ Some answer → of_wait answer ≡ true → ⊥
passed-other nested answer is of = by_test (nat_lt 0 nested) is
  where
    by_test : (b : Bool) → cond b (Some replies.Nesting) None ≡ Some answer → ⊥
    by_test true is = let nesting : of_wait replies.Nesting ≡ of_wait answer = ap of_wait (some-same is) in cc
    by_test false is = cc

released-other : (held : Bool) (answer : Reply) → if_not_held held ≡ Some answer → of_wait answer ≡ true → ⊥
released-other true answer is of = cc
released-other false answer is of = let other : of_wait replies.NotOwner ≡ of_wait answer = ap of_wait (some-same is) in cc

moved-other : (cpu : Cpu) (answer : Reply) (pinned : Bool) → or_moved (calls.Move cpu) (cond pinned (Some replies.Pinned) None) ≡ Some answer → of_wait answer ≡ true → ⊥
moved-other cpu answer true is of = let other : of_wait replies.Pinned ≡ of_wait answer = ap of_wait (some-same is) in cc
moved-other cpu answer false is of = let other : of_wait replies.Done ≡ of_wait answer = ap of_wait (some-same is) in cc

-- the event is on a lock that its task holds
abbrev pub IsOnHeld : State → TaskId → Event → Type 0
IsOnHeld s t e = (l : LockId) × (e.lock ≡ Some l) × ((hold_of (thread_part s t) l).owns ≡ true)

-- such an answer is deadlock, of this lock
abbrev Refuses : State → TaskId → LockId → Reply → Type 0
Refuses s t l answer = (answer ≡ replies.Deadlock) × ((hold_of (thread_part s t) l).owns ≡ true)

-- such an answer that it gives at once is deadlock, of a lock that it holds
pub own-held : (s : State) (t : TaskId) (call : Call) (answer : Reply) (e : Event) → IsOwn s t call answer e → of_wait answer ≡ true → (answer ≡ replies.Deadlock) × IsOnHeld s t e
own-held s t (calls.Lock l) answer e is of = let both = nested-held _ _ answer is.why of in (both.0, (l, ap (λ (x : Event). x.lock) is.event, both.1))
own-held s t (calls.LockInt l) answer e is of = let both = nested-held _ _ answer is.why of in (both.0, (l, ap (λ (x : Event). x.lock) is.event, both.1))
own-held s t (calls.Spin l) answer e is of = let both = spin-held _ answer is.why in (both.0, (l, ap (λ (x : Event). x.lock) is.event, both.1))
own-held s t (calls.Read l) answer e is of =
    let both = read-holds (λ (own : Option Reply). own ≡ Some answer → Refuses s t l answer) l (Some (kind_of (thread_part s t) l)) _ _ _ (λ why. nested-held _ _ answer why of) (spin-held _ answer) is.why in
    (both.0, (l, ap (λ (x : Event). x.lock) is.event, both.1))
own-held s t (calls.Write l) answer e is of =
    let both = write-holds (λ (own : Option Reply). own ≡ Some answer → Refuses s t l answer) l (Some (kind_of (thread_part s t) l)) _ _ _ (λ why. nested-held _ _ answer why of) (spin-held _ answer) is.why in
    (both.0, (l, ap (λ (x : Event). x.lock) is.event, both.1))
own-held s t (calls.Unlock l) answer e is of = absurd (released-other _ answer is.why of)
own-held s t (calls.Unspin l) answer e is of = absurd (released-other _ answer is.why of)
own-held s t (calls.Unread l) answer e is of = absurd (released-other _ answer is.why of)
own-held s t (calls.Unwrite l) answer e is of = absurd (released-other _ answer is.why of)
own-held s t (calls.Downgrade l) answer e is of = absurd (released-other _ answer is.why of)
own-held s t calls.Schedule answer e is of = absurd (passed-other _ answer is.why of)
own-held s t (calls.TryLock l) answer e is of = let why = is.why in cc
own-held s t (calls.TrySpin l) answer e is of = let why = is.why in cc
own-held s t (calls.TryRead l) answer e is of = let why = is.why in cc
own-held s t (calls.TryWrite l) answer e is of = let why = is.why in cc
own-held s t (calls.State state) answer e is of = let why = is.why in cc
own-held s t (calls.Wake u) answer e is of = let why = is.why in cc
own-held s t (calls.Signal u) answer e is of = let why = is.why in cc
own-held s t (calls.SetPrio u prio) answer e is of = let why = is.why in cc
own-held s t (calls.Local l) answer e is of = let both = spin-held _ answer is.why in (both.0, (l, ap (λ (x : Event). x.lock) is.event, both.1))
own-held s t (calls.Unlocal l) answer e is of = absurd (released-other _ answer is.why of)
own-held s t (calls.Move cpu) answer e is of = absurd (moved-other cpu answer (nat_lt 0 (thread_part s t).migration) is.why of)

-- ---- the cause of a task's short walk, along a run

-- one event more
after-more : (s : State) (events : List Event) (e : Event) → after s (events ++ e ∷ []) ≡ state_after (after s events) e
after-more s [] e = refl
after-more s (x ∷ events) e = after-more (state_after s x) events e

append-more : {X : Type 0} (xs : List X) (x : X) (ys : List X) → (xs ++ x ∷ []) ++ ys ≡ xs ++ x ∷ ys
append-more [] x ys = refl
append-more (z ∷ xs) x ys = ap (λ zs. z ∷ zs) (append-more xs x ys)

All-more : {X : Type 0} (Q : X → Type 0) (xs : List X) (x : X) → All Q xs → Q x → All Q (xs ++ x ∷ [])
All-more Q [] x all holds = All-cons Q x [] holds (All-nil Q)
All-more Q (y ∷ xs) x all holds = All-cons Q y (xs ++ x ∷ []) (All-head Q y xs all) (All-more Q xs x (All-tail Q y xs all) holds)

-- what is to hold of the cause of an answer, by the task that it is of and the state in which it is made
module _ (answer : Reply) (P : TaskId → State → Event → Type 0) where
  -- one of these events is the cause of what the task is to be answered, and from it on the task has had no answer
  record IsUnderWay (s : State) (t : TaskId) (events : List Event) : Type 0 where
    prefix : List Event
    cause : Event
    since : List Event
    is : prefix ++ cause ∷ since ≡ events
    kind : cause.kind ≡ ended_by answer
    task : cause.task ≡ t
    holds : P t (after s prefix) cause
    unanswered : All (λ (other : Event). other.task ≡ t → other.reply ≡ None) (cause ∷ since)

  -- it begins with the cause, and stays so until the task has an answer
  under_way-begun : (s : State) (t : TaskId) (events : List Event) (e : Event) → e.kind ≡ ended_by answer → e.task ≡ t → e.reply ≡ None → P t (after s events) e → IsUnderWay s t (events ++ e ∷ [])
  under_way-begun s t events e kind its none holds = record {
    prefix = events;
    cause = e;
    since = [];
    is = refl;
    kind = kind;
    task = its;
    holds = holds;
    unanswered = All-cons (λ (other : Event). other.task ≡ t → other.reply ≡ None) e [] (λ own. none) (All-nil (λ (other : Event). other.task ≡ t → other.reply ≡ None));
  }

  under_way-on : (s : State) (t : TaskId) (events : List Event) (e : Event) → IsUnderWay s t events → (e.task ≡ t → e.reply ≡ None) → IsUnderWay s t (events ++ e ∷ [])
  under_way-on s t events e way none = record {
    prefix = way.prefix;
    cause = way.cause;
    since = way.since ++ e ∷ [];
    is = sym (append_assoc way.prefix (way.cause ∷ way.since) (e ∷ [])) ∙ ap (λ (xs : List Event). xs ++ e ∷ []) way.is;
    kind = way.kind;
    task = way.task;
    holds = way.holds;
    unanswered = All-more (λ (other : Event). other.task ≡ t → other.reply ≡ None) (way.cause ∷ way.since) e way.unanswered none;
  }

  -- the cause of an answer that is given
  pub record HasCause (s : State) (before : List Event) (e : Event) : Type 0 where
    pub prefix : List Event
    pub cause : Event
    pub same_call : IsCause (ended_by answer) before e cause prefix
    pub holds : P e.task (after s prefix) cause

  at-once : (s : State) (before : List Event) (e : Event) → e.kind ≡ ended_by answer → P e.task (after s before) e → HasCause s before e
  at-once s before e kind holds = record {
    prefix = before;
    cause = e;
    same_call = record { since = []; is = append-nil before; first = refl; is_of = kind; task = refl; unanswered = All-nil (λ (other : Event). other.task ≡ e.task → other.reply ≡ None) };
    holds = holds;
  }

  after-walk : (s : State) (before : List Event) (e : Event) → IsUnderWay s e.task before → HasCause s before e
  after-walk s before e way = record {
    prefix = way.prefix;
    cause = way.cause;
    same_call = record { since = way.cause ∷ way.since; is = way.is; first = refl; is_of = way.kind; task = way.task; unanswered = way.unanswered };
    holds = way.holds;
  }

  -- ---- an answer of a wait that ended, where what ends a wait before it is such a cause

  module _ (of : of_wait answer ≡ true) (ends : (s : State) (made : ℕ) (e : Event) → IsLawful s made → IsNext s e.task e → EndsWait s e.task e answer → P e.task s e) where
    -- each task in a short walk before the answer is under way
    abbrev AllUnderWay : State → List Event → Type 0
    AllUnderWay s events = (t u : TaskId) → (thread_part (after s events) t).phase ≡ phases.Walk u (Short answer) → IsUnderWay s t events

    way-more : (s : State) (made : ℕ) (events : List Event) (e : Event) → IsLawful (after s events) made → IsNext (after s events) e.task e
        → e.task.0 < length (after s events).threads → AllUnderWay s events → AllUnderWay s (events ++ e ∷ [])
    way-more s made events e lawful next lt were t u walks =
        at_each_task Aim e.task t own others (subst (λ (x : State). (thread_part x t).phase ≡ phases.Walk u (Short answer)) (after-more s events e) walks)
      where
        there : State
        there = after s events

        Aim : TaskId → Type 0
        Aim v = (thread_part (state_after there e) v).phase ≡ phases.Walk u (Short answer) → IsUnderWay s v (events ++ e ∷ [])

        by_comes : Comes there e.task e answer → IsUnderWay s e.task (events ++ e ∷ [])
        by_comes (went_on cursor phase none) = under_way-on s e.task events e (were e.task cursor phase) (λ its. none)
        by_comes (begun ended none) = under_way-begun s e.task events e (ends-kind there e.task e answer ended) refl none (ends there made e lawful next ended)

        own : Aim e.task
        own here = by_comes (comes there e.task e answer u of lt here next)

        others : nat_eq e.task.0 t.0 ≡ false → Aim t
        others ne here =
            let before = sym (ap (λ (th : ThreadPart). th.phase) (thread-other there e t ne)) ∙ here in
            under_way-on s t events e (were t u before) (λ same. absurd (other_number e.task.0 t.0 ne (ap (λ (v : TaskId). v.0) same)))

    way-along : (s : State) (made : ℕ) (done events : List Event) → IsLawful (after s done) made → IsRun (after s done) events → AllUnderWay s done → AllUnderWay s (done ++ events)
    way-along s made done [] lawful run were = subst (AllUnderWay s) (sym (append-nil done)) were
    way-along s made done (e ∷ events) lawful run were =
        let next = run-next (after s done) made e events lawful run in
        let there = next-task (after s done) e.task e run.0 in
        let left = run-lawful (after s done) made e events lawful run in
        let same = sym (after-more s done e) in
        subst (AllUnderWay s) (append-more done e events)
        (way-along s (suc made) (done ++ e ∷ []) events (subst (λ (x : State). IsLawful x (suc made)) same left) (subst (λ (x : State). IsRun x events) same run.1)
        (way-more s made done e lawful next there were))

    -- so each such answer has its cause, or is given at once
    module _ (s : State) (made : ℕ) (events : List Event) (lawful : IsLawful s made) (run : IsRun s events) (idle : (t : TaskId) → (thread_part s t).phase ≡ phases.Start) where
      way-there : (before rest : List Event) → before ++ rest ≡ events → AllUnderWay s before
      way-there before rest is =
          way-along s made [] before lawful (run-prefix s before rest (subst (IsRun s) (sym is) run)) (λ t u walks. let at = idle t in cc)

      pub has-cause : (before rest : List Event) (e : Event) → before ++ e ∷ rest ≡ events → e.reply ≡ Some answer → ((call : Call) × IsOwn (after s before) e.task call answer e) ⊎ HasCause s before e
      has-cause before rest e is answered = by_answers (answers there e.task e answer of answered next)
        where
          there : State
          there = after s before

          next : IsNext there e.task e
          next = next-there s made events lawful run before rest e is

          by_answers : Answers there e.task e answer → ((call : Call) × IsOwn there e.task call answer e) ⊎ HasCause s before e
          by_answers (by_itself call own) = inl (call, own)
          by_answers (by_ending ended) =
              inr (at-once s before e (ends-kind there e.task e answer ended) (ends there (made + length before) e (lawful-there s made events lawful run before (e ∷ rest) is) next ended))
          by_answers (by_walking u phase) = inr (after-walk s before e (way-there before (e ∷ rest) is e.task u phase))
