-- A next event keeps the queued law.
use Rattle.std.proofs.Common.{◌≡◌, ℕ, ◌<◌, Bool, true, false, length, refl, sym, ap, ◌∙◌, subst, Option, Some, None, IfSome}
use Rattle.std.specs.Prelude.{nat_eq, option_and_then}
use Rattle.rt_base.specs.declared.call.Call.{Call}
use Rattle.rt_base.specs.declared.call.Call.TheVariants as calls
use Rattle.rt_base.specs.declared.id.LockId.{LockId}
use Rattle.rt_base.specs.declared.id.TaskId.{TaskId}
use Rattle.rt_base.specs.declared.reply.Reply.TheVariants.{Done}
use Rattle.rt_model.specs.declared.event.Event.{Event}
use Rattle.rt_model.specs.declared.event_kind.EventKind.{EventKind}
use Rattle.rt_model.specs.declared.event_kind.EventKind.TheVariants as kinds
use Rattle.rt_model.specs.declared.phase.Phase.{Phase}
use Rattle.rt_model.specs.declared.phase.Phase.TheVariants as phases
use Rattle.rt_model.specs.declared.phase.Route.{Route}
use Rattle.rt_model.specs.declared.phase.Route.TheVariants.{Short}
use Rattle.rt_model.specs.Parts.{OwnerPart, TaskPart, ThreadPart, call_of}
use Rattle.rt_model.specs.Choice.{called_lock, present_lock}
use Rattle.rt_model.specs.State.{State, shared, owner_part, task_part, thread_part}
use Rattle.rt_model.specs.Effect.{Around, around}
use Rattle.rt_model.specs.Rules.{touched, effect}
use Rattle.rt_model.specs.StateAfter.{thread_after, state_after}
use Rattle.rt_model.specs.events.Wait.{phase_after_wait}
use Rattle.rt_model.specs.steps.Chain.{followed, goes_on}
use Rattle.rt_model.specs.steps.Task.{with_own}
use Rattle.rt_model.specs.steps.Thread.{phase_after_got, got_answer, answered_with}
use Rattle.rt_model.specs.laws.Lawful.{IsLawful}
use Rattle.rt_model.specs.laws.Owners.{owned_by}
use Rattle.rt_model.specs.laws.Queued.{QueuedLaw, awaited_in, asked_in}
use Rattle.rt_model.proofs.Blocked.{moves, changes_own, blocking-other, blocking-kept, blocked-kept, take-blocked, wait-blocked}
use Rattle.rt_model.proofs.Calling.{asks-present, Returns, ReturnsBy, from_hold, from_inside}
use Rattle.rt_model.proofs.Calm.{wakeup-at, wakeup-start, wakeup-blocked}
use Rattle.rt_model.proofs.Inside.{outside-owned, asks-unowned}
use Rattle.rt_model.proofs.Leaves.{IsLeft, left_answer, left_made, left-is, left-there, left-thread, left-own_blocked, leave-left, cycle-left}
use Rattle.rt_model.proofs.Links.{walked_thread, requeued-owner, link-thread, end-thread, setprio-thread}
use Rattle.rt_model.proofs.Lists.{if_some}
use Rattle.rt_model.proofs.NextEvents.{IsNext, by_own, by_acquire, by_wait, by_release, by_reading, by_walk, by_confirm, by_wakeup, by_setprio, task-IsNext}
use Rattle.rt_model.proofs.Owned.{changes_owner, owners-kept}
use Rattle.rt_model.proofs.Reading.{idle-awaits, reading-leaves, reading-idle, reading-was_idle, reading-left, reading-locks, reading-blocked}
use Rattle.rt_model.proofs.events.Acquire.{from_start, from_reading, AcquiresIn, by_asking, by_trying, asking, is_fast, is_mark, is_take, is_busy}
use Rattle.rt_model.proofs.events.Readers.{IsReading}
use Rattle.rt_model.proofs.events.Wait.{is_wait, is_again, is_leave}
use Rattle.rt_model.proofs.events.Release.{is_free, is_give}
use Rattle.rt_model.proofs.events.Walk.{is_walk, is_walkend, is_restart, is_cycle}
use Rattle.rt_model.proofs.Numbers.{at_each_task}
use Rattle.rt_model.proofs.PartsAfter.{lock-kept, thread-own, thread-other}
use Rattle.rt_model.proofs.Routes.{SameSort, SameSort-itself, SameSort-followed, walked-holds}
use Rattle.rt_model.proofs.Waiters.{blocking, idle-blocked, start-blocked, slow-unowned, walk-phase}

-- ---- the law at one task

record IsQueuedAt (s : State) (u : TaskId) : Type 0 where
  blocked : blocking (task_part s u).blocked ≡ awaited_in (thread_part s u).phase (present_lock (thread_part s u))
  waiting : IfSome (task_part s u).blocked (λ at. owned_by (owner_part s at.0).owner u ≡ false)
  asking : IfSome (asked_in (thread_part s u).phase (present_lock (thread_part s u))) (λ l. owned_by (owner_part s l).owner u ≡ false)

-- the task doesn't own the lock
abbrev Free : State → TaskId → LockId → Type 0
Free s u l = owned_by (owner_part s l).owner u ≡ false

-- what holds of the lock on which a task is blocked
if_blocking : (P : LockId → Type 0) (blocked : Option (LockId × ℕ)) → IfSome blocked (λ at. P at.0) → IfSome (blocking blocked) P
if_blocking P None is = tt
if_blocking P (Some at) is = is

if_blocked : (P : LockId → Type 0) (blocked : Option (LockId × ℕ)) → IfSome (blocking blocked) P → IfSome blocked (λ at. P at.0)
if_blocked P None is = tt
if_blocked P (Some at) is = is

-- a thread that waits for this lock, and asks for that one
record Wants (awaited asked : Option LockId) (thread : ThreadPart) : Type 0 where
  waits : awaited_in thread.phase (present_lock thread) ≡ awaited
  asks : asked_in thread.phase (present_lock thread) ≡ asked

stands : (s : State) (u : TaskId) (awaited asked : Option LockId) → Wants awaited asked (thread_part s u) → blocking (task_part s u).blocked ≡ awaited → IfSome awaited (Free s u) → IfSome asked (Free s u) → IsQueuedAt s u
stands s u awaited asked wants at waiting asking = record {
  blocked = at ∙ sym wants.waits;
  waiting = if_blocked (Free s u) (task_part s u).blocked (subst (λ (o : Option LockId). IfSome o (Free s u)) (sym at) waiting);
  asking = subst (λ (o : Option LockId). IfSome o (Free s u)) (sym wants.asks) asking;
}

-- one that waits for the same as before, and is blocked on the same
stays : (s next : State) (u : TaskId) (asked : Option LockId) → Wants (awaited_in (thread_part s u).phase (present_lock (thread_part s u))) asked (thread_part next u) → blocking (task_part next u).blocked ≡ blocking (task_part s u).blocked
    → ((l : LockId) → Free s u l → Free next u l) → IfSome asked (Free next u) → QueuedLaw s → IsQueuedAt next u
stays s next u asked wants blocked unowned asking law =
    let awaited : Option LockId = awaited_in (thread_part s u).phase (present_lock (thread_part s u)) in
    let waiting : IfSome awaited (Free s u) = subst (λ (o : Option LockId). IfSome o (Free s u)) (law.blocked u) (if_blocking (Free s u) (task_part s u).blocked (law.waiting u)) in
    stands next u awaited asked wants (blocked ∙ law.blocked u) (if_some awaited (Free s u) (Free next u) (λ l is. unowned l) waiting) asking

-- and whose thread is as it was
stays_as : (s next : State) (u : TaskId) → thread_part next u ≡ thread_part s u → blocking (task_part next u).blocked ≡ blocking (task_part s u).blocked → ((l : LockId) → Free s u l → Free next u l) → QueuedLaw s → IsQueuedAt next u
stays_as s next u thread blocked unowned law =
    let asked : Option LockId = asked_in (thread_part s u).phase (present_lock (thread_part s u)) in
    stays s next u asked (record { waits = ap (λ (th : ThreadPart). awaited_in th.phase (present_lock th)) thread; asks = ap (λ (th : ThreadPart). asked_in th.phase (present_lock th)) thread }) blocked unowned
    (if_some asked (Free s u) (Free next u) (λ l is. unowned l) (law.asking u)) law

-- ---- of other tasks, after any event

-- it gives them no lock
unowned-left : (kind : EventKind) (e : Event) (th : ThreadPart) (found : Around) (lock : OwnerPart) (u : TaskId) → nat_eq e.task.0 u.0 ≡ false → owned_by lock.owner u ≡ false → owned_by ((effect kind e th found).lock lock).owner u ≡ false
unowned-left kinds.Fast e th found lock u other is = other
unowned-left kinds.Take e th found lock u other is = other
unowned-left kinds.Free e th found lock u other is = refl
unowned-left kinds.Give e th found lock u other is = refl
unowned-left kinds.Walk e th found lock u other is = ap (λ (o : Option TaskId). owned_by o u) (requeued-owner e.other found.other lock) ∙ is
unowned-left _ e th found lock u other is = is

queued_other : (s : State) (e : Event) (u : TaskId) → QueuedLaw s → nat_eq e.task.0 u.0 ≡ false → IsQueuedAt (state_after s e) u
queued_other s e u law other =
    stays_as s (state_after s e) u (thread-other s e u other) (blocking-other s e u other)
    (λ l unowned. lock-kept (λ lock. owned_by lock.owner u ≡ false) s e e l refl unowned (λ lock. unowned-left e.kind e (thread_part s e.task) (around (shared s) (touched e.kind e)) lock u other)) law

-- ---- of the event's task

-- what a thread in this phase waits for
awaited_as : (thread : ThreadPart) (phase : Phase) → thread.phase ≡ phase → awaited_in phase (present_lock thread) ≡ awaited_in thread.phase (present_lock thread)
awaited_as thread phase is = sym (ap (λ (p : Phase). awaited_in p (present_lock thread)) is)

-- a walk that goes on waits for the same as before, and one that ends waits as well, or answers
walk_wants : (thread : ThreadPart) (t u : TaskId) (route onward : Route) (owner : Option TaskId) (task : TaskPart) → SameSort route onward
    → Wants (awaited_in (phases.Walk u route) (present_lock thread)) None (walked_thread thread route (goes_on t onward owner task))
walk_wants thread t u route onward owner task sort =
    walked-holds (λ r th. Wants (awaited_in (phases.Walk u r) (present_lock thread)) None th) thread t route onward owner task sort
    (λ path. record { waits = refl; asks = refl }) (λ path rest. record { waits = refl; asks = refl }) (λ path rest o. record { waits = refl; asks = refl })
    (λ answer. record { waits = refl; asks = refl }) (λ answer o. record { waits = refl; asks = refl })

-- a task that has been queued waits
wait_wants : (thread : ThreadPart) (t : TaskId) (l : LockId) (owner : Option TaskId) (blocked : Bool) → present_lock thread ≡ Some l → Wants (Some l) None (record thread { phase = phase_after_wait t (Some l) owner blocked })
wait_wants thread t l (Some o) true on = record { waits = on; asks = refl }
wait_wants thread t l (Some o) false on = record { waits = on; asks = refl }
wait_wants thread t l None blocked on = record { waits = on; asks = refl }

-- one at the start of a call waits for nothing
start_wants : (thread : ThreadPart) → thread.phase ≡ phases.Start → Wants None None thread
start_wants thread start = record { waits = ap (λ (p : Phase). awaited_in p (present_lock thread)) start; asks = ap (λ (p : Phase). asked_in p (present_lock thread)) start }

-- so does one that has an owner part, and goes on as a reader or a writer, or to its next call
got_wants : (thread : ThreadPart) (call : Option Call) → Wants None None (answered_with (record thread { phase = phase_after_got call thread.phase }) (got_answer call))
got_wants thread (Some (calls.Read l)) = record { waits = refl; asks = refl }
got_wants thread (Some (calls.Write l)) = record { waits = refl; asks = refl }
got_wants thread (Some (calls.TryWrite l)) = record { waits = refl; asks = refl }
got_wants thread _ = record { waits = refl; asks = refl }

-- nothing has blocked a task that acquires a lock, or releases one
acquires-blocked : (s : State) (made : ℕ) (t : TaskId) (l : LockId) → IsLawful s made → AcquiresIn s t l → (task_part s t).blocked ≡ None
acquires-blocked s made t l lawful (by_asking (from_start asks unheld)) = start-blocked s made t lawful asks.call asks.at
acquires-blocked s made t l lawful (by_asking (from_reading asks)) = idle-blocked s made t lawful phases.Inner asks.call asks.at refl
acquires-blocked s made t l lawful (by_trying at) = start-blocked s made t lawful at.call at.at

returns-blocked : (s : State) (made : ℕ) (t : TaskId) (l : LockId) → IsLawful s made → Returns s t l → (task_part s t).blocked ≡ None
returns-blocked s made t l lawful is = by_how is.by
  where
    by_how : ReturnsBy s t l is.call → (task_part s t).blocked ≡ None
    by_how (from_hold releases at held) = start-blocked s made t lawful is.call at
    by_how (from_inside ends at) = idle-blocked s made t lawful phases.Release is.call at refl

module _ (s : State) (made : ℕ) (e x : Event) (lawful : IsLawful s made) (is : e ≡ x) (there : x.task.0 < length s.threads) where
  -- an event leaves its thread so, and its task blocked on what that waits for
  own : (awaited asked : Option LockId) → Wants awaited asked (thread_after (shared s) (thread_part s x.task) x) → blocking (task_part (state_after s e) x.task).blocked ≡ awaited
      → IfSome awaited (Free (state_after s e) x.task) → IfSome asked (Free (state_after s e) x.task) → IsQueuedAt (state_after s e) x.task
  own awaited asked wants = stands (state_after s e) x.task awaited asked (subst (Wants awaited asked) (sym (thread-own s e x is there)) wants)

  -- one that answers, or goes on in the part of a reader or a writer, leaves its task waiting for nothing
  settles : Wants None None (thread_after (shared s) (thread_part s x.task) x) → (task_part (state_after s e) x.task).blocked ≡ None → IsQueuedAt (state_after s e) x.task
  settles wants none = own None None wants (ap blocking none) tt tt

  -- where nothing has blocked the task
  settles_at_once : Wants None None (thread_after (shared s) (thread_part s x.task) x) → moves x.kind ≡ false → (task_part s x.task).blocked ≡ None → IsQueuedAt (state_after s e) x.task
  settles_at_once wants unmoved none = settles wants (blocked-kept s e x x.task is unmoved ∙ none)

  -- a lock that its task doesn't own
  unowned : changes_owner x.kind ≡ false → (m : LockId) → Free s x.task m → Free (state_after s e) x.task m
  unowned kept m was = ap (λ (o : Option TaskId). owned_by o x.task) (owners-kept s e x m is kept) ∙ was

  -- a walk begins, goes on, or ends
  walks : (t u : TaskId) (route onward : Route) (owner : Option TaskId) (task : TaskPart)
      → thread_after (shared s) (thread_part s x.task) x ≡ walked_thread (thread_part s x.task) route (goes_on t onward owner task) → SameSort route onward
      → awaited_in (phases.Walk u route) (present_lock (thread_part s x.task)) ≡ awaited_in (thread_part s x.task).phase (present_lock (thread_part s x.task)) → changes_own x.kind ≡ false → changes_owner x.kind ≡ false
      → IsQueuedAt (state_after s e) x.task
  walks t u route onward owner task left sort same unmoved kept =
      let wants = walk_wants (thread_part s x.task) t u route onward owner task sort in
      stays s (state_after s e) x.task None
      (subst (λ (o : Option LockId). Wants o None (thread_part (state_after s e) x.task)) same
      (subst (Wants (awaited_in (phases.Walk u route) (present_lock (thread_part s x.task))) None) (sym (thread-own s e x is there ∙ left)) wants))
      (blocking-kept s e x x.task is unmoved) (unowned kept) tt lawful.queued

-- of one that leaves a queue
queued_left : (s : State) (made : ℕ) (t : TaskId) (l : LockId) (e : Event) → IsLawful s made → IsLeft s t l e → IsQueuedAt (state_after s e) t
queued_left s made t l e lawful is =
    own s made e (left_made s t l e is) lawful (left-is s t l e is) (left-there s made t l e lawful is) None None
    (subst (Wants None None) (sym (left-thread s made t l e lawful is))
    (walk_wants (thread_part s t) t t (Short (left_answer is)) (Short (left_answer is)) (owner_part s l).owner _ (SameSort-itself (Short (left_answer is)))))
    (ap blocking (left-own_blocked s made t l e lawful is)) tt tt

-- ---- of one that reads or writes

-- only a reader that finds a writer in asks for a lock then, which it doesn't own
reading_asks : (s : State) (made : ℕ) (t : TaskId) (l : LockId) (e : Event) → IsLawful s made → IsReading s t l e
    → IfSome (asked_in (thread_after (shared s) (thread_part s t) e).phase (present_lock (thread_after (shared s) (thread_part s t) e))) (Free s t)
reading_asks s made t l e lawful is =
    let thread = thread_part s t in
    reading-leaves (λ th. IfSome (asked_in th.phase (present_lock th)) (Free s t)) s t l e is (record {
      answered = λ phase answer. tt;
      shut = λ at unheld. subst (λ (c : Option Call). IfSome (option_and_then called_lock c) (Free s t)) (sym at.calling) (sym (outside-owned s t l lawful.owners phases.Start (calls.Read l) at refl) ∙ unheld);
      last = λ at. tt;
      start = λ at. subst (λ (p : Phase). IfSome (asked_in p (present_lock thread)) (Free s t)) (sym at) tt;
      unbiased = λ call how at. tt;
      asleep = λ at. tt;
      releases = λ call ends at. tt;
    })

queued_reading : (s : State) (made : ℕ) (t : TaskId) (l : LockId) (e : Event) → IsLawful s made → IsReading s t l e → IsQueuedAt (state_after s e) t
queued_reading s made t l e lawful is =
    let left : ThreadPart = thread_after (shared s) (thread_part s t) e in
    let asked : Option LockId = asked_in left.phase (present_lock left) in
    let wants : Wants None asked left = record { waits = idle-awaits left.phase (present_lock left) (reading-idle s t l e is); asks = refl } in
    stands (state_after s e) t None asked (subst (Wants None asked) (sym (reading-left s t l e is)) wants)
    (ap blocking (reading-blocked s t l e is t) ∙ (lawful.queued.blocked t ∙ idle-awaits (thread_part s t).phase (present_lock (thread_part s t)) (reading-was_idle s t l e is))) tt
    (if_some asked (Free s t) (Free (state_after s e) t) (λ m named free. ap (λ (lock : OwnerPart). owned_by lock.owner t) (reading-locks s t l e is m) ∙ free) (reading_asks s made t l e lawful is))

queued_own : (s : State) (made : ℕ) (t : TaskId) (e : Event) → IsLawful s made → IsNext s t e → IsQueuedAt (state_after s e) t
queued_own s made t e lawful (by_own call answer is) = settles_at_once s made e _ lawful is.event is.at.task (start_wants _ refl) refl (start-blocked s made t lawful call is.at)
queued_own s made t e lawful (by_acquire l (is_fast is)) =
    settles_at_once s made e _ lawful is.event is.task (got_wants (thread_part s t) (call_of (thread_part s t))) refl (acquires-blocked s made t l lawful is.how)
queued_own s made t e lawful (by_acquire l (is_busy is)) =
    settles_at_once s made e _ lawful is.event is.at.at.task (start_wants _ refl) refl (start-blocked s made t lawful is.at.call is.at.at)
queued_own s made t e lawful (by_release l (is_free is)) = settles_at_once s made e _ lawful is.event is.at.task (start_wants _ refl) refl (returns-blocked s made t l lawful is.at)
queued_own s made t e lawful (by_release l (is_give is)) = settles_at_once s made e _ lawful is.event is.at.task (start_wants _ refl) refl (returns-blocked s made t l lawful is.at)
queued_own s made t e lawful (by_reading l is) = queued_reading s made t l e lawful is
queued_own s made t e lawful (by_acquire l (is_take is)) = settles s made e _ lawful is.event is.task (got_wants (thread_part s t) (call_of (thread_part s t))) (take-blocked s t e l lawful.shape is)
queued_own s made t e lawful (by_acquire l (is_mark is)) =
    let asks = asking s t l is.how in
    own s made e _ lawful is.event is.task None (Some l) (record { waits = refl; asks = asks-present s t asks.0 l asks.1 })
    (ap blocking (blocked-kept s e _ t is.event refl ∙ acquires-blocked s made t l lawful (by_asking is.how))) tt (unowned s made e _ lawful is.event is.task refl l (asks-unowned s made t l lawful is.how))
queued_own s made t e lawful (by_wait l (is_wait is)) =
    own s made e _ lawful is.event is.at.at.task (Some l) None (wait_wants (thread_part s t) t l (owner_part s l).owner _ (asks-present s t phases.Slow l is.at))
    (ap blocking (wait-blocked s t e l lawful.shape is))
    (unowned s made e _ lawful is.event is.at.at.task refl l (slow-unowned s made t lawful l is.at)) tt
queued_own s made t e lawful (by_wait l (is_again is)) =
    stays_as s (state_after s e) t (thread-own s e _ is.event is.at.at.task) (blocking-kept s e _ t is.event refl) (unowned s made e _ lawful is.event is.at.at.task refl) lawful.queued
queued_own s made t e lawful (by_wait l (is_leave is)) = queued_left s made t l e lawful (leave-left s t l e is)
queued_own s made t e lawful (by_confirm l path (is_cycle is)) = queued_left s made t l e lawful (cycle-left s made t l path e lawful is)
queued_own s made t e lawful (by_confirm l path (is_restart link is)) =
    stays s (state_after s e) t None (subst (Wants _ None) (sym (thread-own s e _ is.event is.at.at.task)) (record { waits = awaited_as (thread_part s t) (phases.Confirm path) is.at.at.phased; asks = refl }))
    (blocking-kept s e _ t is.event refl) (unowned s made e _ lawful is.event is.at.at.task refl) tt lawful.queued
queued_own s made t e lawful (by_wakeup is) =
    let at = wakeup-at s t e is in
    stands (state_after s e) t None None (start_wants (thread_part (state_after s e) t) (wakeup-start s t e is))
    (ap blocking (wakeup-blocked s t e is t ∙ start-blocked s made t lawful at.0 at.1)) tt tt
queued_own s made t e lawful (by_walk route u (is_walk l key is)) =
    walks s made e _ lawful is.event is.task t u route (followed u l route) (owner_part s l).owner _ (link-thread s made t route u l key e lawful is) (SameSort-followed u l route)
    (awaited_as (thread_part s t) (phases.Walk u route) (walk-phase s t route u is.how)) refl refl
queued_own s made t e lawful (by_walk route u (is_walkend is)) =
    walks s made e _ lawful is.event is.task t u route route None (task_part s u) (end-thread s t route u e is) (SameSort-itself route)
    (awaited_as (thread_part s t) (phases.Walk u route) (walk-phase s t route u is.how)) refl refl
queued_own s made t e lawful (by_setprio u prio is) =
    walks s made e _ lawful is.event is.at.task t u (Short Done) (Short Done) (Some u) (with_own prio (task_part s u)) (setprio-thread s made t u prio e lawful is) (SameSort-itself (Short Done))
    (awaited_as (thread_part s t) phases.Start is.at.phased) refl refl

-- ---- the law

pub QueuedLaw-next : (s : State) (made : ℕ) (t : TaskId) (e : Event) → IsLawful s made → IsNext s t e → QueuedLaw (state_after s e)
QueuedLaw-next s made t e lawful next = record { blocked = λ u. (at u).blocked; waiting = λ u. (at u).waiting; asking = λ u. (at u).asking }
  where
    at : (u : TaskId) → IsQueuedAt (state_after s e) u
    at u = at_each_task (IsQueuedAt (state_after s e)) t u (queued_own s made t e lawful next) (λ others. queued_other s e u lawful.queued (ap (λ (v : TaskId). nat_eq v.0 u.0) (task-IsNext s t e next) ∙ others))
