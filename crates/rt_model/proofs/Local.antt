-- The choice of an event reads only what the event touches, in any state; and that there is none is told by a thread and its task.
use Rattle.std.proofs.Common.{◌≡◌, ℕ, Bool, true, false, cond, ◌||◌, List, refl, sym, ap, ◌∙◌, subst, Option, Some, None, is_some, IfSome}
use Rattle.rt_base.specs.declared.call.Call.{Call}
use Rattle.rt_base.specs.declared.call.Call.TheVariants as calls
use Rattle.rt_base.specs.declared.id.LockId.{LockId}
use Rattle.rt_base.specs.declared.id.TaskId.{TaskId}
use Rattle.rt_base.specs.declared.kind.Kind.{Kind}
use Rattle.rt_base.specs.declared.reply.Reply.{Reply}
use Rattle.rt_base.specs.declared.reply.Reply.TheVariants.{Got, Busy}
use Rattle.rt_model.specs.declared.event.Event.{Event}
use Rattle.rt_model.specs.declared.phase.Phase.{Phase}
use Rattle.rt_model.specs.declared.phase.Phase.TheVariants as phases
use Rattle.rt_model.specs.declared.phase.Route.{Route}
use Rattle.rt_model.specs.Parts.{OwnerPart, TaskPart, ThreadPart, kind_of, call_of}
use Rattle.rt_model.specs.Rows.{can_take}
use Rattle.rt_model.specs.State.{State, Shared, shared, lock_in, readers_in, task_in, task_at, task_part, thread_part}
use Rattle.rt_model.specs.Choice.{called_lock}
use Rattle.rt_model.specs.events.Acquire.{fast_event, is_free, acquire_event, take_event, busy_event, try_event}
use Rattle.rt_model.specs.events.Release.{give_event, release_event}
use Rattle.rt_model.specs.steps.Readers.{can_read, can_write}
use Rattle.rt_model.specs.events.Readers.{rin_event, shut_event, read_event, tryread_event, rout_event, wwake_event, wtake_event, wsleep_event, held_up_event, writer_event, awake_writer_event}
use Rattle.rt_model.specs.events.Wait.{wait_event, slow_event, leave_event, again_event, is_interrupted, is_awake, awake_event}
use Rattle.rt_model.specs.Path.{Link, first_broken}
use Rattle.rt_model.specs.events.Walk.{cursor_event, confirmed_event}
use Rattle.rt_model.specs.events.Wakeups.{sched_event, wake_event, signal_event, setprio_event}
use Rattle.rt_model.specs.steps.Task.{runs, passes}
use Rattle.rt_model.specs.events.Own.{own_answer}
use Rattle.rt_model.specs.CanMove.{has_first, can_go_on, can_in, can_at, can_move}
use Rattle.rt_model.specs.NextEvent.{answered_or, first_event, later_event, event_in, event_of, next_of, next_event}
use Rattle.rt_model.specs.laws.Local.{AgreeOn}
use Rattle.rt_model.proofs.EffectLocal.{agree-thread, agree-shared}
use Rattle.rt_model.proofs.Touching.{touches-thread}
use Rattle.rt_model.proofs.Alike.{GivesAlike, gives_alike, same-other}
use Rattle.rt_model.proofs.events.Acquire.{same-acquire, same-try}
use Rattle.rt_model.proofs.events.Release.{same-release}
use Rattle.rt_model.proofs.events.Readers.{same-read, same-tryread, same-rout, same-wwake, same-writer, same-waiting}
use Rattle.rt_model.proofs.events.Taking.{same-slow, same-queued}
use Rattle.rt_model.proofs.events.Walk.{same-cursor}
use Rattle.rt_model.proofs.events.Wakeups.{same-schedule}
use Rattle.rt_model.proofs.events.Confirm.{same-confirmed}

-- ---- a task's next event is its own

abbrev IsOwn : TaskId → Option Event → Type 0
IsOwn t event = IfSome event (λ (e : Event). e.task ≡ t)

either-own : (t : TaskId) (b : Bool) (x y : Event) → x.task ≡ t → y.task ≡ t → (cond b x y).task ≡ t
either-own t true x y first second = first
either-own t false x y first second = second

-- a choice that a test makes has an event where it passes
where-own : (t : TaskId) (b : Bool) (e : Event) → e.task ≡ t → IsOwn t (cond b (Some e) None)
where-own t true e own = own
where-own t false e own = tt

try-own : (sh : Shared) (t : TaskId) (thread : ThreadPart) (l : LockId) → (try_event (call_of thread) t l (kind_of thread l) (lock_in sh l) (task_in sh t)).task ≡ t
try-own sh t thread l =
    either-own t (is_free (lock_in sh l)) (fast_event (call_of thread) t l) _ refl
    (either-own t (can_take t (kind_of thread l) (lock_in sh l) (task_in sh t)) (take_event (call_of thread) t l (kind_of thread l) (lock_in sh l) (task_in sh t)) (busy_event t l (lock_in sh l)) refl refl)

first-own : (sh : Shared) (t : TaskId) (thread : ThreadPart) (call : Call) → IsOwn t (first_event sh t thread call)
first-own sh t thread (calls.Lock l) = either-own t (is_free (lock_in sh l)) _ _ refl refl
first-own sh t thread (calls.LockInt l) = either-own t (is_free (lock_in sh l)) _ _ refl refl
first-own sh t thread (calls.TryLock l) = try-own sh t thread l
first-own sh t thread (calls.Unlock l) = either-own t (lock_in sh l).bit (give_event (call_of thread) t l (lock_in sh l) (task_in sh t)) _ refl refl
first-own sh t thread (calls.Spin l) = either-own t (is_free (lock_in sh l)) _ _ refl refl
first-own sh t thread (calls.TrySpin l) = try-own sh t thread l
first-own sh t thread (calls.Unspin l) = either-own t (lock_in sh l).bit (give_event (call_of thread) t l (lock_in sh l) (task_in sh t)) _ refl refl
first-own sh t thread (calls.Local l) = either-own t (is_free (lock_in sh l)) _ _ refl refl
first-own sh t thread (calls.Unlocal l) = either-own t (lock_in sh l).bit (give_event (call_of thread) t l (lock_in sh l) (task_in sh t)) _ refl refl
first-own sh t thread (calls.State state) = refl
first-own sh t thread calls.Schedule = where-own t (passes (task_in sh t)) (sched_event t) refl
first-own sh t thread (calls.Wake u) = refl
first-own sh t thread (calls.Signal u) = refl
first-own sh t thread (calls.SetPrio u prio) = refl
first-own sh t thread (calls.Read l) = either-own t (can_read (readers_in sh l)) (rin_event t l (Some Got)) (shut_event t l None) refl refl
first-own sh t thread (calls.TryRead l) = either-own t (readers_in sh l).bias (rin_event t l (Some Got)) (shut_event t l (Some Busy)) refl refl
first-own sh t thread (calls.Unread l) = refl
first-own sh t thread (calls.Write l) = either-own t (is_free (lock_in sh l)) _ _ refl refl
first-own sh t thread (calls.TryWrite l) = try-own sh t thread l
first-own sh t thread (calls.Unwrite l) = refl
first-own sh t thread (calls.Downgrade l) = refl
first-own sh t thread _ = tt

held_up-own : (call : Option Call) (t : TaskId) (l : LockId) → (held_up_event call t l).task ≡ t
held_up-own (Some (calls.TryWrite m)) t l = refl
held_up-own (Some _) t l = refl
held_up-own None t l = refl

cursor-own : (sh : Shared) (t : TaskId) (route : Route) (u : TaskId) (cursor : TaskPart) (blocked : Option (LockId × ℕ)) → (cursor_event sh t route u cursor blocked).task ≡ t
cursor-own sh t route u cursor None = refl
cursor-own sh t route u cursor (Some at) = refl

answered-own : (sh : Shared) (t : TaskId) (thread : ThreadPart) (call : Call) (lock : Option LockId) (answer : Option Reply) → IsOwn t (answered_or (first_event sh t thread call) t lock answer)
answered-own sh t thread call lock None = first-own sh t thread call
answered-own sh t thread call lock (Some answer) = refl

confirmed-own : (sh : Shared) (t : TaskId) (path : List (ℕ × ℕ)) (broken : Option Link) → (confirmed_event sh t path broken).task ≡ t
confirmed-own sh t path None = refl
confirmed-own sh t path (Some link) = refl

awake-own : (call : Option Call) (t : TaskId) (l : LockId) (kind : Kind) (lock : OwnerPart) (task owner : TaskPart) → (awake_event call t l kind lock task owner).task ≡ t
awake-own call t l kind lock task owner =
    either-own t (can_take t kind lock task) (take_event call t l kind lock task) _ refl (either-own t (is_interrupted call task) (leave_event t l lock owner) (again_event t l) refl refl)

later-own : (phase : Phase) (sh : Shared) (t : TaskId) (thread : ThreadPart) (lock : Option LockId) → IsOwn t (later_event phase sh t thread lock)
later-own phases.Slow sh t thread (Some l) =
    either-own t (can_take t (kind_of thread l) (lock_in sh l) (task_in sh t)) (take_event (call_of thread) t l (kind_of thread l) (lock_in sh l) (task_in sh t)) (wait_event t l (lock_in sh l) (task_in sh t) (task_at sh (lock_in sh l).owner)) refl refl
later-own phases.Wait sh t thread (Some l) =
    where-own t (is_awake (call_of thread) (task_in sh t)) (awake_event (call_of thread) t l (kind_of thread l) (lock_in sh l) (task_in sh t) (task_at sh (lock_in sh l).owner))
    (awake-own (call_of thread) t l (kind_of thread l) (lock_in sh l) (task_in sh t) (task_at sh (lock_in sh l).owner))
later-own (phases.Walk u route) sh t thread lock = cursor-own sh t route u (task_in sh u) (task_in sh u).blocked
later-own (phases.Confirm path) sh t thread lock = confirmed-own sh t path (first_broken sh path)
later-own phases.Inner sh t thread (Some l) = either-own t (is_free (lock_in sh l)) _ _ refl refl
later-own phases.ReadIn sh t thread (Some l) = refl
later-own phases.Unbias sh t thread (Some l) = refl
later-own phases.WTry sh t thread (Some l) = either-own t (can_write (readers_in sh l)) (wtake_event t l None) _ refl (held_up-own (call_of thread) t l)
later-own phases.WWait sh t thread (Some l) =
    where-own t (runs (task_in sh t).state) (awake_writer_event t l (readers_in sh l)) (either-own t (can_write (readers_in sh l)) (wtake_event t l (Some t)) (wsleep_event t l) refl refl)
later-own phases.Release sh t thread (Some l) = either-own t (lock_in sh l).bit (give_event (call_of thread) t l (lock_in sh l) (task_in sh t)) _ refl refl
later-own phases.WakeWriter sh t thread (Some l) = refl
later-own _ sh t thread lock = tt

in_phase-own : (phase : Phase) (sh : Shared) (t : TaskId) (thread : ThreadPart) (call : Call) → IsOwn t (event_in phase sh t thread call)
in_phase-own phases.Start sh t thread call = answered-own sh t thread call (called_lock call) (own_answer thread call)
in_phase-own phase sh t thread call = later-own phase sh t thread (called_lock call)

at_call-own : (sh : Shared) (t : TaskId) (thread : ThreadPart) (call : Option Call) → IsOwn t (event_of sh t thread call)
at_call-own sh t thread None = tt
at_call-own sh t thread (Some call) = in_phase-own thread.phase sh t thread call

pub task-next_event : (s : State) (t : TaskId) (e : Event) → next_event s t ≡ Some e → e.task ≡ t
task-next_event s t e is = subst (IsOwn t) is (at_call-own (shared s) t (thread_part s t) (call_of (thread_part s t)))

-- ---- the same event

local-first : (t : TaskId) (thread : ThreadPart) (call : Call) (a b : Shared) → GivesAlike (λ sh. first_event sh t thread call) a b
local-first t thread (calls.TryLock l) a b = gives_alike (λ sh. try_event (call_of thread) t l (kind_of thread l) (lock_in sh l) (task_in sh t)) a b (same-try a b (call_of thread) t l (kind_of thread l))
local-first t thread (calls.Spin l) a b = gives_alike (λ sh. acquire_event (call_of thread) t l (lock_in sh l)) a b (same-acquire a b (call_of thread) t l)
local-first t thread (calls.TrySpin l) a b = gives_alike (λ sh. try_event (call_of thread) t l (kind_of thread l) (lock_in sh l) (task_in sh t)) a b (same-try a b (call_of thread) t l (kind_of thread l))
local-first t thread (calls.Unspin l) a b = gives_alike (λ sh. release_event (call_of thread) t l (lock_in sh l) (task_in sh t)) a b (same-release a b (call_of thread) t l)
local-first t thread calls.Schedule a b = same-schedule t a b
local-first t thread (calls.Wake u) a b = gives_alike (λ sh. wake_event t u (task_in sh u)) a b (same-other a b u (wake_event t u) refl)
local-first t thread (calls.Signal u) a b = gives_alike (λ sh. signal_event t u (task_in sh u)) a b (same-other a b u (signal_event t u) refl)
local-first t thread (calls.SetPrio u prio) a b = gives_alike (λ sh. setprio_event t u prio (task_in sh u)) a b (same-other a b u (setprio_event t u prio) refl)
local-first t thread (calls.Local l) a b = gives_alike (λ sh. acquire_event (call_of thread) t l (lock_in sh l)) a b (same-acquire a b (call_of thread) t l)
local-first t thread (calls.Unlocal l) a b = gives_alike (λ sh. release_event (call_of thread) t l (lock_in sh l) (task_in sh t)) a b (same-release a b (call_of thread) t l)
local-first t thread (calls.Lock l) a b = gives_alike (λ sh. acquire_event (call_of thread) t l (lock_in sh l)) a b (same-acquire a b (call_of thread) t l)
local-first t thread (calls.LockInt l) a b = gives_alike (λ sh. acquire_event (call_of thread) t l (lock_in sh l)) a b (same-acquire a b (call_of thread) t l)
local-first t thread (calls.Unlock l) a b = gives_alike (λ sh. release_event (call_of thread) t l (lock_in sh l) (task_in sh t)) a b (same-release a b (call_of thread) t l)
local-first t thread (calls.Read l) a b = gives_alike (λ sh. read_event t l (readers_in sh l)) a b (same-read a b t l)
local-first t thread (calls.TryRead l) a b = gives_alike (λ sh. tryread_event t l (readers_in sh l)) a b (same-tryread a b t l)
local-first t thread (calls.Unread l) a b = gives_alike (λ sh. rout_event t l (readers_in sh l)) a b (same-rout a b t l)
local-first t thread (calls.Write l) a b = gives_alike (λ sh. acquire_event (call_of thread) t l (lock_in sh l)) a b (same-acquire a b (call_of thread) t l)
local-first t thread (calls.TryWrite l) a b = gives_alike (λ sh. try_event (call_of thread) t l (kind_of thread l) (lock_in sh l) (task_in sh t)) a b (same-try a b (call_of thread) t l (kind_of thread l))
local-first t thread _ a b = λ e is alike. is

local-answered : (t : TaskId) (thread : ThreadPart) (call : Call) (lock : Option LockId) (answer : Option Reply) (a b : Shared) → GivesAlike (λ sh. answered_or (first_event sh t thread call) t lock answer) a b
local-answered t thread call lock None a b = local-first t thread call a b
local-answered t thread call lock (Some answer) a b = λ e is alike. is

local-later : (phase : Phase) (t : TaskId) (thread : ThreadPart) (lock : Option LockId) (a b : Shared) → GivesAlike (λ sh. later_event phase sh t thread lock) a b
local-later phases.Slow t thread (Some l) a b = gives_alike (λ sh. slow_event (call_of thread) t l (kind_of thread l) (lock_in sh l) (task_in sh t) (task_at sh (lock_in sh l).owner)) a b (same-slow a b (call_of thread) t l (kind_of thread l))
local-later phases.Wait t thread (Some l) a b = same-queued (call_of thread) t l (kind_of thread l) a b
local-later (phases.Walk u route) t thread lock a b = gives_alike (λ sh. cursor_event sh t route u (task_in sh u) (task_in sh u).blocked) a b (same-cursor a b t route u)
local-later (phases.Confirm path) t thread lock a b = gives_alike (λ sh. confirmed_event sh t path (first_broken sh path)) a b (same-confirmed a b t path)
local-later phases.Inner t thread (Some l) a b = gives_alike (λ sh. acquire_event (call_of thread) t l (lock_in sh l)) a b (same-acquire a b (call_of thread) t l)
local-later phases.WTry t thread (Some l) a b = gives_alike (λ sh. writer_event (call_of thread) t l (readers_in sh l)) a b (same-writer a b (call_of thread) t l)
local-later phases.WWait t thread (Some l) a b = same-waiting t l a b
local-later phases.Release t thread (Some l) a b = gives_alike (λ sh. release_event (call_of thread) t l (lock_in sh l) (task_in sh t)) a b (same-release a b (call_of thread) t l)
local-later phases.WakeWriter t thread (Some l) a b = gives_alike (λ sh. wwake_event t l (lock_in sh l)) a b (same-wwake a b t l)
local-later _ t thread lock a b = λ e is alike. is

local-in : (phase : Phase) (t : TaskId) (thread : ThreadPart) (call : Call) (a b : Shared) → GivesAlike (λ sh. event_in phase sh t thread call) a b
local-in phases.Start t thread call a b = local-answered t thread call (called_lock call) (own_answer thread call) a b
local-in phase t thread call a b = local-later phase t thread (called_lock call) a b

local-of : (t : TaskId) (thread : ThreadPart) (call : Option Call) (a b : Shared) → GivesAlike (λ sh. event_of sh t thread call) a b
local-of t thread None a b = λ e is alike. is
local-of t thread (Some call) a b = local-in thread.phase t thread call a b

-- any state that agrees on what the next event touches has the same next event
pub local : (s other : State) (t : TaskId) (e : Event) → next_event s t ≡ Some e → AgreeOn e s other → next_event other t ≡ Some e
local s other t e is agree =
    let own : e.task ≡ t = task-next_event s t e is in
    let same : thread_part other t ≡ thread_part s t = subst (λ (u : TaskId). thread_part other u ≡ thread_part s u) own (agree-thread s other e e.task agree (touches-thread e)) in
    ap (next_of (shared other) t) same
    ∙ local-of t (thread_part s t) (call_of (thread_part s t)) (shared s) (shared other) e is (agree-shared s other e agree)

-- ---- none

has-where : (b : Bool) (e : Event) → is_some (cond b (Some e) None) ≡ b
has-where true e = refl
has-where false e = refl

has-first : (sh : Shared) (t : TaskId) (thread : ThreadPart) (call : Call) → is_some (first_event sh t thread call) ≡ has_first call (task_in sh t)
has-first sh t thread (calls.Lock l) = refl
has-first sh t thread (calls.LockInt l) = refl
has-first sh t thread (calls.TryLock l) = refl
has-first sh t thread (calls.Unlock l) = refl
has-first sh t thread (calls.Spin l) = refl
has-first sh t thread (calls.TrySpin l) = refl
has-first sh t thread (calls.Unspin l) = refl
has-first sh t thread (calls.State state) = refl
has-first sh t thread calls.Schedule = has-where (passes (task_in sh t)) (sched_event t)
has-first sh t thread (calls.Wake u) = refl
has-first sh t thread (calls.Signal u) = refl
has-first sh t thread (calls.SetPrio u prio) = refl
has-first sh t thread _ = refl

has-answered : (sh : Shared) (t : TaskId) (thread : ThreadPart) (call : Call) (lock : Option LockId) (answer : Option Reply) → is_some (answered_or (first_event sh t thread call) t lock answer) ≡ (is_some answer || has_first call (task_in sh t))
has-answered sh t thread call lock None = has-first sh t thread call
has-answered sh t thread call lock (Some answer) = refl

has-later : (phase : Phase) (sh : Shared) (t : TaskId) (thread : ThreadPart) (lock : Option LockId) → is_some (later_event phase sh t thread lock) ≡ can_go_on phase thread (task_in sh t) lock
has-later phases.Inner sh t thread (Some l) = refl
has-later phases.Slow sh t thread (Some l) = refl
has-later phases.Wait sh t thread (Some l) = has-where (is_awake (call_of thread) (task_in sh t)) _
has-later (phases.Walk u route) sh t thread lock = refl
has-later (phases.Confirm path) sh t thread lock = refl
has-later phases.ReadIn sh t thread (Some l) = refl
has-later phases.Unbias sh t thread (Some l) = refl
has-later phases.WTry sh t thread (Some l) = refl
has-later phases.Release sh t thread (Some l) = refl
has-later phases.WakeWriter sh t thread (Some l) = refl
has-later phases.WWait sh t thread (Some l) = has-where (runs (task_in sh t).state) _
has-later _ sh t thread lock = refl

has-in : (phase : Phase) (sh : Shared) (t : TaskId) (thread : ThreadPart) (call : Call) → is_some (event_in phase sh t thread call) ≡ can_in phase thread (task_in sh t) call
has-in phases.Start sh t thread call = has-answered sh t thread call (called_lock call) (own_answer thread call)
has-in phase sh t thread call = has-later phase sh t thread (called_lock call)

has-of : (sh : Shared) (t : TaskId) (thread : ThreadPart) (call : Option Call) → is_some (event_of sh t thread call) ≡ can_at thread (task_in sh t) call
has-of sh t thread None = refl
has-of sh t thread (Some call) = has-in thread.phase sh t thread call

pub has-next : (s : State) (t : TaskId) → is_some (next_event s t) ≡ can_move (thread_part s t) (task_part s t)
has-next s t = has-of (shared s) t (thread_part s t) (call_of (thread_part s t))

no-event : (event : Option Event) → is_some event ≡ false → event ≡ None
no-event None is = refl
no-event (Some e) is = cc

-- where a task has no next event, every state that agrees on its thread and its own task gives it none
pub none : (s other : State) (t : TaskId) → next_event s t ≡ None → thread_part other t ≡ thread_part s t → task_part other t ≡ task_part s t → next_event other t ≡ None
none s other t is thread task =
    no-event (next_event other t) (has-next other t ∙ ((λ i. can_move (thread i) (task i)) ∙ (sym (has-next s t) ∙ ap is_some is)))
