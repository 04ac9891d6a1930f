-- What an event keeps of a task's state and of what is saved, and which threads sleep for readers.
use Rattle.std.proofs.Common.{◌≡◌, ◌≢◌, ◌⊎◌, inl, inr, ℕ, zero, suc, ◌<◌, Bool, true, false, cond, ◌&&◌, ◌||◌, List, length, refl, sym, ap, ◌∙◌, subst, Option, Some, None, unwrap_or}
use Rattle.std.specs.Prelude.{is_some, nat_eq, slice_get}
use Rattle.std.proofs.lemmas.Bool.{cond_both}
use Rattle.rt_base.specs.Kind.{spins}
use Rattle.rt_base.specs.declared.call.Call.{Call}
use Rattle.rt_base.specs.declared.call.Call.TheVariants as calls
use Rattle.rt_base.specs.declared.id.LockId.{LockId}
use Rattle.rt_base.specs.declared.id.TaskId.{TaskId}
use Rattle.rt_base.specs.declared.kind.Kind.{Kind}
use Rattle.rt_base.specs.declared.kind.Kind.TheVariants.{Mutex}
use Rattle.rt_base.specs.declared.reply.Reply.{Reply}
use Rattle.rt_base.specs.declared.reply.Reply.TheVariants.{Deadlock, Interrupted, Done}
use Rattle.rt_base.specs.declared.state.TaskState.{TaskState}
use Rattle.rt_base.specs.declared.state.TaskState.TheVariants as states
use Rattle.rt_model.specs.declared.event.Event.{Event}
use Rattle.rt_model.specs.declared.event_kind.EventKind.{EventKind}
use Rattle.rt_model.specs.declared.event_kind.EventKind.TheVariants as kinds
use Rattle.rt_model.specs.declared.phase.Phase.{Phase}
use Rattle.rt_model.specs.declared.phase.Phase.TheVariants as phases
use Rattle.rt_model.specs.declared.phase.Route.{Route}
use Rattle.rt_model.specs.declared.phase.Route.TheVariants.{Full, Short}
use Rattle.rt_model.specs.Parts.{OwnerPart, TaskPart, ThreadPart, kind_of, kind_named, call_of}
use Rattle.rt_model.specs.Rows.{top_key}
use Rattle.rt_model.specs.Path.{first_owner}
use Rattle.rt_model.specs.State.{State, shared, task_part, thread_part}
use Rattle.rt_model.specs.events.Readers.{phase_after_rin, writer_rests}
use Rattle.rt_model.specs.events.Wait.{phase_after_wait}
use Rattle.rt_model.specs.events.Walk.{phase_after_link, phase_after_end}
use Rattle.rt_model.specs.steps.Chain.{followed, goes_on, phase_of_walk}
use Rattle.rt_model.specs.steps.Readers.{wakes_writer}
use Rattle.rt_model.specs.steps.Task.{with_top, sleep_of, saved_for, restored, leave_queue, sleeps, is_interruptible, woken_up, woken_by, lock_state_woken, lock_woken, state_numbered}
use Rattle.rt_model.specs.steps.Thread.{phase_after_got, phase_after_busy, answered_with}
use Rattle.rt_model.specs.Choice.{present_lock}
use Rattle.rt_model.specs.Effect.{Around, around}
use Rattle.rt_model.specs.Rules.{touched, effect}
use Rattle.rt_model.specs.StateAfter.{shared_after, state_after}
use Rattle.rt_model.specs.laws.Lawful.{IsLawful}
use Rattle.rt_model.specs.laws.Shape.{IsShaped}
use Rattle.rt_model.specs.laws.States.{has_slept, spins_at, sleeps_spinning, waits_spinning, IsRested}
use Rattle.rt_model.proofs.Calling.{ReturnsBy, from_hold, from_inside}
use Rattle.rt_model.proofs.CellStepLemmas.{where_changed}
use Rattle.rt_model.proofs.Idle.{idle-unblocked}
use Rattle.rt_model.proofs.Lists.{All-default}
use Rattle.rt_model.proofs.Named.{within}
use Rattle.rt_model.proofs.NextEvents.{IsNext, by_own, by_acquire, by_wait, by_release, by_reading, by_walk, by_confirm, by_wakeup, by_setprio, task-IsNext}
use Rattle.rt_model.proofs.PartsAfter.{OthersKeep, changes_readers, thread-own}
use Rattle.rt_model.proofs.Reading.{reading-was_idle}
use Rattle.rt_model.proofs.Routes.{goes_on-holds}
use Rattle.rt_model.proofs.Waiters.{blocking, walk-phase}
use Rattle.rt_model.proofs.events.Acquire.{asks-phased, fast-phased, take-phased, is_fast, is_mark, is_take, is_busy}
use Rattle.rt_model.proofs.events.Readers.{IsReading}
use Rattle.rt_model.proofs.events.Release.{is_free, is_give}
use Rattle.rt_model.proofs.events.Wait.{is_wait, is_again, is_leave}
use Rattle.rt_model.proofs.events.Walk.{is_walk, is_walkend, is_restart, is_cycle}
use Rattle.rt_model.proofs.events.Wakeups.{is_state, is_sched, is_wake, is_signal}

-- the state, and what is saved, are as P says
abbrev pub HasStates : (TaskState → TaskState → Type 0) → TaskPart → Type 0
HasStates P task = P task.state task.saved

-- an event of this kind can leave its own task in another state than the running one: it goes to rest, what was saved is
-- restored, or it sets its state
abbrev pub can_sleep : EventKind → Bool
can_sleep kinds.Wait = true
can_sleep kinds.Again = true
can_sleep kinds.Take = true
can_sleep kinds.Leave = true
can_sleep kinds.Cycle = true
can_sleep kinds.State = true
can_sleep kinds.WSleep = true
can_sleep kinds.WTake = true
can_sleep _ = false

-- a P that holds on where a task is set running, and where nothing is saved any more
module _ (P : TaskState → TaskState → Type 0) (runs : (state saved : TaskState) → P state saved → P states.Running saved) (unsaved : (state saved : TaskState) → P state saved → P state states.Running) where
  states-with_top : (l : Option LockId) (top : Option ℕ) (task : TaskPart) → HasStates P task → HasStates P (with_top l top task)
  states-with_top None top task was = was
  states-with_top (Some l) top task was = was

  states-woken_up : (task : TaskPart) → HasStates P task → HasStates P (woken_up task)
  states-woken_up task was =
      cond_both (sleeps task.state) (record task { state = states.Running }) (cond (sleeps task.saved) (record task { saved = states.Running }) task) (HasStates P)
      (λ is. runs task.state task.saved was)
      (λ is. cond_both (sleeps task.saved) (record task { saved = states.Running }) task (HasStates P) (λ saved. unsaved task.state task.saved was) (λ not_saved. was))

  states-woken_by : (n : ℕ) (task : TaskPart) → HasStates P task → HasStates P (woken_by n task)
  states-woken_by zero task was = states-woken_up task was
  states-woken_by (suc n) task was =
      cond_both (is_interruptible task.state) (record task { signal = true; state = states.Running }) (cond (is_interruptible task.saved) (record task { signal = true; saved = states.Running }) (record task { signal = true })) (HasStates P)
      (λ is. runs task.state task.saved was)
      (λ is. cond_both (is_interruptible task.saved) (record task { signal = true; saved = states.Running }) (record task { signal = true }) (HasStates P) (λ saved. unsaved task.state task.saved was) (λ not_saved. was))

  lock_state : (state saved : TaskState) → P state saved → P (lock_state_woken state) saved
  lock_state states.LockWait saved was = runs states.LockWait saved was
  lock_state states.Running saved was = was
  lock_state states.Interruptible saved was = was
  lock_state states.Uninterruptible saved was = was

  states-lock_woken : (spinning : Bool) (task : TaskPart) → HasStates P task → HasStates P (lock_woken spinning task)
  states-lock_woken true task was = lock_state task.state task.saved was
  states-lock_woken false task was = states-woken_up task was

  -- of its own task
  pub states-own : (kind : EventKind) (e : Event) (th : ThreadPart) → can_sleep kind ≡ false → (found : Around) (lock : OwnerPart) (task : TaskPart) → HasStates P task → HasStates P ((effect kind e th found).own lock task)
  states-own kinds.Wait e th is found lock task was = cc
  states-own kinds.Again e th is found lock task was = cc
  states-own kinds.Take e th is found lock task was = cc
  states-own kinds.Leave e th is found lock task was = cc
  states-own kinds.Cycle e th is found lock task was = cc
  states-own kinds.State e th is found lock task was = cc
  states-own kinds.WSleep e th is found lock task was = cc
  states-own kinds.WTake e th is found lock task was = cc
  states-own kinds.Sched e th is found lock task was = runs task.state task.saved was
  states-own kinds.Give e th is found lock task was = states-with_top e.lock None task was
  states-own _ e th is found lock task was = was

  -- and of the others, whatever its kind
  pub states-others : (kind : EventKind) (e : Event) (th : ThreadPart) (found : Around) (lock : OwnerPart) → OthersKeep (HasStates P) (effect kind e th found) lock
  states-others kinds.Wait e th found lock = record { owner = states-with_top e.lock (top_key lock.rows); other = λ task was. was; woken = λ task was. was }
  states-others kinds.Leave e th found lock = record { owner = states-with_top e.lock (top_key lock.rows); other = λ task was. was; woken = λ task was. was }
  states-others kinds.Cycle e th found lock = record { owner = states-with_top e.lock (top_key lock.rows); other = λ task was. was; woken = λ task was. was }
  states-others kinds.Wake e th found lock = record { owner = λ task was. was; other = states-woken_by e.value; woken = λ task was. was }
  states-others kinds.Give e th found lock = record { owner = λ task was. was; other = λ task was. was; woken = states-lock_woken (spins (kind_named th e.lock)) }
  states-others kinds.WWake e th found lock = record { owner = λ task was. was; other = λ task was. was; woken = states-lock_woken (spins (kind_named th e.lock)) }
  states-others kinds.Walk e th found lock = record {
    owner = λ task was. where_changed (HasStates P) e.lock found.lock.rows lock.rows task was (states-with_top e.lock (top_key lock.rows) task was);
    other = λ task was. was;
    woken = states-lock_woken (spins (kind_named th e.lock));
  }
  states-others _ e th found lock = record { owner = λ task was. was; other = λ task was. was; woken = λ task was. was }

-- ---- a task that runs

abbrev pub IsRunning : TaskState → TaskState → Type 0
IsRunning state saved = state ≡ states.Running

pub running-own : (kind : EventKind) (e : Event) (th : ThreadPart) → can_sleep kind ≡ false → (found : Around) (lock : OwnerPart) (task : TaskPart) → HasStates IsRunning task → HasStates IsRunning ((effect kind e th found).own lock task)
running-own = states-own IsRunning (λ state saved was. refl) (λ state saved was. was)

pub running-others : (kind : EventKind) (e : Event) (th : ThreadPart) (found : Around) (lock : OwnerPart) → OthersKeep (HasStates IsRunning) (effect kind e th found) lock
running-others = states-others IsRunning (λ state saved was. refl) (λ state saved was. was)

-- ---- a task that rests as it is to, where it waits for a spinning kind and where not

-- the same of its two states alone
abbrev pub AreRested : Bool → TaskState → TaskState → Type 0
AreRested true state saved = ((state ≡ states.LockWait) ⊎ (state ≡ states.Running)) × (saved ≢ states.LockWait)
AreRested false state saved = (state ≢ states.LockWait) × (saved ≡ states.Running)

pub rested-states : (b : Bool) (task : TaskPart) → IsRested b task → HasStates (AreRested b) task
rested-states true task is = is
rested-states false task is = is

pub states-rested : (b : Bool) (task : TaskPart) → HasStates (AreRested b) task → IsRested b task
states-rested true task is = is
states-rested false task is = is

rested-runs : (b : Bool) (state saved : TaskState) → AreRested b state saved → AreRested b states.Running saved
rested-runs true state saved is = (inr refl, is.1)
rested-runs false state saved is = (λ same. cc, is.1)

rested-unsaved : (b : Bool) (state saved : TaskState) → AreRested b state saved → AreRested b state states.Running
rested-unsaved true state saved is = (is.0, λ same. cc)
rested-unsaved false state saved is = (is.0, refl)

pub rested-own : (b : Bool) (kind : EventKind) (e : Event) (th : ThreadPart) → can_sleep kind ≡ false
    → (found : Around) (lock : OwnerPart) (task : TaskPart) → HasStates (AreRested b) task → HasStates (AreRested b) ((effect kind e th found).own lock task)
rested-own b = states-own (AreRested b) (rested-runs b) (rested-unsaved b)

pub rested-others : (b : Bool) (kind : EventKind) (e : Event) (th : ThreadPart) (found : Around) (lock : OwnerPart) → OthersKeep (HasStates (AreRested b)) (effect kind e th found) lock
rested-others b = states-others (AreRested b) (rested-runs b) (rested-unsaved b)

-- ---- a lock wakeup by the kind for which it waits leaves it running

awake_state : (state : TaskState) → sleeps state ≡ false → state ≢ states.LockWait → state ≡ states.Running
awake_state states.Running is ne = refl
awake_state states.LockWait is ne = absurd (ne refl)
awake_state states.Interruptible is ne = cc
awake_state states.Uninterruptible is ne = cc

woken_up-runs : (task : TaskPart) → task.state ≢ states.LockWait → HasStates IsRunning (woken_up task)
woken_up-runs task ne =
    cond_both (sleeps task.state) (record task { state = states.Running }) (cond (sleeps task.saved) (record task { saved = states.Running }) task) (HasStates IsRunning)
    (λ is. refl)
    (λ is. cond_both (sleeps task.saved) (record task { saved = states.Running }) task (HasStates IsRunning) (λ saved. awake_state task.state is ne) (λ not_saved. awake_state task.state is ne))

pub lock_woken-runs : (spinning : Bool) (task : TaskPart) → HasStates (AreRested spinning) task → HasStates IsRunning (lock_woken spinning task)
lock_woken-runs true task was = either was.0
  where
    either : (task.state ≡ states.LockWait) ⊎ (task.state ≡ states.Running) → lock_state_woken task.state ≡ states.Running
    either (inl waits) = ap lock_state_woken waits
    either (inr runs) = ap lock_state_woken runs
lock_woken-runs false task was = woken_up-runs task was.0

-- ---- what becomes of its own task where an event can leave it in another state

-- an ordinary sleep isn't a wait for a spinning kind, and saves nothing
sleeping : (call : Option Call) → sleep_of call ≢ states.LockWait
sleeping (Some (calls.LockInt l)) is = cc
sleeping _ is = cc

unsaving : (call : Option Call) (task : TaskPart) → (saved_for (sleep_of call) task).saved ≡ task.saved
unsaving (Some (calls.LockInt l)) task = refl
unsaving _ task = refl

-- it comes into a queue of a kind that spins, or of another, and goes to rest
pub rested-blocked : (spinning : Bool) (call : Option Call) (task : TaskPart) → HasStates (AreRested false) task
    → let rest = cond spinning states.LockWait (sleep_of call) in AreRested spinning rest (saved_for rest task).saved
rested-blocked true call task was = (inl refl, was.0)
rested-blocked false call task was = (sleeping call, unsaving call task ∙ was.1)

-- there it goes to rest again
pub rested-again : (spinning : Bool) (call : Option Call) (task : TaskPart) → HasStates (AreRested spinning) task → AreRested spinning (cond spinning states.LockWait (sleep_of call)) task.saved
rested-again true call task was = (inl refl, was.1)
rested-again false call task was = (sleeping call, was.1)

-- a writer goes to rest, and sleeps for readers then
pub writer-rested : (spinning : Bool) (call : Option Call) (phase : Phase) (task : TaskPart) → HasStates (AreRested (has_slept phase && spinning)) task
    → HasStates (AreRested spinning) (writer_rests phase (cond spinning states.LockWait (sleep_of call)) task)
writer-rested spinning call phases.WWait task was = rested-again spinning call task was
writer-rested spinning call _ task was = rested-blocked spinning call task was

-- its state is restored
pub rested-restored : (spinning : Bool) (task : TaskPart) → HasStates (AreRested spinning) task → HasStates (AreRested false) (restored spinning task)
rested-restored true task was = (was.1, refl)
rested-restored false task was = (λ same. cc, was.1)

-- it leaves the queue, where it is in one
pub rested-left : (spinning : Bool) (task : TaskPart) → HasStates (AreRested (is_some task.blocked && spinning)) task → HasStates (AreRested false) (leave_queue spinning task)
rested-left spinning task was = by_queue (is_some task.blocked) was
  where
    by_queue : (queued : Bool) → HasStates (AreRested (queued && spinning)) task → HasStates (AreRested false) (cond queued (record (restored spinning task) { blocked = None }) task)
    by_queue true was = rested-restored spinning task was
    by_queue false was = was

-- it sets its state, by the number of one
pub rested-set : (value : ℕ) (task : TaskPart) → HasStates (AreRested false) task → AreRested false (state_numbered value) task.saved
rested-set value task was =
    cond_both (nat_eq value 0) states.Running (cond (nat_eq value 1) states.Interruptible states.Uninterruptible) (λ (state : TaskState). AreRested false state task.saved)
    (λ is. (λ same. cc, was.1))
    (λ is. cond_both (nat_eq value 1) states.Interruptible states.Uninterruptible (λ (state : TaskState). AreRested false state task.saved) (λ one. (λ same. cc, was.1)) (λ two. (λ same. cc, was.1)))

-- ---- whether a task waits for a spinning kind

-- told by the kinds that its thread knows and the lock on which it is blocked
abbrev spins_among : List Kind → Option LockId → Bool
spins_among known None = false
spins_among known (Some l) = spins (unwrap_or (slice_get known l.0) Mutex)

spins_told : (thread : ThreadPart) (blocked : Option (LockId × ℕ)) → spins_at thread blocked ≡ spins_among thread.kinds (blocking blocked)
spins_told thread None = refl
spins_told thread (Some at) = refl

-- who doesn't sleep for readers waits for a spinning kind where it is blocked on a lock of one
pub queued_waits : (thread : ThreadPart) (task : TaskPart) → has_slept thread.phase ≡ false → waits_spinning thread task ≡ spins_at thread task.blocked
queued_waits thread task awake =
    (λ i. spins_at thread task.blocked || (awake i && spins (kind_named thread (present_lock thread)))) ∙ or_false (spins_at thread task.blocked)
  where
    or_false : (b : Bool) → (b || false) ≡ b
    or_false true = refl
    or_false false = refl

-- and who sleeps for the readers of a lock waits for a spinning kind where that is of one
pub sleeper_waits : (thread : ThreadPart) (task : TaskPart) (l : LockId) → has_slept thread.phase ≡ true → present_lock thread ≡ Some l → task.blocked ≡ None → waits_spinning thread task ≡ spins (kind_of thread l)
sleeper_waits thread task l slept present unblocked = λ i. spins_at thread (unblocked i) || (slept i && spins (kind_named thread (present i)))

-- so it is the same where these stay
pub still_waits : (thread after : ThreadPart) (blocked left : Option (LockId × ℕ)) → after.kinds ≡ thread.kinds → blocking left ≡ blocking blocked → spins_at after left ≡ spins_at thread blocked
still_waits thread after blocked left known same = spins_told after left ∙ ((λ i. spins_among (known i) (same i)) ∙ sym (spins_told thread blocked))

pub same_waits : (thread after : ThreadPart) (task left : TaskPart) → after ≡ thread → blocking left.blocked ≡ blocking task.blocked → waits_spinning after left ≡ waits_spinning thread task
same_waits thread after task left kept same =
    ap (λ (th : ThreadPart). waits_spinning th left) kept
    ∙ ap (λ (b : Bool). b || sleeps_spinning thread.phase (kind_named thread (present_lock thread))) (still_waits thread thread task.blocked left.blocked refl same)

-- and of a task that is blocked on a lock it is whether that spins, as any thread with the same kinds knows it
pub waits_there : (thread other : ThreadPart) (blocked : Option (LockId × ℕ)) (l : LockId) → thread.kinds ≡ other.kinds → blocking blocked ≡ Some l → spins_at thread blocked ≡ spins (kind_of other l)
waits_there thread other blocked l known is = spins_told thread blocked ∙ (λ i. spins_among (known i) (is i))

-- all threads know the same kinds
pub alike-kinds : (s : State) (u v : TaskId) → IsShaped s → u.0 < length s.threads → v.0 < length s.threads → (thread_part s u).kinds ≡ (thread_part s v).kinds
alike-kinds s u v shaped here there = known u here ∙ sym (known v there)
  where
    known : (w : TaskId) → w.0 < length s.threads → (thread_part s w).kinds ≡ shaped.known
    known w lt = All-default (λ (thread : ThreadPart). thread.kinds ≡ shaped.known) s.threads w.0 _ shaped.alike lt

-- so any of them tells it of a task that is blocked on the lock and doesn't sleep for readers
pub waits_as : (s : State) (u v : TaskId) (l : LockId) → IsShaped s → u.0 < length s.threads → v.0 < length s.threads → blocking (task_part s u).blocked ≡ Some l → has_slept (thread_part s u).phase ≡ false
    → waits_spinning (thread_part s u) (task_part s u) ≡ spins (kind_of (thread_part s v) l)
waits_as s u v l shaped here there is awake =
    queued_waits (thread_part s u) (task_part s u) awake ∙ waits_there (thread_part s u) (thread_part s v) (task_part s u).blocked l (alike-kinds s u v shaped here there) is

-- ---- which threads sleep for readers

-- an event of this kind sends its own task to sleep for readers
abbrev pub falls_asleep : EventKind → Bool
falls_asleep kinds.WSleep = true
falls_asleep _ = false

-- no step but that one leads there
got-up : (call : Option Call) (phase : Phase) → has_slept phase ≡ false → has_slept (phase_after_got call phase) ≡ false
got-up (Some (calls.Read l)) phase up = refl
got-up (Some (calls.Write l)) phase up = refl
got-up (Some (calls.TryWrite l)) phase up = refl
got-up _ phase up = up

busy-up : (call : Option Call) (phase : Phase) → has_slept phase ≡ false → has_slept (phase_after_busy call phase) ≡ false
busy-up (Some (calls.Read l)) phase up = refl
busy-up _ phase up = up

rin-up : (phase : Phase) → has_slept phase ≡ false → has_slept (phase_after_rin phase) ≡ false
rin-up phases.ReadIn up = refl
rin-up _ up = up

wait-up : (t : TaskId) (l : Option LockId) (owner : Option TaskId) (blocked : Bool) → has_slept (phase_after_wait t l owner blocked) ≡ false
wait-up t None owner blocked = refl
wait-up t (Some l) None blocked = refl
wait-up t (Some l) (Some o) true = refl
wait-up t (Some l) (Some o) false = refl

ended-up : (route : Route) → has_slept (phase_of_walk None) ≡ false
ended-up (Full path) = refl
ended-up (Short answer) = refl

walk-up : (t : TaskId) (route onward : Route) (owner : Option TaskId) (task : TaskPart) → has_slept (phase_of_walk (goes_on t onward owner task)) ≡ false
walk-up t route onward owner task = goes_on-holds (λ next. has_slept (phase_of_walk next) ≡ false) t onward owner task (ended-up route) (λ path is own blocked. refl) (λ o on some stands. refl)

link-up : (t : TaskId) (l : Option LockId) (owner : Option TaskId) (task : TaskPart) (phase : Phase) → has_slept phase ≡ false → has_slept (phase_after_link t l owner task phase) ≡ false
link-up t None owner task phase up = up
link-up t (Some l) owner task (phases.Walk cursor route) up = walk-up t route (followed cursor l route) owner task
link-up t (Some l) owner task _ up = up

end-up : (phase : Phase) → has_slept phase ≡ false → has_slept (phase_after_end phase) ≡ false
end-up (phases.Walk cursor route) up = ended-up route
end-up _ up = up

phase-up : (kind : EventKind) (e : Event) (th : ThreadPart) (found left : Around) → falls_asleep kind ≡ false → has_slept th.phase ≡ false → has_slept ((effect kind e th found).thread left th).phase ≡ false
phase-up kinds.WSleep e th found left is up = cc
phase-up kinds.Fast e th found left is up = got-up (call_of th) th.phase up
phase-up kinds.Mark e th found left is up = refl
phase-up kinds.Take e th found left is up = got-up (call_of th) th.phase up
phase-up kinds.Busy e th found left is up = busy-up (call_of th) th.phase up
phase-up kinds.Wait e th found left is up = wait-up e.task e.lock e.owner (is_some found.owner.blocked)
phase-up kinds.Leave e th found left is up = walk-up e.task (Short Interrupted) (Short Interrupted) e.owner left.owner
phase-up kinds.Cycle e th found left is up = walk-up e.task (Short Deadlock) (Short Deadlock) (first_owner e.path) left.owner
phase-up kinds.Walk e th found left is up = link-up e.task e.lock e.owner left.owner th.phase up
phase-up kinds.WalkEnd e th found left is up = end-up th.phase up
phase-up kinds.Restart e th found left is up = refl
phase-up kinds.SetPrio e th found left is up = walk-up e.task (Short Done) (Short Done) e.other left.other
phase-up kinds.RIn e th found left is up = rin-up th.phase up
phase-up kinds.ROut e th found left is up = cond_both (wakes_writer left.readers) phases.WakeWriter th.phase (λ phase. has_slept phase ≡ false) (λ last. refl) (λ others. up)
phase-up kinds.Unbias e th found left is up = refl
phase-up kinds.WOpen e th found left is up = refl
phase-up _ e th found left is up = up

answer-up : (thread : ThreadPart) (reply : Option Reply) → has_slept thread.phase ≡ false → has_slept (answered_with thread reply).phase ≡ false
answer-up thread None up = up
answer-up thread (Some answer) up = refl

-- a thread that doesn't sleep for readers does so after no event of its own of another kind
pub stays-up : (s : State) (e : Event) → e.task.0 < length s.threads → falls_asleep e.kind ≡ false → has_slept (thread_part s e.task).phase ≡ false → has_slept (thread_part (state_after s e) e.task).phase ≡ false
stays-up s e lt is up =
    let th = thread_part s e.task in
    ap (λ (thread : ThreadPart). has_slept thread.phase) (thread-own s e e refl lt)
    ∙ answer-up _ e.reply (phase-up e.kind e th (around (shared s) (touched e.kind e)) (around (shared_after (shared s) th e) (touched e.kind e)) is up)

-- an event's own task sleeps for readers neither before nor after
pub record IsUp (s : State) (t : TaskId) (e : Event) : Type 0 where
  pub before : has_slept (thread_part s t).phase ≡ false
  pub after : has_slept (thread_part (state_after s e) t).phase ≡ false

-- ---- events at reader parts, and all others

-- the event of a thread in this phase is one at a reader part, or wakes a writer
abbrev pub at_readers : Phase → Bool
at_readers phases.ReadIn = true
at_readers phases.Unbias = true
at_readers phases.WTry = true
at_readers phases.WWait = true
at_readers phases.WakeWriter = true
at_readers _ = false

-- and one of this kind is
abbrev pub of_readers : EventKind → Bool
of_readers kinds.RIn = true
of_readers kinds.ROut = true
of_readers kinds.Unbias = true
of_readers kinds.WTake = true
of_readers kinds.WSleep = true
of_readers kinds.WOpen = true
of_readers kinds.WWake = true
of_readers _ = false

-- an event of a thread in no such phase, that is of no such kind
pub record IsElse (s : State) (t : TaskId) (e : Event) : Type 0 where
  pub phase : at_readers (thread_part s t).phase ≡ false
  pub kind : of_readers e.kind ≡ false

else-awake : (phase : Phase) → at_readers phase ≡ false → has_slept phase ≡ false
else-awake phases.WWait is = cc
else-awake _ is = refl

else-stays : (kind : EventKind) → of_readers kind ≡ false → falls_asleep kind ≡ false
else-stays kinds.WSleep is = cc
else-stays _ is = refl

pub else-kept : (kind : EventKind) → of_readers kind ≡ false → changes_readers kind ≡ false
else-kept kinds.RIn is = cc
else-kept kinds.ROut is = cc
else-kept kinds.Unbias is = cc
else-kept kinds.WTake is = cc
else-kept kinds.WOpen is = cc
else-kept _ is = refl

module _ (s : State) (made : ℕ) (t : TaskId) (e : Event) (lawful : IsLawful s made) (next : IsNext s t e) where
  -- a task that doesn't sleep for readers does so after no event of another kind
  pub up-as : (x : Event) → e ≡ x → falls_asleep x.kind ≡ false → has_slept (thread_part s t).phase ≡ false → IsUp s t e
  up-as x is stays up =
      let own : e.task ≡ t = task-IsNext s t e next in
      let before : has_slept (thread_part s e.task).phase ≡ false = subst (λ (v : TaskId). has_slept (thread_part s v).phase ≡ false) (sym own) up in
      let after = stays-up s e (within s made t e lawful next).task (ap (λ (y : Event). falls_asleep y.kind) is ∙ stays) before in
      record { before = up; after = subst (λ (v : TaskId). has_slept (thread_part (state_after s e) v).phase ≡ false) own after }

  pub else-up : IsElse s t e → IsUp s t e
  else-up is = up-as e refl (else-stays e.kind is.kind) (else-awake (thread_part s t).phase is.phase)

  abbrev IsAway : Phase → Type 0
  IsAway phase = at_readers phase ≡ false

  away : (x : Event) → e ≡ x → of_readers x.kind ≡ false → IsAway (thread_part s t).phase → IsElse s t e
  away x is kind phase = record { phase = phase; kind = ap (λ (y : Event). of_readers y.kind) is ∙ kind }

  other : (x : Event) (phase : Phase) → e ≡ x → of_readers x.kind ≡ false → (thread_part s t).phase ≡ phase → IsAway phase → IsElse s t e
  other x phase is kind at before = away x is kind (ap at_readers at ∙ before)

  else-returns : (x : Event) (l : LockId) (call : Call) → e ≡ x → of_readers x.kind ≡ false → ReturnsBy s t l call → IsElse s t e
  else-returns x l call is kind (from_hold releases at held) = other x _ is kind at.phased refl
  else-returns x l call is kind (from_inside ends at) = other x _ is kind at.phased refl

  -- each event but those at reader parts is such a one
  pub else-or-reading : IsElse s t e ⊎ ((l : LockId) × IsReading s t l e)
  else-or-reading = by_kind next
    where
      by_kind : IsNext s t e → IsElse s t e ⊎ ((l : LockId) × IsReading s t l e)
      by_kind (by_own call answer is) = inl (other _ _ is.event refl is.at.phased refl)
      by_kind (by_acquire l (is_fast is)) = inl (away _ is.event refl (fast-phased IsAway s t l is.how refl refl))
      by_kind (by_acquire l (is_mark is)) = inl (away _ is.event refl (asks-phased IsAway s t l is.how refl refl))
      by_kind (by_acquire l (is_take is)) = inl (away _ is.event refl (take-phased IsAway s t l is.how refl refl refl))
      by_kind (by_acquire l (is_busy is)) = inl (other _ _ is.event refl is.at.at.phased refl)
      by_kind (by_wait l (is_wait is)) = inl (other _ _ is.event refl is.at.at.phased refl)
      by_kind (by_wait l (is_again is)) = inl (other _ _ is.event refl is.at.at.phased refl)
      by_kind (by_wait l (is_leave is)) = inl (other _ _ is.event refl is.at.phased refl)
      by_kind (by_release l (is_free is)) = inl (else-returns _ l is.at.call is.event refl is.at.by)
      by_kind (by_release l (is_give is)) = inl (else-returns _ l is.at.call is.event refl is.at.by)
      by_kind (by_reading l is) = inr (l, is)
      by_kind (by_walk route u (is_walk l key is)) = inl (other _ _ is.event refl (walk-phase s t route u is.how) refl)
      by_kind (by_walk route u (is_walkend is)) = inl (other _ _ is.event refl (walk-phase s t route u is.how) refl)
      by_kind (by_confirm l path (is_restart link is)) = inl (other _ _ is.event refl is.at.at.phased refl)
      by_kind (by_confirm l path (is_cycle is)) = inl (other _ _ is.event refl is.at.at.phased refl)
      by_kind (by_wakeup (is_state state is)) = inl (other _ _ is.event refl is.at.phased refl)
      by_kind (by_wakeup (is_sched is)) = inl (other _ _ is.event refl is.at.phased refl)
      by_kind (by_wakeup (is_wake u is)) = inl (other _ _ is.event refl is.at.phased refl)
      by_kind (by_wakeup (is_signal u is)) = inl (other _ _ is.event refl is.at.phased refl)
      by_kind (by_setprio u prio is) = inl (other _ _ is.event refl is.at.phased refl)

-- ---- a task whose event is at a reader part

-- it is blocked on nothing
pub reading-unblocked : (s : State) (made : ℕ) (t : TaskId) (l : LockId) (e : Event) → IsLawful s made → IsReading s t l e → (task_part s t).blocked ≡ None
reading-unblocked s made t l e lawful is = idle-unblocked s made t lawful (reading-was_idle s t l e is)
