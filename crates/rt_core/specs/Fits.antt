-- When an event fits the shared parts and its thread.
use Rattle.std.specs.Prelude.{◌≡◌, ◌<◌, ◌≤◌, ◌^◌, length, None, IfSome, IsSome}
use Rattle.rt_base.specs.declared.limits.TheConstants.{MAX_PRIO}
use Rattle.rt_base.specs.declared.reply.Reply.{Reply}
use Rattle.rt_model.specs.declared.event.Event.{Event}
use Rattle.rt_model.specs.declared.event_kind.EventKind.{EventKind}
use Rattle.rt_model.specs.declared.event_kind.EventKind.TheVariants as kinds
use Rattle.rt_model.specs.Parts.{OwnerPart, ThreadPart, call_of}
use Rattle.rt_model.specs.Rows.{row_of}
use Rattle.rt_model.specs.State.{Shared, lock_at, readers_at, task_in, task_at}
use Rattle.rt_model.specs.Path.{first_owner}
use Rattle.rt_model.specs.Effect.{around}
use Rattle.rt_model.specs.Rules.{touched}
use Rattle.rt_model.specs.StateAfter.{effect_in, shared_after}
use Rattle.rt_walk.specs.Link.{awaited}
use Rattle.rt_parts.specs.Links.{IsQueuedAt, HasRoom}
use Rattle.rt_model.specs.steps.Readers.{CanStep}
use Rattle.rt_parts.specs.Thread.{IsCounted, CanAnswer}

-- ---- by the kind

-- an event is on a lock, but where a walk ends or begins anew, a thread answers at once, a state is set or left, a task is woken, or
-- a priority is set
abbrev pub NamesLock : EventKind → Event → Type 0
NamesLock kinds.WalkEnd e = Unit {0}
NamesLock kinds.Restart e = Unit {0}
NamesLock kinds.Own e = Unit {0}
NamesLock kinds.State e = Unit {0}
NamesLock kinds.Sched e = Unit {0}
NamesLock kinds.Wake e = Unit {0}
NamesLock kinds.SetPrio e = Unit {0}
NamesLock _ e = IsSome e.lock

-- a task that is to be queued isn't yet, and there is a ticket for it
abbrev pub CanQueue : EventKind → Event → OwnerPart → Type 0
CanQueue kinds.Wait e lock = (row_of e.task lock.rows ≡ None) × (lock.ticket < 2 ^ 63)
CanQueue _ e lock = Unit {0}

-- the cursor is blocked on the event's lock and queued there, the lock has the event's owner, and the walk's path has room
pub record IsLink (e : Event) (sh : Shared) (thread : ThreadPart) : Type 0 where
  pub cursor : IsSome e.other
  pub blocked : awaited (task_at sh e.other) ≡ e.lock
  pub queued : IfSome e.other (λ u. IsQueuedAt u (task_in sh u) (lock_at sh e.lock))
  pub owner : e.owner ≡ (lock_at sh e.lock).owner
  pub room : HasRoom thread.phase

-- so where a walk makes a link
abbrev pub CanLink : EventKind → Event → Shared → ThreadPart → Type 0
CanLink kinds.Walk e sh thread = IsLink e sh thread
CanLink _ e sh thread = Unit {0}

-- where a cycle is left, the task to which the path's first link leads is there
abbrev pub NamesOwner : EventKind → Event → Shared → Type 0
NamesOwner kinds.Cycle e sh = IfSome (first_owner e.path) (λ t. t.0 < length sh.tasks)
NamesOwner _ e sh = Unit {0}

-- a task that is to have another priority is named, and it is one
pub record IsPriority (e : Event) : Type 0 where
  pub target : IsSome e.other
  pub value : e.value ≤ MAX_PRIO

abbrev pub CanSet : EventKind → Event → Type 0
CanSet kinds.SetPrio e = IsPriority e
CanSet _ e = Unit {0}

-- ---- all of it

-- the thread as the event leaves it, but for an answer
abbrev pub thread_moved : Shared → ThreadPart → Event → ThreadPart
thread_moved sh thread e = (effect_in sh thread e).thread (around (shared_after sh thread e) (touched e.kind e)) thread

-- what the event names is there, its thread knows all locks and is then at a call that can be answered, and what its kind needs holds
pub record Fits (e : Event) (sh : Shared) (thread : ThreadPart) : Type 0 where
  pub task : e.task.0 < length sh.tasks
  pub lock : IfSome e.lock (λ l. l.0 < length sh.locks)
  pub named : NamesLock e.kind e
  pub other : IfSome e.other (λ t. t.0 < length sh.tasks)
  pub owner : IfSome e.owner (λ t. t.0 < length sh.tasks)
  pub woken : IfSome e.woken (λ t. t.0 < length sh.tasks)
  pub kinds : length thread.kinds ≡ length sh.locks
  pub calling : IsSome (call_of thread)
  pub counted : IsCounted thread
  pub call : IfSome e.reply (λ _. IsSome (call_of (thread_moved sh thread e)))
  pub can : IfSome e.reply (λ (answer : Reply). CanAnswer (thread_moved sh thread e) (call_of (thread_moved sh thread e)) answer)
  pub queue : CanQueue e.kind e (lock_at sh e.lock)
  pub link : CanLink e.kind e sh thread
  pub first : NamesOwner e.kind e sh
  pub set : CanSet e.kind e
  pub step : CanStep e.kind e.value (readers_at sh (touched e.kind e).readers)
