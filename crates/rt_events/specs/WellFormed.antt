-- Entries that are well formed for a script: what a kind's line prints is there and the script's, and what it doesn't print
-- is what the printed fields give, or nothing.
use Rattle.std.specs.Prelude.{◌≡◌, ℕ, ◌<◌, ◌≤◌, ◌^◌, List, [], length, None, IsSomeAnd, IfSome, All}
use Rattle.rt_base.specs.Script.{Script}
use Rattle.rt_base.specs.declared.limits.TheConstants.{MAX_PRIO, MAX_TASKS}
use Rattle.rt_base.specs.declared.id.LockId.{LockId}
use Rattle.rt_base.specs.declared.id.TaskId.{TaskId}
use Rattle.rt_model.specs.declared.event_kind.EventKind.{EventKind}
use Rattle.rt_model.specs.declared.event_kind.EventKind.TheVariants as kinds
use Rattle.rt_model.specs.Path.{first_lock}
use Rattle.rt_events.specs.declared.entry.Entry.{Entry}

abbrev pub IsTaskIn : Script → TaskId → Type 0
IsTaskIn script t = t.0 < length script.tasks

abbrev pub IsLockIn : Script → LockId → Type 0
IsLockIn script l = l.0 < length script.locks

-- a link of a path, a task and a lock
abbrev pub IsLinkIn : Script → ℕ × ℕ → Type 0
IsLinkIn script link = (link.0 < length script.tasks) × (link.1 < length script.locks)

-- the lock: the path's first one for a cycle; not always there for a thread's own answer
abbrev pub HasLock : EventKind → Script → Entry → Type 0
HasLock kinds.WalkEnd script n = n.lock ≡ None
HasLock kinds.State script n = n.lock ≡ None
HasLock kinds.Sched script n = n.lock ≡ None
HasLock kinds.Wake script n = n.lock ≡ None
HasLock kinds.SetPrio script n = n.lock ≡ None
HasLock kinds.Cycle script n = n.lock ≡ first_lock n.path
HasLock kinds.Own script n = IfSome n.lock (IsLockIn script)
HasLock _ script n = IsSomeAnd n.lock (IsLockIn script)

-- another task: a walk's cursor, the task of a broken link, or whom a call is about
abbrev pub HasOther : EventKind → Script → Entry → Type 0
HasOther kinds.Walk script n = IsSomeAnd n.other (IsTaskIn script)
HasOther kinds.WalkEnd script n = IsSomeAnd n.other (IsTaskIn script)
HasOther kinds.Restart script n = IsSomeAnd n.other (IsTaskIn script)
HasOther kinds.Wake script n = IsSomeAnd n.other (IsTaskIn script)
HasOther kinds.SetPrio script n = IsSomeAnd n.other (IsTaskIn script)
HasOther _ script n = n.other ≡ None

-- the woken task, where one was
abbrev pub HasWoken : EventKind → Script → Entry → Type 0
HasWoken kinds.Walk script n = IfSome n.woken (IsTaskIn script)
HasWoken kinds.Give script n = IfSome n.woken (IsTaskIn script)
HasWoken kinds.WWake script n = IfSome n.woken (IsTaskIn script)
HasWoken _ script n = n.woken ≡ None

-- the number: 1 for a reader and for a signal, a state's, or a priority
abbrev pub HasValue : EventKind → ℕ → Type 0
HasValue kinds.Busy value = value ≤ 1
HasValue kinds.WOpen value = value ≤ 1
HasValue kinds.Wake value = value ≤ 1
HasValue kinds.State value = value ≤ 2
HasValue kinds.SetPrio value = value ≤ MAX_PRIO
HasValue _ value = value ≡ 0

-- the path of a cycle
abbrev pub HasPath : EventKind → Script → List (ℕ × ℕ) → Type 0
HasPath kinds.Cycle script path = (1 ≤ length path) × (length path ≤ MAX_TASKS) × All (IsLinkIn script) path
HasPath _ script path = path ≡ []

-- the entry is well formed for the script; a boost and an answer may be there or not with every kind
pub record IsWellFormed (script : Script) (n : Entry) : Type 0 where
  pub number : n.number < 2 ^ 64
  pub task : IsTaskIn script n.task
  pub lock : HasLock n.kind script n
  pub other : HasOther n.kind script n
  pub woken : HasWoken n.kind script n
  pub value : HasValue n.kind n.value
  pub path : HasPath n.kind script n.path
  pub boost : IfSome n.boost (λ boost. IsTaskIn script boost.0 × (boost.1 ≤ MAX_PRIO))

-- all that the entry names is the script's
pub record IsNamedIn (script : Script) (n : Entry) : Type 0 where
  pub task : IsTaskIn script n.task
  pub lock : IfSome n.lock (IsLockIn script)
  pub other : IfSome n.other (IsTaskIn script)
  pub woken : IfSome n.woken (IsTaskIn script)
  pub path : All (IsLinkIn script) n.path
  pub boost : IfSome n.boost (λ boost. IsTaskIn script boost.0)
