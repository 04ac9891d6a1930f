-- The shape of a state: its lists fit together, and what it looks up is there.
use Rattle.std.specs.Prelude.{◌≡◌, ℕ, ◌<◌, ◌≤◌, List, length, map, sum, All, IfSome}
use Rattle.rt_base.specs.Script.{Script, TaskLine}
use Rattle.rt_base.specs.declared.call.Call.{Call}
use Rattle.rt_base.specs.declared.id.Cpu.{Cpu}
use Rattle.rt_base.specs.declared.kind.Kind.{Kind}
use Rattle.rt_base.specs.declared.limits.TheConstants.{MAX_TASKS, MAX_LOCKS, MAX_CALLS}
use Rattle.rt_model.specs.declared.event.Event.{Event}
use Rattle.rt_model.specs.declared.row.Row.{Row}
use Rattle.rt_model.specs.Parts.{OwnerPart, TaskPart, ThreadPart}
use Rattle.rt_model.specs.State.{State, kinds_in}
use Rattle.rt_model.specs.CallKinds.{IsServed, MovesWithin, OnEachCpu}

-- a thread counts no more answers than it has calls, which are no more than a script may have, and each is served on whichever of
-- the processors the thread goes to
pub record IsThread (calls : List Call) (answered : ℕ) (cpu : Cpu) (tasks locks : ℕ) : Type 0 where
  pub within : answered ≤ length calls
  pub few : length calls ≤ MAX_CALLS
  pub cpus : ℕ
  pub on : cpu.0 < cpus
  pub moves : All (MovesWithin cpus) calls
  pub served : All (OnEachCpu cpus (IsServed tasks locks)) calls

-- how many calls the threads make together
abbrev pub calls_of : List ThreadPart → ℕ
calls_of threads = sum (map (λ (thread : ThreadPart). length thread.calls) threads)

-- the lists of the state fit together, and each thread knows the same kinds of locks
pub record IsShaped (s : State) : Type 0 where
  pub few_tasks : length s.threads ≤ MAX_TASKS
  pub few_locks : length s.locks ≤ MAX_LOCKS
  pub few_calls : calls_of s.threads ≤ MAX_CALLS
  pub readers : length s.readers ≡ length s.locks
  pub tasks : length s.tasks ≡ length s.threads
  pub kept : All (λ (task : TaskPart). length task.kept ≡ length s.locks) s.tasks
  pub kinds : All (λ (thread : ThreadPart). length thread.kinds ≡ length s.locks) s.threads
  pub known : List Kind
  pub alike : All (λ (thread : ThreadPart). thread.kinds ≡ known) s.threads
  pub holds : All (λ (thread : ThreadPart). length thread.holds ≡ length s.locks) s.threads
  pub owners : All (λ (lock : OwnerPart). IfSome lock.owner (λ t. t.0 < length s.threads)) s.locks
  pub rows : All (λ (lock : OwnerPart). All (λ (row : Row). row.who < length s.threads) lock.rows) s.locks

-- the state has the locks and the tasks of the script, and each thread knows the kinds of the locks and its own calls
pub record IsOf (script : Script) (s : State) : Type 0 where
  pub locks : length s.locks ≡ length script.locks
  pub readers : length s.readers ≡ length script.locks
  pub tasks : length s.tasks ≡ length script.tasks
  pub kinds : All (λ (thread : ThreadPart). thread.kinds ≡ kinds_in script) s.threads
  pub calls : map (λ (thread : ThreadPart). thread.calls) s.threads ≡ map (λ (line : TaskLine). line.calls) script.tasks

-- two states have as many parts of each sort
pub record SameSize (s other : State) : Type 0 where
  pub locks : length other.locks ≡ length s.locks
  pub readers : length other.readers ≡ length s.readers
  pub tasks : length other.tasks ≡ length s.tasks
  pub threads : length other.threads ≡ length s.threads

-- the task, the lock, the other task, the owner, the one that is woken, the one whose priority changes, and the tasks and locks of
-- the path are in the state
pub record IsWithin (tasks locks : ℕ) (e : Event) : Type 0 where
  pub task : e.task.0 < tasks
  pub lock : IfSome e.lock (λ l. l.0 < locks)
  pub other : IfSome e.other (λ t. t.0 < tasks)
  pub owner : IfSome e.owner (λ t. t.0 < tasks)
  pub woken : IfSome e.woken (λ t. t.0 < tasks)
  pub boost : IfSome e.boost (λ b. b.0.0 < tasks)
  pub path : All (λ (pair : ℕ × ℕ). (pair.0 < tasks) × (pair.1 < locks)) e.path
