-- A script that is built from its parts: what it is, and when there is one.
use Rattle.std.specs.Prelude.{◌≡◌, ℕ, ◌-◌, ◌%◌, ◌<◌, ◌≤◌, Bool, true, false, List, [], ◌∷◌, ◌++◌, length, map, take, replicate, flat_map, sum, count_by, All, Some, None, Vec, codes, decimal}
use Rattle.std.specs.List.{enumerate_from}
use Rattle.rt_base.specs.declared.call.Call.{Call}
use Rattle.rt_base.specs.declared.id.TaskId.{TaskId}
use Rattle.rt_base.specs.declared.id.Cpu.{Cpu}
use Rattle.rt_base.specs.declared.kind.Kind.{Kind}
use Rattle.rt_base.specs.declared.kind.Kind.TheVariants as kinds
use Rattle.rt_base.specs.declared.limits.TheConstants.{MAX_TASKS, MAX_LOCKS, MAX_CALLS, MAX_PICKS, MAX_PRIO, MAX_CPUS}
use Rattle.rt_base.specs.Script.{Script, TaskLine, LockLine, IsCallOf}

-- a task: its priority, the processor on which it starts, and its calls
pub record TaskPlan : Type 0 where
  pub own : ℕ
  pub cpu : Cpu
  pub calls : List Call

-- how many processors, the tasks, the kind of each lock with each cell by itself, and the picks
pub record Plan : Type 0 where
  pub cpus : ℕ
  pub tasks : List TaskPlan
  pub locks : List Kind
  pub picks : List TaskId

-- the plan that these parts are
abbrev pub task_plan : {A : Type 0} → ℕ × Cpu × Vec Call A → TaskPlan
task_plan task = record { own = task.0; cpu = task.1; calls = task.2.items }

abbrev pub plan_of : {A : Type 0} → ℕ → List (ℕ × Cpu × Vec Call A) → List Kind → List TaskId → Plan
plan_of cpus tasks locks picks = record {
  cpus = cpus;
  tasks = map task_plan tasks;
  locks = locks;
  picks = picks;
}

-- ---- the script

-- the names of task n and of lock n
abbrev pub built_task_name : ℕ → List ℕ
built_task_name n = codes "t" ++ decimal n

abbrev pub built_lock_name : ℕ → List ℕ
built_lock_name n = codes "k" ++ decimal n

-- a local lock
abbrev pub is_local : Kind → Bool
is_local kinds.Local = true
is_local kinds.Mutex = false
is_local kinds.Spin = false
is_local kinds.RwLock = false
is_local kinds.RwSem = false

-- the processor of the cell that lock n is, as cells take the processors in turn
abbrev pub cell_cpu : ℕ → List Kind → ℕ → ℕ
cell_cpu cpus locks n = count_by is_local (take n locks) % cpus

-- the line of lock n, which is that processor's cell if it is local: a cell has the name of the first
abbrev pub built_lock : ℕ → ℕ → Kind → LockLine
built_lock n cpu kinds.Local = record {
  name = built_lock_name (n - cpu);
  kind = kinds.Local;
  cell = Some (record { 0 = cpu });
}
built_lock n cpu kind = record { name = built_lock_name n; kind = kind; cell = None }

-- the lines of all locks
abbrev pub built_locks : ℕ → List Kind → List LockLine
built_locks cpus locks =
    map (λ lock. built_lock lock.0 (cell_cpu cpus locks lock.0) lock.1) (enumerate_from 0 locks)

-- the line of task n
abbrev pub built_task : ℕ → TaskPlan → TaskLine
built_task n task = record { name = built_task_name n; own = task.own; cpu = task.cpu; calls = task.calls }

-- the lines of all tasks
abbrev pub built_tasks : List TaskPlan → List TaskLine
built_tasks tasks = map (λ task. built_task task.0 task.1) (enumerate_from 0 tasks)

-- the script of a plan
abbrev pub built : Plan → Script
built plan = record {
  cpus = plan.cpus;
  tasks = built_tasks plan.tasks;
  locks = built_locks plan.cpus plan.locks;
  picks = plan.picks;
}

-- ---- when there is one

-- the locks that a lock of that kind is made of
abbrev pub cells_of_kind : ℕ → Kind → List Kind
cells_of_kind cpus kinds.Local = replicate cpus kinds.Local
cells_of_kind cpus kind = kind ∷ []

-- the cells of a local lock stand together, one for each processor
abbrev pub HasWholeCells : ℕ → List Kind → Type 0
HasWholeCells cpus locks = (kinds : List Kind) × (locks ≡ flat_map (cells_of_kind cpus) kinds)

-- how many calls the tasks make together
abbrev pub planned_calls : List TaskPlan → ℕ
planned_calls tasks = sum (map (λ (t : TaskPlan). length t.calls) tasks)

-- the plan keeps the limits of a script, and names nothing that it doesn't have
pub record CanBuild (plan : Plan) : Type 0 where
  pub cpus : (1 ≤ plan.cpus) × (plan.cpus ≤ MAX_CPUS)
  pub tasks : length plan.tasks ≤ MAX_TASKS
  pub locks : length plan.locks ≤ MAX_LOCKS
  pub calls : planned_calls plan.tasks ≤ MAX_CALLS
  pub picks : length plan.picks ≤ MAX_PICKS
  pub each_own : All (λ (t : TaskPlan). t.own ≤ MAX_PRIO) plan.tasks
  pub each_cpu : All (λ (t : TaskPlan). t.cpu.0 < plan.cpus) plan.tasks
  pub each_call : All (λ (t : TaskPlan). All (IsCallOf (built plan)) t.calls) plan.tasks
  pub each_pick : All (λ (t : TaskId). t.0 < length plan.tasks) plan.picks
  pub whole : HasWholeCells plan.cpus plan.locks
