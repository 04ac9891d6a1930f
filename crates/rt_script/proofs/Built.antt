-- What is built of a plan that keeps the limits is a script.
use Rattle.std.proofs.Common.{◌≡◌, ℕ, ◌+◌, ◌-◌, ◌%◌, ◌<◌, ◌≤◌, List, [], ◌∷◌, ◌++◌, length, get_or, take, map, refl, sym, ap, subst, ◌∙◌, arith}
use Rattle.std.specs.Prelude.{Vec, sum, count_by}
use Rattle.std.specs.List.{enumerate_from}
use Rattle.std.proofs.Math.ListN.{get_or-map}
use Rattle.std.proofs.Math.Nat.{mod-lt}
use Rattle.std.proofs.lemmas.List.{map-append, length-map, take_more}
use Rattle.std.proofs.lemmas.List.Elements.{All-weaker}
use Rattle.std.proofs.lemmas.List.Sums.{sum-map, sum_by_more, sum_by_more_le}
use Rattle.rt_base.specs.declared.call.Call.{Call}
use Rattle.rt_base.specs.declared.id.Cpu.{Cpu}
use Rattle.rt_base.specs.declared.id.TaskId.{TaskId}
use Rattle.rt_base.specs.declared.kind.Kind.{Kind}
use Rattle.rt_base.specs.declared.kind.Kind.TheVariants as kinds
use Rattle.rt_base.specs.Script.{Script, TaskLine, LockLine, all_calls, IsTaskOf, IsLockWithin, IsScript}
use Rattle.rt_script.specs.declared.script.Script.TheInside.{Inside}
use Rattle.rt_script.specs.Building.{TaskPlan, Plan, task_plan, planned_calls, built_task_name, is_local, cell_cpu, built_task, built_tasks, built_lock, built_locks, built, CanBuild}
use Rattle.rt_script.specs.Names.{named}
use Rattle.rt_script.specs.ScriptFields.{script_of_fields, AreFields, with_lines, NamesLines}
use Rattle.rt_script.proofs.BuiltCells.{built_locks-lines}
use Rattle.rt_script.proofs.BuiltLines.{length-built_tasks, built_task_at, built_tasks-push, length-built_locks, built_lock_at}
use Rattle.rt_script.proofs.BuiltNames.{no_plan, is_name-task, is_name-lock, HasOwnNames-built}

-- ---- calls

abbrev count : TaskPlan → ℕ
count t = length t.calls

calls_of_lines : (n : ℕ) (tasks : List TaskPlan) → map (λ (t : TaskLine). length t.calls) (map (λ task. built_task task.0 task.1) (enumerate_from n tasks)) ≡ map count tasks
calls_of_lines n [] = refl
calls_of_lines n (task ∷ tasks) = ap (λ (counts : List ℕ). length task.calls ∷ counts) (calls_of_lines (n + 1) tasks)

pub all_calls-built : (plan : Plan) → all_calls (built plan) ≡ planned_calls plan.tasks
all_calls-built plan = ap sum (calls_of_lines 0 plan.tasks)

pub calls_more : (tasks : List TaskPlan) (i : ℕ) (task : TaskPlan) → i < length tasks → get_or tasks i task ≡ task → planned_calls (take (i + 1) tasks) ≡ planned_calls (take i tasks) + length task.calls
calls_more tasks i task lt is =
    sum-map count (take (i + 1) tasks)
    ∙ sum_by_more count tasks i task lt
    ∙ ap (λ (n : ℕ). n + count (get_or tasks i task)) (sym (sum-map count (take i tasks)))
    ∙ ap (λ (t : TaskPlan). planned_calls (take i tasks) + count t) is

pub calls_within : (tasks : List TaskPlan) (i : ℕ) (task : TaskPlan) → i < length tasks → get_or tasks i task ≡ task → planned_calls (take i tasks) + length task.calls ≤ planned_calls tasks
calls_within tasks i task lt is =
    let here : count (get_or tasks i task) ≡ length task.calls = ap count is in
    omega (arith, sum-map count (take i tasks), sum-map count tasks, sum_by_more_le count tasks i task lt)

-- ---- tasks and lines, as loops find and make them

pub plan_at : {A : Type 0} (tasks : List (ℕ × Cpu × Vec Call A)) (i : ℕ) (task : ℕ × Cpu × Vec Call A) → task ≡ get_or tasks i task → get_or (map task_plan tasks) i (task_plan task) ≡ task_plan task
plan_at tasks i task is = get_or-map task_plan tasks i task ∙ ap task_plan (sym is)

pub plan_within : {A : Type 0} (tasks : List (ℕ × Cpu × Vec Call A)) (i : ℕ) → i < length tasks → i < length (map task_plan tasks)
plan_within tasks i lt = omega (arith, length-map tasks task_plan)

pub task_lines_more : {A : Type 0} (done : List (ℕ × Cpu × Vec Call A)) (task : ℕ × Cpu × Vec Call A) (lines : List TaskLine) (n : ℕ) (name : List ℕ) → lines ≡ built_tasks (map task_plan done) → n ≡ length lines → name ≡ built_task_name n
    → lines ++ record { name = name; own = task.0; cpu = task.1; calls = task.2.items } ∷ [] ≡ built_tasks (map task_plan (done ++ task ∷ []))
task_lines_more done task lines n name before n-is name-is =
    let len : n ≡ length (map task_plan done) = n-is ∙ ap length before ∙ length-built_tasks (map task_plan done) in
    let named : name ≡ built_task_name (length (map task_plan done)) = name-is ∙ ap built_task_name len in
    (λ i. before i ++ record { name = named i; own = task.0; cpu = task.1; calls = task.2.items } ∷ [])
    ∙ sym (built_tasks-push (map task_plan done) (task_plan task))
    ∙ ap built_tasks (sym (map-append task_plan done (task ∷ [])))

pub lock_lines_more : (cpus : ℕ) (locks : List Kind) (n : ℕ) (d : Kind) (lines : List LockLine) (line : LockLine) (cells : ℕ) → n < length locks → lines ≡ take n (built_locks cpus locks) → cells ≡ count_by is_local (take n locks)
    → line ≡ built_lock n (cells % cpus) (get_or locks n d) → lines ++ line ∷ [] ≡ take (n + 1) (built_locks cpus locks)
lock_lines_more cpus locks n d lines line cells lt before cells-is line-is =
    let here : line ≡ get_or (built_locks cpus locks) n line = line-is ∙ ap (λ (c : ℕ). built_lock n (c % cpus) (get_or locks n d)) cells-is ∙ sym (built_lock_at cpus locks n line d lt) in
    (λ i. before i ++ here i ∷ []) ∙ sym (take_more (built_locks cpus locks) n line (omega (arith, length-built_locks cpus locks)))

-- ---- the whole script

lock_within : (cpus n cpu : ℕ) (kind : Kind) → n < 1000 → cpu < cpus → IsLockWithin cpus (built_lock n cpu kind)
lock_within cpus n cpu kinds.Local small lt = record { name = is_name-lock (n - cpu) (omega arith); cell = lt }
lock_within cpus n cpu kinds.Mutex small lt = record { name = is_name-lock n small; cell = refl }
lock_within cpus n cpu kinds.Spin small lt = record { name = is_name-lock n small; cell = refl }
lock_within cpus n cpu kinds.RwLock small lt = record { name = is_name-lock n small; cell = refl }
lock_within cpus n cpu kinds.RwSem small lt = record { name = is_name-lock n small; cell = refl }

pub IsScript-built : (plan : Plan) → CanBuild plan → IsScript (built plan)
IsScript-built plan h =
    let s : Script = built plan in
    let tasks : length s.tasks ≡ length plan.tasks = length-built_tasks plan.tasks in
    let locks : length s.locks ≡ length plan.locks = length-built_locks plan.cpus plan.locks in
    record {
      cpus = h.cpus;
      tasks = omega (arith, h.tasks);
      locks = omega (arith, h.locks);
      calls = omega (arith, all_calls-built plan, h.calls);
      picks = h.picks;
      each_task = λ i d lt.
          let here : i < length plan.tasks = omega arith in
          subst (IsTaskOf s) (sym (built_task_at plan.tasks i d no_plan here))
          (record { name = is_name-task i (omega (arith, h.tasks)); own = h.each_own i no_plan here; cpu = h.each_cpu i no_plan here; calls = h.each_call i no_plan here });
      each_lock = λ i d lt.
          let here : i < length plan.locks = omega arith in
          let cpu : cell_cpu plan.cpus plan.locks i < plan.cpus = mod-lt (count_by is_local (take i plan.locks)) h.cpus.0 in
          subst (IsLockWithin plan.cpus) (sym (built_lock_at plan.cpus plan.locks i d kinds.Mutex here)) (lock_within plan.cpus i (cell_cpu plan.cpus plan.locks i) (get_or plan.locks i kinds.Mutex) (omega (arith, h.locks)) cpu);
      each_pick = All-weaker (λ (t : TaskId). t.0 < length plan.tasks) (λ (t : TaskId). t.0 < length s.tasks) (λ t lt. omega arith) plan.picks h.each_pick;
      names = HasOwnNames-built plan (omega (arith, h.tasks)) (omega (arith, h.locks));
      whole = built_locks-lines plan.cpus plan.locks h.whole;
    }

named-with_lines : (s : Script) (name : List ℕ) → named (with_lines s.tasks s.locks) name ≡ named s name
unfolding named
named-with_lines s name = refl

pub IsScript-of_parts : (plan : Plan) → CanBuild plan → (tasks : List TaskLine) (locks : List LockLine) → tasks ≡ built_tasks plan.tasks → locks ≡ built_locks plan.cpus plan.locks
    → IsScript (record { cpus = plan.cpus; tasks = tasks; locks = locks; picks = plan.picks })
IsScript-of_parts plan h tasks locks t l =
    let same : built plan ≡ record { cpus = plan.cpus; tasks = tasks; locks = locks; picks = plan.picks } = λ i. record { cpus = plan.cpus; tasks = sym t i; locks = sym l i; picks = plan.picks } in
    subst IsScript same (IsScript-built plan h)

pub AreFields-built : (s : Inside) (plan : Plan) → CanBuild plan → s.cpus ≡ plan.cpus → s.tasks.items ≡ built_tasks plan.tasks → s.locks.items ≡ built_locks plan.cpus plan.locks → s.picks.items ≡ plan.picks
    → s.all_calls ≡ planned_calls plan.tasks → NamesLines s.tasks.items s.locks.items s.names → AreFields s
AreFields-built s plan h n t l p calls names =
    let is : script_of_fields s ≡ built plan = λ i. record { cpus = n i; tasks = t i; locks = l i; picks = p i } in
    record {
      script = subst IsScript (sym is) (IsScript-built plan h);
      calls = calls ∙ sym (all_calls-built plan) ∙ ap all_calls (sym is);
      names = λ name. names name ∙ named-with_lines (script_of_fields s) name;
    }
