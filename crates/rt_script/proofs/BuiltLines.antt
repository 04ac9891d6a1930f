-- The lines of a script that is built, one by one.
use Rattle.std.proofs.Common.{◌≡◌, ℕ, suc, ◌+◌, ◌<◌, ◌≤◌, List, [], ◌∷◌, ◌++◌, length, get_or, take, map, ap, ◌∙◌, arith}
use Rattle.std.specs.Prelude.{count_by, cond}
use Rattle.std.specs.List.{enumerate_from}
use Rattle.std.proofs.Math.Nat.{mod-le}
use Rattle.std.proofs.lemmas.List.{get_or-map, length-map, map-append, length-take-le}
use Rattle.std.proofs.lemmas.List.FromFn.{length-enumerate_from, get_or-enumerate_from}
use Rattle.std.proofs.lemmas.List.Sums.{count_by-le-length, sum_by_more}
use Rattle.rt_base.specs.declared.kind.Kind.{Kind}
use Rattle.rt_base.specs.Script.{TaskLine, LockLine}
use Rattle.rt_script.specs.Building.{TaskPlan, is_local, cell_cpu, built_task, built_tasks, built_lock, built_locks}

-- ---- tasks

pub length-built_tasks : (tasks : List TaskPlan) → length (built_tasks tasks) ≡ length tasks
length-built_tasks tasks = length-map (enumerate_from 0 tasks) (λ (task : ℕ × TaskPlan). built_task task.0 task.1) ∙ length-enumerate_from 0 tasks

pub built_task_at : (tasks : List TaskPlan) (i : ℕ) (d : TaskLine) (e : TaskPlan) → i < length tasks → get_or (built_tasks tasks) i d ≡ built_task i (get_or tasks i e)
built_task_at tasks i d e lt =
    let f : ℕ × TaskPlan → TaskLine = λ task. built_task task.0 task.1 in
    let start : 0 + i ≡ i = omega arith in
    get_or-map f (enumerate_from 0 tasks) i (0, e) d (omega (arith, length-enumerate_from 0 tasks)) ∙ ap f (get_or-enumerate_from 0 tasks i (0, e) lt) ∙ ap (λ (k : ℕ). built_task k (get_or tasks i e)) start

enumerate_from-push : {X : Type 0} (n : ℕ) (xs : List X) (x : X) → enumerate_from n (xs ++ x ∷ []) ≡ enumerate_from n xs ++ (n + length xs, x) ∷ []
enumerate_from-push {X = X} n [] x =
    let at : n ≡ n + 0 = omega arith in
    ap (λ (k : ℕ). (k, x) ∷ []) at
enumerate_from-push {X = X} n (y ∷ ys) x =
    let at : n + 1 + length ys ≡ n + suc (length ys) = omega arith in
    ap (λ (zs : List (ℕ × X)). (n, y) ∷ zs) (enumerate_from-push (n + 1) ys x ∙ ap (λ (k : ℕ). enumerate_from (n + 1) ys ++ (k, x) ∷ []) at)

pub built_tasks-push : (tasks : List TaskPlan) (task : TaskPlan) → built_tasks (tasks ++ task ∷ []) ≡ built_tasks tasks ++ built_task (length tasks) task ∷ []
built_tasks-push tasks task =
    let f : ℕ × TaskPlan → TaskLine = λ task. built_task task.0 task.1 in
    let start : 0 + length tasks ≡ length tasks = omega arith in
    ap (map f) (enumerate_from-push 0 tasks task) ∙ map-append f (enumerate_from 0 tasks) ((0 + length tasks, task) ∷ []) ∙ ap (λ (k : ℕ). built_tasks tasks ++ built_task k task ∷ []) start

-- ---- locks

pub length-built_locks : (cpus : ℕ) (locks : List Kind) → length (built_locks cpus locks) ≡ length locks
length-built_locks cpus locks = length-map (enumerate_from 0 locks) (λ (lock : ℕ × Kind). built_lock lock.0 (cell_cpu cpus locks lock.0) lock.1) ∙ length-enumerate_from 0 locks

pub built_lock_at : (cpus : ℕ) (locks : List Kind) (i : ℕ) (d : LockLine) (e : Kind) → i < length locks → get_or (built_locks cpus locks) i d ≡ built_lock i (cell_cpu cpus locks i) (get_or locks i e)
built_lock_at cpus locks i d e lt =
    let f : ℕ × Kind → LockLine = λ lock. built_lock lock.0 (cell_cpu cpus locks lock.0) lock.1 in
    let start : 0 + i ≡ i = omega arith in
    get_or-map f (enumerate_from 0 locks) i (0, e) d (omega (arith, length-enumerate_from 0 locks)) ∙ ap f (get_or-enumerate_from 0 locks i (0, e) lt)
    ∙ ap (λ (k : ℕ). built_lock k (cell_cpu cpus locks k) (get_or locks i e)) start

-- a cell's processor is no greater than the lock's number
pub cell_cpu-le : (cpus : ℕ) (locks : List Kind) (i : ℕ) → i ≤ length locks → cell_cpu cpus locks i ≤ i
cell_cpu-le cpus locks i le = omega (arith, mod-le (count_by is_local (take i locks)) cpus, count_by-le-length is_local (take i locks), length-take-le i locks le)

-- the cells before the next lock
pub cells_more : (locks : List Kind) (i : ℕ) (d : Kind) → i < length locks → count_by is_local (take (i + 1) locks) ≡ count_by is_local (take i locks) + cond (is_local (get_or locks i d)) 1 0
cells_more locks i d lt = sum_by_more (λ (kind : Kind). cond (is_local kind) 1 0) locks i d lt
