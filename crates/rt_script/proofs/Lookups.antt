-- What is found by a name: a task by its own, and a lock by its own, or the cell of processor 0.
use Rattle.std.proofs.Common.{◌≡◌, ℕ, ◌+◌, ◌-◌, ◌<◌, ◌≤◌, true, false, List, length, get_or, Option, Some, None, refl, sym, ap, ◌∙◌, subst, arith}
use Rattle.std.specs.Prelude.{◌≢◌, bytes_eq}
use Rattle.std.proofs.lemmas.List.Quantifiers.{position-Some}
use Rattle.std.proofs.lemmas.Slice.Eq.{bytes_eq-Decides}
use Rattle.rt_base.specs.declared.id.Cpu.{Cpu}
use Rattle.rt_base.specs.declared.id.TaskId.{TaskId}
use Rattle.rt_base.specs.declared.id.LockId.{LockId}
use Rattle.rt_base.specs.Script.{Script, TaskLine, LockLine, task_line, lock_line, task_place, lock_place, is_first_cell, locks_of_lines, IsScript}
use Rattle.rt_script.specs.declared.named.Named.{Named}
use Rattle.rt_script.specs.declared.named.Named.TheVariants.{Task, Lock}
use Rattle.rt_script.specs.Names.{named, only_task, only_lock, task_named, lock_named}
use Rattle.rt_script.proofs.Cells.{rank, cell_at, HasFirst, HasCells, first_in_lines, cells_in_lines}
use Rattle.rt_script.proofs.Naming.{either, task_index_of, lock_index_of}
use Rattle.rt_script.proofs.OwnNames.{first_named}
use Rattle.rt_script.proofs.ScriptParts.{no_task, no_lock, task_line_at, lock_line_at}

-- ---- tasks

found_task : (a b : Option ℕ) (t : TaskId) → a ≡ Some t.0 → only_task (either a b) ≡ Some t
found_task a b t e = rw e refl

-- a task's name stands for that task
pub task_named-own : (s : Script) (t : TaskId) → IsScript s → t.0 < length s.tasks → task_named s (task_line s t).name ≡ Some t
unfolding named
task_named-own s t h lt = found_task (task_place s (task_line s t).name) (lock_place s (task_line s t).name) t (h.names.task t lt)

task_in : (o : Option Named) (t : TaskId) → only_task o ≡ Some t → o ≡ Some (Task t)
task_in None t e = absurd cc
task_in (Some (Lock l)) t e = absurd cc
task_in (Some (Task u)) t e =
    let same : u ≡ t = cc in
    ap (λ (u : TaskId). Some (Task u)) same

-- the task that a word names is there, and has the word as its name
pub task_named-has : (s : Script) (word : List ℕ) (t : TaskId) → task_named s word ≡ Some t → (t.0 < length s.tasks) × ((task_line s t).name ≡ word)
task_named-has s word t e =
    let place : task_place s word ≡ Some t.0 = task_index_of s word t (task_in (named s word) t e) in
    let found = position-Some (λ (l : TaskLine). bytes_eq word l.name) s.tasks t.0 no_task place in
    let same : word ≡ (get_or s.tasks t.0 no_task).name = (bytes_eq-Decides word (get_or s.tasks t.0 no_task).name).0 found.1 in
    (found.0, ap (λ (l : TaskLine). l.name) (task_line_at s t) ∙ sym same)

-- ---- locks

found_lock : (a b : Option ℕ) (l : LockId) → a ≡ None → b ≡ Some l.0 → only_lock (either a b) ≡ Some l
found_lock a b l none some = rw (none, some) refl

-- the name of a lock that is no cell, or that of processor 0, stands for that lock
pub lock_named-first : (s : Script) (l : LockId) → IsScript s → l.0 < length s.locks → is_first_cell (lock_line s l).cell ≡ true → lock_named s (lock_line s l).name ≡ Some l
unfolding named
lock_named-first s l h lt first = found_lock (task_place s (lock_line s l).name) (lock_place s (lock_line s l).name) l (h.names.apart l lt) (h.names.lock l lt first)

-- the name of a lock that is no cell stands for that lock
pub lock_named-own : (s : Script) (l : LockId) → IsScript s → l.0 < length s.locks → (lock_line s l).cell ≡ None → lock_named s (lock_line s l).name ≡ Some l
lock_named-own s l h lt lone = lock_named-first s l h lt (ap is_first_cell lone)

lock_in : (o : Option Named) (l : LockId) → only_lock o ≡ Some l → o ≡ Some (Lock l)
lock_in None l e = absurd cc
lock_in (Some (Task t)) l e = absurd cc
lock_in (Some (Lock k)) l e =
    let same : k ≡ l = cc in
    ap (λ (k : LockId). Some (Lock k)) same

-- the first lock that has the word as its name
pub record IsFirstOfName (s : Script) (word : List ℕ) (l : LockId) : Type 0 where
  pub there : l.0 < length s.locks
  pub name : (lock_line s l).name ≡ word
  pub first : (k : LockId) → k.0 < l.0 → (lock_line s k).name ≢ word

-- the lock that a word names is that
pub lock_named-has : (s : Script) (word : List ℕ) (l : LockId) → lock_named s word ≡ Some l → IsFirstOfName s word l
lock_named-has s word l e =
    let place : lock_place s word ≡ Some l.0 = lock_index_of s word l (lock_in (named s word) l e) in
    let found = position-Some (λ (m : LockLine). bytes_eq word m.name) s.locks l.0 no_lock place in
    let same : word ≡ (get_or s.locks l.0 no_lock).name = (bytes_eq-Decides word (get_or s.locks l.0 no_lock).name).0 found.1 in
    record {
      there = found.0;
      name = ap (λ (m : LockLine). m.name) (lock_line_at s l) ∙ sym same;
      first = λ k before is.
          let other : bytes_eq word (get_or s.locks k.0 no_lock).name ≡ false = found.2 k.0 before in
          let equal : word ≡ (get_or s.locks k.0 no_lock).name = sym is ∙ ap (λ (m : LockLine). m.name) (lock_line_at s k) in
          let test : bytes_eq word (get_or s.locks k.0 no_lock).name ≡ true = (bytes_eq-Decides word (get_or s.locks k.0 no_lock).name).1 equal in
          absurd cc;
    }

-- it is no cell, or that of processor 0
pub lock_named-is_first : (s : Script) (word : List ℕ) (l : LockId) → IsScript s → lock_named s word ≡ Some l → is_first_cell (lock_line s l).cell ≡ true
lock_named-is_first s word l h e = first_named s word l h (lock_in (named s word) l e)

-- the name of a cell stands for the cell of processor 0, which is so many locks before it
pub lock_named-cell : (s : Script) (l : LockId) (cpu : Cpu) → IsScript s → l.0 < length s.locks → (lock_line s l).cell ≡ Some cpu → (cpu.0 ≤ l.0) × (lock_named s (lock_line s l).name ≡ Some (record { 0 = l.0 - cpu.0 }))
lock_named-cell s l cpu h lt cell =
    let whole = h.whole in
    let in' : l.0 < length (locks_of_lines s.cpus whole.0) = subst (λ (locks : List LockLine). l.0 < length locks) whole.1 lt in
    let has : HasFirst s.locks l.0 = subst (λ (locks : List LockLine). HasFirst locks l.0) (sym whole.1) (first_in_lines s.cpus whole.0 l.0 in') in
    let f = has no_lock in
    let k : LockId = record { 0 = f.0 } in
    let far : rank (get_or s.locks l.0 no_lock).cell ≡ cpu.0 = ap (λ (m : LockLine). rank m.cell) (sym (lock_line_at s l)) ∙ ap rank cell in
    let back : f.0 ≡ l.0 - cpu.0 = omega (arith, f.1) in
    let first : is_first_cell (lock_line s k).cell ≡ true = ap (λ (m : LockLine). is_first_cell m.cell) (lock_line_at s k) ∙ f.3 in
    let name : (lock_line s l).name ≡ (lock_line s k).name = ap (λ (m : LockLine). m.name) (lock_line_at s l) ∙ sym f.2 ∙ sym (ap (λ (m : LockLine). m.name) (lock_line_at s k)) in
    (omega (arith, f.1), ap (lock_named s) name ∙ lock_named-first s k h (omega (arith, f.1)) first ∙ ap (λ (i : ℕ). Some (record { 0 = i })) back)

-- after the cell of processor 0 stand those of the others, so many locks after it as their numbers say
pub lock_line-cell : (s : Script) (l : LockId) (cpu : Cpu) → IsScript s → l.0 < length s.locks → (lock_line s l).cell ≡ Some (record { 0 = 0 }) → cpu.0 < s.cpus
    → (l.0 + cpu.0 < length s.locks) × (lock_line s (record { 0 = l.0 + cpu.0 }) ≡ cell_at (lock_line s l).name cpu.0)
lock_line-cell s l cpu h lt first below =
    let whole = h.whole in
    let in' : l.0 < length (locks_of_lines s.cpus whole.0) = subst (λ (locks : List LockLine). l.0 < length locks) whole.1 lt in
    let has : HasCells s.cpus s.locks l.0 = subst (λ (locks : List LockLine). HasCells s.cpus locks l.0) (sym whole.1) (cells_in_lines s.cpus whole.0 l.0 in') in
    let f = has no_lock (ap (λ (m : LockLine). m.cell) (sym (lock_line_at s l)) ∙ first) cpu.0 below in
    (f.0, lock_line_at s (record { 0 = l.0 + cpu.0 }) ∙ f.1 ∙ ap (λ (m : LockLine). cell_at m.name cpu.0) (sym (lock_line_at s l)))
