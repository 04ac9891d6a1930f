-- The tasks and the locks of a script, by their numbers.
use Rattle.std.proofs.Common.{◌≡◌, ℕ, zero, suc, ◌<◌, List, [], ◌∷◌, ◌++◌, length, get_or, arith}
use Rattle.std.specs.Prelude.{None}
use Rattle.std.proofs.lemmas.Option.{unwrap_or-slice_get}
use Rattle.rt_base.specs.declared.id.TaskId.{TaskId}
use Rattle.rt_base.specs.declared.id.LockId.{LockId}
use Rattle.rt_base.specs.declared.kind.Kind.TheVariants as kinds
use Rattle.rt_base.specs.Script.{Script, TaskLine, LockLine, task_line, lock_line, IsLockOf, IsTaskOf, IsLockWithin, IsScript}

-- what stands where there is no task, and no lock
abbrev pub no_task : TaskLine
no_task = record { name = []; own = 0; cpu = record { 0 = 0 }; calls = [] }

abbrev pub no_lock : LockLine
no_lock = record { name = []; kind = kinds.Mutex; cell = None }

pub task_line_at : (s : Script) (t : TaskId) → task_line s t ≡ get_or s.tasks t.0 no_task
task_line_at s t = unwrap_or-slice_get s.tasks t.0 no_task

pub lock_line_at : (s : Script) (l : LockId) → lock_line s l ≡ get_or s.locks l.0 no_lock
lock_line_at s l = unwrap_or-slice_get s.locks l.0 no_lock

pub task_fits : (s : Script) (t : TaskId) → IsScript s → t.0 < length s.tasks → IsTaskOf s (task_line s t)
task_fits s t h within = rw (task_line_at s t) (h.each_task t.0 no_task within)

pub lock_fits : (s : Script) (l : LockId) → IsScript s → l.0 < length s.locks → IsLockWithin s.cpus (lock_line s l)
lock_fits s l h within = rw (lock_line_at s l) (h.each_lock l.0 no_lock within)

-- ---- a lock of the script, whose line passes a test

-- a script that has only locks
abbrev only : List LockLine → Script
only locks = record { cpus = 1; tasks = []; locks = locks; picks = [] }

pub IsLockOf-from : (xs : List LockLine) (i : ℕ) (fits : LockLine → Type 0) → i < length xs → fits (lock_line (only xs) (record { 0 = i })) → IsLockOf (only xs) fits (record { 0 = i })
IsLockOf-from [] i fits lt h = absurd (omega arith)
IsLockOf-from (x ∷ xs) zero fits lt h = h
IsLockOf-from (x ∷ xs) (suc i) fits lt h = IsLockOf-from xs i fits (omega arith) h

pub IsLockOf-to : (xs : List LockLine) (i : ℕ) (fits : LockLine → Type 0) → IsLockOf (only xs) fits (record { 0 = i }) → (i < length xs) × fits (lock_line (only xs) (record { 0 = i }))
IsLockOf-to [] i fits h = absurd h
IsLockOf-to (x ∷ xs) zero fits h = (omega arith, h)
IsLockOf-to (x ∷ xs) (suc i) fits h =
    let k = IsLockOf-to xs i fits h in
    (omega (arith, k.0), k.1)

pub IsLockOf-append : (xs ys : List LockLine) (i : ℕ) (fits : LockLine → Type 0) → IsLockOf (only xs) fits (record { 0 = i }) → IsLockOf (only (xs ++ ys)) fits (record { 0 = i })
IsLockOf-append [] ys i fits h = absurd h
IsLockOf-append (x ∷ xs) ys zero fits h = h
IsLockOf-append (x ∷ xs) ys (suc i) fits h = IsLockOf-append xs ys i fits h
