-- A script stays one when a line is added to it.
use Rattle.std.proofs.Common.{◌≡◌, ℕ, ◌+◌, ◌<◌, ◌≤◌, List, [], ◌∷◌, ◌++◌, length, get_or, set, refl, sym, ap, arith, length-append, length-set}
use Rattle.std.specs.Prelude.{None, All}
use Rattle.std.proofs.lemmas.List.Elements.{All-nil, All-push, All-append, All-weaker, All-set}
use Rattle.std.proofs.lemmas.List.Sums.{sum-map, sum_by_push, sum_by-set}
use Rattle.rt_base.specs.declared.call.Call.{Call}
use Rattle.rt_base.specs.declared.call.Call.TheVariants.{Lock, LockInt, TryLock, Unlock, Spin, TrySpin, Unspin, Read, TryRead, Unread, Write, TryWrite, Unwrite, Downgrade, Local, Unlocal, State, Schedule, Wake, Signal, SetPrio, Move}
use Rattle.rt_base.specs.declared.id.TaskId.{TaskId}
use Rattle.rt_base.specs.declared.id.LockId.{LockId}
use Rattle.rt_base.specs.Script.{Script, TaskLine, LockLine, task_line, all_calls, IsLockOf, IsMutex, IsSpin, IsReaderLock, IsLocal, IsCallOf, IsTaskOf, IsLockWithin, IsScript}
use Rattle.rt_script.specs.Adding.{empty_script, with_cpus, with_task, with_locks, with_call, with_pick}
use Rattle.rt_base.specs.declared.limits.TheConstants.{MAX_CALLS, MAX_CPUS, MAX_LOCKS, MAX_PICKS, MAX_TASKS}
use Rattle.rt_script.specs.Names.{named, AreNewLocks}
use Rattle.rt_script.proofs.Cells.{fit_of}
use Rattle.rt_script.proofs.ScriptParts.{no_task, task_line_at, task_fits, IsLockOf-append}
use Rattle.rt_script.proofs.OwnNames.{HasOwnNames-with_task, HasOwnNames-with_locks, HasWholeLocks-with_locks, HasOwnNames-with_call}

-- ---- the number of processors, where nothing was added yet

pub IsScript-of_cpus : (n : ℕ) → 1 ≤ n → n ≤ MAX_CPUS → IsScript (with_cpus empty_script n)
IsScript-of_cpus n some few = record {
  cpus = (some, few);
  tasks = omega arith;
  locks = omega arith;
  calls = omega arith;
  picks = omega arith;
  each_task = All-nil (IsTaskOf (with_cpus empty_script n));
  each_lock = All-nil (IsLockWithin n);
  each_pick = All-nil (λ (t : TaskId). t.0 < 0);
  names = record { task = λ t lt. absurd (omega arith); lock = λ l lt first. absurd (omega arith); apart = λ l lt. absurd (omega arith) };
  whole = ([], refl);
}

-- ---- what a call names is still there

-- n has all that s has
record Keeps (s n : Script) : Type 1 where
  cpus : n.cpus ≡ s.cpus
  tasks : length s.tasks ≤ length n.tasks
  locks : (fits : LockLine → Type 0) (l : LockId) → IsLockOf s fits l → IsLockOf n fits l

call_stays : (s n : Script) → Keeps s n → (call : Call) → IsCallOf s call → IsCallOf n call
call_stays s n k (Lock l) h = k.locks IsMutex l h
call_stays s n k (LockInt l) h = k.locks IsMutex l h
call_stays s n k (TryLock l) h = k.locks IsMutex l h
call_stays s n k (Unlock l) h = k.locks IsMutex l h
call_stays s n k (Spin l) h = k.locks IsSpin l h
call_stays s n k (TrySpin l) h = k.locks IsSpin l h
call_stays s n k (Unspin l) h = k.locks IsSpin l h
call_stays s n k (Read l) h = k.locks IsReaderLock l h
call_stays s n k (TryRead l) h = k.locks IsReaderLock l h
call_stays s n k (Unread l) h = k.locks IsReaderLock l h
call_stays s n k (Write l) h = k.locks IsReaderLock l h
call_stays s n k (TryWrite l) h = k.locks IsReaderLock l h
call_stays s n k (Unwrite l) h = k.locks IsReaderLock l h
call_stays s n k (Downgrade l) h = k.locks IsReaderLock l h
call_stays s n k (Local l) h = k.locks IsLocal l h
call_stays s n k (Unlocal l) h = k.locks IsLocal l h
call_stays s n k (State state) h = h
call_stays s n k Schedule h = tt
call_stays s n k (Wake t) h = omega (arith, k.tasks)
call_stays s n k (Signal t) h = omega (arith, k.tasks)
call_stays s n k (SetPrio t prio) h = (omega (arith, k.tasks), h.1)
call_stays s n k (Move cpu) h = rw k.cpus h

task_stays : (s n : Script) → Keeps s n → (line : TaskLine) → IsTaskOf s line → IsTaskOf n line
task_stays s n k line h = record {
  name = h.name;
  own = h.own;
  cpu = rw k.cpus h.cpu;
  calls = All-weaker (IsCallOf s) (IsCallOf n) (λ call. call_stays s n k call) line.calls h.calls;
}

-- ---- a task more

all_calls-with_task : (s : Script) (line : TaskLine) → line.calls ≡ [] → all_calls (with_task s line) ≡ all_calls s
all_calls-with_task s line e =
    let f : TaskLine → ℕ = λ t. length t.calls in
    let none : f line ≡ 0 = ap length e in
    omega (arith, sum-map f s.tasks, sum-map f (s.tasks ++ line ∷ []), sum_by_push f s.tasks line, none)

pub IsScript-with_task : (s : Script) (line : TaskLine) → IsScript s → length s.tasks < MAX_TASKS → IsTaskOf s line → line.calls ≡ [] → named s line.name ≡ None → IsScript (with_task s line) × (all_calls (with_task s line) ≡ all_calls s)
IsScript-with_task s line h room fits none free =
    let more : length (s.tasks ++ line ∷ []) ≡ length s.tasks + 1 = omega (arith, length-append s.tasks (line ∷ [])) in
    let n : Script = with_task s line in
    let k : Keeps s n = record { cpus = refl; tasks = omega arith; locks = λ fits l h. h } in
    let stays : (x : TaskLine) → IsTaskOf s x → IsTaskOf n x = task_stays s n k in
    let same : all_calls n ≡ all_calls s = all_calls-with_task s line none in (
      record {
        cpus = h.cpus;
        tasks = omega arith;
        locks = h.locks;
        calls = rw same h.calls;
        picks = h.picks;
        each_task = All-push (IsTaskOf n) s.tasks line (All-weaker (IsTaskOf s) (IsTaskOf n) stays s.tasks h.each_task) (stays line fits);
        each_lock = h.each_lock;
        each_pick = All-weaker (λ (t : TaskId). t.0 < length s.tasks) (λ (t : TaskId). t.0 < length (s.tasks ++ line ∷ [])) (λ t lt. omega arith) s.picks h.each_pick;
        names = HasOwnNames-with_task s line h.names free;
        whole = h.whole;
      },
      same,
    )

-- ---- locks more

pub IsScript-with_locks : (s : Script) (lines : List LockLine) (key : List ℕ) → IsScript s → length s.locks + length lines ≤ MAX_LOCKS → AreNewLocks s key lines → IsScript (with_locks s lines)
IsScript-with_locks s lines key h room new =
    let n : Script = with_locks s lines in
    let k : Keeps s n = record { cpus = refl; tasks = omega arith; locks = λ fits l h. IsLockOf-append s.locks lines l.0 fits h } in
    let fits : All (IsLockWithin s.cpus) lines = rw new.made (fit_of s.cpus key new.kind new.shape) in
    record {
      cpus = h.cpus;
      tasks = h.tasks;
      locks = omega (arith, length-append s.locks lines);
      calls = h.calls;
      picks = h.picks;
      each_task = All-weaker (IsTaskOf s) (IsTaskOf n) (task_stays s n k) s.tasks h.each_task;
      each_lock = All-append (IsLockWithin s.cpus) s.locks lines h.each_lock fits;
      each_pick = h.each_pick;
      names = HasOwnNames-with_locks s lines key h new;
      whole = HasWholeLocks-with_locks s lines key h.whole new;
    }

-- ---- a call more

pub IsScript-with_call : (s : Script) (t : TaskId) (call : Call) → IsScript s → t.0 < length s.tasks → all_calls s < MAX_CALLS → IsCallOf s call → IsScript (with_call s t call) × (all_calls (with_call s t call) ≡ all_calls s + 1)
IsScript-with_call s t call h in' room fits =
    let d : TaskLine = no_task in
    let line : TaskLine = task_line s t in
    let new : TaskLine = record line { calls = line.calls ++ call ∷ [] } in
    let n : Script = with_call s t call in
    let f : TaskLine → ℕ = λ t. length t.calls in
    let is : line ≡ get_or s.tasks t.0 d = task_line_at s t in
    let len : length (set s.tasks t.0 new) ≡ length s.tasks = length-set s.tasks t.0 new in
    let k : Keeps s n = record { cpus = refl; tasks = omega arith; locks = λ fits l h. h } in
    let stays : (x : TaskLine) → IsTaskOf s x → IsTaskOf n x = task_stays s n k in
    let old : IsTaskOf s line = task_fits s t h in' in
    let one : length (line.calls ++ call ∷ []) ≡ length line.calls + 1 = omega (arith, length-append line.calls (call ∷ [])) in
    let fold : f (get_or s.tasks t.0 d) ≡ length line.calls = sym (ap f is) in
    let count : all_calls n ≡ all_calls s + 1 = omega (arith, sum-map f s.tasks, sum-map f (set s.tasks t.0 new), sum_by-set f s.tasks t.0 new d in', fold, one) in
    let more : IsTaskOf s new = record { name = old.name; own = old.own; cpu = old.cpu; calls = All-push (IsCallOf s) line.calls call old.calls fits } in (
      record {
        cpus = h.cpus;
        tasks = omega (arith, h.tasks);
        locks = h.locks;
        calls = omega arith;
        picks = h.picks;
        each_task = All-set (IsTaskOf n) s.tasks t.0 new (stays new more) (All-weaker (IsTaskOf s) (IsTaskOf n) stays s.tasks h.each_task);
        each_lock = h.each_lock;
        each_pick = All-weaker (λ (t : TaskId). t.0 < length s.tasks) (λ (t : TaskId). t.0 < length n.tasks) (λ t lt. omega arith) s.picks h.each_pick;
        names = HasOwnNames-with_call s t call h.names in';
        whole = h.whole;
      },
      count,
    )

-- ---- a pick more

pub IsScript-with_pick : (s : Script) (t : TaskId) → IsScript s → t.0 < length s.tasks → length s.picks < MAX_PICKS → IsScript (with_pick s t)
IsScript-with_pick s t h in' room = record {
  cpus = h.cpus;
  tasks = h.tasks;
  locks = h.locks;
  calls = h.calls;
  picks = omega (arith, length-append s.picks (t ∷ []));
  each_task = All-weaker (IsTaskOf s) (IsTaskOf (with_pick s t)) (λ line. task_stays s (with_pick s t) (record { cpus = refl; tasks = omega arith; locks = λ fits l h. h }) line) s.tasks h.each_task;
  each_lock = h.each_lock;
  each_pick = All-push (λ (t : TaskId). t.0 < length s.tasks) s.picks t h.each_pick in';
  names = record { task = h.names.task; lock = h.names.lock; apart = h.names.apart };
  whole = h.whole;
}
