-- The start state of a script is lawful.
use Rattle.std.proofs.lemmas.List.{length-map, length-replicate}
use Rattle.std.proofs.lemmas.List.Folds.{fold-map}
use Rattle.std.proofs.Common.{◌≡◌, inl, inr, ℕ, ◌+◌, ◌<◌, ◌≤◌, Bool, true, false, cond, not, ◌||◌, List, [], ◌∷◌, length, refl, sym, ap, ◌∙◌, subst, arith, Option, Some, None, All, IfSome}
use Rattle.std.specs.Prelude.{slice_get, option_map, is_some, sum}
use Rattle.std.proofs.lemmas.List.Elements.{All-nil, All-head, All-map, All-replicate}
use Rattle.std.proofs.lemmas.List.Sums.{get_or-le-sum_by, sum-map, sum_by-le}
use Rattle.std.proofs.lemmas.Option.{slice_get_cases, slice_get-map}
use Rattle.rt_base.specs.Script.{Script, TaskLine, LockLine, all_calls, IsLockOf, IsMutex, IsSpin, HasReaders, IsReaderLock, IsScript, IsCallOf, IsLocal}
use Rattle.rt_base.specs.declared.call.Call.{Call}
use Rattle.rt_base.specs.declared.call.Call.TheVariants as calls
use Rattle.rt_base.specs.declared.id.Cpu.{Cpu}
use Rattle.rt_base.specs.declared.id.LockId.{LockId}
use Rattle.rt_base.specs.declared.id.TaskId.{TaskId}
use Rattle.rt_base.specs.declared.kind.Kind.{Kind}
use Rattle.rt_base.specs.declared.kind.Kind.TheVariants as kinds
use Rattle.rt_base.specs.declared.limits.TheConstants.{MAX_CALLS, MAX_PRIO}
use Rattle.rt_base.specs.declared.state.TaskState.TheVariants.{Running}
use Rattle.rt_model.specs.declared.hold.Hold.{Hold}
use Rattle.rt_model.specs.declared.phase.Phase.{Phase}
use Rattle.rt_model.specs.declared.phase.Phase.TheVariants as phases
use Rattle.rt_model.specs.declared.reader_cell.ReaderCell.{ReaderCell}
use Rattle.rt_model.specs.declared.row.Row.{Row}
use Rattle.rt_model.specs.Parts.{OwnerPart, TaskPart, ThreadPart, cell, effective_of, call_of, hold_of, kind_named, has_readers}
use Rattle.rt_model.specs.Rows.{top_waiter, top_key, task_of, queued_key}
use Rattle.rt_model.specs.Choice.{present_lock}
use Rattle.rt_model.specs.State.{start, free_lock, fresh_task, fresh_thread, no_readers, kinds_in, owner_part, reader_part, task_part, thread_part}
use Rattle.rt_model.specs.CallKinds.{IsServed, HasReadersAt, IsForKind, MovesWithin, OnEachCpu, CallsFit, IsPhaseOf}
use Rattle.rt_model.specs.Path.{Link, links_to, Edge, IsCycle}
use Rattle.rt_model.specs.laws.Shape.{calls_of, IsShaped, IsOf}
use Rattle.rt_model.specs.laws.Rows.{IsQueue, RowsLaw, key_at}
use Rattle.rt_model.specs.laws.KeptTops.{kept_of}
use Rattle.rt_model.specs.laws.Owners.{owned_by, has_inner, is_passing, OwnersLaw}
use Rattle.rt_model.specs.laws.Readers.{is_closing, is_writing, of_owner, going, readers_by, all_readers, ReadersLaw}
use Rattle.rt_model.specs.laws.Migration.{pins, pinned, pins_calling, MigrationLaw}
use Rattle.rt_model.specs.laws.States.{spins_at, has_slept, sleeps_spinning, waits_spinning, IsRested, StatesLaw}
use Rattle.rt_model.specs.laws.WokenWriter.{WokenWriterLaw}
use Rattle.rt_model.specs.laws.Queued.{QueuedLaw, awaited_in, asked_in}
use Rattle.rt_model.specs.laws.Walks.{IsWalkOf}
use Rattle.rt_model.specs.laws.OwnPriorities.{OwnPrioritiesLaw}
use Rattle.rt_model.specs.laws.Responsible.{ResponsibleLaw}
use Rattle.rt_model.specs.laws.Lawful.{IsLawful}
use Rattle.rt_model.specs.steps.Thread.{is_start}
use Rattle.rt_model.proofs.Cells.{cell-there}
use Rattle.rt_model.proofs.Holds.{count-none}
use Rattle.rt_model.proofs.Inside.{outside, outside-owns}
use Rattle.rt_model.proofs.Lists.{All-read, map-map, All-made, read-replicate}
use Rattle.rt_model.proofs.Within.{HoldsFit}
use Rattle.rt_model.proofs.laws.Migration.{unpinned, start-pins}
use Rattle.rt_model.proofs.laws.Shape.{OwnerIn, RowsIn, KeptFits, KindsFit, AreServed, AreFit, KnowsKinds}

-- ---- the script

-- a lock that a call of a script names is there
lock_within : (script : Script) (fits : LockLine → Type 0) (l : LockId) → IsLockOf script fits l → l.0 < length script.locks
lock_within script fits l is = elim (slice_get_cases script.locks l.0).1 [ inl here ↦ here.1 | inr past ↦ absurd (rw past.1 at is) ]

-- a call of a script is served on each of the script's processors
served_in : (script : Script) → IsScript script → (call : Call) → IsCallOf script call → OnEachCpu script.cpus (IsServed (length script.tasks) (length script.locks)) call
served_in script valid (calls.Lock l) is cpu on = lock_within script IsMutex l is
served_in script valid (calls.LockInt l) is cpu on = lock_within script IsMutex l is
served_in script valid (calls.TryLock l) is cpu on = lock_within script IsMutex l is
served_in script valid (calls.Unlock l) is cpu on = lock_within script IsMutex l is
served_in script valid (calls.Spin l) is cpu on = lock_within script IsSpin l is
served_in script valid (calls.TrySpin l) is cpu on = lock_within script IsSpin l is
served_in script valid (calls.Unspin l) is cpu on = lock_within script IsSpin l is
served_in script valid (calls.Read l) is cpu on = lock_within script IsReaderLock l is
served_in script valid (calls.TryRead l) is cpu on = lock_within script IsReaderLock l is
served_in script valid (calls.Unread l) is cpu on = lock_within script IsReaderLock l is
served_in script valid (calls.Write l) is cpu on = lock_within script IsReaderLock l is
served_in script valid (calls.TryWrite l) is cpu on = lock_within script IsReaderLock l is
served_in script valid (calls.Unwrite l) is cpu on = lock_within script IsReaderLock l is
served_in script valid (calls.Downgrade l) is cpu on = lock_within script IsReaderLock l is
served_in script valid (calls.Local l) is cpu on = (cell-there script valid l cpu is on).within
served_in script valid (calls.Unlocal l) is cpu on = (cell-there script valid l cpu is on).within
served_in script valid (calls.State state) is cpu on = is
served_in script valid calls.Schedule is cpu on = is
served_in script valid (calls.Wake t) is cpu on = is
served_in script valid (calls.Signal t) is cpu on = is
served_in script valid (calls.SetPrio t prio) is cpu on = is
served_in script valid (calls.Move to) is cpu on = tt

-- and a `move` is to one of them
pub moves_in : (script : Script) (call : Call) → IsCallOf script call → MovesWithin script.cpus call
moves_in script (calls.Move to) is = is
moves_in script _ is = tt

-- what holds of each call of a script holds of those of each task
each_call : (script : Script) (P : Call → Type 0) → ((call : Call) → IsCallOf script call → P call) → IsScript script → All (λ (line : TaskLine). All P line.calls) script.tasks
each_call script P holds valid = λ i d lt j c less. holds _ ((valid.each_task i d lt).calls j c less)

-- the calls of each task are served
pub served_calls : (script : Script) → IsScript script → All (λ (line : TaskLine). All (OnEachCpu script.cpus (IsServed (length script.tasks) (length script.locks))) line.calls) script.tasks
served_calls script valid = each_call script (OnEachCpu script.cpus (IsServed (length script.tasks) (length script.locks))) (served_in script valid) valid

pub moving_calls : (script : Script) → IsScript script → All (λ (line : TaskLine). All (MovesWithin script.cpus) line.calls) script.tasks
moving_calls script valid = each_call script (MovesWithin script.cpus) (moves_in script) valid

-- the kind of a lock that a call of a script names is that of its line
line_within : (script : Script) (fits : LockLine → Type 0) (l : LockId) → IsLockOf script fits l → (line : LockLine) × (slice_get (kinds_in script) l.0 ≡ Some line.kind) × fits line
line_within script fits l is = elim (slice_get_cases script.locks l.0).1 [
  | inl here ↦
      let of_line : fits here.0 = rw here.2 at is in
      (here.0, slice_get-map (λ (line : LockLine). line.kind) script.locks l.0 ∙ ap (option_map (λ (line : LockLine). line.kind)) here.2, of_line)
  | inr past ↦ absurd (rw past.1 at is)
]

kind_within : (script : Script) (kind : Kind) (l : LockId) → IsLockOf script (λ line. line.kind ≡ kind) l → slice_get (kinds_in script) l.0 ≡ Some kind
kind_within script kind l is = let line = line_within script (λ line. line.kind ≡ kind) l is in line.1 ∙ ap Some line.2

readers_kind : (kind : Kind) → HasReaders kind → has_readers kind ≡ true
readers_kind kinds.RwLock is = refl
readers_kind kinds.RwSem is = refl
readers_kind _ is = absurd is

readers_within : (script : Script) (l : LockId) → IsLockOf script IsReaderLock l → HasReadersAt (kinds_in script) l.0
readers_within script l is = let line = line_within script IsReaderLock l is in ap (option_map has_readers) line.1 ∙ ap Some (readers_kind line.0.kind line.2)

cell_kind : (script : Script) → IsScript script → (l : LockId) (cpu : Cpu) → IsLockOf script IsLocal l → cpu.0 < script.cpus → slice_get (kinds_in script) (cell l cpu).0 ≡ Some kinds.Local
cell_kind script valid l cpu is on =
    let there = cell-there script valid l cpu is on in
    slice_get-map (λ (line : LockLine). line.kind) script.locks (cell l cpu).0 ∙ (ap (option_map (λ (line : LockLine). line.kind)) there.at ∙ ap Some there.kind)

-- each call is one that its lock's kind has
fit_in : (script : Script) → IsScript script → (call : Call) → IsCallOf script call → OnEachCpu script.cpus (IsForKind (kinds_in script)) call
fit_in script valid (calls.Lock l) is cpu on = kind_within script kinds.Mutex l is
fit_in script valid (calls.LockInt l) is cpu on = kind_within script kinds.Mutex l is
fit_in script valid (calls.TryLock l) is cpu on = kind_within script kinds.Mutex l is
fit_in script valid (calls.Unlock l) is cpu on = kind_within script kinds.Mutex l is
fit_in script valid (calls.Spin l) is cpu on = kind_within script kinds.Spin l is
fit_in script valid (calls.TrySpin l) is cpu on = kind_within script kinds.Spin l is
fit_in script valid (calls.Unspin l) is cpu on = kind_within script kinds.Spin l is
fit_in script valid (calls.Read l) is cpu on = readers_within script l is
fit_in script valid (calls.TryRead l) is cpu on = readers_within script l is
fit_in script valid (calls.Unread l) is cpu on = readers_within script l is
fit_in script valid (calls.Write l) is cpu on = readers_within script l is
fit_in script valid (calls.TryWrite l) is cpu on = readers_within script l is
fit_in script valid (calls.Unwrite l) is cpu on = readers_within script l is
fit_in script valid (calls.Downgrade l) is cpu on = readers_within script l is
fit_in script valid (calls.Local l) is cpu on = cell_kind script valid l cpu is on
fit_in script valid (calls.Unlocal l) is cpu on = cell_kind script valid l cpu is on
fit_in script valid _ is cpu on = tt

-- a task makes no more calls than all tasks together
pub calls_within : (script : Script) → All (λ (line : TaskLine). length line.calls ≤ all_calls script) script.tasks
calls_within script = λ i d lt. rw (fold-map ◌+◌ (λ (line : TaskLine). length line.calls) 0 script.tasks) (get_or-le-sum_by (λ (line : TaskLine). length line.calls) script.tasks i d lt)

-- ---- shape and calls

-- the start state is one of the script
pub IsOf-start : (script : Script) → IsOf script (start script)
IsOf-start script =
    let fresh : TaskLine → ThreadPart = λ line. fresh_thread (kinds_in script) line.calls line.cpu in
    record {
      locks = length-replicate (length script.locks) free_lock;
      readers = length-replicate (length script.locks) no_readers;
      tasks = length-map script.tasks (λ (line : TaskLine). fresh_task (length script.locks) line.own);
      kinds = All-made (λ (thread : ThreadPart). thread.kinds ≡ kinds_in script) fresh (λ line. refl) script.tasks;
      calls = map-map (λ (thread : ThreadPart). thread.calls) fresh script.tasks;
    }

-- its lists fit together
pub IsShaped-start : (script : Script) → IsScript script → IsShaped (start script)
IsShaped-start script valid =
    let n = length script.locks in
    let fresh : TaskLine → ThreadPart = λ line. fresh_thread (kinds_in script) line.calls line.cpu in
    let locks : length (start script).locks ≡ n = length-replicate n free_lock in
    let kinds : length (kinds_in script) ≡ n = length-map script.locks (λ (line : LockLine). line.kind) in
    let threads : length (start script).threads ≡ length script.tasks = length-map script.tasks fresh in
    record {
      few_tasks = rw threads valid.tasks;
      few_locks = rw locks valid.locks;
      few_calls = subst (λ (n : ℕ). n ≤ MAX_CALLS) (sym (ap sum (map-map (λ (thread : ThreadPart). length thread.calls) fresh script.tasks))) valid.calls;
      readers = length-replicate n no_readers ∙ sym locks;
      tasks = length-map script.tasks (λ (line : TaskLine). fresh_task n line.own) ∙ sym threads;
      kept = rw locks (All-made (KeptFits n) (λ (line : TaskLine). fresh_task n line.own) (λ line. length-replicate n None) script.tasks);
      kinds = rw locks (All-made (KindsFit n) fresh (λ line. kinds) script.tasks);
      known = kinds_in script;
      alike = All-made (KnowsKinds (kinds_in script)) fresh (λ line. refl) script.tasks;
      holds = rw locks (All-made (HoldsFit n) fresh (λ line. length-replicate (length (kinds_in script)) _ ∙ kinds) script.tasks);
      owners = All-replicate (OwnerIn (length (start script).threads)) n free_lock tt;
      rows = All-replicate (RowsIn (length (start script).threads)) n free_lock (All-nil (λ (row : Row). row.who < length (start script).threads));
    }

-- its calls fit
pub CallsFit-start : (script : Script) → IsScript script → CallsFit (start script)
CallsFit-start script valid =
    let n = length script.locks in
    let cpus = script.cpus in
    let fresh : TaskLine → ThreadPart = λ line. fresh_thread (kinds_in script) line.calls line.cpu in
    let locks : length (start script).locks ≡ n = length-replicate n free_lock in
    let threads : length (start script).threads ≡ length script.tasks = length-map script.tasks fresh in
    record {
      cpus = cpus;
      on = All-map (λ (thread : ThreadPart). thread.cpu.0 < cpus) fresh script.tasks (λ i d lt. (valid.each_task i d lt).cpu);
      moves = All-map (λ (thread : ThreadPart). All (MovesWithin cpus) thread.calls) fresh script.tasks (moving_calls script valid);
      served = subst (λ (m : ℕ). All (AreServed cpus m (length (start script).locks)) (start script).threads) (sym threads) (rw locks (All-map (AreServed cpus (length script.tasks) n) fresh script.tasks (served_calls script valid)));
      fit = All-map (AreFit cpus) fresh script.tasks (each_call script (OnEachCpu cpus (IsForKind (kinds_in script))) (fit_in script valid) valid);
    }

-- ---- the laws of the start state

module _ (script : Script) where
  -- each lock is free
  lock-start : (l : LockId) → owner_part (start script) l ≡ free_lock
  lock-start l = read-replicate (length script.locks) l.0 free_lock

  pub owner-start : (l : LockId) → (owner_part (start script) l).owner ≡ None
  owner-start l = ap (λ (lock : OwnerPart). lock.owner) (lock-start l)

  rows-start : (l : LockId) → (owner_part (start script) l).rows ≡ []
  rows-start l = ap (λ (lock : OwnerPart). lock.rows) (lock-start l)

  -- what holds of each fresh task or thread, and where there is none, holds of each
  each_task : (P : TaskPart → Type 0) (t : TaskId) → ((n own : ℕ) → P (fresh_task n own)) → P (task_part (start script) t)
  each_task P t holds = All-read P (start script).tasks t.0 _ (All-made P (λ (line : TaskLine). fresh_task (length script.locks) line.own) (λ line. holds (length script.locks) line.own) script.tasks) (holds 0 0)

  each_thread : (P : ThreadPart → Type 0) (t : TaskId) → ((kinds : List Kind) (cs : List Call) (cpu : Cpu) → P (fresh_thread kinds cs cpu)) → P (thread_part (start script) t)
  each_thread P t holds =
      All-read P (start script).threads t.0 _ (All-made P (λ (line : TaskLine). fresh_thread (kinds_in script) line.calls line.cpu) (λ line. holds (kinds_in script) line.calls line.cpu) script.tasks) (holds [] [] (record { 0 = 0 }))

  blocked-start : (t : TaskId) → (task_part (start script) t).blocked ≡ None
  blocked-start t = each_task (λ task. task.blocked ≡ None) t (λ n own. refl)

  phase-start : (t : TaskId) → (thread_part (start script) t).phase ≡ phases.Start
  phase-start t = each_thread (λ thread. thread.phase ≡ phases.Start) t (λ kinds cs cpu. refl)

  unheld-start : (l : LockId) (t : TaskId) → (hold_of (thread_part (start script) t) l).owns ≡ false
  unheld-start l t =
      each_thread (λ thread. (hold_of thread l).owns ≡ false) t
      (λ kinds cs cpu. ap (λ (hold : Hold). hold.owns) (read-replicate (length kinds) l.0 (record { owns = false; reads = 0 })))

  outside-start : (l : LockId) (t : TaskId) → is_passing (thread_part (start script) t) l ≡ false
  outside-start l t = outside (thread_part (start script) t) l (ap has_inner (phase-start t))

  OwnersLaw-start : OwnersLaw (start script)
  OwnersLaw-start = record {
    owned = λ l t. outside-owns (thread_part (start script) t) l (ap has_inner (phase-start t)) ∙ (unheld-start l t ∙ sym (ap (λ (o : Option TaskId). owned_by o t) (owner-start l)));
    inside = λ l t is. let out = outside-start l t in absurd cc;
  }

  -- nobody reads or writes
  cell-start : (l : LockId) → reader_part (start script) l ≡ no_readers
  cell-start l = read-replicate (length script.locks) l.0 no_readers

  unread : (kinds : List Kind) (cs : List Call) (cpu : Cpu) (l : LockId) → (hold_of (fresh_thread kinds cs cpu) l).reads ≡ 0
  unread kinds cs cpu l = ap (λ (hold : Hold). hold.reads) (read-replicate (length kinds) l.0 (record { owns = false; reads = 0 }))

  no_reader : (l : LockId) → all_readers (start script).threads l ≡ 0
  no_reader l =
      let by : ThreadPart → ℕ = λ thread. readers_by thread l in
      let each = All-made (λ (thread : ThreadPart). readers_by thread l ≤ 0) (λ (line : TaskLine). fresh_thread (kinds_in script) line.calls line.cpu) (λ line. omega (arith, unread (kinds_in script) line.calls line.cpu l)) script.tasks in
      omega (arith, sum-map by (start script).threads, sum_by-le by 0 (start script).threads each)

  ReadersLaw-start : ReadersLaw (start script)
  ReadersLaw-start = record {
    bias = λ l. ap (λ (cell : ReaderCell). cell.bias) (cell-start l) ∙ sym (ap (λ (o : Option TaskId). not (of_owner (λ thread. is_closing thread l || is_writing thread l) (start script) o)) (owner-start l));
    writer = λ l. ap (λ (cell : ReaderCell). cell.writer) (cell-start l) ∙ sym (ap (of_owner (λ thread. is_writing thread l) (start script)) (owner-start l));
    alone = λ l set. ap (λ (cell : ReaderCell). cell.count) (cell-start l);
    count = λ l. ap (λ (cell : ReaderCell). cell.count) (cell-start l) ∙ sym (no_reader l);
    gone = λ l t. each_thread (λ thread. going thread l ≤ (hold_of thread l).reads) t (λ kinds cs cpu. omega arith);
    few = λ l t. each_thread (λ thread. (hold_of thread l).reads ≤ thread.answered) t (λ kinds cs cpu. omega (arith, unread kinds cs cpu l));
    most = λ l. subst (λ (cell : ReaderCell). cell.count ≤ calls_of (start script).threads) (sym (cell-start l)) (omega arith);
    within = λ t. each_thread (λ thread. thread.answered ≤ length thread.calls) t (λ kinds cs cpu. omega arith);
  }

  -- nor sleeps
  WokenWriterLaw-start : WokenWriterLaw (start script)
  WokenWriterLaw-start t l slept present asleep empty = let awake : has_slept (thread_part (start script) t).phase ≡ false = ap has_slept (phase-start t) in absurd cc

  StatesLaw-start : StatesLaw (start script)
  StatesLaw-start t =
      let thread = thread_part (start script) t in
      subst (λ (b : Bool). IsRested b (task_part (start script) t)) (sym (waits-not (task_part (start script) t) (blocked-start t)))
      (each_task (IsRested false) t (λ n own. (λ is. cc, refl)))
    where
      waits-not : (task : TaskPart) → task.blocked ≡ None → waits_spinning (thread_part (start script) t) task ≡ false
      waits-not task none = λ i. spins_at (thread_part (start script) t) (none i) || sleeps_spinning (phase-start t i) (kind_named (thread_part (start script) t) (present_lock (thread_part (start script) t)))

  -- what is held pins nothing
  MigrationLaw-start : MigrationLaw (start script)
  MigrationLaw-start t =
      each_thread (λ thread. thread.migration ≡ pinned thread + pins_calling (call_of thread) (is_start thread.phase)) t
      (λ kinds cs cpu.
      let none = count-none pins kinds (length kinds) (record { owns = false; reads = 0 }) unpinned in
      let still = start-pins (call_of (fresh_thread kinds cs cpu)) in omega arith)

  RowsLaw-start : RowsLaw (start script) 0
  RowsLaw-start = record {
    queue = λ l. subst IsQueue (sym (lock-start l)) (record { clear = λ is. refl; order = λ i j d lt long. absurd (omega arith); tickets = All-nil (λ (row : Row). row.ticket < 0) });
    tickets = λ l. subst (λ (lock : OwnerPart). lock.ticket ≤ 0) (sym (lock-start l)) (omega arith);
    rows = λ l t. ap (λ (rows : List Row). queued_key t rows) (rows-start l) ∙ sym (ap (λ (b : Option (LockId × ℕ)). key_at b l) (blocked-start t));
  }

  QueuedLaw-start : QueuedLaw (start script)
  QueuedLaw-start =
      let lock : TaskId → Option LockId = λ t. present_lock (thread_part (start script) t) in
      let Free : TaskId → LockId → Type 0 = λ t l. owned_by (owner_part (start script) l).owner t ≡ false in
      record {
        blocked = λ t. ap (option_map (λ (at : LockId × ℕ). at.0)) (blocked-start t) ∙ sym (ap (λ (phase : Phase). awaited_in phase (lock t)) (phase-start t));
        waiting = λ t. subst (λ (b : Option (LockId × ℕ)). IfSome b (λ at. Free t at.0)) (sym (blocked-start t)) tt;
        asking = λ t. subst (λ (phase : Phase). IfSome (asked_in phase (lock t)) (Free t)) (sym (phase-start t)) tt;
      }

  -- each task has the own priority of its line
  OwnPrioritiesLaw-start : IsScript script → OwnPrioritiesLaw (start script)
  OwnPrioritiesLaw-start valid t =
      All-read (λ (task : TaskPart). task.own ≤ MAX_PRIO) (start script).tasks t.0 _
      (All-map (λ (task : TaskPart). task.own ≤ MAX_PRIO) (λ (line : TaskLine). fresh_task (length script.locks) line.own) script.tasks (λ i d lt. (valid.each_task i d lt).own)) (omega arith)

  -- no task is blocked, and so there is no cycle
  no_edge : (link : Link) → Edge (start script) link → ⊥
  no_edge link is = let never : false ≡ true = sym (ap (λ (b : Option (LockId × ℕ)). is_some (key_at b link.lock)) (blocked-start link.from)) ∙ is.blocked in absurd cc

  no_cycle : (cycle : List (ℕ × ℕ)) → IsCycle (start script) cycle → ⊥
  no_cycle [] is = let many : 2 ≤ 0 = is.many in omega (arith, many)
  no_cycle (pair ∷ path) is = no_edge _ (All-head (Edge (start script)) _ (links_to (record { 0 = pair.0 }) path) is.edges)

  pub responsible-start : ResponsibleLaw (start script)
  responsible-start cycle is = absurd (no_cycle cycle is)

-- the start state is lawful
pub IsLawful-start : (script : Script) → IsScript script → IsLawful (start script) 0
IsLawful-start script valid = record {
  shape = IsShaped-start script valid;
  calls = CallsFit-start script valid;
  phases = λ t. each_thread script (λ thread. IsPhaseOf thread.phase (call_of thread)) t (λ kinds cs cpu. tt);
  rows = RowsLaw-start script;
  kept = λ l t. each_task script (λ task. kept_of task l ≡ None) t (λ n own. read-replicate n l.0 None) ∙ sym (ap (λ (lock : OwnerPart). cond (owned_by lock.owner t) (top_key lock.rows) None) (lock-start script l));
  queued = QueuedLaw-start script;
  owners = OwnersLaw-start script;
  readers = ReadersLaw-start script;
  migration = MigrationLaw-start script;
  states = StatesLaw-start script;
  awake = λ l free. subst (λ (rows : List Row). IfSome (top_waiter rows) (λ row. (task_part (start script) (task_of row)).state ≡ Running)) (sym (rows-start script l)) tt;
  woken = WokenWriterLaw-start script;
  keys = λ t apart. subst (λ (b : Option (LockId × ℕ)). IfSome b (λ at. at.1 ≡ effective_of (task_part (start script) t))) (sym (blocked-start script t)) tt;
  walks = λ t. subst (IsWalkOf (length (start script).threads) (length (start script).locks) t (present_lock (thread_part (start script) t))) (sym (phase-start script t)) tt;
  priorities = OwnPrioritiesLaw-start script valid;
  responsible = responsible-start script;
}
