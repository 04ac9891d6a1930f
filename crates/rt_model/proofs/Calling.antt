-- What a state says of a task that is at a call.
use Rattle.std.proofs.Common.{◌≡◌, ◌⊎◌, inl, inr, ℕ, ◌<◌, ◌≤◌, get_or, length, refl, sym, ap, ◌∙◌, subst, Option, Some, None, All}
use Rattle.std.specs.Prelude.{true, slice_get, option_map, option_and_then}
use Rattle.std.proofs.lemmas.Option.{slice_get_cases, slice_get_within}
use Rattle.rt_base.specs.declared.call.Call.{Call}
use Rattle.rt_base.specs.declared.call.Call.TheVariants as calls
use Rattle.rt_base.specs.declared.id.LockId.{LockId}
use Rattle.rt_base.specs.declared.id.TaskId.{TaskId}
use Rattle.rt_model.specs.declared.phase.Phase.{Phase}
use Rattle.rt_model.specs.declared.phase.Phase.TheVariants as phases
use Rattle.rt_model.specs.Parts.{ThreadPart, call_of, hold_of, made_on}
use Rattle.rt_model.specs.State.{State, thread_part}
use Rattle.rt_model.specs.Choice.{called_lock, present_lock}
use Rattle.rt_model.specs.CallKinds.{IsServed, OnEachCpu, CallsFit, waits}
use Rattle.rt_model.proofs.Lists.{All-at, slice_get-index}

-- a task with a call is one of the state
pub at_call : (s : State) (t : TaskId) (call : Call) → call_of (thread_part s t) ≡ Some call → (slice_get s.threads t.0 ≡ Some (thread_part s t)) × (t.0 < length s.threads)
at_call s t call at = there (slice_get_cases s.threads t.0).1
  where
    there : ((thread : ThreadPart) × (t.0 < length s.threads) × (slice_get s.threads t.0 ≡ Some thread) × (get_or s.threads t.0 thread ≡ thread)) ⊎ ((length s.threads ≤ t.0) × (slice_get s.threads t.0 ≡ None)) → (slice_get s.threads t.0 ≡ Some (thread_part s t)) × (t.0 < length s.threads)
    there (inl here) = (rw here.2 refl, here.1)
    there (inr past) = absurd (no_call past.1)
      where
        no_call : slice_get s.threads t.0 ≡ None → ⊥
        no_call none = let gone : call_of (thread_part s t) ≡ None = rw none refl in cc

-- a call that a thread is at is one of its calls, made on its processor
pub record IsMadeOf (thread : ThreadPart) (call : Call) : Type 0 where
  pub listed : Call
  pub at : slice_get thread.calls thread.answered ≡ Some listed
  pub made : call ≡ made_on thread.cpu listed

pub made-of : (thread : ThreadPart) (call : Call) → call_of thread ≡ Some call → IsMadeOf thread call
made-of thread call is = by_call (slice_get thread.calls thread.answered) refl is
  where
    by_call : (listed : Option Call) → slice_get thread.calls thread.answered ≡ listed → option_map (made_on thread.cpu) listed ≡ Some call → IsMadeOf thread call
    by_call None at is = cc
    by_call (Some listed) at is = let same : made_on thread.cpu listed ≡ call = cc in record { listed = listed; at = at; made = sym same }

-- so it hasn't answered all of them
pub call-within : (thread : ThreadPart) (call : Call) → call_of thread ≡ Some call → thread.answered < length thread.calls
call-within thread call is = let made = made-of thread call is in slice_get_within thread.calls thread.answered made.listed made.at

-- what holds of each call that a thread has, on each of so many processors, holds of the one that it is at
pub at_each_cpu : (P : Call → Type 0) (cpus : ℕ) (thread : ThreadPart) (call : Call) → All (OnEachCpu cpus P) thread.calls → thread.cpu.0 < cpus → call_of thread ≡ Some call → P call
at_each_cpu P cpus thread call all on is =
    let made = made-of thread call is in
    subst P (sym made.made) (All-at (OnEachCpu cpus P) thread.calls thread.answered made.listed all made.at thread.cpu on)

-- a call of a state's thread is served
pub served_call : (s : State) (t : TaskId) (call : Call) → CallsFit s → call_of (thread_part s t) ≡ Some call → IsServed (length s.threads) (length s.locks) call
served_call s t call fit at =
    let here = at_call s t call at in
    let all = All-at (λ (thread : ThreadPart). All (OnEachCpu fit.cpus (IsServed (length s.threads) (length s.locks))) thread.calls) s.threads t.0 (thread_part s t) fit.served here.0 in
    let on = All-at (λ (thread : ThreadPart). thread.cpu.0 < fit.cpus) s.threads t.0 (thread_part s t) fit.on here.0 in
    at_each_cpu (IsServed (length s.threads) (length s.locks)) fit.cpus (thread_part s t) call all on at

-- the task is in this phase of this call, which names what is in the state
pub record IsIn (s : State) (t : TaskId) (phase : Phase) (call : Call) : Type 0 where
  pub calling : call_of (thread_part s t) ≡ Some call
  pub phased : (thread_part s t).phase ≡ phase
  pub task : t.0 < length s.threads
  pub served : IsServed (length s.threads) (length s.locks) call

-- the thread that was read is the task's
pub thread_part-index : (s : State) (t : TaskId) (thread : ThreadPart) → t.0 < length s.threads → thread ≡ get_or s.threads t.0 thread → thread_part s t ≡ thread
thread_part-index s t thread lt is = rw (slice_get-index s.threads t.0 thread lt is) refl

-- ---- a task that waits for a lock

-- the call waits for the lock
pub data WaitsFor (call : Call) (l : LockId) : Type 0 where
  by_lock : call ≡ calls.Lock l → WaitsFor call l
  by_lockint : call ≡ calls.LockInt l → WaitsFor call l
  by_spin : call ≡ calls.Spin l → WaitsFor call l
  by_local : call ≡ calls.Local l → WaitsFor call l
  by_read : call ≡ calls.Read l → WaitsFor call l
  by_write : call ≡ calls.Write l → WaitsFor call l

-- the task is in this phase of a call that waits for the lock
pub record Asks (s : State) (t : TaskId) (phase : Phase) (l : LockId) : Type 0 where
  pub call : Call
  pub waits_for : WaitsFor call l
  pub at : IsIn s t phase call

-- what holds of the six calls holds of each that waits
pub waits-holds : (P : Call → Type 0) (call : Call) (l : LockId) → WaitsFor call l → P (calls.Lock l) → P (calls.LockInt l) → P (calls.Spin l) → P (calls.Local l) → P (calls.Read l) → P (calls.Write l) → P call
waits-holds P call l (by_lock is) lock lockint spin local read write = subst P (sym is) lock
waits-holds P call l (by_lockint is) lock lockint spin local read write = subst P (sym is) lockint
waits-holds P call l (by_spin is) lock lockint spin local read write = subst P (sym is) spin
waits-holds P call l (by_local is) lock lockint spin local read write = subst P (sym is) local
waits-holds P call l (by_read is) lock lockint spin local read write = subst P (sym is) read
waits-holds P call l (by_write is) lock lockint spin local read write = subst P (sym is) write

-- it is about that lock, and is one that waits
pub waits-called : (call : Call) (l : LockId) → WaitsFor call l → called_lock call ≡ Some l
waits-called call l is = waits-holds (λ c. called_lock c ≡ Some l) call l is refl refl refl refl refl refl

pub waits-waits : (call : Call) (l : LockId) → WaitsFor call l → waits call ≡ true
waits-waits call l is = waits-holds (λ c. waits c ≡ true) call l is refl refl refl refl refl refl

pub asks-present : (s : State) (t : TaskId) (phase : Phase) (l : LockId) → Asks s t phase l → present_lock (thread_part s t) ≡ Some l
asks-present s t phase l is = ap (λ (call : Option Call). option_and_then called_lock call) is.at.calling ∙ waits-called is.call l is.waits_for

pub asks-lock : (s : State) (t : TaskId) (phase : Phase) (l : LockId) → Asks s t phase l → l.0 < length s.locks
asks-lock s t phase l is =
    waits-holds (λ c. IsServed (length s.threads) (length s.locks) c → l.0 < length s.locks) is.call l is.waits_for (λ served. served) (λ served. served) (λ served. served) (λ served. served) (λ served. served) (λ served. served) is.at.served

pub asks-waits : (s : State) (t : TaskId) (phase : Phase) (l : LockId) → (is : Asks s t phase l) → waits is.call ≡ true
asks-waits s t phase l is = waits-waits is.call l is.waits_for

-- a call that waits does so for some lock
waited_for : (call : Call) → waits call ≡ true → (l : LockId) × WaitsFor call l
waited_for (calls.Lock l) is = (l, by_lock refl)
waited_for (calls.LockInt l) is = (l, by_lockint refl)
waited_for (calls.Spin l) is = (l, by_spin refl)
waited_for (calls.Local l) is = (l, by_local refl)
waited_for (calls.Read l) is = (l, by_read refl)
waited_for (calls.Write l) is = (l, by_write refl)
waited_for _ is = cc

pub asked : (s : State) (t : TaskId) (phase : Phase) (call : Call) → IsIn s t phase call → waits call ≡ true → (l : LockId) × Asks s t phase l × (called_lock call ≡ Some l)
asked s t phase call at is =
    let some = waited_for call is in
    (some.0, record { call = call; waits_for = some.1; at = at }, waits-called call some.0 some.1)

-- and so for the lock that it is about
pub waits-about : (call : Call) (l : LockId) → waits call ≡ true → called_lock call ≡ Some l → WaitsFor call l
waits-about call l is about =
    let some = waited_for call is in
    let same : some.0 ≡ l = let also = waits-called call some.0 some.1 in cc in
    subst (WaitsFor call) same some.1

-- ---- a task that tries for a lock

-- the call tries for the lock's owner part
pub data TriesFor (call : Call) (l : LockId) : Type 0 where
  by_trylock : call ≡ calls.TryLock l → TriesFor call l
  by_tryspin : call ≡ calls.TrySpin l → TriesFor call l
  by_trywrite : call ≡ calls.TryWrite l → TriesFor call l

pub tries-holds : (P : Call → Type 0) (call : Call) (l : LockId) → TriesFor call l → P (calls.TryLock l) → P (calls.TrySpin l) → P (calls.TryWrite l) → P call
tries-holds P call l (by_trylock is) trylock tryspin trywrite = subst P (sym is) trylock
tries-holds P call l (by_tryspin is) trylock tryspin trywrite = subst P (sym is) tryspin
tries-holds P call l (by_trywrite is) trylock tryspin trywrite = subst P (sym is) trywrite

-- the task is at the start of a call that tries for the lock, which is there
pub record Tries (s : State) (t : TaskId) (l : LockId) : Type 0 where
  pub call : Call
  pub tries_for : TriesFor call l
  pub at : IsIn s t phases.Start call
  pub lock : l.0 < length s.locks

-- ---- a task that releases a lock

-- the call releases the lock, which is its owner part
pub data Releases (call : Call) (l : LockId) : Type 0 where
  by_unlock : call ≡ calls.Unlock l → Releases call l
  by_unspin : call ≡ calls.Unspin l → Releases call l
  by_unlocal : call ≡ calls.Unlocal l → Releases call l

pub releases-holds : (P : Call → Type 0) (call : Call) (l : LockId) → Releases call l → P (calls.Unlock l) → P (calls.Unspin l) → P (calls.Unlocal l) → P call
releases-holds P call l (by_unlock is) unlock unspin unlocal = subst P (sym is) unlock
releases-holds P call l (by_unspin is) unlock unspin unlocal = subst P (sym is) unspin
releases-holds P call l (by_unlocal is) unlock unspin unlocal = subst P (sym is) unlocal

-- it ends with the release of the inner lock
pub data EndsInner (call : Call) (l : LockId) : Type 0 where
  of_read : call ≡ calls.Read l → EndsInner call l
  of_trywrite : call ≡ calls.TryWrite l → EndsInner call l
  of_unwrite : call ≡ calls.Unwrite l → EndsInner call l
  of_downgrade : call ≡ calls.Downgrade l → EndsInner call l

pub ends-holds : (P : Call → Type 0) (call : Call) (l : LockId) → EndsInner call l → P (calls.Read l) → P (calls.TryWrite l) → P (calls.Unwrite l) → P (calls.Downgrade l) → P call
ends-holds P call l (of_read is) read trywrite unwrite downgrade = subst P (sym is) read
ends-holds P call l (of_trywrite is) read trywrite unwrite downgrade = subst P (sym is) trywrite
ends-holds P call l (of_unwrite is) read trywrite unwrite downgrade = subst P (sym is) unwrite
ends-holds P call l (of_downgrade is) read trywrite unwrite downgrade = subst P (sym is) downgrade

pub ends-called : (call : Call) (l : LockId) → EndsInner call l → called_lock call ≡ Some l
ends-called call l is = ends-holds (λ c. called_lock c ≡ Some l) call l is refl refl refl refl

-- how a task comes to release the lock: by a call that does so, of a lock that it holds, or at the end of one that had the inner lock
pub data ReturnsBy (s : State) (t : TaskId) (l : LockId) (call : Call) : Type 0 where
  from_hold : Releases call l → IsIn s t phases.Start call → (hold_of (thread_part s t) l).owns ≡ true → ReturnsBy s t l call
  from_inside : EndsInner call l → IsIn s t phases.Release call → ReturnsBy s t l call

-- the task releases the lock, which is there
pub record Returns (s : State) (t : TaskId) (l : LockId) : Type 0 where
  pub call : Call
  pub calling : call_of (thread_part s t) ≡ Some call
  pub by : ReturnsBy s t l call
  pub task : t.0 < length s.threads
  pub lock : l.0 < length s.locks

-- what holds of the seven calls holds of each that releases
pub returning-holds : (P : Call → Type 0) (s : State) (t : TaskId) (l : LockId) (is : Returns s t l) → P (calls.Unlock l) → P (calls.Unspin l) → P (calls.Unlocal l) → P (calls.Read l) → P (calls.TryWrite l) → P (calls.Unwrite l) → P (calls.Downgrade l) → P is.call
returning-holds P s t l is unlock unspin unlocal read trywrite unwrite downgrade = by_how is.by
  where
    by_how : ReturnsBy s t l is.call → P is.call
    by_how (from_hold releases at held) = releases-holds P is.call l releases unlock unspin unlocal
    by_how (from_inside ends at) = ends-holds P is.call l ends read trywrite unwrite downgrade

pub returning-called : (s : State) (t : TaskId) (l : LockId) (is : Returns s t l) → called_lock is.call ≡ Some l
returning-called s t l is = returning-holds (λ c. called_lock c ≡ Some l) s t l is refl refl refl refl refl refl refl

-- ---- a task that reads or writes a reader/writer lock

-- the call writes, and may only try
pub data Writes (call : Call) (l : LockId) : Type 0 where
  writes_by : call ≡ calls.Write l → Writes call l
  tries_by : call ≡ calls.TryWrite l → Writes call l

pub writes-holds : (P : Call → Type 0) (call : Call) (l : LockId) → Writes call l → P (calls.Write l) → P (calls.TryWrite l) → P call
writes-holds P call l (writes_by is) write trywrite = subst P (sym is) write
writes-holds P call l (tries_by is) write trywrite = subst P (sym is) trywrite

pub writes-called : (call : Call) (l : LockId) → Writes call l → called_lock call ≡ Some l
writes-called call l is = writes-holds (λ c. called_lock c ≡ Some l) call l is refl refl
