-- Acquires: how they come about, and that their choice reads only what they touch.
use Rattle.std.proofs.Common.{◌≡◌, ◌⊎◌, inl, inr, ◌<◌, length, Bool, true, false, cond, not, ◌&&◌, refl, sym, ap, ◌∙◌, Option, Some, None, is_none, subst}
use Rattle.rt_base.specs.declared.call.Call.{Call}
use Rattle.rt_base.specs.declared.call.Call.TheVariants as calls
use Rattle.rt_base.specs.declared.id.LockId.{LockId}
use Rattle.rt_base.specs.declared.id.TaskId.{TaskId}
use Rattle.rt_base.specs.declared.kind.Kind.{Kind}
use Rattle.rt_model.specs.declared.event.Event.{Event}
use Rattle.rt_model.specs.declared.obj.Obj.TheVariants as objects
use Rattle.rt_model.specs.declared.phase.Phase.{Phase}
use Rattle.rt_model.specs.declared.phase.Phase.TheVariants as phases
use Rattle.rt_model.specs.Parts.{OwnerPart, TaskPart, call_of, hold_of, kind_of}
use Rattle.rt_model.specs.Rows.{can_take}
use Rattle.rt_model.specs.Choice.{called_lock}
use Rattle.rt_model.specs.State.{State, Shared, lock_in, task_in, owner_part, task_part, thread_part}
use Rattle.rt_model.specs.Footprint.{touches}
use Rattle.rt_model.specs.events.Wait.{is_awake}
use Rattle.rt_model.specs.events.Acquire.{fast_event, mark_event, is_free, acquire_event, take_event, take_or, busy_event, try_event}
use Rattle.rt_model.proofs.Calling.{WaitsFor, waits-holds, Asks, asks-lock, TriesFor, tries-holds, Tries}
use Rattle.rt_model.proofs.Touching.{touches-lock, touches-own}
use Rattle.rt_model.proofs.Alike.{Alike}

-- ---- how they come about

-- how a task comes to ask for an owner part and wait: by a call of a lock that it doesn't hold, or as a reader that found a writer in
pub data AsksBy (s : State) (t : TaskId) (l : LockId) : Type 0 where
  from_start : Asks s t phases.Start l → (hold_of (thread_part s t) l).owns ≡ false → AsksBy s t l
  from_reading : Asks s t phases.Inner l → AsksBy s t l

-- the calls that acquire an owner part: one that waits for it, and one that tries
pub data AcquiresIn (s : State) (t : TaskId) (l : LockId) : Type 0 where
  by_asking : AsksBy s t l → AcquiresIn s t l
  by_trying : Tries s t l → AcquiresIn s t l

-- the task gets a free lock at once
pub record IsFast (s : State) (t : TaskId) (l : LockId) (e : Event) : Type 0 where
  pub how : AcquiresIn s t l
  pub task : t.0 < length s.threads
  pub lock : l.0 < length s.locks
  pub owner : (owner_part s l).owner ≡ None
  pub bit : (owner_part s l).bit ≡ false
  pub event : e ≡ fast_event (call_of (thread_part s t)) t l

-- it sets the bit
pub record IsMark (s : State) (t : TaskId) (l : LockId) (e : Event) : Type 0 where
  pub how : AsksBy s t l
  pub task : t.0 < length s.threads
  pub lock : l.0 < length s.locks
  pub event : e ≡ mark_event t l

-- a task takes a lock with the bit set, or queued and awake, or by a call that tries
pub data TakesIn (s : State) (t : TaskId) (l : LockId) : Type 0 where
  from_slow : Asks s t phases.Slow l → TakesIn s t l
  from_wait : Asks s t phases.Wait l → is_awake (call_of (thread_part s t)) (task_part s t) ≡ true → TakesIn s t l
  from_trying : Tries s t l → TakesIn s t l

-- it takes the lock
pub record IsTake (s : State) (t : TaskId) (l : LockId) (e : Event) : Type 0 where
  pub how : TakesIn s t l
  pub task : t.0 < length s.threads
  pub lock : l.0 < length s.locks
  pub can : can_take t (kind_of (thread_part s t) l) (owner_part s l) (task_part s t) ≡ true
  pub event : e ≡ take_event (call_of (thread_part s t)) t l (kind_of (thread_part s t) l) (owner_part s l) (task_part s t)

-- it tries, and may not take the lock
pub record IsBusy (s : State) (t : TaskId) (l : LockId) (e : Event) : Type 0 where
  pub at : Tries s t l
  pub cannot : can_take t (kind_of (thread_part s t) l) (owner_part s l) (task_part s t) ≡ false
  pub event : e ≡ busy_event t l (owner_part s l)

pub data IsAcquire (s : State) (t : TaskId) (l : LockId) (e : Event) : Type 0 where
  is_fast : IsFast s t l e → IsAcquire s t l e
  is_mark : IsMark s t l e → IsAcquire s t l e
  is_take : IsTake s t l e → IsAcquire s t l e
  is_busy : IsBusy s t l e → IsAcquire s t l e

-- such a task asks for the lock by a call that waits
pub asking : (s : State) (t : TaskId) (l : LockId) → AsksBy s t l → (phase : Phase) × Asks s t phase l
asking s t l (from_start asks unheld) = (phases.Start, asks)
asking s t l (from_reading asks) = (phases.Inner, asks)

pub acquired : (s : State) (t : TaskId) (l : LockId) (e : Event) → AsksBy s t l → acquire_event (call_of (thread_part s t)) t l (owner_part s l) ≡ e → IsAcquire s t l e
acquired s t l e how is = by_owner (owner_part s l).owner (owner_part s l).bit refl refl is
  where
    task : t.0 < length s.threads
    task = (asking s t l how).1.at.task

    lock : l.0 < length s.locks
    lock = asks-lock s t (asking s t l how).0 l (asking s t l how).1

    by_owner : (owner : Option TaskId) (bit : Bool) → (owner_part s l).owner ≡ owner → (owner_part s l).bit ≡ bit → cond (is_none owner && not bit) (fast_event (call_of (thread_part s t)) t l) (mark_event t l) ≡ e → IsAcquire s t l e
    by_owner None false none clear is = is_fast (record { how = by_asking how; task = task; lock = lock; owner = none; bit = clear; event = sym is })
    by_owner None true none set is = is_mark (record { how = how; task = task; lock = lock; event = sym is })
    by_owner (Some o) bit some b is = is_mark (record { how = how; task = task; lock = lock; event = sym is })

-- a task that takes the lock where it may, and else makes another event
pub taken_or : (s : State) (t : TaskId) (l : LockId) (other e : Event) → TakesIn s t l → t.0 < length s.threads → l.0 < length s.locks
    → take_or other (call_of (thread_part s t)) t l (kind_of (thread_part s t) l) (owner_part s l) (task_part s t) ≡ e
    → IsTake s t l e ⊎ ((can_take t (kind_of (thread_part s t) l) (owner_part s l) (task_part s t) ≡ false) × (e ≡ other))
taken_or s t l other e how task lock is = by_test (can_take t (kind_of (thread_part s t) l) (owner_part s l) (task_part s t)) refl is
  where
    by_test : (b : Bool) → can_take t (kind_of (thread_part s t) l) (owner_part s l) (task_part s t) ≡ b
        → cond b (take_event (call_of (thread_part s t)) t l (kind_of (thread_part s t) l) (owner_part s l) (task_part s t)) other ≡ e → IsTake s t l e ⊎ ((can_take t (kind_of (thread_part s t) l) (owner_part s l) (task_part s t) ≡ false) × (e ≡ other))
    by_test true can is = inl (record { how = how; task = task; lock = lock; can = can; event = sym is })
    by_test false can is = inr (can, sym is)

pub tried : (s : State) (t : TaskId) (l : LockId) (e : Event) → Tries s t l → try_event (call_of (thread_part s t)) t l (kind_of (thread_part s t) l) (owner_part s l) (task_part s t) ≡ e → IsAcquire s t l e
tried s t l e at is = by_owner (owner_part s l).owner (owner_part s l).bit refl refl is
  where
    other : Event
    other = take_or (busy_event t l (owner_part s l)) (call_of (thread_part s t)) t l (kind_of (thread_part s t) l) (owner_part s l) (task_part s t)

    either : IsTake s t l e ⊎ ((can_take t (kind_of (thread_part s t) l) (owner_part s l) (task_part s t) ≡ false) × (e ≡ busy_event t l (owner_part s l))) → IsAcquire s t l e
    either (inl takes) = is_take takes
    either (inr busy) = is_busy (record { at = at; cannot = busy.0; event = busy.1 })

    or_busy : other ≡ e → IsAcquire s t l e
    or_busy is = either (taken_or s t l (busy_event t l (owner_part s l)) e (from_trying at) at.at.task at.lock is)

    by_owner : (owner : Option TaskId) (bit : Bool) → (owner_part s l).owner ≡ owner → (owner_part s l).bit ≡ bit → cond (is_none owner && not bit) (fast_event (call_of (thread_part s t)) t l) other ≡ e → IsAcquire s t l e
    by_owner None false none clear is = is_fast (record { how = by_trying at; task = at.at.task; lock = at.lock; owner = none; bit = clear; event = sym is })
    by_owner None true none set is = or_busy is
    by_owner (Some o) bit some b is = or_busy is

-- ---- the call of a task that gets the lock

-- it is one that waits for this lock, or that tries
abbrev pub IsAcquireOf : LockId → Call → Type 0
IsAcquireOf l call = WaitsFor call l ⊎ TriesFor call l

-- the task is at such a call
pub record IsAcquiring (s : State) (t : TaskId) (l : LockId) : Type 0 where
  pub call : Call
  pub calling : call_of (thread_part s t) ≡ Some call
  pub acquires : IsAcquireOf l call

pub fast-acquiring : (s : State) (t : TaskId) (l : LockId) → AcquiresIn s t l → IsAcquiring s t l
fast-acquiring s t l (by_asking how) = let asks = (asking s t l how).1 in record { call = asks.call; calling = asks.at.calling; acquires = inl asks.waits_for }
fast-acquiring s t l (by_trying at) = record { call = at.call; calling = at.at.calling; acquires = inr at.tries_for }

pub take-acquiring : (s : State) (t : TaskId) (l : LockId) → TakesIn s t l → IsAcquiring s t l
take-acquiring s t l (from_slow asks) = record { call = asks.call; calling = asks.at.calling; acquires = inl asks.waits_for }
take-acquiring s t l (from_wait asks awake) = record { call = asks.call; calling = asks.at.calling; acquires = inl asks.waits_for }
take-acquiring s t l (from_trying at) = record { call = at.call; calling = at.at.calling; acquires = inr at.tries_for }

-- what holds of the phases that it may be in holds of its phase
pub asks-phased : (P : Phase → Type 0) (s : State) (t : TaskId) (l : LockId) → AsksBy s t l → P phases.Start → P phases.Inner → P (thread_part s t).phase
asks-phased P s t l (from_start asks unheld) start inner = subst P (sym asks.at.phased) start
asks-phased P s t l (from_reading asks) start inner = subst P (sym asks.at.phased) inner

pub fast-phased : (P : Phase → Type 0) (s : State) (t : TaskId) (l : LockId) → AcquiresIn s t l → P phases.Start → P phases.Inner → P (thread_part s t).phase
fast-phased P s t l (by_asking how) start inner = asks-phased P s t l how start inner
fast-phased P s t l (by_trying at) start inner = subst P (sym at.at.phased) start

pub take-phased : (P : Phase → Type 0) (s : State) (t : TaskId) (l : LockId) → TakesIn s t l → P phases.Slow → P phases.Wait → P phases.Start → P (thread_part s t).phase
take-phased P s t l (from_slow asks) slow wait start = subst P (sym asks.at.phased) slow
take-phased P s t l (from_wait asks awake) slow wait start = subst P (sym asks.at.phased) wait
take-phased P s t l (from_trying at) slow wait start = subst P (sym at.at.phased) start

-- what an acquire leaves of a call: the answer got, with the lock held, or the next step of a reader or a writer
pub acquiring-holds : (P : Call → Type 0) (call : Call) (l : LockId) → IsAcquireOf l call → P (calls.Lock l) → P (calls.LockInt l) → P (calls.Spin l) → P (calls.Local l) → P (calls.TryLock l) → P (calls.TrySpin l)
    → P (calls.Read l) → P (calls.Write l) → P (calls.TryWrite l) → P call
acquiring-holds P call l (inl waits_for) lock lockint spin local trylock tryspin read write trywrite = waits-holds P call l waits_for lock lockint spin local read write
acquiring-holds P call l (inr tries) lock lockint spin local trylock tryspin read write trywrite = tries-holds P call l tries trylock tryspin trywrite

pub acquiring-called : (call : Call) (l : LockId) → IsAcquireOf l call → called_lock call ≡ Some l
acquiring-called call l is = acquiring-holds (λ c. called_lock c ≡ Some l) call l is refl refl refl refl refl refl refl refl refl

-- ---- what the choice reads

pub same-acquire : (a b : Shared) (call : Option Call) (t : TaskId) (l : LockId) → Alike (acquire_event call t l (lock_in a l)) a b → acquire_event call t l (lock_in b l) ≡ acquire_event call t l (lock_in a l)
same-acquire a b call t l alike = ap (acquire_event call t l) (alike.lock l (either (is_none (lock_in a l).owner && not (lock_in a l).bit)))
  where
    either : (c : Bool) → touches (cond c (fast_event call t l) (mark_event t l)) (objects.OwnerPart l) ≡ true
    either true = touches-lock (fast_event call t l) l refl
    either false = touches-lock (mark_event t l) l refl

-- a call that tries looks at the lock, and at its own task where that decides
try-lock : (a b : Shared) (call : Option Call) (t : TaskId) (l : LockId) (kind : Kind) → Alike (try_event call t l kind (lock_in a l) (task_in a t)) a b → lock_in b l ≡ lock_in a l
try-lock a b call t l kind alike = alike.lock l (by_tests (is_free (lock_in a l)) (can_take t kind (lock_in a l) (task_in a t)))
  where
    by_tests : (free can : Bool) → touches (cond free (fast_event call t l) (cond can (take_event call t l kind (lock_in a l) (task_in a t)) (busy_event t l (lock_in a l)))) (objects.OwnerPart l) ≡ true
    by_tests true can = touches-lock (fast_event call t l) l refl
    by_tests false true = touches-lock (take_event call t l kind (lock_in a l) (task_in a t)) l refl
    by_tests false false = touches-lock (busy_event t l (lock_in a l)) l refl

try-task : (call : Option Call) (t : TaskId) (l : LockId) (kind : Kind) (lock : OwnerPart) (x y : TaskPart) → (touches (try_event call t l kind lock x) (objects.Task t) ≡ true → y ≡ x) → try_event call t l kind lock y ≡ try_event call t l kind lock x
try-task call t l kind lock x y same = by_owner lock.owner lock.bit same
  where
    having : Option TaskId → Bool → OwnerPart
    having owner bit = record lock { owner = owner; bit = bit }

    by_owner : (owner : Option TaskId) (bit : Bool) → (touches (try_event call t l kind (having owner bit) x) (objects.Task t) ≡ true → y ≡ x) → try_event call t l kind (having owner bit) y ≡ try_event call t l kind (having owner bit) x
    by_owner (Some o) bit same = refl
    by_owner None false same = refl
    by_owner None true same = ap (try_event call t l kind (having None true)) (same (by_test (can_take t kind (having None true) x)))
      where
        by_test : (can : Bool) → touches (cond can (take_event call t l kind (having None true) x) (busy_event t l (having None true))) (objects.Task t) ≡ true
        by_test true = touches-own (take_event call t l kind (having None true) x) t refl
        by_test false = touches-own (busy_event t l (having None true)) t refl

pub same-try : (a b : Shared) (call : Option Call) (t : TaskId) (l : LockId) (kind : Kind) → Alike (try_event call t l kind (lock_in a l) (task_in a t)) a b → try_event call t l kind (lock_in b l) (task_in b t) ≡ try_event call t l kind (lock_in a l) (task_in a t)
same-try a b call t l kind alike =
    ap (λ (lock : OwnerPart). try_event call t l kind lock (task_in b t)) (try-lock a b call t l kind alike)
    ∙ try-task call t l kind (lock_in a l) (task_in a t) (task_in b t) (λ at. alike.task t at)
