-- What the named steps leave of a task.
use Rattle.std.proofs.Common.{◌≡◌, ℕ, zero, suc, Bool, true, false, cond, not, refl, sym, ap, ◌∙◌, Option, Some, None, List, length, length-set}
use Rattle.std.specs.Prelude.{is_some, option_map, nat_eq}
use Rattle.std.proofs.lemmas.Bool.{cond_both, not-false}
use Rattle.rt_base.specs.declared.id.LockId.{LockId}
use Rattle.rt_base.specs.declared.state.TaskState.{TaskState}
use Rattle.rt_base.specs.declared.state.TaskState.TheVariants as states
use Rattle.rt_model.specs.Parts.{TaskPart, least, keys_in, effective_of}
use Rattle.rt_model.specs.declared.row.Row.{Row}
use Rattle.rt_model.specs.Rows.{top_key, top_changed}
use Rattle.rt_model.specs.steps.Task.{saved_for, blocked_on, restored, leave_queue, interrupted, woken_up, signalled, woken_by, lock_woken, sleeps, is_interruptible, with_top, refreshed}
use Rattle.rt_model.specs.declared.phase.Phase.{Phase}
use Rattle.rt_model.specs.declared.phase.Phase.TheVariants as phases
use Rattle.rt_model.specs.events.Readers.{writer_rests}
use Rattle.rt_model.specs.steps.Chain.{is_old, has_old_key, rekeyed, refreshed_where_changed}
use Rattle.rt_model.proofs.Numbers.{same_number}

-- a task with the own priority and the kept tops of another
pub record IsLike (task other : TaskPart) : Type 0 where
  pub own : other.own ≡ task.own
  pub kept : other.kept ≡ task.kept

pub effective-like : {task other : TaskPart} → IsLike task other → effective_of other ≡ effective_of task
effective-like {task} {other} is = ap (λ (n : ℕ). least n (keys_in other.kept)) is.own ∙ ap (λ (kept : List (Option ℕ)). least task.own (keys_in kept)) is.kept

-- ---- leave_queue

pub leave_queue-blocked : (spinning : Bool) (task : TaskPart) → (leave_queue spinning task).blocked ≡ None
leave_queue-blocked spinning task = by_blocked task.blocked refl
  where
    by_blocked : (b : Option (LockId × ℕ)) → task.blocked ≡ b → (cond (is_some b) (record (restored spinning task) { blocked = None }) task).blocked ≡ None
    by_blocked None none = none
    by_blocked (Some at) some = refl

pub restored-like : (spinning : Bool) (task : TaskPart) → IsLike task (restored spinning task)
restored-like true task = record { own = refl; kept = refl }
restored-like false task = record { own = refl; kept = refl }

pub leave_queue-like : (spinning : Bool) (task : TaskPart) → IsLike task (leave_queue spinning task)
leave_queue-like spinning task =
    let rested = restored-like spinning task in
    cond_both (is_some task.blocked) (record (restored spinning task) { blocked = None }) task (IsLike task)
    (λ is. record { own = rested.own; kept = rested.kept }) (λ is. record { own = refl; kept = refl })

-- and the same where a signal ended the wait
pub interrupted-blocked : (spinning : Bool) (task : TaskPart) → (interrupted spinning task).blocked ≡ None
interrupted-blocked spinning task = leave_queue-blocked spinning task

pub interrupted-like : (spinning : Bool) (task : TaskPart) → IsLike task (interrupted spinning task)
interrupted-like spinning task = let left = leave_queue-like spinning task in record { own = left.own; kept = left.kept }

-- ---- woken

-- a task that is woken has the same lock that it is blocked on
pub record IsWoken (task other : TaskPart) : Type 0 where
  pub like : IsLike task other
  pub blocked : other.blocked ≡ task.blocked

pub woken_up-like : (task : TaskPart) → IsWoken task (woken_up task)
woken_up-like task =
    cond_both (sleeps task.state) (record task { state = states.Running }) (cond (sleeps task.saved) (record task { saved = states.Running }) task) (IsWoken task)
    (λ is. record { like = record { own = refl; kept = refl }; blocked = refl })
    (λ is. cond_both (sleeps task.saved) (record task { saved = states.Running }) task (IsWoken task)
    (λ saved. record { like = record { own = refl; kept = refl }; blocked = refl })
    (λ not_saved. record { like = record { own = refl; kept = refl }; blocked = refl }))

pub signalled-like : (task : TaskPart) → IsWoken task (signalled task)
signalled-like task =
    cond_both (is_interruptible task.state) (record task { signal = true; state = states.Running }) (cond (is_interruptible task.saved) (record task { signal = true; saved = states.Running }) (record task { signal = true })) (IsWoken task)
    (λ is. record { like = record { own = refl; kept = refl }; blocked = refl })
    (λ is. cond_both (is_interruptible task.saved) (record task { signal = true; saved = states.Running }) (record task { signal = true }) (IsWoken task)
    (λ saved. record { like = record { own = refl; kept = refl }; blocked = refl })
    (λ not_saved. record { like = record { own = refl; kept = refl }; blocked = refl }))

pub woken_by-like : (n : ℕ) (task : TaskPart) → IsWoken task (woken_by n task)
woken_by-like zero task = woken_up-like task
woken_by-like (suc n) task = signalled-like task

pub lock_woken-like : (spinning : Bool) (task : TaskPart) → IsWoken task (lock_woken spinning task)
lock_woken-like true task = record { like = record { own = refl; kept = refl }; blocked = refl }
lock_woken-like false task = woken_up-like task

-- ---- blocked

saved_for-like : (rest : TaskState) (task : TaskPart) → IsLike task (saved_for rest task)
saved_for-like states.LockWait task = record { own = refl; kept = refl }
saved_for-like _ task = record { own = refl; kept = refl }

pub blocked_on-like : (l : Option LockId) (rest : TaskState) (task : TaskPart) → IsLike task (blocked_on l rest task)
blocked_on-like l rest task = let saved = saved_for-like rest task in record { own = saved.own; kept = saved.kept }

pub writer_rests-like : (phase : Phase) (rest : TaskState) (task : TaskPart) → IsLike task (writer_rests phase rest task)
writer_rests-like phases.WWait rest task = record { own = refl; kept = refl }
writer_rests-like _ rest task = let saved = saved_for-like rest task in record { own = saved.own; kept = saved.kept }

-- ---- kept tops

pub with_top-blocked : (l : Option LockId) (top : Option ℕ) (task : TaskPart) → (with_top l top task).blocked ≡ task.blocked
with_top-blocked None top task = refl
with_top-blocked (Some l) top task = refl

pub length-with_top : (l : Option LockId) (top : Option ℕ) (task : TaskPart) → length (with_top l top task).kept ≡ length task.kept
length-with_top None top task = refl
length-with_top (Some l) top task = simp length-set

-- ---- along a chain

-- a task with its effective priority as its key is blocked on the same lock
pub rekeyed-like : (task : TaskPart) → IsLike task (rekeyed task)
rekeyed-like task = record { own = refl; kept = refl }

pub rekeyed-at : (task : TaskPart) (l : LockId) (key : ℕ) → task.blocked ≡ Some (l, key) → (rekeyed task).blocked ≡ Some (l, effective_of task)
rekeyed-at task l key is = ap (λ (b : Option (LockId × ℕ)). option_map (λ (at : LockId × ℕ). (at.0, effective_of task)) b) is

pub rekeyed-blocking : (task : TaskPart) → option_map (λ (at : LockId × ℕ). at.0) (rekeyed task).blocked ≡ option_map (λ (at : LockId × ℕ). at.0) task.blocked
rekeyed-blocking task = by_blocked task.blocked
  where
    by_blocked : (b : Option (LockId × ℕ)) → option_map (λ (at : LockId × ℕ). at.0) (option_map (λ (at : LockId × ℕ). (at.0, effective_of task)) b) ≡ option_map (λ (at : LockId × ℕ). at.0) b
    by_blocked None = refl
    by_blocked (Some at) = refl

-- the key of a task whose key isn't old
pub right_key : (task : TaskPart) (l : LockId) (key : ℕ) → task.blocked ≡ Some (l, key) → has_old_key task ≡ false → key ≡ effective_of task
right_key task l key is right =
    let same : is_old task.blocked (effective_of task) ≡ not (nat_eq key (effective_of task)) = ap (λ (b : Option (LockId × ℕ)). is_old b (effective_of task)) is in
    same_number key (effective_of task) (not-false (nat_eq key (effective_of task)) (sym same ∙ right))

-- what holds of a task, refreshed or not
pub where_changed : (P : TaskPart → Type 0) (l : Option LockId) (before after : List Row) (task : TaskPart) → P task → P (refreshed l after task) → P (refreshed_where_changed l before after task)
where_changed P l before after task was then = cond_both (top_changed before after) (refreshed l after task) task P (λ is. then) (λ is. was)

pub where_changed-blocked : (l : Option LockId) (before after : List Row) (task : TaskPart) → (refreshed_where_changed l before after task).blocked ≡ task.blocked
where_changed-blocked l before after task = where_changed (λ (x : TaskPart). x.blocked ≡ task.blocked) l before after task refl (with_top-blocked l (top_key after) task)

pub length-where_changed : (l : Option LockId) (before after : List Row) (task : TaskPart) → length (refreshed_where_changed l before after task).kept ≡ length task.kept
length-where_changed l before after task = where_changed (λ (x : TaskPart). length x.kept ≡ length task.kept) l before after task refl (length-with_top l (top_key after) task)
