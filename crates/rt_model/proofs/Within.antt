-- What a state says whose lists fit together.
use Rattle.std.proofs.Common.{◌≡◌, ℕ, ◌<◌, length, sym, subst, All, IfSome}
use Rattle.rt_base.specs.declared.id.LockId.{LockId}
use Rattle.rt_base.specs.declared.id.TaskId.{TaskId}
use Rattle.rt_model.specs.declared.row.Row.{Row}
use Rattle.rt_model.specs.Parts.{OwnerPart, TaskPart, ThreadPart}
use Rattle.rt_model.specs.State.{State, owner_part, task_part, thread_part}
use Rattle.rt_model.specs.laws.Shape.{IsShaped}
use Rattle.rt_model.proofs.Lists.{All-default}

abbrev pub HoldsFit : ℕ → ThreadPart → Type 0
HoldsFit n thread = length thread.holds ≡ n

pub holds_room : (s : State) (u : TaskId) (l : LockId) → IsShaped s → u.0 < length s.threads → l.0 < length s.locks → l.0 < length (thread_part s u).holds
holds_room s u l shaped lt within =
    let long : length (thread_part s u).holds ≡ length s.locks = All-default (HoldsFit (length s.locks)) s.threads u.0 _ shaped.holds lt in
    subst (λ (n : ℕ). l.0 < n) (sym long) within

pub task_room : (s : State) (u : TaskId) → IsShaped s → u.0 < length s.threads → u.0 < length s.tasks
task_room s u shaped lt = subst (λ (n : ℕ). u.0 < n) (sym shaped.tasks) lt

pub owner_within : (s : State) (l : LockId) → IsShaped s → l.0 < length s.locks → IfSome (owner_part s l).owner (λ t. t.0 < length s.threads)
owner_within s l shaped lt = All-default (λ (lock : OwnerPart). IfSome lock.owner (λ t. t.0 < length s.threads)) s.locks l.0 _ shaped.owners lt

pub owner_room : (s : State) (l : LockId) → IsShaped s → l.0 < length s.locks → IfSome (owner_part s l).owner (λ t. t.0 < length s.tasks)
owner_room s l shaped lt = subst (λ (n : ℕ). IfSome (owner_part s l).owner (λ t. t.0 < n)) (sym shaped.tasks) (owner_within s l shaped lt)

pub rows_within : (s : State) (l : LockId) → IsShaped s → l.0 < length s.locks → All (λ (row : Row). row.who < length s.threads) (owner_part s l).rows
rows_within s l shaped lt = All-default (λ (lock : OwnerPart). All (λ (row : Row). row.who < length s.threads) lock.rows) s.locks l.0 _ shaped.rows lt

pub kept_room : (s : State) (u : TaskId) (l : LockId) → IsShaped s → u.0 < length s.threads → l.0 < length s.locks → l.0 < length (task_part s u).kept
kept_room s u l shaped lt within =
    let long : length (task_part s u).kept ≡ length s.locks = All-default (λ (task : TaskPart). length task.kept ≡ length s.locks) s.tasks u.0 _ shaped.kept (task_room s u shaped lt) in
    subst (λ (n : ℕ). l.0 < n) (sym long) within

-- the reader part of a lock that is there
pub readers_room : (s : State) (l : LockId) → IsShaped s → l.0 < length s.locks → l.0 < length s.readers
readers_room s l shaped lt = subst (λ (n : ℕ). l.0 < n) (sym shaped.readers) lt
