-- The links of a path, and cycles.
use Rattle.std.specs.Prelude.{◌≡◌, ◌≢◌, ℕ, ◌≤◌, Bool, true, not, ◌&&◌, List, [], ◌∷◌, length, All, AllPairs, find, Option, Some, is_some, slice_get, option_map}
use Rattle.rt_base.specs.declared.id.LockId.{LockId}
use Rattle.rt_base.specs.declared.id.TaskId.{TaskId}
use Rattle.rt_model.specs.Parts.{TaskPart}
use Rattle.rt_model.specs.State.{State, Shared, task_in, owner_part, task_part}
use Rattle.rt_model.specs.laws.KeptTops.{kept_of}
use Rattle.rt_model.specs.laws.Rows.{key_at}

-- ---- links

-- a link: a task, the lock for which it waits, and the task to which that leads
pub record Link : Type 0 where
  pub from : TaskId
  pub lock : LockId
  pub to : TaskId

-- the task of a path's first pair, or this one where there is none
abbrev pub first_task : TaskId → List (ℕ × ℕ) → TaskId
first_task t [] = t
first_task t (pair ∷ path) = record { 0 = pair.0 }

-- the links of a path that leads to this task in the end: each pair leads to the task of the next one
abbrev pub links_to : TaskId → List (ℕ × ℕ) → List Link
links_to end [] = []
links_to end (pair ∷ path) = record { from = record { 0 = pair.0 }; lock = record { 0 = pair.1 }; to = first_task end path } ∷ links_to end path

-- the links of a path that leads back to its first task
abbrev pub links_of : List (ℕ × ℕ) → List Link
links_of [] = []
links_of (pair ∷ path) = links_to (record { 0 = pair.0 }) (pair ∷ path)

-- the lock of the first link, and the task to which that leads
abbrev pub first_lock : List (ℕ × ℕ) → Option LockId
first_lock path = option_map (λ (link : Link). link.lock) (slice_get (links_of path) 0)

abbrev pub first_owner : List (ℕ × ℕ) → Option TaskId
first_owner path = option_map (λ (link : Link). link.to) (slice_get (links_of path) 0)

-- ---- links that stand

-- a task is blocked on this lock
abbrev pub is_blocked_on : LockId → TaskPart → Bool
is_blocked_on l task = is_some (key_at task.blocked l)

-- a task keeps a top of this lock, as its owner does while somebody waits
abbrev pub keeps_top : LockId → TaskPart → Bool
keeps_top l task = is_some (kept_of task l)

-- a link stands, as it is told by tasks alone: the one is blocked on the lock, of which the other keeps a top
abbrev pub stands : Shared → Link → Bool
stands sh link = is_blocked_on link.lock (task_in sh link.from) && keeps_top link.lock (task_in sh link.to)

-- the first link of a path that doesn't stand
abbrev pub first_broken : Shared → List (ℕ × ℕ) → Option Link
first_broken sh path = find (λ link. not (stands sh link)) (links_of path)

-- ---- cycles

-- an edge: the one task is blocked on the lock, which the other owns
pub record Edge (s : State) (link : Link) : Type 0 where
  pub blocked : is_blocked_on link.lock (task_part s link.from) ≡ true
  pub owned : (owner_part s link.lock).owner ≡ Some link.to

-- a cycle: at least two different tasks with a lock each, each blocked on its lock, whose owner is the next one, and for the
-- last one the first
pub record IsCycle (s : State) (path : List (ℕ × ℕ)) : Type 0 where
  pub many : 2 ≤ length path
  pub differ : AllPairs (λ (pair other : ℕ × ℕ). pair.0 ≢ other.0) path
  pub edges : All (Edge s) (links_of path)
