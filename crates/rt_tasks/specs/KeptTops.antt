-- The tops that a task keeps: by lock, a key or nothing.
use Rattle.std.specs.Prelude.{◌≡◌, ℕ, ◌<◌, ◌≤◌, ◌↔◌, List, Option, None, IfSome, is_some, unwrap_or, slice_get}
use Rattle.rt_base.specs.declared.limits.TheConstants.{MAX_LOCKS}
use Rattle.rt_tasks.specs.LockSet.{has}

-- what is kept of a lock
abbrev pub key_at : List (Option ℕ) → ℕ → Option ℕ
key_at kept l = unwrap_or (slice_get kept l) None

-- the set has the locks of which a top is kept
abbrev pub AreLocksOf : List (Option ℕ) → List ℕ → Type 0
AreLocksOf kept words = (l : ℕ) → l < MAX_LOCKS → has words l ≡ is_some (key_at kept l)

-- no key is better: neither the priority nor one that is kept of these locks
abbrev pub IsBound : (ℕ → Type 0) → ℕ → List (Option ℕ) → ℕ → Type 0
IsBound Among prio kept b = (b ≤ prio) × ((l : ℕ) → Among l → IfSome (key_at kept l) (λ key. b ≤ key))

-- x is the least of the priority and what is kept of these locks
abbrev pub IsLeastOf : (ℕ → Type 0) → ℕ → List (Option ℕ) → ℕ → Type 0
IsLeastOf Among prio kept x = (b : ℕ) → (b ≤ x) ↔ IsBound Among prio kept b
