-- Sets of tasks, as words: bit t of the word stands for task t.
use Rattle.std.specs.Prelude.{◌≡◌, ℕ, ◌<◌, Bool, true, false, nat_eq}
use Rattle.std.specs.Int.{bit_at}

-- the task is in the word's set
abbrev pub has : ℕ → ℕ → Bool
has word t = nat_eq (bit_at word t) 1

-- it is the lowest one in the set
abbrev pub IsLowestIn : ℕ → ℕ → Type 0
IsLowestIn word t = (has word t ≡ true) × ((u : ℕ) → u < t → has word u ≡ false)
