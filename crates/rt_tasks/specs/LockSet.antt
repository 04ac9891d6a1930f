-- Sets of locks, as words: bit l % 64 of word l / 64 stands for lock l.
use Rattle.std.specs.Prelude.{◌≡◌, ℕ, ◌/◌, ◌%◌, ◌<◌, Bool, true, List, nat_eq, slice_index}
use Rattle.std.specs.Int.{bit_at}
use Rattle.rt_base.specs.declared.limits.TheConstants.{MAX_LOCKS}

-- the bit is set in the word
abbrev pub has_bit : ℕ → ℕ → Bool
has_bit word bit = nat_eq (bit_at word bit) 1

-- the lock is in the words' set
abbrev pub has : List ℕ → ℕ → Bool
has words l = has_bit (slice_index words (l / 64)) (l % 64)

-- it is one of the locks that a set has room for
abbrev pub IsIn : List ℕ → ℕ → Type 0
IsIn words l = (l < MAX_LOCKS) × (has words l ≡ true)

-- it is one of those that word w has, as this word
abbrev pub IsInWord : ℕ → ℕ → ℕ → Type 0
IsInWord word w l = (l / 64 ≡ w) × (has_bit word (l % 64) ≡ true)
