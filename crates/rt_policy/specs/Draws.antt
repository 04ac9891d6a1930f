-- The numbers that a generator draws, one after the other.
use Rattle.std.specs.Prelude.{ℕ, zero, suc, ◌+◌, ◌*◌, ◌/◌, ◌%◌, ◌^◌}

-- the number that follows x, in 64 bits
unfoldable pub next_number : ℕ → ℕ
next_number x = (x * 6364136223846793005 + 1442695040888963407) % 2 ^ 64

-- the number after i draws, from x on
unfoldable pub number_after : ℕ → ℕ → ℕ
number_after x zero = x
number_after x (suc i) = next_number (number_after x i)

-- what draw i from x on, counted from 0, gives below k
unfoldable pub draw : ℕ → ℕ → ℕ → ℕ
draw x k i = number_after x (suc i) / 2 ^ 33 % k
