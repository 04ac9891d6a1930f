-- Draws, one after the other.
use Rattle.std.proofs.Common.{◌≡◌, ℕ, zero, suc, ◌+◌, ◌*◌, ◌/◌, ◌%◌, ◌^◌, ◌<◌, ◌≤◌, refl, ap, sym, ◌∙◌, arith, add-zero, add-suc}
use Rattle.rt_policy.specs.Draws.{next_number, number_after, draw}

pub number_after-none : (x : ℕ) → number_after x 0 ≡ x
unfolding number_after
number_after-none x = refl

-- i draws and then j are i + j draws
pub number_after-more : (x i j : ℕ) → number_after (number_after x i) j ≡ number_after x (i + j)
unfolding number_after
number_after-more x i zero = rw add-zero refl
number_after-more x i (suc j) = rw add-suc (ap next_number (number_after-more x i j))

-- draw j after i others
pub draw-more : (x k i j : ℕ) → draw (number_after x i) k j ≡ draw x k (i + j)
unfolding draw
draw-more x k i j = rw (number_after-more x i (suc j), add-suc) refl

-- a draw is below its bound
pub draw-below : (x k i : ℕ) → 0 < k → draw x k i < k
unfolding draw
draw-below x k i some = omega arith

pub ruleset drawing = (number_after-none, number_after-more, draw-more, draw-below)
