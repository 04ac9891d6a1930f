-- A path's links, and how they lie in arrays of a fixed number of places.
use Rattle.std.specs.Prelude.{◌≡◌, ℕ, ◌-◌, ◌≤◌, ◌==◌, ◌&&◌, Bool, List, ◌++◌, length, drop, replicate}
use Rattle.std.specs.Cmp.Lexicographic.{pointwise}
use Rattle.rt_base.specs.declared.limits.TheConstants.{MAX_LINKS}

-- a fixed number of places: these numbers, and zeros after them
abbrev pub padded : List ℕ → List ℕ
padded xs = xs ++ replicate (MAX_LINKS - length xs) 0

-- of a fixed number of places the first n are in use, and the others are zero
pub record IsPadded (n : ℕ) (xs : List ℕ) : Type 0 where
  pub within : n ≤ MAX_LINKS
  pub places : length xs ≡ MAX_LINKS
  pub zeros : drop n xs ≡ replicate (MAX_LINKS - n) 0

-- whether two paths have the same links, each a task's number and a lock's
abbrev pub has_same_links : List (ℕ × ℕ) → List (ℕ × ℕ) → Bool
has_same_links = pointwise (λ (a b : ℕ × ℕ). (a.0 == b.0) && (a.1 == b.1))
