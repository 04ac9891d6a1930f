-- Sums over the elements of a list, one of them updated.
use Rattle.std.proofs.Common.{◌≡◌, ℕ, zero, suc, ◌+◌, ◌<◌, ◌≤◌, List, [], ◌∷◌, length, map, sym, ap, ◌∙◌, unwrap_or, arith}
use Rattle.std.specs.Prelude.{slice_get, sum}
use Rattle.std.proofs.lemmas.List.Sums.{sum-map, sum_by-cons}
use Rattle.rt_model.specs.StateAfter.{update}

module _ {X : Type 0} (f : X → ℕ) where
  -- the first element, and the others
  sum-first : (x : X) (xs : List X) → sum (map f (x ∷ xs)) ≡ f x + sum (map f xs)
  sum-first x xs = sum-map f (x ∷ xs) ∙ (sum_by-cons f x xs ∙ ap (λ n. f x + n) (sym (sum-map f xs)))

  -- one element is another: what it counted for goes, and what the other counts for comes
  pub sum-update : (xs : List X) (i : ℕ) (g : X → X) (d : X) → i < length xs → sum (map f (update xs i g)) + f (unwrap_or (slice_get xs i) d) ≡ sum (map f xs) + f (g (unwrap_or (slice_get xs i) d))
  sum-update [] i g d lt = absurd (omega (arith, lt))
  sum-update (x ∷ xs) zero g d lt = omega (arith, sum-first x xs, sum-first (g x) xs)
  sum-update (x ∷ xs) (suc i) g d lt = let rest = sum-update xs i g d (omega (arith, lt)) in omega (arith, sum-first x xs, sum-first x (update xs i g), rest)

  -- an element counts for no more than all, also one that isn't there, where that counts nothing
  pub sum-part : (xs : List X) (i : ℕ) (d : X) → f d ≡ 0 → f (unwrap_or (slice_get xs i) d) ≤ sum (map f xs)
  sum-part [] i d none = omega (arith, none)
  sum-part (x ∷ xs) zero d none = omega (arith, sum-first x xs)
  sum-part (x ∷ xs) (suc i) d none = let rest = sum-part xs i d none in omega (arith, sum-first x xs, rest)

module _ {X : Type 0} (f g : X → ℕ) (d : X) where
  -- each element counts for no more by f than by g
  abbrev pub CountsLess : List X → Type 0
  CountsLess xs = (i : ℕ) → f (unwrap_or (slice_get xs i) d) ≤ g (unwrap_or (slice_get xs i) d)

  -- then so do all
  pub sum-most : (xs : List X) → CountsLess xs → sum (map f xs) ≤ sum (map g xs)
  sum-most [] most = omega arith
  sum-most (x ∷ xs) most = let rest = sum-most xs (λ i. most (suc i)) in omega (arith, most 0, sum-first f x xs, sum-first g x xs, rest)

  -- and for less, where one of them does
  pub sum-less : (xs : List X) (i : ℕ) → CountsLess xs → i < length xs → f (unwrap_or (slice_get xs i) d) < g (unwrap_or (slice_get xs i) d) → sum (map f xs) < sum (map g xs)
  sum-less [] i most lt less = absurd (omega (arith, lt))
  sum-less (x ∷ xs) zero most lt less = let rest = sum-most xs (λ i. most (suc i)) in omega (arith, less, sum-first f x xs, sum-first g x xs, rest)
  sum-less (x ∷ xs) (suc i) most lt less = let rest = sum-less xs i (λ j. most (suc j)) (omega (arith, lt)) less in omega (arith, most 0, sum-first f x xs, sum-first g x xs, rest)
