-- Two elements of a list written at once, through its two parts.
use Rattle.std.proofs.Common.{◌≡◌, ◌≢◌, ℕ, zero, suc, ◌<◌, List, [], ◌∷◌, ◌++◌, length, take, drop, refl, ap, arith, unwrap_or}
use Rattle.std.specs.Prelude.{slice_set, slice_get}
use Rattle.rt_model.specs.StateAfter.{update}

-- the first of the elements from i on
pub first-from : {X : Type 0} (xs : List X) (i : ℕ) (d : X) → unwrap_or (slice_get (drop i xs) 0) d ≡ unwrap_or (slice_get xs i) d
first-from [] zero d = refl
first-from [] (suc i) d = refl
first-from (x ∷ xs) zero d = refl
first-from (x ∷ xs) (suc i) d = first-from xs i d

-- an element in front of i
pub in-front : {X : Type 0} (xs : List X) (i j : ℕ) (d : X) → i < j → unwrap_or (slice_get (take j xs) i) d ≡ unwrap_or (slice_get xs i) d
in-front xs i zero d lt = absurd (omega arith)
in-front [] i (suc j) d lt = refl
in-front (x ∷ xs) zero (suc j) d lt = refl
in-front (x ∷ xs) (suc i) (suc j) d lt = in-front xs i j d (omega arith)

-- the first one of them is written
pub first-set : {X : Type 0} (xs : List X) (i : ℕ) (d : X) (f : X → X) → i < length xs → take i xs ++ slice_set (drop i xs) 0 (f (unwrap_or (slice_get xs i) d)) ≡ update xs i f
first-set [] i d f lt = absurd (omega arith)
first-set (x ∷ xs) zero d f lt = refl
first-set (x ∷ xs) (suc i) d f lt = ap (λ ys. x ∷ ys) (first-set xs i d f (omega arith))

-- and one in front of it
pub both-set : {X : Type 0} (xs : List X) (i j : ℕ) (d : X) (f g : X → X) → i < j → j < length xs
    → slice_set (take j xs) i (f (unwrap_or (slice_get xs i) d)) ++ slice_set (drop j xs) 0 (g (unwrap_or (slice_get xs j) d)) ≡ update (update xs j g) i f
both-set [] i j d f g lt there = absurd (omega arith)
both-set (x ∷ xs) i zero d f g lt there = absurd (omega arith)
both-set (x ∷ xs) zero (suc j) d f g lt there = ap (λ ys. f x ∷ ys) (first-set xs j d g (omega arith))
both-set (x ∷ xs) (suc i) (suc j) d f g lt there = ap (λ ys. x ∷ ys) (both-set xs i j d f g (omega arith) (omega arith))

-- two updates at different places, in either order
pub either-order : {X : Type 0} (xs : List X) (i j : ℕ) (f g : X → X) → i ≢ j → update (update xs j g) i f ≡ update (update xs i f) j g
either-order [] i j f g other = refl
either-order (x ∷ xs) zero zero f g other = absurd (other refl)
either-order (x ∷ xs) zero (suc j) f g other = refl
either-order (x ∷ xs) (suc i) zero f g other = refl
either-order (x ∷ xs) (suc i) (suc j) f g other = ap (λ ys. x ∷ ys) (either-order xs i j f g (λ is. other (ap suc is)))
