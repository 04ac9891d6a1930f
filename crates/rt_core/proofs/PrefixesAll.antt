-- What holds of each element of a prefix, as a loop finds it.
use Rattle.std.proofs.Common.{ℕ, zero, suc, ◌+◌, ◌<◌, ◌≤◌, List, [], ◌∷◌, length, take, get_or, unwrap_or, subst, add-one, All, arith}
use Rattle.std.specs.Prelude.{slice_get}
use Rattle.std.proofs.lemmas.List.{take_all}
use Rattle.std.proofs.lemmas.List.Elements.{All-nil, All-cons, All-head, All-tail}

one-more : {X : Type 0} (P : X → Type 0) (xs : List X) (i : ℕ) (x : X) → All P (take i xs) → P (get_or xs i x) → All P (take (suc i) xs)
one-more P [] i x prefix here = All-nil P
one-more P (y ∷ xs) zero x prefix here = All-cons P y [] here (All-nil P)
one-more P (y ∷ xs) (suc i) x prefix here = All-cons P y (take (suc i) xs) (All-head P y (take i xs) prefix) (one-more P xs i x (All-tail P y (take i xs) prefix) here)

-- one element more
pub prefix-all : {X : Type 0} (P : X → Type 0) (xs : List X) (i : ℕ) (x : X) → All P (take i xs) → P (get_or xs i x) → All P (take (i + 1) xs)
prefix-all P xs i x prefix here = rw add-one (one-more P xs i x prefix here)

-- the whole list
pub whole-all : {X : Type 0} (P : X → Type 0) (xs : List X) (n : ℕ) → length xs ≤ n → All P (take n xs) → All P xs
whole-all P xs n le prefix = subst (λ (ys : List _). All P ys) (take_all n xs le) prefix

one-read : {X : Type 0} (P : X → Type 0) (xs : List X) (i : ℕ) (d : X) → i < length xs → All P (take i xs) → P (unwrap_or (slice_get xs i) d) → All P (take (suc i) xs)
one-read P [] i d lt prefix here = All-nil P
one-read P (y ∷ xs) zero d lt prefix here = All-cons P y [] here (All-nil P)
one-read P (y ∷ xs) (suc i) d lt prefix here = All-cons P y (take (suc i) xs) (All-head P y (take i xs) prefix) (one-read P xs i d (omega arith) (All-tail P y (take i xs) prefix) here)

-- one element more, read with a default
pub prefix-read : {X : Type 0} (P : X → Type 0) (xs : List X) (i : ℕ) (d : X) → i < length xs → All P (take i xs) → P (unwrap_or (slice_get xs i) d) → All P (take (i + 1) xs)
prefix-read P xs i d lt prefix here = rw add-one (one-read P xs i d lt prefix here)
