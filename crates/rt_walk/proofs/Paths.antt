-- A task's own link among those of a path.
use Rattle.std.proofs.Common.{◌≡◌, ℕ, zero, suc, ◌+◌, ◌≤◌, Bool, true, false, nat_eq, List, [], ◌∷◌, length, take, refl, ap, ◌∙◌, ◌||◌, Some, arith, add-one}
use Rattle.std.specs.Prelude.{slice_get}
use Rattle.std.proofs.lemmas.Bool.{or_parts, or_from}
use Rattle.rt_base.specs.declared.id.TaskId.{TaskId}
use Rattle.rt_model.specs.steps.Chain.{is_on_path, path_before}

-- none of the first links is the task's, nor is the next one
pub passed : (t : TaskId) (path : List (ℕ × ℕ)) (i : ℕ) (link : ℕ × ℕ) → slice_get path i ≡ Some link → nat_eq link.0 t.0 ≡ false → is_on_path t (take i path) ≡ false → is_on_path t (take (i + 1) path) ≡ false
passed t path i link is other none = rw add-one (step path i is none)
  where
    step : (path : List (ℕ × ℕ)) (i : ℕ) → slice_get path i ≡ Some link → is_on_path t (take i path) ≡ false → is_on_path t (take (suc i) path) ≡ false
    step [] i is none = cc
    step (first ∷ path) zero is none =
        let same : first ≡ link = cc in
        let apart : nat_eq first.0 t.0 ≡ false = rw same other in
        or_from (nat_eq first.0 t.0) false apart refl
    step (first ∷ path) (suc i) is none =
        let before = or_parts (nat_eq first.0 t.0) (is_on_path t (take i path)) none in
        or_from (nat_eq first.0 t.0) (is_on_path t (take (suc i) path)) before.0 (step path i is before.1)

-- it is on the first links and the next one where it is on the first, or the next is its own
pub looked : (t : TaskId) (path : List (ℕ × ℕ)) (i : ℕ) (link : ℕ × ℕ) → slice_get path i ≡ Some link → is_on_path t (take (i + 1) path) ≡ (is_on_path t (take i path) || nat_eq link.0 t.0)
looked t path i link is = rw add-one (step path i is)
  where
    grouped : (a b c : Bool) → (a || (b || c)) ≡ ((a || b) || c)
    grouped true b c = refl
    grouped false b c = refl

    or_none : (a : Bool) → (a || false) ≡ a
    or_none true = refl
    or_none false = refl

    step : (path : List (ℕ × ℕ)) (i : ℕ) → slice_get path i ≡ Some link → is_on_path t (take (suc i) path) ≡ (is_on_path t (take i path) || nat_eq link.0 t.0)
    step [] i is = cc
    step (first ∷ path) zero is =
        let same : first ≡ link = cc in
        or_none (nat_eq first.0 t.0) ∙ ap (λ (l : ℕ × ℕ). nat_eq l.0 t.0) same
    step (first ∷ path) (suc i) is =
        ap (λ (b : Bool). nat_eq first.0 t.0 || b) (step path i is) ∙ grouped (nat_eq first.0 t.0) (is_on_path t (take i path)) (nat_eq link.0 t.0)

-- the task is on a path, and so many links stand before its own
pub record IsPlace (t : TaskId) (path : List (ℕ × ℕ)) (i : ℕ) : Type 0 where
  pub before : length (path_before t path) ≡ i
  pub on_path : is_on_path t path ≡ true

-- none of the first links is the task's, and the next one is
pub place : (t : TaskId) (path : List (ℕ × ℕ)) (i : ℕ) (link : ℕ × ℕ) → slice_get path i ≡ Some link → nat_eq link.0 t.0 ≡ true → is_on_path t (take i path) ≡ false → IsPlace t path i
place t [] i link is own none = cc
place t (first ∷ path) zero link is own none =
    let same : first ≡ link = cc in
    let here : nat_eq first.0 t.0 ≡ true = rw same own in
    record { before = rw here refl; on_path = rw here refl }
place t (first ∷ path) (suc i) link is own none =
    let before = or_parts (nat_eq first.0 t.0) (is_on_path t (take i path)) none in
    let there = place t path i link is own before.1 in
    let apart = before.0 in
    record { before = rw apart (ap suc there.before); on_path = rw apart there.on_path }

-- a task that isn't on the path: all links stand before its own
pub all_before : (t : TaskId) (path : List (ℕ × ℕ)) → is_on_path t path ≡ false → path_before t path ≡ path
all_before t [] none = refl
all_before t (first ∷ path) none =
    let both = or_parts (nat_eq first.0 t.0) (is_on_path t path) none in
    let apart = both.0 in
    rw apart (ap (λ (links : List (ℕ × ℕ)). first ∷ links) (all_before t path both.1))

-- the links before a task's own are the first ones of the path
pub first_links : (t : TaskId) (path : List (ℕ × ℕ)) → take (length (path_before t path)) path ≡ path_before t path
first_links t [] = refl
first_links t (first ∷ path) = by_test (nat_eq first.0 t.0) refl (first_links t path)
  where
    by_test : (own : Bool) → nat_eq first.0 t.0 ≡ own → take (length (path_before t path)) path ≡ path_before t path → take (length (path_before t (first ∷ path))) (first ∷ path) ≡ path_before t (first ∷ path)
    by_test true is rest = rw is refl
    by_test false is rest = rw is (ap (λ (links : List (ℕ × ℕ)). first ∷ links) rest)

pub few_before : (t : TaskId) (path : List (ℕ × ℕ)) → length (path_before t path) ≤ length path
few_before t [] = omega arith
few_before t (first ∷ path) = by_test (nat_eq first.0 t.0) refl (few_before t path)
  where
    by_test : (own : Bool) → nat_eq first.0 t.0 ≡ own → length (path_before t path) ≤ length path → length (path_before t (first ∷ path)) ≤ length (first ∷ path)
    by_test true is rest = rw is (omega arith)
    by_test false is rest = rw is (omega (arith, rest))
