-- The links of a path, and the first of them that is broken.
use Rattle.std.proofs.Common.{◌≡◌, ℕ, Bool, true, false, cond, not, List, [], ◌∷◌, refl, subst, Option, Some, None, IfSome, All}
use Rattle.std.specs.Prelude.{find}
use Rattle.std.proofs.lemmas.List.Elements.{All-nil, All-head, All-tail, All-cons}
use Rattle.rt_base.specs.declared.id.LockId.{LockId}
use Rattle.rt_base.specs.declared.id.TaskId.{TaskId}
use Rattle.rt_model.specs.State.{State, shared}
use Rattle.rt_model.specs.Path.{Link, first_task, links_to, links_of, stands, first_broken}
use Rattle.rt_model.proofs.Queues.{find-holds}

-- what holds of each pair of a path holds of the task and the lock of each link
pub All-links_to : (P : ℕ → ℕ → Type 0) (end : TaskId) (path : List (ℕ × ℕ)) → All (λ (pair : ℕ × ℕ). P pair.0 pair.1) path → All (λ (link : Link). P link.from.0 link.lock.0) (links_to end path)
All-links_to P end [] all = All-nil (λ (link : Link). P link.from.0 link.lock.0)
All-links_to P end (pair ∷ path) all =
    All-cons (λ (link : Link). P link.from.0 link.lock.0) (record { from = record { 0 = pair.0 }; lock = record { 0 = pair.1 }; to = first_task end path }) (links_to end path)
    (All-head (λ (pair : ℕ × ℕ). P pair.0 pair.1) pair path all) (All-links_to P end path (All-tail (λ (pair : ℕ × ℕ). P pair.0 pair.1) pair path all))

pub All-links_of : (P : ℕ → ℕ → Type 0) (path : List (ℕ × ℕ)) → All (λ (pair : ℕ × ℕ). P pair.0 pair.1) path → All (λ (link : Link). P link.from.0 link.lock.0) (links_of path)
All-links_of P [] all = All-nil (λ (link : Link). P link.from.0 link.lock.0)
All-links_of P (pair ∷ path) all = All-links_to P (record { 0 = pair.0 }) (pair ∷ path) all

-- what holds of each link holds of the one that is broken
pub broken-holds : (P : Link → Type 0) (s : State) (path : List (ℕ × ℕ)) (link : Link) → All P (links_of path) → first_broken (shared s) path ≡ Some link → P link
broken-holds P s path link all is = subst (λ (o : Option Link). IfSome o P) is (find-holds P (λ link. not (stands (shared s) link)) (links_of path) all)

-- where none is broken, the first one stands
pub first-stands : (s : State) (t o : TaskId) (l m : LockId) (rest : List (ℕ × ℕ)) → first_broken (shared s) ((t.0, l.0) ∷ (o.0, m.0) ∷ rest) ≡ None → stands (shared s) (record { from = t; lock = l; to = o }) ≡ true
first-stands s t o l m rest none = by_test (stands (shared s) first) none
  where
    first : Link
    first = record { from = t; lock = l; to = o }

    by_test : (b : Bool) → cond (not b) (Some first) (find (λ link. not (stands (shared s) link)) (links_to t ((o.0, m.0) ∷ rest))) ≡ None → b ≡ true
    by_test true none = refl
    by_test false none = cc
