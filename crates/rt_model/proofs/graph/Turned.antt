-- The links of a path in parts, and a cycle that is begun at another of its tasks.
use Rattle.std.proofs.Common.{◌≡◌, ◌≢◌, ◌⊎◌, inl, inr, ℕ, Bool, true, false, List, [], ◌∷◌, ◌++◌, refl, sym, ap, subst, arith, All, append_assoc, append-nil, length-append}
use Rattle.std.specs.Prelude.{AllPairs, nat_eq}
use Rattle.std.proofs.lemmas.List.Elements.{All-head, All-tail, All-cons, All-nil, All-append}
use Rattle.rt_base.specs.declared.id.TaskId.{TaskId}
use Rattle.rt_model.specs.State.{State}
use Rattle.rt_model.specs.Path.{Link, first_task, links_to, links_of, Edge, IsCycle}
use Rattle.rt_model.specs.laws.Responsible.{IsTurned}
use Rattle.rt_model.proofs.Numbers.{same_task}
use Rattle.rt_model.proofs.Queues.{AllPairs-head, AllPairs-tail}
use Rattle.rt_model.proofs.Paths.{Differ, AllPairs-push}

-- the task of a pair
abbrev pub task_of_pair : ℕ × ℕ → TaskId
task_of_pair pair = record { 0 = pair.0 }

-- ---- all of a list in parts

pub All-front : {X : Type 0} (P : X → Type 0) (xs ys : List X) → All P (xs ++ ys) → All P xs
All-front P [] ys all = All-nil P
All-front P (x ∷ xs) ys all = All-cons P x xs (All-head P x (xs ++ ys) all) (All-front P xs ys (All-tail P x (xs ++ ys) all))

pub All-back : {X : Type 0} (P : X → Type 0) (xs ys : List X) → All P (xs ++ ys) → All P ys
All-back P [] ys all = all
All-back P (x ∷ xs) ys all = All-back P xs ys (All-tail P x (xs ++ ys) all)

-- the elements of a list differ in whatever order they stand
pub turned-differ : (front back : List (ℕ × ℕ)) → AllPairs Differ (front ++ back) → AllPairs Differ (back ++ front)
turned-differ [] back differ = subst (AllPairs Differ) (sym (append-nil back)) differ
turned-differ (pair ∷ front) back differ =
    let ahead : All (λ (other : ℕ × ℕ). other.0 ≢ pair.0) (front ++ back) = λ k d lt same. AllPairs-head Differ pair (front ++ back) differ k d lt (sym same) in
    let last : AllPairs Differ ((front ++ back) ++ pair ∷ []) = AllPairs-push Differ (front ++ back) pair (AllPairs-tail Differ pair (front ++ back) differ) ahead in
    subst (AllPairs Differ) (append_assoc back (pair ∷ []) front)
    (turned-differ front (back ++ pair ∷ []) (subst (AllPairs Differ) (append_assoc front back (pair ∷ [])) last))

-- ---- links in parts

-- what holds of each link of a path that leads back to its begin holds of the first one
pub links-first : (P : Link → Type 0) (pair : ℕ × ℕ) (path : List (ℕ × ℕ)) → All P (links_of (pair ∷ path))
    → P (record { from = task_of_pair pair; lock = record { 0 = pair.1 }; to = first_task (task_of_pair pair) path })
links-first P pair path all = All-head P _ (links_to (task_of_pair pair) path) all

-- the first part of a path leads to the first task of the rest
pub links-append : (end : TaskId) (front : List (ℕ × ℕ)) (pair : ℕ × ℕ) (back : List (ℕ × ℕ)) → links_to end (front ++ pair ∷ back) ≡ links_to (task_of_pair pair) front ++ links_to end (pair ∷ back)
links-append end [] pair back = refl
links-append end (first ∷ []) pair back = refl
links-append end (first ∷ second ∷ front) pair back =
    ap (λ (links : List Link). record { from = task_of_pair first; lock = record { 0 = first.1 }; to = task_of_pair second } ∷ links) (links-append end (second ∷ front) pair back)

-- a path that leads back to its begin has the same links wherever it begins
pub turned-links : (P : Link → Type 0) (front back : List (ℕ × ℕ)) → All P (links_of (front ++ back)) → All P (links_of (back ++ front))
turned-links P [] back all = subst (λ (path : List (ℕ × ℕ)). All P (links_of path)) (sym (append-nil back)) all
turned-links P (f ∷ front) [] all = subst (λ (path : List (ℕ × ℕ)). All P (links_of path)) (append-nil (f ∷ front)) all
turned-links P (f ∷ front) (b ∷ back) all =
    let first = links_to (task_of_pair b) (f ∷ front) in
    let second = links_to (task_of_pair f) (b ∷ back) in
    let parts : All P (first ++ second) = subst (All P) (links-append (task_of_pair f) (f ∷ front) b back) all in
    subst (All P) (sym (links-append (task_of_pair b) (b ∷ back) f front)) (All-append P second first (All-back P first second parts) (All-front P first second parts))

-- what holds of each task of a path holds of each task from which a link leads
links_from : (P : TaskId → Type 0) (end : TaskId) (path : List (ℕ × ℕ)) → All (λ (pair : ℕ × ℕ). P (task_of_pair pair)) path → All (λ (link : Link). P link.from) (links_to end path)
links_from P end [] all = All-nil (λ (link : Link). P link.from)
links_from P end (pair ∷ path) all =
    All-cons (λ (link : Link). P link.from) _ (links_to end path)
    (All-head (λ (other : ℕ × ℕ). P (task_of_pair other)) pair path all) (links_from P end path (All-tail (λ (other : ℕ × ℕ). P (task_of_pair other)) pair path all))

pub links-from : (P : TaskId → Type 0) (path : List (ℕ × ℕ)) → All (λ (pair : ℕ × ℕ). P (task_of_pair pair)) path → All (λ (link : Link). P link.from) (links_of path)
links-from P [] all = All-nil (λ (link : Link). P link.from)
links-from P (pair ∷ path) all = links_from P (task_of_pair pair) (pair ∷ path) all

-- what holds of each task of a path that leads to a task of which it holds, holds of each task to which a link leads
led_to : (P : TaskId → Type 0) (end : TaskId) (path : List (ℕ × ℕ)) → P end → All (λ (link : Link). P link.from) (links_to end path) → All (λ (link : Link). P link.to) (links_to end path)
led_to P end [] last all = All-nil (λ (link : Link). P link.to)
led_to P end (pair ∷ []) last all = All-cons (λ (link : Link). P link.to) _ [] last (All-nil (λ (link : Link). P link.to))
led_to P end (pair ∷ next ∷ path) last all =
    let rest : All (λ (link : Link). P link.from) (links_to end (next ∷ path)) = All-tail (λ (link : Link). P link.from) _ (links_to end (next ∷ path)) all in
    All-cons (λ (link : Link). P link.to) _ (links_to end (next ∷ path)) (All-head (λ (link : Link). P link.from) _ (links_to end path) rest) (led_to P end (next ∷ path) last rest)

pub links-lead : (P : TaskId → Type 0) (path : List (ℕ × ℕ)) → All (λ (link : Link). P link.from) (links_of path) → All (λ (link : Link). P link.to) (links_of path)
links-lead P [] all = All-nil (λ (link : Link). P link.to)
links-lead P (pair ∷ path) all = led_to P (task_of_pair pair) (pair ∷ path) (All-head (λ (link : Link). P link.from) _ (links_to (task_of_pair pair) path) all) all

-- ---- a task on a path, or not

pub record IsOn (t : TaskId) (path : List (ℕ × ℕ)) : Type 0 where
  pub front : List (ℕ × ℕ)
  pub pair : ℕ × ℕ
  pub back : List (ℕ × ℕ)
  pub along : path ≡ front ++ pair ∷ back
  pub same : task_of_pair pair ≡ t

pub on-or-off : (t : TaskId) (path : List (ℕ × ℕ)) → IsOn t path ⊎ All (λ (pair : ℕ × ℕ). nat_eq t.0 pair.0 ≡ false) path
on-or-off t [] = inr (All-nil (λ (pair : ℕ × ℕ). nat_eq t.0 pair.0 ≡ false))
on-or-off t (pair ∷ path) = by_test (nat_eq t.0 pair.0) refl (on-or-off t path)
  where
    by_test : (b : Bool) → nat_eq t.0 pair.0 ≡ b → IsOn t path ⊎ All (λ (other : ℕ × ℕ). nat_eq t.0 other.0 ≡ false) path
        → IsOn t (pair ∷ path) ⊎ All (λ (other : ℕ × ℕ). nat_eq t.0 other.0 ≡ false) (pair ∷ path)
    by_test true is rest = inl (record { front = []; pair = pair; back = path; along = refl; same = sym (same_task t (task_of_pair pair) is) })
    by_test false is (inl on) = inl (record { front = pair ∷ on.front; pair = on.pair; back = on.back; along = ap (λ (p : List (ℕ × ℕ)). pair ∷ p) on.along; same = on.same })
    by_test false is (inr off) = inr (All-cons (λ (other : ℕ × ℕ). nat_eq t.0 other.0 ≡ false) pair path is off)

-- ---- cycles

-- begun at another of its tasks a cycle is one
pub turned-cycle : (s : State) (cycle turned : List (ℕ × ℕ)) → IsTurned cycle turned → IsCycle s cycle → IsCycle s turned
turned-cycle s cycle turned is stands =
    let was : IsCycle s (is.front ++ is.back) = subst (IsCycle s) is.before stands in
    subst (IsCycle s) (sym is.after) (record {
      many = omega (arith, was.many, length-append is.front is.back, length-append is.back is.front);
      differ = turned-differ is.front is.back was.differ;
      edges = turned-links (Edge s) is.front is.back was.edges;
    })
