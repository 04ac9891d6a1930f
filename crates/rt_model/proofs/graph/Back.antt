-- Backwards from a task along edges: a path that leads to it, whose tasks differ, is longer by a task that leads to its begin, or
-- that task is one of it, and then there is a cycle.
use Rattle.std.proofs.Common.{◌≡◌, ◌≢◌, ◌⊎◌, inl, inr, ℕ, suc, ◌≤◌, false, List, [], ◌∷◌, ◌++◌, length, refl, ap, subst, arith, All}
use Rattle.std.specs.Prelude.{AllPairs, nat_eq}
use Rattle.std.proofs.lemmas.List.Elements.{All-head, All-tail, All-cons, All-nil, All-weaker}
use Rattle.std.proofs.lemmas.List.Kept.{AllPairs-cons}
use Rattle.rt_base.specs.declared.id.TaskId.{TaskId}
use Rattle.rt_model.specs.State.{State}
use Rattle.rt_model.specs.Path.{first_task, links_to, links_of, Edge, IsCycle}
use Rattle.rt_model.specs.Graph.{Leads, Reaches, at_once, onward}
use Rattle.rt_model.proofs.Numbers.{other_number}
use Rattle.rt_model.proofs.Paths.{Differ}
use Rattle.rt_model.proofs.Queues.{AllPairs-head, AllPairs-tail}
use Rattle.rt_model.proofs.graph.Turned.{task_of_pair, All-front, All-back, turned-differ, links-append, IsOn, on-or-off}

AllPairs-back : {X : Type 0} (R : X → X → Type 0) (xs ys : List X) → AllPairs R (xs ++ ys) → AllPairs R ys
AllPairs-back R [] ys pairs = pairs
AllPairs-back R (x ∷ xs) ys pairs = AllPairs-back R xs ys (AllPairs-tail R x (xs ++ ys) pairs)

-- a path of edges that leads to the task, and whose tasks differ
pub record IsWay (s : State) (t : TaskId) (path : List (ℕ × ℕ)) : Type 0 where
  pub edges : All (Edge s) (links_to t path)
  pub differ : AllPairs Differ path

pub way-none : (s : State) (t : TaskId) → IsWay s t []
way-none s t = record { edges = All-nil (Edge s); differ = λ i j d lt within. absurd (omega (arith, within)) }

-- its first task leads there
path-reaches : (s : State) (t : TaskId) (pair : ℕ × ℕ) (path : List (ℕ × ℕ)) → All (Edge s) (links_to t (pair ∷ path)) → Reaches s (task_of_pair pair) t
path-reaches s t pair [] edges = at_once (record { 0 = pair.1 }, All-head (Edge s) _ [] edges)
path-reaches s t pair (next ∷ path) edges =
    onward (record { 0 = pair.1 }, All-head (Edge s) _ (links_to t (next ∷ path)) edges) (path-reaches s t next path (All-tail (Edge s) _ (links_to t (next ∷ path)) edges))

pub way-reaches : (s : State) (t : TaskId) (path : List (ℕ × ℕ)) → IsWay s t path → (first_task t path ≡ t) ⊎ Reaches s (first_task t path) t
way-reaches s t [] way = inl refl
way-reaches s t (pair ∷ path) way = inr (path-reaches s t pair path way.edges)

-- no task leads to itself by one edge: then a task that leads to the begin of a way is on it only where there is a cycle
module _ (s : State) (apart : (t : TaskId) → Leads s t t → ⊥) (t u : TaskId) (path : List (ℕ × ℕ)) (way : IsWay s t path) (leads : Leads s u (first_task t path)) where
  longer : All (Edge s) (links_to t ((u.0, leads.0.0) ∷ path))
  longer = All-cons (Edge s) _ (links_to t path) leads.1 way.edges

  closed : IsOn u path → (cycle : List (ℕ × ℕ)) × IsCycle s cycle
  closed on = ((u.0, leads.0.0) ∷ on.front, record { many = many on.front edges; differ = differ; edges = edges })
    where
      same : on.pair.0 ≡ u.0
      same = ap (λ (v : TaskId). v.0) on.same

      turned : AllPairs Differ ((on.pair ∷ on.back) ++ on.front)
      turned = turned-differ on.front (on.pair ∷ on.back) (subst (AllPairs Differ) on.along way.differ)

      differ : AllPairs Differ ((u.0, leads.0.0) ∷ on.front)
      differ =
          AllPairs-cons Differ (u.0, leads.0.0) on.front
          (subst (λ (n : ℕ). All (λ (pair : ℕ × ℕ). n ≢ pair.0) on.front) same (All-back (Differ on.pair) on.back on.front (AllPairs-head Differ on.pair (on.back ++ on.front) turned)))
          (AllPairs-back Differ (on.pair ∷ on.back) on.front turned)

      parts : All (Edge s) (links_to (task_of_pair on.pair) ((u.0, leads.0.0) ∷ on.front) ++ links_to t (on.pair ∷ on.back))
      parts = subst (All (Edge s)) (links-append t ((u.0, leads.0.0) ∷ on.front) on.pair on.back) (subst (λ (p : List (ℕ × ℕ)). All (Edge s) (links_to t ((u.0, leads.0.0) ∷ p))) on.along longer)

      edges : All (Edge s) (links_of ((u.0, leads.0.0) ∷ on.front))
      edges =
          subst (λ (v : TaskId). All (Edge s) (links_to v ((u.0, leads.0.0) ∷ on.front))) on.same
          (All-front (Edge s) (links_to (task_of_pair on.pair) ((u.0, leads.0.0) ∷ on.front)) (links_to t (on.pair ∷ on.back)) parts)

      many : (front : List (ℕ × ℕ)) → All (Edge s) (links_of ((u.0, leads.0.0) ∷ front)) → 2 ≤ suc (length front)
      many [] alone = absurd (apart u (leads.0, All-head (Edge s) _ [] alone))
      many (pair ∷ front) more = omega arith

  pub way-back : ((cycle : List (ℕ × ℕ)) × IsCycle s cycle) ⊎ IsWay s t ((u.0, leads.0.0) ∷ path)
  way-back = elim (on-or-off u path) [
    | inl on ↦ inl (closed on)
    | inr off ↦ inr (record {
      edges = longer;
      differ = AllPairs-cons Differ (u.0, leads.0.0) path (All-weaker (λ (pair : ℕ × ℕ). nat_eq u.0 pair.0 ≡ false) (Differ (u.0, leads.0.0)) (λ pair ne. other_number u.0 pair.0 ne) path off) way.differ;
    })
  ]
