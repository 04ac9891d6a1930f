-- Forwards from a task along edges: either the edges lead back to it, and the path is a cycle, or it is on none.
use Rattle.std.proofs.Common.{◌≡◌, ◌≢◌, inl, inr, ℕ, suc, ◌<◌, ◌≤◌, false, List, [], ◌∷◌, ◌++◌, length, refl, sym, ap, ◌∙◌, subst, arith, All, append_assoc, length-append}
use Rattle.std.specs.Prelude.{AllPairs, nat_eq}
use Rattle.std.proofs.lemmas.List.Elements.{All-head, All-tail, All-cons, All-nil, All-append, All-weaker}
use Rattle.std.proofs.lemmas.List.Kept.{AllPairs-cons}
use Rattle.rt_base.specs.declared.id.LockId.{LockId}
use Rattle.rt_base.specs.declared.id.TaskId.{TaskId}
use Rattle.rt_model.specs.State.{State, task_part}
use Rattle.rt_model.specs.Graph.{Leads}
use Rattle.rt_model.specs.Path.{first_task, links_to, links_of, Edge, IsCycle}
use Rattle.rt_model.proofs.Numbers.{other_number}
use Rattle.rt_model.proofs.Paths.{Differ, few-differ}
use Rattle.rt_model.proofs.graph.Reaching.{leads-there, one-edge}
use Rattle.rt_model.proofs.graph.Standing.{lock-blocked}
use Rattle.rt_model.proofs.graph.Turned.{task_of_pair, All-back, links-append, IsOn, on-or-off, turned-cycle}

-- ---- paths that lead to one task, and name it nowhere

-- no pair of the path is this task's
abbrev pub NamesOthers : TaskId → List (ℕ × ℕ) → Type 0
NamesOthers t path = All (λ (pair : ℕ × ℕ). t.0 ≢ pair.0) path

-- a path whose links are edges, the last of which leads to the task
abbrev LeadsBy : State → TaskId → List (ℕ × ℕ) → Type 0
LeadsBy s t path = All (Edge s) (links_to t path)

-- the edge from its first task
first_edge : (s : State) (t : TaskId) (pair : ℕ × ℕ) (path : List (ℕ × ℕ)) → LeadsBy s t (pair ∷ path) → Leads s (task_of_pair pair) (first_task t path)
first_edge s t pair path edges = (record { 0 = pair.1 }, All-head (Edge s) _ (links_to t path) edges)

-- two of them from one task are equally long
same_length : (s : State) (t : TaskId) (path other : List (ℕ × ℕ)) → LeadsBy s t path → LeadsBy s t other → NamesOthers t path → NamesOthers t other → first_task t path ≡ first_task t other
    → length path ≡ length other
same_length s t [] [] edges also apart off same = refl
same_length s t [] (pair ∷ other) edges also apart off same = absurd (All-head (λ (p : ℕ × ℕ). t.0 ≢ p.0) pair other off (ap (λ (u : TaskId). u.0) same))
same_length s t (pair ∷ path) [] edges also apart off same = absurd (All-head (λ (p : ℕ × ℕ). t.0 ≢ p.0) pair path apart (ap (λ (u : TaskId). u.0) (sym same)))
same_length s t (pair ∷ path) (first ∷ other) edges also apart off same =
    let next : first_task t path ≡ first_task t other = one-edge s (task_of_pair first) (first_task t path) (first_task t other)
    (subst (λ (u : TaskId). Leads s u (first_task t path)) same (first_edge s t pair path edges)) (first_edge s t first other also) in
    ap suc (same_length s t path other
    (All-tail (Edge s) _ (links_to t path) edges) (All-tail (Edge s) _ (links_to t other) also)
    (All-tail (λ (p : ℕ × ℕ). t.0 ≢ p.0) pair path apart) (All-tail (λ (p : ℕ × ℕ). t.0 ≢ p.0) first other off) next)

links_back : (s : State) (t : TaskId) (front : List (ℕ × ℕ)) (pair : ℕ × ℕ) (back : List (ℕ × ℕ)) → LeadsBy s t (front ++ pair ∷ back) → LeadsBy s t (pair ∷ back)
links_back s t front pair back edges = All-back (Edge s) (links_to (task_of_pair pair) front) (links_to t (pair ∷ back)) (subst (All (Edge s)) (links-append t front pair back) edges)

-- so the tasks of one differ
tasks_differ : (s : State) (t : TaskId) (path : List (ℕ × ℕ)) → LeadsBy s t path → NamesOthers t path → AllPairs Differ path
tasks_differ s t [] edges apart = λ i j d lt within. absurd (omega (arith, within))
tasks_differ s t (pair ∷ path) edges apart = AllPairs-cons Differ pair path others (tasks_differ s t path rest off)
  where
    rest : LeadsBy s t path
    rest = All-tail (Edge s) _ (links_to t path) edges

    off : NamesOthers t path
    off = All-tail (λ (p : ℕ × ℕ). t.0 ≢ p.0) pair path apart

    again : IsOn (task_of_pair pair) path → ⊥
    again on =
        let whole : LeadsBy s t (on.front ++ on.pair ∷ on.back) = subst (LeadsBy s t) on.along rest in
        let names : NamesOthers t (on.front ++ on.pair ∷ on.back) = subst (NamesOthers t) on.along off in
        let long = same_length s t (pair ∷ path) (on.pair ∷ on.back) edges (links_back s t on.front on.pair on.back whole)
        apart (All-back (λ (p : ℕ × ℕ). t.0 ≢ p.0) on.front (on.pair ∷ on.back) names) (sym on.same) in
        let more : length path ≡ length (on.front ++ on.pair ∷ on.back) = ap length on.along in
        omega (arith, long, more, length-append on.front (on.pair ∷ on.back))

    others : All (Differ pair) path
    others = elim (on-or-off (task_of_pair pair) path) [
      | inl on ↦ absurd (again on)
      | inr none ↦ All-weaker (λ (other : ℕ × ℕ). nat_eq pair.0 other.0 ≡ false) (Differ pair) (λ other ne. other_number pair.0 other.0 ne) path none
    ]

-- ---- a path from a task along edges

-- it begins with the task, and neither its other tasks nor where it stands is that one
abbrev pub LeavesAt : TaskId → TaskId → List (ℕ × ℕ) → Type 0
LeavesAt t here [] = here ≡ t
LeavesAt t here (pair ∷ path) = (task_of_pair pair ≡ t) × NamesOthers t path × (t.0 ≢ here.0)

-- the cycle goes on after the path, with this task
abbrev pub GoesOn : List (ℕ × ℕ) → TaskId → List (ℕ × ℕ) → Type 0
GoesOn cycle here path = (pair : ℕ × ℕ) × (rest : List (ℕ × ℕ)) × (cycle ≡ path ++ pair ∷ rest) × (task_of_pair pair ≡ here)

-- the path that was followed from a task, and stands at another: each cycle that begins with the task begins with the path
pub record IsFollowed (s : State) (t here : TaskId) (path : List (ℕ × ℕ)) : Type 0 where
  pub edges : All (Edge s) (links_to here path)
  pub leaves : LeavesAt t here path
  pub cycles : (cycle : List (ℕ × ℕ)) → IsCycle s cycle → first_task t cycle ≡ t → GoesOn cycle here path

-- the path of no link
pub followed-none : (s : State) (t : TaskId) → IsFollowed s t t []
followed-none s t = record { edges = All-nil (Edge s); leaves = refl; cycles = begins }
  where
    begins : (cycle : List (ℕ × ℕ)) → IsCycle s cycle → first_task t cycle ≡ t → GoesOn cycle t []
    begins [] stands first = absurd (omega (arith, stands.many))
    begins (pair ∷ rest) stands first = (pair, rest, refl, first)

-- a cycle that begins with the task leads to it
leads_back : (s : State) (t : TaskId) (cycle : List (ℕ × ℕ)) → All (Edge s) (links_of cycle) → first_task t cycle ≡ t → LeadsBy s t cycle
leads_back s t [] edges first = All-nil (Edge s)
leads_back s t (pair ∷ path) edges first = subst (λ (u : TaskId). LeadsBy s u (pair ∷ path)) first edges

-- the next edge of such a cycle
next_edge : (s : State) (t : TaskId) (path : List (ℕ × ℕ)) (pair : ℕ × ℕ) (rest cycle : List (ℕ × ℕ)) → IsCycle s cycle → first_task t cycle ≡ t → cycle ≡ path ++ pair ∷ rest
    → Edge s (record { from = task_of_pair pair; lock = record { 0 = pair.1 }; to = first_task t rest })
next_edge s t path pair rest cycle stands first is =
    All-head (Edge s) _ (links_to t rest) (links_back s t path pair rest (subst (LeadsBy s t) is (leads_back s t cycle stands.edges first)))

-- edges from one task are at one lock
one_lock : (s : State) (t u v : TaskId) (l m : LockId) → Edge s (record { from = t; lock = l; to = u }) → Edge s (record { from = t; lock = m; to = v }) → l ≡ m
one_lock s t u v l m edge other =
    let first = lock-blocked (task_part s t).blocked l edge.blocked in
    let second = lock-blocked (task_part s t).blocked m other.blocked in
    cc

module _ (s : State) (t here : TaskId) (path : List (ℕ × ℕ)) (was : IsFollowed s t here path) where
  -- where there is no edge, no cycle begins with the task
  pub followed-over : ((u : TaskId) → Leads s here u → ⊥) → (cycle : List (ℕ × ℕ)) → IsCycle s cycle → first_task t cycle ≡ t → ⊥
  followed-over none cycle stands first =
      let on = was.cycles cycle stands first in
      let edge = next_edge s t path on.0 on.1 cycle stands first on.2 in
      none (first_task t on.1) (subst (λ (u : TaskId). Leads s u (first_task t on.1)) on.3 (record { 0 = on.0.1 }, edge))

  -- nor where the path is as long as there are tasks
  pub followed-long : length s.tasks ≤ length path → (cycle : List (ℕ × ℕ)) → IsCycle s cycle → first_task t cycle ≡ t → ⊥
  followed-long long cycle stands first =
      let on = was.cycles cycle stands first in
      let few = few-differ (length s.tasks) cycle (within cycle stands.edges) stands.differ in
      let more : length cycle ≡ length (path ++ on.0 ∷ on.1) = ap length on.2 in
      omega (arith, few, long, more, length-append path (on.0 ∷ on.1))
    where
      there : (end : TaskId) (cycle : List (ℕ × ℕ)) → LeadsBy s end cycle → All (λ (pair : ℕ × ℕ). pair.0 < length s.tasks) cycle
      there end [] edges = All-nil (λ (pair : ℕ × ℕ). pair.0 < length s.tasks)
      there end (pair ∷ cycle) edges =
          All-cons (λ (p : ℕ × ℕ). p.0 < length s.tasks) pair cycle
          (leads-there s (task_of_pair pair) (first_task end cycle) (first_edge s end pair cycle edges)) (there end cycle (All-tail (Edge s) _ (links_to end cycle) edges))

      within : (cycle : List (ℕ × ℕ)) → All (Edge s) (links_of cycle) → All (λ (pair : ℕ × ℕ). pair.0 < length s.tasks) cycle
      within [] edges = All-nil (λ (pair : ℕ × ℕ). pair.0 < length s.tasks)
      within (pair ∷ cycle) edges = there (task_of_pair pair) (pair ∷ cycle) edges

  module _ (l : LockId) (o : TaskId) (edge : Edge s (record { from = here; lock = l; to = o })) where
    longer : All (Edge s) (links_to o (path ++ (here.0, l.0) ∷ []))
    longer =
        subst (All (Edge s)) (sym (links-append o path (here.0, l.0) []))
        (All-append (Edge s) (links_to here path) _ was.edges (All-cons (Edge s) _ [] edge (All-nil (Edge s))))

    -- the edge leads on
    pub followed-more : t.0 ≢ o.0 → IsFollowed s t o (path ++ (here.0, l.0) ∷ [])
    followed-more apart = record { edges = longer; leaves = leaves path was.leaves; cycles = cycles }
      where
        leaves : (p : List (ℕ × ℕ)) → LeavesAt t here p → LeavesAt t o (p ++ (here.0, l.0) ∷ [])
        leaves [] same = (same, All-nil (λ (pair : ℕ × ℕ). t.0 ≢ pair.0), apart)
        leaves (first ∷ p) (same, off, left) =
            (same, All-append (λ (pair : ℕ × ℕ). t.0 ≢ pair.0) p _ off (All-cons (λ (pair : ℕ × ℕ). t.0 ≢ pair.0) (here.0, l.0) [] left (All-nil (λ (pair : ℕ × ℕ). t.0 ≢ pair.0))), apart)

        goes_on : (cycle : List (ℕ × ℕ)) (pair : ℕ × ℕ) (rest : List (ℕ × ℕ)) → cycle ≡ path ++ pair ∷ rest → pair ≡ (here.0, l.0) → first_task t rest ≡ o
            → GoesOn cycle o (path ++ (here.0, l.0) ∷ [])
        goes_on cycle pair [] is same next = absurd (apart (ap (λ (u : TaskId). u.0) next))
        goes_on cycle pair (second ∷ rest) is same next =
            (second, rest, subst (λ (p : ℕ × ℕ). cycle ≡ path ++ p ∷ second ∷ rest) same is ∙ sym (append_assoc path ((here.0, l.0) ∷ []) (second ∷ rest)), next)

        cycles : (cycle : List (ℕ × ℕ)) → IsCycle s cycle → first_task t cycle ≡ t → GoesOn cycle o (path ++ (here.0, l.0) ∷ [])
        cycles cycle stands first =
            let on = was.cycles cycle stands first in
            let next = next_edge s t path on.0 on.1 cycle stands first on.2 in
            let same : task_of_pair on.0 ≡ here = on.3 in
            let from_here : Edge s (record { from = here; lock = record { 0 = on.0.1 }; to = first_task t on.1 }) =
            subst (λ (u : TaskId). Edge s (record { from = u; lock = record { 0 = on.0.1 }; to = first_task t on.1 })) same next in
            let lock : record { 0 = on.0.1 } ≡ l = one_lock s here (first_task t on.1) o (record { 0 = on.0.1 }) l from_here edge in
            let leads = one-edge s here (first_task t on.1) o (record { 0 = on.0.1 }, from_here) (l, edge) in
            goes_on cycle on.0 on.1 on.2 (pairs on.0 same lock) leads
          where
            pairs : (pair : ℕ × ℕ) → task_of_pair pair ≡ here → record { 0 = pair.1 } ≡ l → pair ≡ (here.0, l.0)
            pairs pair same lock = let a : pair.0 ≡ here.0 = ap (λ (u : TaskId). u.0) same in let b : pair.1 ≡ l.0 = ap (λ (m : LockId). m.0) lock in λ i. (a i, b i)

    -- the edge leads back: no task leads to itself by one edge, so the path is a cycle
    pub followed-back : ((u : TaskId) → Leads s u u → ⊥) → o ≡ t → IsCycle s (path ++ (here.0, l.0) ∷ []) × (first_task t (path ++ (here.0, l.0) ∷ []) ≡ t)
    followed-back alone back = closed path was.leaves (subst (λ (u : TaskId). LeadsBy s u (path ++ (here.0, l.0) ∷ [])) back longer)
      where
        closed : (p : List (ℕ × ℕ)) → LeavesAt t here p → LeadsBy s t (p ++ (here.0, l.0) ∷ []) → IsCycle s (p ++ (here.0, l.0) ∷ []) × (first_task t (p ++ (here.0, l.0) ∷ []) ≡ t)
        closed [] same edges = absurd (alone t (subst (λ (u : TaskId). Leads s u t) same (first_edge s t (here.0, l.0) [] edges)))
        closed (pair ∷ p) (same, off, left) edges =
            let rest = p ++ (here.0, l.0) ∷ [] in
            let names : NamesOthers t rest =
            All-append (λ (q : ℕ × ℕ). t.0 ≢ q.0) p _ off (All-cons (λ (q : ℕ × ℕ). t.0 ≢ q.0) (here.0, l.0) [] left (All-nil (λ (q : ℕ × ℕ). t.0 ≢ q.0))) in (
              record {
                many = omega (arith, length-append p ((here.0, l.0) ∷ []));
                differ = AllPairs-cons Differ pair rest (subst (λ (u : TaskId). All (λ (q : ℕ × ℕ). u.0 ≢ q.0) rest) (sym same) names)
                    (tasks_differ s t rest (All-tail (Edge s) _ (links_to t rest) edges) names);
                edges = subst (λ (u : TaskId). LeadsBy s u (pair ∷ rest)) (sym same) edges;
              },
              same,
            )

-- where no cycle begins with a task, none goes through it
pub on-no-cycle : (s : State) (t : TaskId) → ((cycle : List (ℕ × ℕ)) → IsCycle s cycle → first_task t cycle ≡ t → ⊥) → (cycle : List (ℕ × ℕ)) → IsCycle s cycle → NamesOthers t cycle
on-no-cycle s t none cycle stands = elim (on-or-off t cycle) [
  | inl on ↦
      let turned = on.pair ∷ on.back ++ on.front in
      absurd (none turned (turned-cycle s cycle turned (record { front = on.front; back = on.pair ∷ on.back; before = on.along; after = refl }) stands) on.same)
  | inr off ↦ All-weaker (λ (pair : ℕ × ℕ). nat_eq t.0 pair.0 ≡ false) (λ (pair : ℕ × ℕ). t.0 ≢ pair.0) (λ pair ne. other_number t.0 pair.0 ne) cycle off
]

-- one that begins with it goes through it
pub on-cycle : (s : State) (t : TaskId) (cycle : List (ℕ × ℕ)) → IsCycle s cycle → first_task t cycle ≡ t → NamesOthers t cycle → ⊥
on-cycle s t [] stands first off = omega (arith, stands.many)
on-cycle s t (pair ∷ path) stands first off = All-head (λ (p : ℕ × ℕ). t.0 ≢ p.0) pair path off (ap (λ (u : TaskId). u.0) (sym first))
