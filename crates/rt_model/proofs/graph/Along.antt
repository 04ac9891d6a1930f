-- A responsible task's walk goes along its cycle: its cursor is blocked on its own lock of the cycle, and a link leaves the task
-- responsible; once it has come round, the whole cycle stands.
use Rattle.std.proofs.Common.{◌≡◌, ◌≢◌, ℕ, ◌≤◌, true, false, List, [], ◌∷◌, ◌++◌, length, refl, sym, ap, ◌∙◌, subst, arith, All, Option, Some, None, append_assoc}
use Rattle.std.specs.Prelude.{AllPairs, is_some, is_none, nat_eq, option_map}
use Rattle.std.proofs.lemmas.Bool.Decides.{nat_tests}
use Rattle.std.proofs.lemmas.List.Elements.{All-head, All-tail, All-cons, All-nil, All-weaker}
use Rattle.rt_base.specs.declared.id.LockId.{LockId}
use Rattle.rt_base.specs.declared.id.TaskId.{TaskId}
use Rattle.rt_model.specs.declared.phase.Phase.{Phase}
use Rattle.rt_model.specs.declared.phase.Phase.TheVariants.{Walk, Confirm}
use Rattle.rt_model.specs.declared.phase.Route.TheVariants.{Full}
use Rattle.rt_model.specs.Parts.{TaskPart}
use Rattle.rt_model.specs.State.{State, shared, task_at, owner_part, task_part, thread_part}
use Rattle.rt_model.specs.Path.{Link, first_task, links_to, links_of, first_broken, Edge, IsCycle}
use Rattle.rt_model.specs.laws.Cycles.{IsPast}
use Rattle.rt_model.specs.laws.KeptTops.{KeptTopsLaw}
use Rattle.rt_model.specs.laws.Responsible.{IsPartOf, IsAlong, IsResponsible}
use Rattle.rt_model.specs.laws.Rows.{key_at, RowsLaw}
use Rattle.rt_model.specs.steps.Chain.{is_on_path, path_before, full_at, goes_on, phase_of_walk}
use Rattle.rt_model.proofs.Numbers.{number_itself}
use Rattle.rt_model.proofs.Paths.{Differ}
use Rattle.rt_model.proofs.Queues.{AllPairs-head, AllPairs-tail}
use Rattle.rt_model.proofs.graph.Turned.{task_of_pair, All-back, links-append, links-lead}
use Rattle.rt_model.proofs.graph.Standing.{blocked_lock, lock-blocked, edges-unbroken}

-- ---- a task that isn't on a path

pub other-test : (i j : ℕ) → i ≢ j → nat_eq i j ≡ false
other-test i j ne = grind (arith, nat_tests)

off-path : (o : TaskId) (path : List (ℕ × ℕ)) → All (λ (pair : ℕ × ℕ). pair.0 ≢ o.0) path → is_on_path o path ≡ false
off-path o [] all = refl
off-path o (pair ∷ path) all =
    rw (other-test pair.0 o.0 (All-head (λ (other : ℕ × ℕ). other.0 ≢ o.0) pair path all)) (off-path o path (All-tail (λ (other : ℕ × ℕ). other.0 ≢ o.0) pair path all))

uncut : (o : TaskId) (path : List (ℕ × ℕ)) → All (λ (pair : ℕ × ℕ). pair.0 ≢ o.0) path → path_before o path ≡ path
uncut o [] all = refl
uncut o (pair ∷ path) all =
    rw (other-test pair.0 o.0 (All-head (λ (other : ℕ × ℕ). other.0 ≢ o.0) pair path all))
    (ap (λ (rest : List (ℕ × ℕ)). pair ∷ rest) (uncut o path (All-tail (λ (other : ℕ × ℕ). other.0 ≢ o.0) pair path all)))

-- each element before another is so to it
pairs-before : {X : Type 0} (R : X → X → Type 0) (xs : List X) (y : X) (ys : List X) → AllPairs R (xs ++ y ∷ ys) → All (λ x. R x y) xs
pairs-before R [] y ys pairs = All-nil (λ x. R x y)
pairs-before R (x ∷ xs) y ys pairs =
    All-cons (λ z. R z y) x xs (All-head (R x) y ys (All-back (R x) xs (y ∷ ys) (AllPairs-head R x (xs ++ y ∷ ys) pairs))) (pairs-before R xs y ys (AllPairs-tail R x (xs ++ y ∷ ys) pairs))

-- ---- how a full walk goes on at a task that is blocked

comes-back : (t o : TaskId) (path : List (ℕ × ℕ)) (task : TaskPart) → is_none task.blocked ≡ false → nat_eq o.0 t.0 ≡ true → full_at t path o task ≡ Some (Confirm path)
comes-back t o path task blocked same = rw (blocked, same) refl

goes-further : (t o : TaskId) (path : List (ℕ × ℕ)) (task : TaskPart) → is_none task.blocked ≡ false → nat_eq o.0 t.0 ≡ false → All (λ (pair : ℕ × ℕ). pair.0 ≢ o.0) path
    → full_at t path o task ≡ Some (Walk o (Full path))
goes-further t o path task blocked other ahead = rw (blocked, other, off-path o path ahead) (ap (λ (p : List (ℕ × ℕ)). Some (Walk o (Full p))) (uncut o path ahead))

-- ---- the link after a part of a cycle

-- the link through the pair behind a part leads to the next pair, or to the first one
link-after : (P : Link → Type 0) (first : ℕ × ℕ) (path : List (ℕ × ℕ)) (pair : ℕ × ℕ) (rest : List (ℕ × ℕ)) → All P (links_of ((first ∷ path) ++ pair ∷ rest))
    → P (record { from = task_of_pair pair; lock = record { 0 = pair.1 }; to = first_task (task_of_pair first) rest })
link-after P first path pair rest all =
    let parts : All P (links_to (task_of_pair pair) (first ∷ path) ++ links_to (task_of_pair first) (pair ∷ rest)) = subst (All P) (links-append (task_of_pair first) (first ∷ path) pair rest) all in
    All-head P _ (links_to (task_of_pair first) rest) (All-back P (links_to (task_of_pair pair) (first ∷ path)) (links_to (task_of_pair first) (pair ∷ rest)) parts)

some_lock : (at : Option (LockId × ℕ)) (l : LockId) → is_some (key_at at l) ≡ true → is_none at ≡ false
some_lock None l is = absurd cc
some_lock (Some at) l is = refl

-- all tasks of a cycle are blocked
pub cycle-blocked : (s : State) (path : List (ℕ × ℕ)) → IsCycle s path → All (λ (link : Link). is_none (task_part s link.to).blocked ≡ false) (links_of path)
cycle-blocked s path stands =
    links-lead (λ t. is_none (task_part s t).blocked ≡ false) path
    (All-weaker (Edge s) (λ (link : Link). is_none (task_part s link.from).blocked ≡ false) (λ link edge. some_lock (task_part s link.from).blocked link.lock edge.blocked) (links_of path) stands.edges)

-- a walk that has made it follows a longer part, or has come round
goes-past : (s : State) (first : ℕ × ℕ) (path : List (ℕ × ℕ)) (pair : ℕ × ℕ) (rest : List (ℕ × ℕ)) (task : TaskPart)
    → IsCycle s ((first ∷ path) ++ pair ∷ rest) → is_none task.blocked ≡ false
    → IsPast (first ∷ path) pair rest (phase_of_walk (full_at (task_of_pair first) ((first ∷ path) ++ pair ∷ []) (first_task (task_of_pair first) rest) task))
goes-past s first path pair [] task stands blocked =
    ap phase_of_walk (comes-back (task_of_pair first) (task_of_pair first) ((first ∷ path) ++ pair ∷ []) task blocked (number_itself first.0))
goes-past s first path pair (next ∷ rest) task stands blocked =
    let whole : ((first ∷ path) ++ pair ∷ []) ++ next ∷ rest ≡ (first ∷ path) ++ pair ∷ next ∷ rest = append_assoc (first ∷ path) (pair ∷ []) (next ∷ rest) in
    let ahead : All (λ (other : ℕ × ℕ). other.0 ≢ next.0) ((first ∷ path) ++ pair ∷ []) =
    pairs-before Differ ((first ∷ path) ++ pair ∷ []) next rest (subst (AllPairs Differ) (sym whole) stands.differ) in
    let apart : nat_eq next.0 first.0 ≡ false = other-test next.0 first.0 (λ same. All-head (λ (other : ℕ × ℕ). other.0 ≢ next.0) first (path ++ pair ∷ []) ahead (sym same)) in
    ap phase_of_walk (goes-further (task_of_pair first) (task_of_pair next) ((first ∷ path) ++ pair ∷ []) task blocked apart ahead)

-- so it goes along the cycle still
past-along : (first : ℕ × ℕ) (path : List (ℕ × ℕ)) (pair : ℕ × ℕ) (rest : List (ℕ × ℕ)) (phase : Phase) → IsPast (first ∷ path) pair rest phase → IsAlong ((first ∷ path) ++ pair ∷ rest) phase
past-along first path pair [] phase is = subst (IsAlong ((first ∷ path) ++ pair ∷ [])) (sym is) refl
past-along first path pair (next ∷ rest) phase is =
    subst (IsAlong ((first ∷ path) ++ pair ∷ next ∷ rest)) (sym is)
    (record { some = λ none. cc; next = next; rest = rest; along = sym (append_assoc (first ∷ path) (pair ∷ []) (next ∷ rest)); stands = refl })

none-alike : (a b : Option (LockId × ℕ)) → option_map (λ (at : LockId × ℕ). at.0) a ≡ option_map (λ (at : LockId × ℕ). at.0) b → is_none a ≡ is_none b
none-alike None None same = refl
none-alike None (Some b) same = absurd cc
none-alike (Some a) None same = absurd cc
none-alike (Some a) (Some b) same = refl

-- so the walk of the cycle's first task, at the task of this pair and through its lock
link-past : (s : State) (first : ℕ × ℕ) (path : List (ℕ × ℕ)) (pair : ℕ × ℕ) (rest : List (ℕ × ℕ)) (w u : TaskId) (l : LockId) (task : TaskPart) → IsCycle s ((first ∷ path) ++ pair ∷ rest)
    → task_of_pair first ≡ w → task_of_pair pair ≡ u → record { 0 = pair.1 } ≡ l → blocked_lock task ≡ blocked_lock (task_at (shared s) (owner_part s l).owner)
    → IsPast (first ∷ path) pair rest (phase_of_walk (goes_on w (Full ((first ∷ path) ++ (u.0, l.0) ∷ [])) (owner_part s l).owner task))
link-past s first path pair rest w u l task stands begun cursor at =
    subst (λ (t : TaskId). Along t u l) begun (subst (λ (v : TaskId). Along (task_of_pair first) v l) cursor (subst (λ (m : LockId). Along (task_of_pair first) (task_of_pair pair) m) at here))
  where
    Along : TaskId → TaskId → LockId → Type 0
    Along t v m =
        blocked_lock task ≡ blocked_lock (task_at (shared s) (owner_part s m).owner)
        → IsPast (first ∷ path) pair rest (phase_of_walk (goes_on t (Full ((first ∷ path) ++ (v.0, m.0) ∷ [])) (owner_part s m).owner task))

    here : Along (task_of_pair first) (task_of_pair pair) (record { 0 = pair.1 })
    here owner =
        let o : TaskId = first_task (task_of_pair first) rest in
        let owned : (owner_part s (record { 0 = pair.1 })).owner ≡ Some o = (link-after (Edge s) first path pair rest stands.edges).owned in
        let same : blocked_lock task ≡ blocked_lock (task_part s o) = owner ∙ ap (λ (p : Option TaskId). blocked_lock (task_at (shared s) p)) owned in
        let waits = link-after (λ (link : Link). is_none (task_part s link.to).blocked ≡ false) first path pair rest (cycle-blocked s ((first ∷ path) ++ pair ∷ rest) stands) in
        subst (λ (p : Option TaskId). IsPast (first ∷ path) pair rest (phase_of_walk (goes_on (task_of_pair first) (Full ((first ∷ path) ++ pair ∷ [])) p task))) (sym owned)
        (goes-past s first path pair rest task stands (none-alike task.blocked (task_part s o).blocked same ∙ waits))

-- ---- the responsible task

-- its own phase tells that it is so
pub phase-along : (s : State) (cycle : List (ℕ × ℕ)) (w : TaskId) → first_task w cycle ≡ w → IsResponsible s cycle → IsAlong cycle (thread_part s w).phase
phase-along s [] w first responsible = absurd responsible
phase-along s (pair ∷ path) w first responsible = subst (λ (t : TaskId). IsAlong (pair ∷ path) (thread_part s t).phase) first responsible

pub along-responsible : (s : State) (cycle : List (ℕ × ℕ)) (w : TaskId) → first_task w cycle ≡ w → cycle ≢ [] → IsAlong cycle (thread_part s w).phase → IsResponsible s cycle
along-responsible s [] w first some along = absurd (some refl)
along-responsible s (pair ∷ path) w first some along = subst (λ (t : TaskId). IsAlong (pair ∷ path) (thread_part s t).phase) (sym first) along

-- no cycle is empty
pub cycle-some : (s : State) (cycle : List (ℕ × ℕ)) → IsCycle s cycle → cycle ≢ []
cycle-some s cycle stands none = let many = subst (λ (path : List (ℕ × ℕ)). 2 ≤ length path) none stands.many in absurd (omega (arith, many))

-- its cursor is the task of the cycle's next pair, blocked on the lock of that
pub record IsAtPair (s : State) (cycle path : List (ℕ × ℕ)) (u : TaskId) : Type 0 where
  pub pair : ℕ × ℕ
  pub back : List (ℕ × ℕ)
  pub along : cycle ≡ path ++ pair ∷ back
  pub cursor : u ≡ task_of_pair pair
  pub blocked : blocked_lock (task_part s u) ≡ Some (record { 0 = pair.1 })
  pub owned : (owner_part s (record { 0 = pair.1 })).owner ≡ Some (first_task (first_task u path) back)

module _ (s : State) (cycle : List (ℕ × ℕ)) (w : TaskId) (stands : IsCycle s cycle) (responsible : IsResponsible s cycle) (first : first_task w cycle ≡ w) where
  module _ (u : TaskId) (path : List (ℕ × ℕ)) (phase : (thread_part s w).phase ≡ Walk u (Full path)) where
    is_part : IsPartOf cycle path u.0
    is_part = subst (IsAlong cycle) phase (phase-along s cycle w first responsible)

    -- a walk stands at a pair of the cycle
    pub walk-at : IsAtPair s cycle path u
    walk-at = by_path path is_part
      where
        by_path : (p : List (ℕ × ℕ)) → IsPartOf cycle p u.0 → IsAtPair s cycle p u
        by_path [] part = absurd (part.some refl)
        by_path (pair ∷ p) part =
            let edge = link-after (Edge s) pair p part.next part.rest (subst (λ (c : List (ℕ × ℕ)). All (Edge s) (links_of c)) part.along stands.edges) in
            let cursor : u ≡ task_of_pair part.next = ap (λ (n : ℕ). record { 0 = n }) part.stands in
            record {
              pair = part.next;
              back = part.rest;
              along = part.along;
              cursor = cursor;
              blocked = ap (λ (t : TaskId). blocked_lock (task_part s t)) cursor ∙ lock-blocked (task_part s (task_of_pair part.next)).blocked (record { 0 = part.next.1 }) edge.blocked;
              owned = edge.owned;
            }

    -- the link from there leads to the next pair, or round
    pub walk-past : (next : State) (l : LockId) (task : TaskPart) → blocked_lock (task_part s u) ≡ Some l → blocked_lock task ≡ blocked_lock (task_at (shared s) (owner_part s l).owner)
        → (thread_part next w).phase ≡ phase_of_walk (goes_on w (Full (path ++ (u.0, l.0) ∷ [])) (owner_part s l).owner task) → IsPast path walk-at.pair walk-at.back (thread_part next w).phase
    walk-past next l task at owner now = subst (IsPast path walk-at.pair walk-at.back) (sym now) (by_path path walk-at is_part.some)
      where
        by_path : (p : List (ℕ × ℕ)) (part : IsAtPair s cycle p u) → p ≢ [] → IsPast p part.pair part.back (phase_of_walk (goes_on w (Full (p ++ (u.0, l.0) ∷ [])) (owner_part s l).owner task))
        by_path [] part some = absurd (some refl)
        by_path (pair ∷ p) part some =
            let same : record { 0 = part.pair.1 } ≡ l = (let there = part.blocked in cc) in
            let begun : task_of_pair pair ≡ w = ap (λ (c : List (ℕ × ℕ)). first_task w c) (sym part.along) ∙ first in
            link-past s pair p part.pair part.back w u l task (subst (IsCycle s) part.along stands) begun (sym part.cursor) same owner

    -- and so leaves the task responsible
    pub walk-along : (next : State) (l : LockId) (task : TaskPart) → blocked_lock (task_part s u) ≡ Some l → blocked_lock task ≡ blocked_lock (task_at (shared s) (owner_part s l).owner)
        → (thread_part next w).phase ≡ phase_of_walk (goes_on w (Full (path ++ (u.0, l.0) ∷ [])) (owner_part s l).owner task) → IsResponsible next cycle
    walk-along next l task at owner now =
        along-responsible next cycle w first (cycle-some s cycle stands)
        (subst (λ (c : List (ℕ × ℕ)). IsAlong c (thread_part next w).phase) (sym walk-at.along) (by_path path walk-at is_part.some (walk-past next l task at owner now)))
      where
        by_path : (p : List (ℕ × ℕ)) (part : IsAtPair s cycle p u) → p ≢ [] → IsPast p part.pair part.back (thread_part next w).phase → IsAlong (p ++ part.pair ∷ part.back) (thread_part next w).phase
        by_path [] part some past = absurd (some refl)
        by_path (pair ∷ p) part some past = past-along pair p part.pair part.back (thread_part next w).phase past

  -- one that is to be confirmed has the whole cycle, of which each link stands
  pub confirm-whole : (path : List (ℕ × ℕ)) → (thread_part s w).phase ≡ Confirm path → path ≡ cycle
  confirm-whole path phase = subst (IsAlong cycle) phase (phase-along s cycle w first responsible)

  pub confirm-unbroken : (made : ℕ) (path : List (ℕ × ℕ)) → KeptTopsLaw s → RowsLaw s made → (thread_part s w).phase ≡ Confirm path → first_broken (shared s) path ≡ None
  confirm-unbroken made path kept rows phase =
      edges-unbroken s made kept rows path (subst (λ (p : List (ℕ × ℕ)). All (Edge s) (links_of p)) (sym (confirm-whole path phase)) stands.edges)
