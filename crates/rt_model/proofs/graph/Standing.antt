-- The links of a path that stand, and the first one that doesn't.
use Rattle.std.proofs.Common.{◌≡◌, ℕ, Bool, true, false, cond, not, List, [], ◌∷◌, ◌++◌, length, arith, refl, sym, ap, ◌∙◌, subst, All, Option, Some, None}
use Rattle.std.specs.Prelude.{find, is_some, nat_eq, option_map}
use Rattle.std.proofs.lemmas.Bool.{and_parts, and_from, not-false, not_from_true}
use Rattle.std.proofs.lemmas.List.Elements.{All-head, All-tail, All-cons, All-nil, All-weaker}
use Rattle.rt_base.specs.declared.id.LockId.{LockId}
use Rattle.rt_base.specs.declared.id.TaskId.{TaskId}
use Rattle.rt_model.specs.declared.phase.Phase.TheVariants.{Confirm}
use Rattle.rt_model.specs.declared.row.Row.{Row}
use Rattle.rt_model.specs.Parts.{TaskPart}
use Rattle.rt_model.specs.Rows.{queued_key, top_key}
use Rattle.rt_model.specs.Choice.{present_lock}
use Rattle.rt_model.specs.State.{State, shared, owner_part, task_part, thread_part}
use Rattle.rt_model.specs.Path.{Link, first_task, first_lock, first_owner, links_of, is_blocked_on, keeps_top, stands, first_broken, Edge, IsCycle}
use Rattle.rt_model.specs.laws.KeptTops.{KeptTopsLaw}
use Rattle.rt_model.specs.laws.Owners.{owned_by}
use Rattle.rt_model.specs.laws.Rows.{key_at, RowsLaw}
use Rattle.rt_model.specs.laws.Walks.{IsToConfirm, IsWalkOf, WalksLaw}
use Rattle.rt_model.proofs.Numbers.{owner-is, same_lock, number_itself}
use Rattle.rt_model.proofs.graph.Turned.{links-first}

-- ---- who is blocked on a lock

-- the lock on which a task is blocked
abbrev pub blocked_lock : TaskPart → Option LockId
blocked_lock task = option_map (λ (at : LockId × ℕ). at.0) task.blocked

pub lock-blocked : (at : Option (LockId × ℕ)) (l : LockId) → is_some (key_at at l) ≡ true → option_map (λ (a : LockId × ℕ). a.0) at ≡ Some l
lock-blocked None l is = absurd cc
lock-blocked (Some at) l is = by_test (nat_eq at.0.0 l.0) refl is
  where
    by_test : (b : Bool) → nat_eq at.0.0 l.0 ≡ b → is_some (cond b (Some at.1) None) ≡ true → Some at.0 ≡ Some l
    by_test true same some = ap Some (same_lock at.0 l same)
    by_test false other some = absurd cc

pub blocked-lock : (at : Option (LockId × ℕ)) (l : LockId) → option_map (λ (a : LockId × ℕ). a.0) at ≡ Some l → is_some (key_at at l) ≡ true
blocked-lock None l is = absurd cc
blocked-lock (Some at) l is =
    let same : at.0 ≡ l = cc in
    subst (λ (k : LockId). is_some (cond (nat_eq at.0.0 k.0) (Some at.1) None) ≡ true) same (ap (λ (b : Bool). is_some (cond b (Some at.1) None)) (number_itself at.0.0))

-- ---- a link stands exactly where it is an edge

-- a key is kept by the owner alone
kept-owned : (b : Bool) (key : Option ℕ) → is_some (cond b key None) ≡ true → b ≡ true
kept-owned true key is = refl
kept-owned false key is = absurd cc

-- somebody is queued where a task is
queued-top : (t : TaskId) (rows : List Row) → is_some (queued_key t rows) ≡ true → is_some (top_key rows) ≡ true
queued-top t [] is = absurd cc
queued-top t (row ∷ rows) is = refl

module _ (s : State) (made : ℕ) (kept : KeptTopsLaw s) (rows : RowsLaw s made) where
  pub stands-edge : (link : Link) → stands (shared s) link ≡ true → Edge s link
  stands-edge link is =
      let both = and_parts (is_blocked_on link.lock (task_part s link.from)) (keeps_top link.lock (task_part s link.to)) is in
      record {
        blocked = both.0;
        owned = owner-is (owner_part s link.lock).owner link.to
            (kept-owned (owned_by (owner_part s link.lock).owner link.to) (top_key (owner_part s link.lock).rows) (ap (λ (o : Option ℕ). is_some o) (sym (kept link.lock link.to)) ∙ both.1));
      }

  pub edge-stands : (link : Link) → Edge s link → stands (shared s) link ≡ true
  edge-stands link edge =
      let queued : is_some (queued_key link.from (owner_part s link.lock).rows) ≡ true = ap (λ (o : Option ℕ). is_some o) (rows.rows link.lock link.from) ∙ edge.blocked in
      let owned : owned_by (owner_part s link.lock).owner link.to ≡ true = ap (λ (o : Option TaskId). owned_by o link.to) edge.owned ∙ number_itself link.to.0 in
      and_from (is_blocked_on link.lock (task_part s link.from)) (keeps_top link.lock (task_part s link.to)) edge.blocked
      (ap (λ (o : Option ℕ). is_some o) (kept link.lock link.to) ∙ (ap (λ (b : Bool). is_some (cond b (top_key (owner_part s link.lock).rows) None)) owned
      ∙ queued-top link.from (owner_part s link.lock).rows queued))

-- ---- the first of a list that passes a test

pub record IsFirst {X : Type 0} (test : X → Bool) (xs : List X) (x : X) : Type 0 where
  pub front : List X
  pub back : List X
  pub along : xs ≡ front ++ x ∷ back
  pub fail : All (λ y. test y ≡ false) front
  pub passes : test x ≡ true

pub find-none : {X : Type 0} (test : X → Bool) (xs : List X) → find test xs ≡ None → All (λ x. test x ≡ false) xs
find-none test [] none = All-nil (λ x. test x ≡ false)
find-none test (x ∷ xs) none = by_test (test x) refl none (λ later. find-none test xs later)
  where
    by_test : (b : Bool) → test x ≡ b → cond b (Some x) (find test xs) ≡ None → (find test xs ≡ None → All (λ y. test y ≡ false) xs) → All (λ y. test y ≡ false) (x ∷ xs)
    by_test true is some rest = absurd cc
    by_test false is later rest = All-cons (λ y. test y ≡ false) x xs is (rest later)

pub none-find : {X : Type 0} (test : X → Bool) (xs : List X) → All (λ x. test x ≡ false) xs → find test xs ≡ None
none-find test [] all = refl
none-find test (x ∷ xs) all = rw (All-head (λ y. test y ≡ false) x xs all) (none-find test xs (All-tail (λ y. test y ≡ false) x xs all))

pub find-first : {X : Type 0} (test : X → Bool) (xs : List X) (x : X) → find test xs ≡ Some x → IsFirst test xs x
find-first test [] x is = absurd cc
find-first test (y ∷ xs) x is = by_test (test y) refl is (λ later. find-first test xs x later)
  where
    by_test : (b : Bool) → test y ≡ b → cond b (Some y) (find test xs) ≡ Some x → (find test xs ≡ Some x → IsFirst test xs x) → IsFirst test (y ∷ xs) x
    by_test true passes here others =
        let same : y ≡ x = cc in
        record { front = []; back = xs; along = ap (λ z. z ∷ xs) same; fail = All-nil (λ z. test z ≡ false); passes = ap test (sym same) ∙ passes }
    by_test false fails later others =
        let rest : IsFirst test xs x = others later in
        record { front = y ∷ rest.front; back = rest.back; along = ap (λ zs. y ∷ zs) rest.along; fail = All-cons (λ z. test z ≡ false) y rest.front fails rest.fail; passes = rest.passes }

-- ---- the first broken link

-- the first link of a path that isn't an edge
pub record IsBroken (s : State) (path : List (ℕ × ℕ)) (link : Link) : Type 0 where
  pub front : List Link
  pub back : List Link
  pub along : links_of path ≡ front ++ link ∷ back
  pub stand : All (Edge s) front
  pub broken : Edge s link → ⊥

module _ (s : State) (made : ℕ) (kept : KeptTopsLaw s) (rows : RowsLaw s made) where
  edges : (links : List Link) → All (λ link. not (stands (shared s) link) ≡ false) links → All (Edge s) links
  edges links all = All-weaker (λ link. not (stands (shared s) link) ≡ false) (Edge s) (λ link is. stands-edge s made kept rows link (not-false (stands (shared s) link) is)) links all

  -- a path without one is of edges, and the other way round
  pub unbroken-edges : (path : List (ℕ × ℕ)) → first_broken (shared s) path ≡ None → All (Edge s) (links_of path)
  unbroken-edges path none = edges (links_of path) (find-none (λ link. not (stands (shared s) link)) (links_of path) none)

  pub edges-unbroken : (path : List (ℕ × ℕ)) → All (Edge s) (links_of path) → first_broken (shared s) path ≡ None
  edges-unbroken path all =
      none-find (λ link. not (stands (shared s) link)) (links_of path)
      (All-weaker (Edge s) (λ link. not (stands (shared s) link) ≡ false) (λ link edge. not_from_true (stands (shared s) link) (edge-stands s made kept rows link edge)) (links_of path) all)

  -- all before it are edges
  pub broken-named : (path : List (ℕ × ℕ)) (link : Link) → first_broken (shared s) path ≡ Some link → IsBroken s path link
  broken-named path link is =
      let first : IsFirst (λ other. not (stands (shared s) other)) (links_of path) link = find-first (λ other. not (stands (shared s) other)) (links_of path) link is in
      record {
        front = first.front;
        back = first.back;
        along = first.along;
        stand = edges first.front first.fail;
        broken = λ edge. let up : not (stands (shared s) link) ≡ false = not_from_true (stands (shared s) link) (edge-stands s made kept rows link edge) in let passes = first.passes in cc;
      }

  pub not-edges : (path : List (ℕ × ℕ)) (link : Link) → first_broken (shared s) path ≡ Some link → All (Edge s) (links_of path) → ⊥
  not-edges path link is all = let none = edges-unbroken path all in cc

-- ---- a path that is to be confirmed

module _ (s : State) (t : TaskId) (path : List (ℕ × ℕ)) (walks : WalksLaw s) (phase : (thread_part s t).phase ≡ Confirm path) where
  pub to-confirm : IsToConfirm (length s.threads) (length s.locks) t (present_lock (thread_part s t)) path
  to-confirm = subst (IsWalkOf (length s.threads) (length s.locks) t (present_lock (thread_part s t))) phase (walks t)

  -- where each link stands it is a cycle
  pub confirm-cycle : (made : ℕ) → KeptTopsLaw s → RowsLaw s made → first_broken (shared s) path ≡ None → IsCycle s path
  confirm-cycle made kept rows none = record { many = to-confirm.many; differ = to-confirm.differ; edges = unbroken-edges s made kept rows path none }

  -- which begins with the task
  pub confirm-begins : first_task t path ≡ t
  confirm-begins = by_path path to-confirm
    where
      by_path : (p : List (ℕ × ℕ)) → IsToConfirm (length s.threads) (length s.locks) t (present_lock (thread_part s t)) p → first_task t p ≡ t
      by_path [] is = refl
      by_path (pair ∷ rest) is = ap (λ (n : ℕ). record { 0 = n }) is.begins.0

-- ---- the first link of a cycle

-- the task is blocked on the lock, whose owner is the path's second task
pub record IsFirstLink (s : State) (path : List (ℕ × ℕ)) : Type 0 where
  pub lock : LockId
  pub owner : TaskId
  pub named : first_lock path ≡ Some lock
  pub leads : first_owner path ≡ Some owner
  pub edge : Edge s (record { from = first_task owner path; lock = lock; to = owner })

pub first-link : (s : State) (path : List (ℕ × ℕ)) → IsCycle s path → IsFirstLink s path
first-link s [] is = absurd (omega (arith, is.many))
first-link s (pair ∷ path) is =
    let to : TaskId = first_task (record { 0 = pair.0 }) path in
    record { lock = record { 0 = pair.1 }; owner = to; named = refl; leads = refl; edge = links-first (Edge s) pair path is.edges }
