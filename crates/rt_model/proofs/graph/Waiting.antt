-- At rest an effective priority is the task's own one, or the effective one of a task that leads to it; and it is no worse than
-- that of any task that leads to it.
use Rattle.std.proofs.Common.{◌≡◌, ◌⊎◌, inl, inr, ℕ, zero, suc, ◌<◌, ◌≤◌, min, Bool, true, false, cond, List, [], ◌∷◌, length, map, refl, sym, ap, ◌∙◌, subst, arith, All, IfSome, Option, Some, None, unwrap_or}
use Rattle.std.specs.Prelude.{slice_get, nat_eq, is_some, option_map}
use Rattle.std.proofs.lemmas.Bool.{cases_lt}
use Rattle.std.proofs.lemmas.List.Elements.{All-head, All-tail, All-cons, All-nil, All-append, All-map, All-weaker}
use Rattle.std.proofs.lemmas.Option.{slice_get_past}
use Rattle.rt_base.specs.declared.id.LockId.{LockId}
use Rattle.rt_base.specs.declared.id.TaskId.{TaskId}
use Rattle.rt_model.specs.declared.phase.Phase.{Phase}
use Rattle.rt_model.specs.declared.phase.Phase.TheVariants as phases
use Rattle.rt_model.specs.declared.row.Row.{Row}
use Rattle.rt_model.specs.Parts.{OwnerPart, TaskPart, least, effective_of}
use Rattle.rt_model.specs.Rows.{is_of, row_of, queued_key, task_of}
use Rattle.rt_model.specs.State.{State, free_lock, no_task, owner_part, task_part, thread_part}
use Rattle.rt_model.specs.Order.{in_walk}
use Rattle.rt_model.specs.Graph.{Leads}
use Rattle.rt_model.specs.laws.Keys.{StandsAt, IsConfirming, IsNamed}
use Rattle.rt_model.specs.laws.Lawful.{IsLawful}
use Rattle.rt_model.specs.laws.Owners.{owned_by}
use Rattle.rt_model.specs.laws.Priorities.{waiting_keys}
use Rattle.rt_model.specs.laws.Rest.{IsAtRest}
use Rattle.rt_model.specs.laws.Rows.{key_at}
use Rattle.rt_model.proofs.Numbers.{owner-is, number_itself}
use Rattle.rt_model.proofs.Queues.{find-holds, own-row}
use Rattle.rt_model.proofs.graph.Turned.{All-front, All-back}
use Rattle.rt_model.proofs.laws.Priorities.{priority-law}

-- ---- the least of a priority and keys: no more than each, and one of them

least-below : (prio : ℕ) (keys : List ℕ) → least prio keys ≤ prio
least-below prio [] = omega arith
least-below prio (key ∷ keys) = let rest : least prio keys ≤ prio = least-below prio keys in omega (arith, rest)

least-all : (prio : ℕ) (keys : List ℕ) → All (λ key. least prio keys ≤ key) keys
least-all prio [] = All-nil (λ key. prio ≤ key)
least-all prio (key ∷ keys) =
    All-cons (λ k. min key (least prio keys) ≤ k) key keys (omega arith)
    (All-weaker (λ k. least prio keys ≤ k) (λ k. min key (least prio keys) ≤ k) (λ k le. omega (arith, le)) keys (least-all prio keys))

min-one : (P : ℕ → Type 0) (i j : ℕ) → P i → P j → P (min i j)
min-one P i j here there = elim (cases_lt i j) [
  | inl less ↦ subst P (first less) here
  | inr more ↦ subst P (second more) there
]
  where
    first : i < j → i ≡ min i j
    first less = omega (arith, less)

    second : j ≤ i → j ≡ min i j
    second more = omega (arith, more)

least-one : (P : ℕ → Type 0) (prio : ℕ) (keys : List ℕ) → P prio → All P keys → P (least prio keys)
least-one P prio [] own all = own
least-one P prio (key ∷ keys) own all = min-one P key (least prio keys) (All-head P key keys all) (least-one P prio keys own (All-tail P key keys all))

-- ---- the keys of all who wait for what a task owns

abbrev keys_of : List Row → List ℕ
keys_of rows = map (λ (row : Row). row.key) rows

module _ (P : ℕ → Type 0) (t : TaskId) (d : OwnerPart) where
  -- what holds of the rows' keys at each lock that the task owns holds of each of them
  waiting-all : (locks : List OwnerPart)
      → ((i : ℕ) → owned_by (unwrap_or (slice_get locks i) d).owner t ≡ true → All (λ (row : Row). P row.key) (unwrap_or (slice_get locks i) d).rows) → All P (waiting_keys t locks)
  waiting-all [] each = All-nil P
  waiting-all (lock ∷ locks) each =
      All-append P (cond (owned_by lock.owner t) (keys_of lock.rows) []) (waiting_keys t locks) (here (owned_by lock.owner t) refl) (waiting-all locks (λ i owned. each (suc i) owned))
    where
      here : (b : Bool) → owned_by lock.owner t ≡ b → All P (cond b (keys_of lock.rows) [])
      here true is = All-map P (λ (row : Row). row.key) lock.rows (each 0 is)
      here false is = All-nil P

  -- and the other way round
  all-waiting : (locks : List OwnerPart) (i : ℕ) → owned_by d.owner t ≡ false → All P (waiting_keys t locks)
      → owned_by (unwrap_or (slice_get locks i) d).owner t ≡ true → All P (keys_of (unwrap_or (slice_get locks i) d).rows)
  all-waiting [] i none all owned = absurd cc
  all-waiting (lock ∷ locks) zero none all owned =
      subst (λ (b : Bool). All P (cond b (keys_of lock.rows) [])) owned (All-front P (cond (owned_by lock.owner t) (keys_of lock.rows) []) (waiting_keys t locks) all)
  all-waiting (lock ∷ locks) (suc i) none all owned =
      all-waiting locks i none (All-back P (cond (owned_by lock.owner t) (keys_of lock.rows) []) (waiting_keys t locks) all) owned

-- ---- a row and its task

-- what holds of all keys holds of the one with which a task is queued
queued-holds : (P : ℕ → Type 0) (t : TaskId) (rows : List Row) → All P (keys_of rows) → IfSome (queued_key t rows) P
queued-holds P t rows all = by_row (row_of t rows) (find-holds (λ (row : Row). P row.key) (is_of t) rows (of_rows rows all))
  where
    of_rows : (rs : List Row) → All P (keys_of rs) → All (λ (row : Row). P row.key) rs
    of_rows [] is = All-nil (λ (row : Row). P row.key)
    of_rows (r ∷ rs) is = All-cons (λ (row : Row). P row.key) r rs (All-head P r.key (keys_of rs) is) (of_rows rs (All-tail P r.key (keys_of rs) is))

    by_row : (row : Option Row) → IfSome row (λ (r : Row). P r.key) → IfSome (option_map (λ (r : Row). r.key) row) P
    by_row None is = tt
    by_row (Some r) is = is

-- ---- at rest no walk names a task, and each is queued with its effective priority

unnamed : (s : State) (t : TaskId) → IsAtRest s → IsNamed s t → ⊥
unnamed s t rest (inl at) = by_phase (thread_part s at.0).phase (rest at.0) at.1
  where
    by_phase : (phase : Phase) → in_walk phase ≡ false → StandsAt t phase → ⊥
    by_phase (phases.Walk cursor route) none stands = absurd cc
    by_phase _ none stands = stands
unnamed s t rest (inr confirms) = by_phase (thread_part s t).phase (rest t) confirms
  where
    by_phase : (phase : Phase) → in_walk phase ≡ false → IsConfirming phase → ⊥
    by_phase (phases.Confirm path) none is = absurd cc
    by_phase _ none is = is

-- the key with which a task is blocked on a lock, where its key is this priority
key-is : (at : Option (LockId × ℕ)) (l : LockId) (prio : ℕ) → IfSome at (λ a. a.1 ≡ prio) → is_some (key_at at l) ≡ true → key_at at l ≡ Some prio
key-is None l prio is some = absurd cc
key-is (Some at) l prio is some = by_test (nat_eq at.0.0 l.0) some
  where
    by_test : (b : Bool) → is_some (cond b (Some at.1) None) ≡ true → cond b (Some at.1) None ≡ Some prio
    by_test true some = ap Some is
    by_test false some = absurd cc

-- the priority is the effective one of a task that leads here
pub record IsBehind (s : State) (t : TaskId) (prio : ℕ) : Type 0 where
  pub task : TaskId
  pub leads : Leads s task t
  pub is : prio ≡ effective_of (task_part s task)

module _ (s : State) (made : ℕ) (lawful : IsLawful s made) where
  -- a task that isn't there is right, too
  effective-right : (t : TaskId) → effective_of (task_part s t) ≡ least (task_part s t).own (waiting_keys t s.locks)
  effective-right t = elim (cases_lt t.0 (length s.tasks)) [
    | inl there ↦ (priority-law s made lawful t there).effective
    | inr past ↦ subst (λ (task : TaskPart). effective_of task ≡ least task.own (waiting_keys t s.locks)) (ap (λ (o : Option TaskPart). unwrap_or o no_task) (sym (slice_get_past s.tasks t.0 past))) nobody
  ]
    where
      nobody : effective_of no_task ≡ least 0 (waiting_keys t s.locks)
      nobody = let zero : least 0 (waiting_keys t s.locks) ≤ 0 = least-below 0 (waiting_keys t s.locks) in omega (arith, zero)

  pub effective-own : (t : TaskId) → effective_of (task_part s t) ≤ (task_part s t).own
  effective-own t = subst (λ (prio : ℕ). prio ≤ (task_part s t).own) (sym (effective-right t)) (least-below (task_part s t).own (waiting_keys t s.locks))

  module _ (rest : IsAtRest s) where
    settled : (t : TaskId) → IfSome (task_part s t).blocked (λ at. at.1 ≡ effective_of (task_part s t))
    settled t = lawful.keys t (unnamed s t rest)

    -- the key with which a task is queued where an edge leads from it
    queued : (u : TaskId) (l : LockId) → is_some (queued_key u (owner_part s l).rows) ≡ true → queued_key u (owner_part s l).rows ≡ Some (effective_of (task_part s u))
    queued u l some = lawful.rows.rows l u ∙ key-is (task_part s u).blocked l (effective_of (task_part s u)) (settled u) (ap (λ (o : Option ℕ). is_some o) (sym (lawful.rows.rows l u)) ∙ some)

    pub leads-falls : (u t : TaskId) → Leads s u t → effective_of (task_part s t) ≤ effective_of (task_part s u)
    leads-falls u t (l, edge) =
        let owned : owned_by (owner_part s l).owner t ≡ true = ap (λ (o : Option TaskId). owned_by o t) edge.owned ∙ number_itself t.0 in
        let keys : All (λ key. effective_of (task_part s t) ≤ key) (waiting_keys t s.locks) =
        subst (λ (prio : ℕ). All (λ key. prio ≤ key) (waiting_keys t s.locks)) (sym (effective-right t)) (least-all (task_part s t).own (waiting_keys t s.locks)) in
        let some : is_some (queued_key u (owner_part s l).rows) ≡ true = ap (λ (o : Option ℕ). is_some o) (lawful.rows.rows l u) ∙ edge.blocked in
        subst (λ (o : Option ℕ). IfSome o (λ key. effective_of (task_part s t) ≤ key)) (queued u l some)
        (queued-holds (λ key. effective_of (task_part s t) ≤ key) u (owner_part s l).rows (all-waiting (λ key. effective_of (task_part s t) ≤ key) t free_lock s.locks l.0 refl keys owned))

    pub own-or-behind : (t : TaskId) → (effective_of (task_part s t) ≡ (task_part s t).own) ⊎ IsBehind s t (effective_of (task_part s t))
    own-or-behind t = subst One (sym (effective-right t)) (least-one One (task_part s t).own (waiting_keys t s.locks) (inl refl) (waiting-all One t free_lock s.locks behind))
      where
        One : ℕ → Type 0
        One prio = (prio ≡ (task_part s t).own) ⊎ IsBehind s t prio

        -- a row at a lock that the task owns is of a task that leads to it
        of_row : (l : LockId) (row : Row) → owned_by (owner_part s l).owner t ≡ true → queued_key (task_of row) (owner_part s l).rows ≡ Some row.key → One row.key
        of_row l row owned is =
            let u : TaskId = task_of row in
            let some : is_some (queued_key u (owner_part s l).rows) ≡ true = ap (λ (o : Option ℕ). is_some o) is in
            let blocked : is_some (key_at (task_part s u).blocked l) ≡ true = ap (λ (o : Option ℕ). is_some o) (sym (lawful.rows.rows l u)) ∙ some in
            let key : row.key ≡ effective_of (task_part s u) = (let there = queued u l some in cc) in
            inr (record { task = u; leads = (l, record { blocked = blocked; owned = owner-is (owner_part s l).owner t owned }); is = key })

        behind : (i : ℕ) → owned_by (unwrap_or (slice_get s.locks i) free_lock).owner t ≡ true → All (λ (row : Row). One row.key) (unwrap_or (slice_get s.locks i) free_lock).rows
        behind i owned =
            let rows : List Row = (unwrap_or (slice_get s.locks i) free_lock).rows in
            All-weaker (λ (row : Row). queued_key (task_of row) rows ≡ Some row.key) (λ (row : Row). One row.key) (λ row is. of_row (record { 0 = i }) row owned is) rows
            (own-row rows (lawful.rows.queue (record { 0 = i })).order)
