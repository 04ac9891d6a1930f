-- In a lawful state every priority is right.
use Rattle.std.proofs.Common.{◌≡◌, ℕ, suc, min, Bool, true, false, cond, List, [], ◌∷◌, ◌++◌, length, map, refl, sym, ap, subst, ◌∙◌, Option, Some, None, IfSome, unwrap_or, arith}
use Rattle.std.specs.Prelude.{slice_get, nat_eq}
use Rattle.rt_base.specs.declared.id.LockId.{LockId}
use Rattle.rt_base.specs.declared.id.TaskId.{TaskId}
use Rattle.rt_model.specs.declared.row.Row.{Row}
use Rattle.rt_model.specs.Parts.{OwnerPart, TaskPart, least, effective_of, keys_in}
use Rattle.rt_model.specs.Rows.{top_key}
use Rattle.rt_model.specs.State.{State, task_part}
use Rattle.rt_model.specs.laws.Lawful.{IsLawful}
use Rattle.rt_model.specs.laws.Owners.{owned_by}
use Rattle.rt_model.specs.laws.Rows.{key_at}
use Rattle.rt_model.specs.laws.Priorities.{waiting_keys, PriorityLaw}
use Rattle.rt_model.proofs.Lists.{All-default}
use Rattle.rt_model.proofs.Queues.{key_with, top_key-cons}

abbrev keys_of : List Row → List ℕ
keys_of rows = map (λ (row : Row). row.key) rows

-- keys after others
least-append : (prio : ℕ) (xs ys : List ℕ) → least prio (xs ++ ys) ≡ least (least prio ys) xs
least-append prio [] ys = refl
least-append prio (x ∷ xs) ys = ap (min x) (least-append prio xs ys)

-- ---- one lock: the key of its top waiter stands for all who wait, in whatever order

min-with : (base key : ℕ) (o : Option ℕ) → min (key_with key o) base ≡ min key (least base (keys_in (o ∷ [])))
min-with base key None = refl
min-with base key (Some other) = omega arith

least-rows : (base : ℕ) (rows : List Row) → least base (keys_in (top_key rows ∷ [])) ≡ least base (keys_of rows)
least-rows base [] = refl
least-rows base (row ∷ rows) = ap (λ (o : Option ℕ). least base (keys_in (o ∷ []))) (top_key-cons row rows) ∙ (min-with base row.key (top_key rows) ∙ ap (min row.key) (least-rows base rows))

least-lock : (base : ℕ) (owns : Bool) (rows : List Row) → least base (keys_in (cond owns (top_key rows) None ∷ [])) ≡ least base (cond owns (keys_of rows) [])
least-lock base false rows = refl
least-lock base true rows = least-rows base rows

-- ---- all locks: the kept tops stand for all who wait

-- what a task keeps of one lock
abbrev kept_here : TaskId → OwnerPart → Option ℕ
kept_here t lock = cond (owned_by lock.owner t) (top_key lock.rows) None

least-cons : (own : ℕ) (top : Option ℕ) (kept : List (Option ℕ)) → least own (keys_in (top ∷ kept)) ≡ least (least own (keys_in kept)) (keys_in (top ∷ []))
least-cons own None kept = refl
least-cons own (Some key) kept = refl

least-kept : (t : TaskId) (own : ℕ) (kept : List (Option ℕ)) (locks : List OwnerPart) (d : OwnerPart) → length kept ≡ length locks
    → ((i : ℕ) → unwrap_or (slice_get kept i) None ≡ kept_here t (unwrap_or (slice_get locks i) d)) → least own (keys_in kept) ≡ least own (waiting_keys t locks)
least-kept t own [] [] d same pairs = refl
least-kept t own [] (lock ∷ locks) d same pairs = absurd (omega arith)
least-kept t own (top ∷ kept) [] d same pairs = absurd (omega arith)
least-kept t own (top ∷ kept) (lock ∷ locks) d same pairs =
    let rest : least own (keys_in kept) ≡ least own (waiting_keys t locks) = least-kept t own kept locks d (omega arith) (λ i. pairs (suc i)) in
    let here : top ≡ kept_here t lock = pairs 0 in
    least-cons own top kept
    ∙ ((λ i. least (rest i) (keys_in (here i ∷ [])))
    ∙ (least-lock (least own (waiting_keys t locks)) (owned_by lock.owner t) lock.rows
    ∙ sym (least-append own (cond (owned_by lock.owner t) (keys_of lock.rows) []) (waiting_keys t locks))))

-- ---- the row of a task has the key with which it is blocked

row_key : (blocked : Option (LockId × ℕ)) (l : LockId) (prio : ℕ) → IfSome blocked (λ at. at.1 ≡ prio) → IfSome (key_at blocked l) (λ key. key ≡ prio)
row_key None l prio is = tt
row_key (Some at) l prio is = by_test (nat_eq at.0.0 l.0)
  where
    by_test : (b : Bool) → IfSome (cond b (Some at.1) None) (λ key. key ≡ prio)
    by_test true = is
    by_test false = tt

-- every priority is right
pub priority-law : (s : State) (made : ℕ) → IsLawful s made → PriorityLaw s
priority-law s made lawful = λ t lt. record {
  effective = least-kept t (task_part s t).own (task_part s t).kept s.locks _ (All-default (λ (task : TaskPart). length task.kept ≡ length s.locks) s.tasks t.0 _ lawful.shape.kept lt) (λ i. lawful.kept (record { 0 = i }) t);
  key = lawful.keys t;
  row = λ unnamed l. subst (λ (key : Option ℕ). IfSome key (λ k. k ≡ effective_of (task_part s t))) (sym (lawful.rows.rows l t)) (row_key (task_part s t).blocked l (effective_of (task_part s t)) (lawful.keys t unnamed));
}
