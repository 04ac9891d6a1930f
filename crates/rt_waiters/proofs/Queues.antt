-- Queues as rows come and go: each row is of another task, so there is room for one more.
use Rattle.std.specs.Prelude.{IsSome, Option}
use Rattle.std.proofs.lemmas.List.Kept.{AllPairs-filter}
use Rattle.std.proofs.Common.{◌≡◌, ◌≢◌, All, ℕ, ◌<◌, ◌≤◌, Bool, true, false, cond, eqb, not, List, [], ◌∷◌, length, map, suc, sym, ap, subst, ◌∙◌, Some, None, refl, ⊎_elim, arith}
use Rattle.std.specs.List.{IsDistinct, list_any, AllByRecursion}
use Rattle.std.proofs.lemmas.Bool.{cond_both, ne_eqb, eqb-false, eqb-true, or_cases, true≢false}
use Rattle.std.proofs.lemmas.List.Elements.{All-nil, All-cons, All-head, All-tail}
use Rattle.std.proofs.lemmas.Map.Steps.{length-le_from_distinct_below}
use Rattle.rt_base.specs.declared.id.TaskId.{TaskId}
use Rattle.rt_model.specs.declared.row.Row.{Row}
use Rattle.rt_model.specs.Rows.{task_of, is_of, row_of, goes_before, insert_row, without}
use Rattle.rt_model.specs.laws.Rows.{IsAhead}
use Rattle.rt_model.proofs.Numbers.{at_each_task, same_number, other_number}
use Rattle.rt_model.proofs.Queues.{IsApart, insert_order, row_of-insert_other, row_of-without, row_of-without_other}
use Rattle.rt_waiters.specs.Queue.{AreQueued, IsQueued}

-- ---- each row is of another task

-- a row of another task is passed over
row_of-after : (t : TaskId) (row : Row) (rows : List Row) → is_of t row ≡ false → row_of t (row ∷ rows) ≡ row_of t rows
row_of-after t row rows is = ap (λ (b : Bool). cond b (Some row) (row_of t rows)) is

-- a task without row is none of those of the rows
absent-head : (t : TaskId) (row : Row) (rows : List Row) → row_of t (row ∷ rows) ≡ None → is_of t row ≡ false
absent-head t row rows none = cases_bool (is_of t row) refl none
  where
    cases_bool : (b : Bool) → b ≡ is_of t row → cond b (Some row) (row_of t rows) ≡ None → b ≡ false
    cases_bool true is gone = cc
    cases_bool false is gone = refl

absent-tail : (t : TaskId) (row : Row) (rows : List Row) → row_of t (row ∷ rows) ≡ None → row_of t rows ≡ None
absent-tail t row rows none = sym (row_of-after t row rows (absent-head t row rows none)) ∙ none

-- and stays without row when another's comes, or one goes
absent-insert : (t : TaskId) (row : Row) (rows : List Row) → is_of t row ≡ false → row_of t rows ≡ None → row_of t (insert_row row rows) ≡ None
absent-insert t row rows is none = row_of-insert_other t row rows is ∙ none

absent-without : (t u : TaskId) (rows : List Row) → row_of t rows ≡ None → row_of t (without u rows) ≡ None
absent-without t u rows none =
    at_each_task (λ v. row_of v rows ≡ None → row_of v (without u rows) ≡ None) u t (λ gone. row_of-without u rows) (λ other gone. row_of-without_other u t rows other ∙ gone) none

eqb-flip : (m n : ℕ) → eqb m n ≡ false → eqb n m ≡ false
eqb-flip m n is = ne_eqb n m (λ same. eqb-false m n is (sym same))

-- rows stay of different tasks when one comes, and when one goes
AreQueued-insert : (room : ℕ) (row : Row) (rows : List Row) → row.who < room → row_of (record { 0 = row.who }) rows ≡ None → AreQueued room rows → AreQueued room (insert_row row rows)
AreQueued-insert room row [] lt none all = (lt, none, tt)
AreQueued-insert room row (other ∷ rows) lt none all =
    cond_both (goes_before row other) (row ∷ other ∷ rows) (other ∷ insert_row row rows) (AreQueued room)
    (λ _. (lt, none, all))
    (λ _. (all.0, absent-insert (record { 0 = other.who }) row rows (eqb-flip other.who row.who (absent-head (record { 0 = row.who }) other rows none)) all.1, AreQueued-insert room row rows lt (absent-tail (record { 0 = row.who }) other rows none) all.2))

AreQueued-without : (room : ℕ) (u : TaskId) (rows : List Row) → AreQueued room rows → AreQueued room (without u rows)
AreQueued-without room u [] all = all
AreQueued-without room u (row ∷ rows) all =
    cond_both (not (is_of u row)) (row ∷ without u rows) (without u rows) (AreQueued room)
    (λ _. (all.0, absent-without (record { 0 = row.who }) u rows all.1, AreQueued-without room u rows all.2))
    (λ _. AreQueued-without room u rows all.2)

-- ---- so there is room for one more

abbrev whos : List Row → List ℕ
whos rows = map (λ (row : Row). row.who) rows

whos-apart : (t : TaskId) (rows : List Row) → row_of t rows ≡ None → AllByRecursion (λ (who : ℕ). eqb t.0 who ≡ false) (whos rows)
whos-apart t [] none = tt
whos-apart t (row ∷ rows) none = (eqb-flip row.who t.0 (absent-head t row rows none), whos-apart t rows (absent-tail t row rows none))

whos-distinct : (room : ℕ) (rows : List Row) → AreQueued room rows → IsDistinct eqb (whos rows)
unfolding IsDistinct
whos-distinct room [] all = tt
whos-distinct room (row ∷ rows) all = (whos-apart (record { 0 = row.who }) rows all.1, whos-distinct room rows all.2)

whos-below : (room : ℕ) (rows : List Row) → AreQueued room rows → (q : ℕ) → list_any (eqb q) (whos rows) ≡ true → q < room
whos-below room [] all q is = absurd (true≢false (sym is))
whos-below room (row ∷ rows) all q is =
    ⊎_elim (λ (here : eqb q row.who ≡ true). let same = eqb-true q row.who here in let lt = all.0 in omega arith)
    (λ (later : list_any (eqb q) (whos rows) ≡ true). whos-below room rows all.2 q later)
    (or_cases (eqb q row.who) (list_any (eqb q) (whos rows)) is)

length-whos : (rows : List Row) → length (whos rows) ≡ length rows
length-whos [] = refl
length-whos (row ∷ rows) = ap suc (length-whos rows)

-- no more rows than there is room
pub few_rows : (room : ℕ) (rows : List Row) → AreQueued room rows → length rows ≤ room
few_rows room rows all =
    let most = length-le_from_distinct_below (whos rows) room (whos-distinct room rows all) (whos-below room rows all) in
    let long = length-whos rows in
    omega arith

pub room_for : (room who : ℕ) (rows : List Row) → who < room → row_of (record { 0 = who }) rows ≡ None → AreQueued room rows → length rows < room
unfolding IsDistinct
room_for room who rows lt none all =
    let distinct : IsDistinct eqb (who ∷ whos rows) = (whos-apart (record { 0 = who }) rows none, whos-distinct room rows all) in
    let below : (q : ℕ) → list_any (eqb q) (who ∷ whos rows) ≡ true → q < room = λ q is.
    ⊎_elim (λ (here : eqb q who ≡ true). let same = eqb-true q who here in omega arith)
    (λ (later : list_any (eqb q) (whos rows) ≡ true). whos-below room rows all q later)
    (or_cases (eqb q who) (list_any (eqb q) (whos rows)) is) in
    let most = length-le_from_distinct_below (who ∷ whos rows) room distinct below in
    let long = length-whos rows in
    omega arith

-- a row of a task that isn't queued, with a ticket that no row has, is apart from all
apart_from : (row : Row) (rows : List Row) → row_of (record { 0 = row.who }) rows ≡ None → All (λ (r : Row). r.ticket ≢ row.ticket) rows → All (IsApart row) rows
apart_from row [] none fresh = All-nil (IsApart row)
apart_from row (other ∷ rows) none fresh =
    let here : is_of (record { 0 = row.who }) other ≡ false = absent-head (record { 0 = row.who }) other rows none in
    All-cons (IsApart row) other rows
    (record { task = λ same. other_number other.who row.who here (sym same); ticket = λ same. All-head (λ (r : Row). r.ticket ≢ row.ticket) other rows fresh (sym same) })
    (apart_from row rows (absent-tail (record { 0 = row.who }) other rows none) (All-tail (λ (r : Row). r.ticket ≢ row.ticket) other rows fresh))

-- ---- a queue stays one

pub queued-insert : (room : ℕ) (row : Row) (rows new : List Row) → new ≡ insert_row row rows → row.who < room → row_of (task_of row) rows ≡ None → All (λ (r : Row). r.ticket ≢ row.ticket) rows
    → IsQueued room rows → IsQueued room new
queued-insert room row rows new same lt none fresh is = subst (IsQueued room) (sym same) (record {
  tasks = AreQueued-insert room row rows lt none is.tasks;
  order = insert_order row rows (apart_from row rows none fresh) is.order;
})

pub queued-without : (room : ℕ) (u : TaskId) (rows new : List Row) → new ≡ without u rows → IsQueued room rows → IsQueued room new
queued-without room u rows new same is = subst (IsQueued room) (sym same) (record {
  tasks = AreQueued-without room u rows is.tasks;
  order = AllPairs-filter IsAhead (λ row. not (is_of u row)) rows is.order;
})

-- a queued task is below the room
pub below_room : (room : ℕ) (t : TaskId) (rows : List Row) → IsSome (row_of t rows) → AreQueued room rows → t.0 < room
below_room room t [] some all = cc
below_room room t (row ∷ rows) some all =
    cond_both (is_of t row) (Some row) (row_of t rows) (λ (o : Option Row). IsSome o → t.0 < room)
    (λ is. λ here. let same = same_number row.who t.0 is in let lt = all.0 in omega arith)
    (λ is. λ there. below_room room t rows there all.2)
    some

-- what is left without a task's row is no more than there was
pub fewer : (u : TaskId) (rows : List Row) → length (without u rows) ≤ length rows
fewer u [] = omega arith
fewer u (row ∷ rows) =
    let rest = fewer u rows in
    cond_both (not (is_of u row)) (row ∷ without u rows) (without u rows) (λ (rs : List Row). length rs ≤ length (row ∷ rows)) (λ is. omega arith) (λ is. omega arith)
