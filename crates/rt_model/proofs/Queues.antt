-- The rows of a lock, as one comes or goes, and who may take the lock.
use Rattle.std.proofs.Common.{◌≡◌, ◌≢◌, ◌+◌, suc, true, false, cond, not, List, [], ◌∷◌, refl, sym, ap, ◌∙◌, arith, Option, Some, None, All, IfSome, subst, ℕ, ◌<◌, ◌≤◌, min, Bool, unwrap_or}
use Rattle.std.specs.Prelude.{AllPairs, slice_index_or, nat_eq, option_map, nat_lt, is_some, find, filter}
use Rattle.std.proofs.lemmas.Bool.{cond_both, not-true, not-false}
use Rattle.std.proofs.lemmas.Bool.Decides.{nat_tests}
use Rattle.std.proofs.lemmas.List.Elements.{All-nil, All-head, All-tail, All-cons, All-filter, All-weaker}
use Rattle.std.proofs.lemmas.List.Kept.{AllPairs-cons, AllPairs-filter}
use Rattle.rt_base.specs.declared.id.LockId.{LockId}
use Rattle.rt_base.specs.declared.id.TaskId.{TaskId}
use Rattle.rt_base.specs.declared.kind.Kind.{Kind}
use Rattle.rt_model.specs.declared.row.Row.{Row}
use Rattle.rt_model.specs.Rows.{top_waiter, top_key, task_of, better_of, is_of, row_of, queued_key, goes_before, insert_row, without, has_rows, same_row, same_top, top_changed, can_take, asked_key, reason_among, reason_before}
use Rattle.rt_model.specs.laws.Rows.{IsAhead, IsQueue}
use Rattle.rt_model.specs.Parts.{OwnerPart, TaskPart, effective_of}
use Rattle.rt_model.specs.steps.Lock.{requeued}
use Rattle.rt_model.specs.steps.Chain.{has_old_key, requeued_where_old}
use Rattle.rt_model.proofs.Lists.{All-both}
use Rattle.rt_model.proofs.Numbers.{other_number, number_itself}
use Rattle.rt_model.proofs.CellStepLemmas.{right_key}
use Rattle.rt_model.specs.declared.reason.Reason.{Reason}
use Rattle.rt_model.specs.declared.reason.Reason.TheVariants as reasons

pub AllPairs-head : {X : Type 0} (R : X → X → Type 0) (x : X) (xs : List X) → AllPairs R (x ∷ xs) → All (R x) xs
AllPairs-head R x xs all = λ k d lt. all 0 (suc k) d (omega arith) (omega arith)

pub AllPairs-tail : {X : Type 0} (R : X → X → Type 0) (x : X) (xs : List X) → AllPairs R (x ∷ xs) → AllPairs R xs
AllPairs-tail R x xs all = λ i j d lt below. all (suc i) (suc j) d (omega arith) (omega arith)

-- ---- the order

-- of two rows with two tickets one goes before the other
other_first : (row other : Row) → row.ticket ≢ other.ticket → goes_before row other ≡ false → goes_before other row ≡ true
other_first row other ne is = grind (arith, nat_tests)

first_of_three : (a b c : Row) → goes_before a b ≡ true → goes_before b c ≡ true → goes_before a c ≡ true
first_of_three a b c first second = grind (arith, nat_tests)

-- two rows are of two tasks and have two tickets
pub record IsApart (row other : Row) : Type 0 where
  pub task : row.who ≢ other.who
  pub ticket : row.ticket ≢ other.ticket

-- what holds of a row and of the rows holds with the row among them
pub All-insert_row : (P : Row → Type 0) (row : Row) (rows : List Row) → P row → All P rows → All P (insert_row row rows)
All-insert_row P row [] here all = All-cons P row [] here all
All-insert_row P row (other ∷ rows) here all =
    cond_both (goes_before row other) (row ∷ other ∷ rows) (other ∷ insert_row row rows) (All P)
    (λ is. All-cons P row (other ∷ rows) here all)
    (λ is. All-cons P other (insert_row row rows) (All-head P other rows all) (All-insert_row P row rows here (All-tail P other rows all)))

-- rows stay in order with one more
pub insert_order : (row : Row) (rows : List Row) → All (IsApart row) rows → AllPairs IsAhead rows → AllPairs IsAhead (insert_row row rows)
insert_order row [] apart order = AllPairs-cons IsAhead row [] (All-nil (IsAhead row)) order
insert_order row (other ∷ rows) apart order =
    let here : IsApart row other = All-head (IsApart row) other rows apart in
    let later : All (IsAhead other) rows = AllPairs-head IsAhead other rows order in
    let rest : All (IsApart row) rows = All-tail (IsApart row) other rows apart in
    cond_both (goes_before row other) (row ∷ other ∷ rows) (other ∷ insert_row row rows) (AllPairs IsAhead)
    (λ is. AllPairs-cons IsAhead row (other ∷ rows)
    (All-cons (IsAhead row) other rows (record { order = is; task = here.task; ticket = here.ticket })
    (λ k d lt. record { order = first_of_three row other (slice_index_or rows k d) is (later k d lt).order; task = (rest k d lt).task; ticket = (rest k d lt).ticket }))
    order)
    (λ is. AllPairs-cons IsAhead other (insert_row row rows)
    (All-insert_row (IsAhead other) row rows (record { order = other_first row other here.ticket is; task = λ same. here.task (sym same); ticket = λ same. here.ticket (sym same) }) later)
    (insert_order row rows rest (AllPairs-tail IsAhead other rows order)))

-- ---- a task's row

-- a task that isn't queued has no row
pub none_of : (t : TaskId) (rows : List Row) → queued_key t rows ≡ None → All (λ (row : Row). is_of t row ≡ false) rows
none_of t [] none = All-nil (λ (row : Row). is_of t row ≡ false)
none_of t (row ∷ rows) none =
    cond_both (is_of t row) (Some row) (row_of t rows) (λ (o : Option Row). option_map (λ (r : Row). r.key) o ≡ None → All (λ (r : Row). is_of t r ≡ false) (row ∷ rows))
    (λ is some. absurd cc)
    (λ is rest. All-cons (λ (r : Row). is_of t r ≡ false) row rows is (none_of t rows rest))
    none

-- the row that comes is its task's
pub row_of-insert : (t : TaskId) (row : Row) (rows : List Row) → is_of t row ≡ true → All (λ (r : Row). is_of t r ≡ false) rows → row_of t (insert_row row rows) ≡ Some row
row_of-insert t row [] mine none = rw mine refl
row_of-insert t row (other ∷ rows) mine none =
    let others : is_of t other ≡ false = All-head (λ (r : Row). is_of t r ≡ false) other rows none in
    cond_both (goes_before row other) (row ∷ other ∷ rows) (other ∷ insert_row row rows) (λ (rs : List Row). row_of t rs ≡ Some row)
    (λ is. rw mine refl)
    (λ is. rw others (row_of-insert t row rows mine (All-tail (λ (r : Row). is_of t r ≡ false) other rows none)))

-- and of no other
pub row_of-insert_other : (t : TaskId) (row : Row) (rows : List Row) → is_of t row ≡ false → row_of t (insert_row row rows) ≡ row_of t rows
row_of-insert_other t row [] other = rw other refl
row_of-insert_other t row (first ∷ rows) other =
    cond_both (goes_before row first) (row ∷ first ∷ rows) (first ∷ insert_row row rows) (λ (rs : List Row). row_of t rs ≡ row_of t (first ∷ rows))
    (λ is. rw other refl)
    (λ is. ap (λ (o : Option Row). cond (is_of t first) (Some first) o) (row_of-insert_other t row rows other))

-- a task whose row went has none
pub row_of-without : (t : TaskId) (rows : List Row) → row_of t (without t rows) ≡ None
row_of-without t [] = refl
row_of-without t (row ∷ rows) =
    cond_both (not (is_of t row)) (row ∷ without t rows) (without t rows) (λ (rs : List Row). row_of t rs ≡ None)
    (λ is. let mine : is_of t row ≡ false = not-true (is_of t row) is in rw mine (row_of-without t rows))
    (λ is. row_of-without t rows)

not_both : (t u : TaskId) (row : Row) → nat_eq t.0 u.0 ≡ false → is_of t row ≡ true → is_of u row ≡ false
not_both t u row ne is = grind (arith, nat_tests)

other_who : (row other : Row) → row.who ≢ other.who → is_of (task_of other) row ≡ false
other_who row other ne = grind (arith, nat_tests)

-- each row is the one with which its task is queued
pub own-row : (rows : List Row) → AllPairs IsAhead rows → All (λ (row : Row). queued_key (task_of row) rows ≡ Some row.key) rows
own-row [] order = All-nil (λ (row : Row). queued_key (task_of row) [] ≡ Some row.key)
own-row (first ∷ rows) order =
    All-cons (λ (row : Row). queued_key (task_of row) (first ∷ rows) ≡ Some row.key) first rows (rw (number_itself first.who) refl)
    (All-both (IsAhead first) (λ (row : Row). queued_key (task_of row) rows ≡ Some row.key) (λ (row : Row). queued_key (task_of row) (first ∷ rows) ≡ Some row.key)
    (λ row ahead is. rw (other_who first row ahead.task) is) rows (AllPairs-head IsAhead first rows order) (own-row rows (AllPairs-tail IsAhead first rows order)))

-- any other task has the row that it had
pub row_of-without_other : (t u : TaskId) (rows : List Row) → nat_eq t.0 u.0 ≡ false → row_of u (without t rows) ≡ row_of u rows
row_of-without_other t u [] ne = refl
row_of-without_other t u (row ∷ rows) ne =
    cond_both (not (is_of t row)) (row ∷ without t rows) (without t rows) (λ (rs : List Row). row_of u rs ≡ row_of u (row ∷ rows))
    (λ is. ap (λ (o : Option Row). cond (is_of u row) (Some row) o) (row_of-without_other t u rows ne))
    (λ is. let others : is_of u row ≡ false = not_both t u row ne (not-false (is_of t row) is) in rw others (row_of-without_other t u rows ne))

-- ---- the top

-- the bit that says that nobody is queued
pub no_rows : (rows : List Row) → has_rows rows ≡ false → rows ≡ []
no_rows [] is = refl
no_rows (row ∷ rows) is = cc

-- what holds of each row holds of the top waiter
better-holds : (P : Row → Type 0) (row : Row) (other : Option Row) → P row → IfSome other P → P (better_of row other)
better-holds P row None here rest = here
better-holds P row (Some other) here rest = cond_both (goes_before other row) other row P (λ is. rest) (λ is. here)

pub top-holds : (P : Row → Type 0) (rows : List Row) → All P rows → IfSome (top_waiter rows) P
top-holds P [] all = tt
top-holds P (row ∷ rows) all = better-holds P row (top_waiter rows) (All-head P row rows all) (top-holds P rows (All-tail P row rows all))

-- the top key, in whatever order they stand
abbrev pub key_with : ℕ → Option ℕ → ℕ
key_with key None = key
key_with key (Some other) = min key other

better-key : (row : Row) (other : Option Row) → (better_of row other).key ≡ key_with row.key (option_map (λ (r : Row). r.key) other)
better-key row None = refl
better-key row (Some other) = cond_both (goes_before other row) other row (λ (r : Row). r.key ≡ min row.key other.key) (λ is. greater is) (λ is. less is)
  where
    greater : goes_before other row ≡ true → other.key ≡ min row.key other.key
    greater is = let le : other.key ≤ row.key = grind (arith, nat_tests) in omega (arith, le)

    less : goes_before other row ≡ false → row.key ≡ min row.key other.key
    less is = let le : row.key ≤ other.key = grind (arith, nat_tests) in omega (arith, le)

pub top_key-cons : (row : Row) (rows : List Row) → top_key (row ∷ rows) ≡ Some (key_with row.key (top_key rows))
top_key-cons row rows = ap Some (better-key row (top_waiter rows))

key_with-swap : (j k : ℕ) (o : Option ℕ) → key_with j (Some (key_with k o)) ≡ key_with k (Some (key_with j o))
key_with-swap j k None = omega arith
key_with-swap j k (Some o) = omega arith

pub top_key-insert : (row : Row) (rows : List Row) → top_key (insert_row row rows) ≡ Some (key_with row.key (top_key rows))
top_key-insert row [] = refl
top_key-insert row (other ∷ rows) =
    cond_both (goes_before row other) (row ∷ other ∷ rows) (other ∷ insert_row row rows) (λ (rs : List Row). top_key rs ≡ Some (key_with row.key (top_key (other ∷ rows))))
    (λ is. top_key-cons row (other ∷ rows))
    (λ is. top_key-cons other (insert_row row rows) ∙ (ap (λ (o : Option ℕ). Some (key_with other.key o)) (top_key-insert row rows)
    ∙ (ap Some (key_with-swap other.key row.key (top_key rows)) ∙ ap (λ (o : Option ℕ). Some (key_with row.key o)) (sym (top_key-cons other rows)))))

-- of rows in order it is the first
abbrev pub first_row : List Row → Option Row
first_row [] = None
first_row (row ∷ rows) = Some row

not_before : (row other : Row) → goes_before row other ≡ true → goes_before other row ≡ false
not_before row other is = grind (arith, nat_tests)

better-ahead : (row : Row) (other : Option Row) → IfSome other (IsAhead row) → better_of row other ≡ row
better-ahead row None ahead = refl
better-ahead row (Some other) ahead = rw (not_before row other ahead.order) refl

pub top-first : (rows : List Row) → AllPairs IsAhead rows → top_waiter rows ≡ first_row rows
top-first [] order = refl
top-first (row ∷ rows) order = ap Some (better-ahead row (top_waiter rows) (top-holds (IsAhead row) rows (AllPairs-head IsAhead row rows order)))

-- a row that doesn't go before the top waiter leaves it
pub top-insert : (row top : Row) (rows : List Row) → goes_before row top ≡ false → All (IsApart row) (top ∷ rows) → AllPairs IsAhead (top ∷ rows) → top_waiter (insert_row row (top ∷ rows)) ≡ Some top
top-insert row top rows is apart order = top-first (insert_row row (top ∷ rows)) (insert_order row (top ∷ rows) apart order) ∙ rw is refl

pub top-at : (P : Row → Type 0) (rows : List Row) (row : Row) → All P rows → top_waiter rows ≡ Some row → P row
top-at P rows row all is = subst (λ (o : Option Row). IfSome o P) is (top-holds P rows all)

-- what holds of each holds of the first that passes a test
pub find-holds : {X : Type 0} (P : X → Type 0) (test : X → Bool) (xs : List X) → All P xs → IfSome (find test xs) P
find-holds P test [] all = tt
find-holds {X} P test (x ∷ xs) all =
    cond_both (test x) (Some x) (find test xs) (λ (o : Option X). IfSome o P)
    (λ _. All-head P x xs all)
    (λ _. find-holds P test xs (All-tail P x xs all))

-- the first row that passes one is the top one of those that do
find-first : (test : Row → Bool) (rows : List Row) → find test rows ≡ first_row (filter test rows)
find-first test [] = refl
find-first test (row ∷ rows) = by_test (test row) (find-first test rows)
  where
    by_test : (b : Bool) → find test rows ≡ first_row (filter test rows) → cond b (Some row) (find test rows) ≡ first_row (cond b (row ∷ filter test rows) (filter test rows))
    by_test true later = refl
    by_test false later = later

pub find-top : (test : Row → Bool) (rows : List Row) → AllPairs IsAhead rows → find test rows ≡ top_waiter (filter test rows)
find-top test rows order = find-first test rows ∙ sym (top-first (filter test rows) (AllPairs-filter IsAhead test rows order))

-- ---- who may take a lock

-- a lock that may be taken has no owner
pub unowned-can_take : (t : TaskId) (kind : Kind) (lock : OwnerPart) (task : TaskPart) → can_take t kind lock task ≡ true → lock.owner ≡ None
unowned-can_take t kind lock task may = by_owner lock.owner may
  where
    by_owner : (owner : Option TaskId) → is_some (cond (is_some owner) None (reason_among t (asked_key t lock.rows task) kind (top_waiter lock.rows))) ≡ true → owner ≡ None
    by_owner None is = refl
    by_owner (Some o) is = cc

-- who may not take a lock before the top waiter isn't that one, and isn't better
record IsNoBetter (t : TaskId) (key : ℕ) (top : Row) : Type 0 where
  other : is_of t top ≡ false
  better : nat_lt key top.key ≡ false

no_better : (t : TaskId) (key : ℕ) (kind : Kind) (top : Row) → is_some (reason_before t key kind top) ≡ false → IsNoBetter t key top
no_better t key kind top is = by_tests (is_of t top) (nat_lt key top.key) _ refl refl is
  where
    by_tests : (a b : Bool) (rest : Option Reason) → is_of t top ≡ a → nat_lt key top.key ≡ b → is_some (cond a (Some reasons.Top) (cond b (Some reasons.Better) rest)) ≡ false → IsNoBetter t key top
    by_tests true b rest is_a is_b none = absurd cc
    by_tests false true rest is_a is_b none = absurd cc
    by_tests false false rest is_a is_b none = record { other = is_a; better = is_b }

-- the reason that there isn't, where nobody owns the lock
no_reason : (t : TaskId) (kind : Kind) (lock : OwnerPart) (task : TaskPart) → can_take t kind lock task ≡ false → lock.owner ≡ None → is_some (reason_among t (asked_key t lock.rows task) kind (top_waiter lock.rows)) ≡ false
no_reason t kind lock task may none =
    subst (λ (o : Option TaskId). is_some (cond (is_some o) None (reason_among t (asked_key t lock.rows task) kind (top_waiter lock.rows))) ≡ false) none may

-- the top waiter of a lock that nobody owns may take it
pub not_top : (t : TaskId) (kind : Kind) (lock : OwnerPart) (task : TaskPart) (row : Row) → can_take t kind lock task ≡ false → lock.owner ≡ None → top_waiter lock.rows ≡ Some row → is_of t row ≡ false
not_top t kind lock task row may none top =
    (no_better t (asked_key t lock.rows task) kind row
    (subst (λ (o : Option Row). is_some (reason_among t (asked_key t lock.rows task) kind o) ≡ false) top (no_reason t kind lock task may none))).other

not_first : (key ticket : ℕ) (t : TaskId) (top : Row) → nat_lt key top.key ≡ false → top.ticket < ticket → goes_before (record { key = key; ticket = ticket; who = t.0 }) top ≡ false
not_first key ticket t top better lt = grind (arith, nat_tests)

-- a new row is of another task than those queued, and has a new ticket
pub apart : (t : TaskId) (key ticket : ℕ) (row : Row) → is_of t row ≡ false → row.ticket < ticket → IsApart (record { key = key; ticket = ticket; who = t.0 }) row
apart t key ticket row other lt = record { task = λ same. absurd (other_number row.who t.0 other (sym same)); ticket = λ same. absurd (omega (arith, same)) }

after_top : (t : TaskId) (key ticket : ℕ) (kind : Kind) (rows : List Row) → is_some (reason_among t key kind (top_waiter rows)) ≡ false → All (λ (r : Row). r.ticket < ticket) rows
    → All (IsApart (record { key = key; ticket = ticket; who = t.0 })) rows → AllPairs IsAhead rows → top_waiter (insert_row (record { key = key; ticket = ticket; who = t.0 }) rows) ≡ top_waiter rows
after_top t key ticket kind [] none all apart order = absurd cc
after_top t key ticket kind (top ∷ rows) none all apart order =
    let first = top-first (top ∷ rows) order in
    let may_not = subst (λ (o : Option Row). is_some (reason_among t key kind o) ≡ false) first none in
    top-insert (record { key = key; ticket = ticket; who = t.0 }) top rows
    (not_first key ticket t top (no_better t key kind top may_not).better (All-head (λ (r : Row). r.ticket < ticket) top rows all)) apart order ∙ sym first

-- a task that may not take a lock that nobody owns is queued after the top waiter
pub queued_after : (t : TaskId) (kind : Kind) (lock : OwnerPart) (task : TaskPart) → can_take t kind lock task ≡ false → lock.owner ≡ None → queued_key t lock.rows ≡ None → IsQueue lock
    → top_waiter (insert_row (record { key = effective_of task; ticket = lock.ticket; who = t.0 }) lock.rows) ≡ top_waiter lock.rows
queued_after t kind lock task may none unqueued queue =
    let others = none_of t lock.rows unqueued in
    after_top t (effective_of task) lock.ticket kind lock.rows
    (subst (λ (o : Option ℕ). is_some (reason_among t (unwrap_or o (effective_of task)) kind (top_waiter lock.rows)) ≡ false) unqueued (no_reason t kind lock task may none)) queue.tickets
    (λ k d lt. apart t (effective_of task) lock.ticket (slice_index_or lock.rows k d) (others k d lt) (queue.tickets k d lt)) queue.order

-- ---- rows in order, below a ticket

pub record IsOrdered (ticket : ℕ) (rows : List Row) : Type 0 where
  pub order : AllPairs IsAhead rows
  pub tickets : All (λ (row : Row). row.ticket < ticket) rows

-- with one more, of a task that has none, with that ticket
pub insert-ordered : (t : TaskId) (key ticket : ℕ) (rows : List Row) → All (λ (row : Row). is_of t row ≡ false) rows → IsOrdered ticket rows
    → IsOrdered (ticket + 1) (insert_row (record { key = key; ticket = ticket; who = t.0 }) rows)
insert-ordered t key ticket rows others is =
    let row : Row = record { key = key; ticket = ticket; who = t.0 } in
    record {
      order = insert_order row rows (λ k d lt. apart t key ticket (slice_index_or rows k d) (others k d lt) (is.tickets k d lt)) is.order;
      tickets = All-insert_row (λ (r : Row). r.ticket < ticket + 1) row rows (omega arith)
          (All-weaker (λ (r : Row). r.ticket < ticket) (λ (r : Row). r.ticket < ticket + 1) (λ r lt. omega arith) rows is.tickets);
    }

-- with those of a task gone
pub without-ordered : (t : TaskId) (ticket : ℕ) (rows : List Row) → IsOrdered ticket rows → IsOrdered ticket (without t rows)
without-ordered t ticket rows is = record {
  order = AllPairs-filter IsAhead (λ row. not (is_of t row)) rows is.order;
  tickets = All-filter (λ row. not (is_of t row)) (λ (row : Row). row.ticket < ticket) rows is.tickets;
}

pub queue-ordered : (lock : OwnerPart) → IsQueue lock → IsOrdered lock.ticket lock.rows
queue-ordered lock queue = record { order = queue.order; tickets = queue.tickets }

-- ---- a task that is queued anew

pub none-without : (t : TaskId) (rows : List Row) → All (λ (row : Row). is_of t row ≡ false) (without t rows)
none-without t rows = none_of t (without t rows) (ap (option_map (λ (row : Row). row.key)) (row_of-without t rows))

module _ (t : TaskId) (key : ℕ) (lock : OwnerPart) where
  -- its row is the new one, and that of any other task the one that it was
  pub row_of-requeued : row_of t (requeued t key lock).rows ≡ Some (record { key = key; ticket = lock.ticket; who = t.0 })
  row_of-requeued = row_of-insert t (record { key = key; ticket = lock.ticket; who = t.0 }) (without t lock.rows) (number_itself t.0) (none-without t lock.rows)

  pub row_of-requeued_other : (u : TaskId) → nat_eq t.0 u.0 ≡ false → row_of u (requeued t key lock).rows ≡ row_of u lock.rows
  row_of-requeued_other u ne = row_of-insert_other u (record { key = key; ticket = lock.ticket; who = t.0 }) (without t lock.rows) ne ∙ row_of-without_other t u lock.rows ne

  -- the bit is set where it was queued
  requeued-clear : (old : ℕ) → queued_key t lock.rows ≡ Some old → IsQueue lock → lock.bit ≡ false → (requeued t key lock).rows ≡ []
  requeued-clear old was queue clear = let none : queued_key t lock.rows ≡ None = ap (queued_key t) (queue.clear clear) in absurd cc

  pub requeued-queue : (old : ℕ) → queued_key t lock.rows ≡ Some old → IsQueue lock → IsQueue (requeued t key lock)
  requeued-queue old was queue =
      let ordered = insert-ordered t key lock.ticket (without t lock.rows) (none-without t lock.rows) (without-ordered t lock.ticket lock.rows (queue-ordered lock queue)) in
      record { clear = requeued-clear old was queue; order = ordered.order; tickets = ordered.tickets }

-- ---- the same where its key is old

module _ (t : TaskId) (task : TaskPart) (lock : OwnerPart) where
  pub where_old-queue : (old : ℕ) → queued_key t lock.rows ≡ Some old → IsQueue lock → IsQueue (requeued_where_old (Some t) task lock)
  where_old-queue old was queue =
      cond_both (has_old_key task) (requeued t (effective_of task) lock) lock IsQueue (λ is. requeued-queue t (effective_of task) lock old was queue) (λ is. queue)

  -- it is queued with its effective priority then
  pub where_old-key : (l : LockId) (old : ℕ) → task.blocked ≡ Some (l, old) → queued_key t lock.rows ≡ Some old → queued_key t (requeued_where_old (Some t) task lock).rows ≡ Some (effective_of task)
  where_old-key l old at was =
      cond_both (has_old_key task) (requeued t (effective_of task) lock) lock (λ (x : OwnerPart). queued_key t x.rows ≡ Some (effective_of task))
      (λ is. ap (option_map (λ (r : Row). r.key)) (row_of-requeued t (effective_of task) lock))
      (λ is. was ∙ ap Some (right_key task l old at is))

  pub where_old-other : (u : TaskId) → nat_eq t.0 u.0 ≡ false → row_of u (requeued_where_old (Some t) task lock).rows ≡ row_of u lock.rows
  where_old-other u ne =
      cond_both (has_old_key task) (requeued t (effective_of task) lock) lock (λ (x : OwnerPart). row_of u x.rows ≡ row_of u lock.rows)
      (λ is. row_of-requeued_other t (effective_of task) lock u ne) (λ is. refl)

-- ---- the top waiter is another, or not

same_row-is : (row other : Row) → same_row row other ≡ true → other ≡ row
same_row-is row other is =
    let key : other.key ≡ row.key = grind (arith, nat_tests) in
    let ticket : other.ticket ≡ row.ticket = grind (arith, nat_tests) in
    let who : other.who ≡ row.who = grind (arith, nat_tests) in
    λ i. record { key = key i; ticket = ticket i; who = who i }

same_top-is : (top other : Option Row) → same_top top other ≡ true → other ≡ top
same_top-is None None is = refl
same_top-is (Some row) (Some other) is = ap Some (same_row-is row other is)
same_top-is None (Some other) is = cc
same_top-is (Some row) None is = cc

-- where it isn't, the top waiter and its key are what they were
pub unchanged-waiter : (before after : List Row) → top_changed before after ≡ false → top_waiter after ≡ top_waiter before
unchanged-waiter before after is = same_top-is (top_waiter before) (top_waiter after) (not-false (same_top (top_waiter before) (top_waiter after)) is)

pub unchanged-key : (before after : List Row) → top_changed before after ≡ false → top_key after ≡ top_key before
unchanged-key before after is = ap (option_map (λ (row : Row). row.key)) (unchanged-waiter before after is)
