-- The top waiter once a task is queued anew.
use Rattle.std.proofs.Common.{◌≡◌, ◌<◌, ◌≤◌, true, false, List, [], ◌∷◌, All, ap, sym, ◌∙◌, refl, arith, Some, None}
use Rattle.std.specs.Prelude.{AllPairs, is_some, slice_index_or}
use Rattle.std.proofs.lemmas.Bool.Decides.{nat_tests}
use Rattle.std.proofs.lemmas.List.Elements.{All-head}
use Rattle.rt_model.specs.declared.row.Row.{Row}
use Rattle.rt_model.specs.Rows.{top_waiter, task_of, goes_before, insert_row, without}
use Rattle.rt_model.specs.laws.Rows.{IsAhead}
use Rattle.rt_model.proofs.Queues.{IsApart, IsOrdered, apart, no_rows, none-without, without-ordered, top-first, top-insert, insert_order}
use Rattle.rt_locks.specs.OwnerCell.{HasTickets}

-- a row goes before one of a worse key, and not before an older one of no worse key
goes_first : (row other : Row) → row.key < other.key → goes_before row other ≡ true
goes_first row other lt = grind (arith, nat_tests)

goes_after : (row other : Row) → other.key ≤ row.key → other.ticket < row.ticket → goes_before row other ≡ false
goes_after row other le lt = grind (arith, nat_tests)

-- a row among rows in order is the top one where it goes before the first
first-insert : (row top : Row) (rows : List Row) → goes_before row top ≡ true → All (IsApart row) (top ∷ rows) → AllPairs IsAhead (top ∷ rows) → top_waiter (insert_row row (top ∷ rows)) ≡ Some row
first-insert row top rows is all order = top-first (insert_row row (top ∷ rows)) (insert_order row (top ∷ rows) all order) ∙ rw is refl

-- where the first of other rows in order, with older tickets, has no worse key, it stays the top one, and else the new row is
module _ (row other : Row) where
  top-after : (rows : List Row) → All (IsApart row) rows → AllPairs IsAhead rows → All (λ (r : Row). r.ticket < row.ticket) rows
      → top_waiter rows ≡ Some other → other.key ≤ row.key → top_waiter (insert_row row rows) ≡ Some other
  top-after [] all order older top le = absurd cc
  top-after (first ∷ rows) all order older top le =
      let at : Some first ≡ Some other = sym (top-first (first ∷ rows) order) ∙ top in
      let same : first ≡ other = cc in
      let key : first.key ≤ row.key = rw same le in
      top-insert row first rows (goes_after row first key (All-head (λ (r : Row). r.ticket < row.ticket) first rows older)) all order ∙ at

  top-before : (rows : List Row) → All (IsApart row) rows → AllPairs IsAhead rows → top_waiter rows ≡ Some other → row.key < other.key → top_waiter (insert_row row rows) ≡ Some row
  top-before [] all order top lt = absurd cc
  top-before (first ∷ rows) all order top lt =
      let at : Some first ≡ Some other = sym (top-first (first ∷ rows) order) ∙ top in
      let same : first ≡ other = cc in
      let key : row.key < first.key = rw same lt in
      first-insert row first rows (goes_first row first key) all order

-- the top waiter once a row is among the rows of others, by the first of those
module _ (row : Row) (rows : List Row) (order : AllPairs IsAhead rows) (older : HasTickets row.ticket rows) where
  abbrev pub others : List Row
  others = without (task_of row) rows

  others_ordered : IsOrdered row.ticket others
  others_ordered = without-ordered (task_of row) row.ticket rows (record { order = order; tickets = older })

  all_apart : All (IsApart row) others
  all_apart = λ k d lt. apart (task_of row) row.key row.ticket (slice_index_or others k d) (none-without (task_of row) rows k d lt) (others_ordered.tickets k d lt)

  pub alone : None ≡ top_waiter others → Some row ≡ top_waiter (insert_row row others)
  alone none = sym (ap (λ (rs : List Row). top_waiter (insert_row row rs)) (no_rows others (ap is_some (sym none))))

  pub kept : (other : Row) → Some other ≡ top_waiter others → other.key ≤ row.key → Some other ≡ top_waiter (insert_row row others)
  kept other top le = sym (top-after row other others all_apart others_ordered.order others_ordered.tickets (sym top) le)

  pub first : (other : Row) → Some other ≡ top_waiter others → row.key < other.key → Some row ≡ top_waiter (insert_row row others)
  first other top lt = sym (top-before row other others all_apart others_ordered.order (sym top) lt)
