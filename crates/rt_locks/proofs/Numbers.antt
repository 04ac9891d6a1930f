-- The numbers in a lock's rows, as rows come and go: keys are priorities, and tickets are below the next one.
use Rattle.std.proofs.Common.{◌≡◌, ◌≢◌, ◌<◌, ◌≤◌, ◌+◌, ℕ, Bool, not, List, All, subst, sym, arith}
use Rattle.std.proofs.lemmas.List.Elements.{All-filter, All-weaker}
use Rattle.rt_base.specs.declared.id.TaskId.{TaskId}
use Rattle.rt_model.specs.declared.row.Row.{Row}
use Rattle.rt_model.specs.Rows.{is_of, insert_row, without}
use Rattle.rt_model.proofs.Queues.{All-insert_row}
use Rattle.rt_locks.specs.OwnerCell.{HasPriorities, HasTickets}

-- the next ticket is no row's
pub fresh : (next : ℕ) (rows : List Row) → HasTickets next rows → All (λ (r : Row). r.ticket ≢ next) rows
fresh next rows all = All-weaker (λ (r : Row). r.ticket < next) (λ (r : Row). r.ticket ≢ next) (λ r lt same. omega (arith, lt, same)) rows all

-- a row goes
pub left : (next : ℕ) (t : TaskId) (rows new : List Row) → new ≡ without t rows → HasPriorities rows × HasTickets next rows → HasPriorities new × HasTickets next new
left next t rows new is all =
    let other : Row → Bool = λ row. not (is_of t row) in
    subst (λ (rs : List Row). HasPriorities rs × HasTickets next rs) (sym is)
    (All-filter other (λ (r : Row). r.key ≤ 139) rows all.0, All-filter other (λ (r : Row). r.ticket < next) rows all.1)

-- a row with the next ticket comes
pub came : (row : Row) (rows new : List Row) → new ≡ insert_row row rows → row.key ≤ 139 → HasPriorities rows × HasTickets row.ticket rows → HasPriorities new × HasTickets (row.ticket + 1) new
came row rows new is le all =
    subst (λ (rs : List Row). HasPriorities rs × HasTickets (row.ticket + 1) rs) (sym is) (
      All-insert_row (λ (r : Row). r.key ≤ 139) row rows le all.0,
      All-insert_row (λ (r : Row). r.ticket < row.ticket + 1) row rows (omega arith)
          (All-weaker (λ (r : Row). r.ticket < row.ticket) (λ (r : Row). r.ticket < row.ticket + 1) (λ r lt. omega (arith, lt)) rows all.1),
    )
