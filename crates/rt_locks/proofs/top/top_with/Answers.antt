use Rattle.std.proofs.Common.{◌∙◌, ◌<◌, ◌≤◌, sym, arith}
use Rattle.rt_locks.proofs.Requeued.{alone, kept, first}
use Rattle.rt_locks.proofs.top.top_with.Goals as goal

pub returns-in-Some-clause-top : goal.returns-in-Some-clause-top
returns-in-Some-clause-top c =
    let row = c.args.row in
    let other = c.in-Some.other in
    let is = c.if-other-row.true in
    let le : other.key ≤ row.key = omega (arith, is) in
    kept row c.args.rows.now c.requires.order c.requires.newest other (sym c.in-Some.is ∙ c.first_other.ensures) le

pub returns-in_default-clause-top : goal.returns-in_default-clause-top
returns-in_default-clause-top c =
    let row = c.args.row in
    let other = c.in-Some.other in
    let is = c.if-other-row.false in
    let lt : row.key < other.key = omega (arith, is) in
    first row c.args.rows.now c.requires.order c.requires.newest other (sym c.in-Some.is ∙ c.first_other.ensures) lt

pub returns-in_default-2-clause-top : goal.returns-in_default-2-clause-top
returns-in_default-2-clause-top c = alone c.args.row c.args.rows.now c.requires.order c.requires.newest (sym c.in_default.is ∙ c.first_other.ensures)
