use Rattle.std.proofs.Common.{ap, refl}
use Rattle.rt_model.specs.declared.row.Row.{Row}
use Rattle.rt_model.specs.Rows.{without}
use Rattle.rt_waiters.specs.Queue.{Queue}
use Rattle.rt_locks.proofs.Numbers.{fresh, left, came}
use Rattle.rt_locks.proofs.lock_cell.LockCell.requeue.Goals as goal

pub requeue-requires-clause-fresh : goal.requeue-requires-clause-fresh
requeue-requires-clause-fresh g c = fresh c.self.inside.ticket c.self.inside.waiters.rows c.self.invariant.1

pub invariant_of-self : goal.invariant_of-self
invariant_of-self g c =
    let row : Row = record { key = c.get.result; ticket = c.self.inside.ticket; who = c.args.t.0 } in
    let old = c.self.inside.waiters.rows in
    came row (without c.args.t old) c.requeue.new.self.rows (ap (λ (q : Queue). q.rows) c.requeue.ensures.rows) c.get.ensures.within
    (left c.self.inside.ticket c.args.t old (without c.args.t old) refl c.self.invariant)
