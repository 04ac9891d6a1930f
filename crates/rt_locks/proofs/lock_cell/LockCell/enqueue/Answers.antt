use Rattle.std.proofs.Common.{ap}
use Rattle.rt_model.specs.declared.row.Row.{Row}
use Rattle.rt_waiters.specs.Queue.{Queue}
use Rattle.rt_locks.proofs.Numbers.{fresh, came}
use Rattle.rt_locks.proofs.lock_cell.LockCell.enqueue.Goals as goal

pub insert-requires-clause-fresh : goal.insert-requires-clause-fresh
insert-requires-clause-fresh g c = fresh c.self.inside.ticket c.self.inside.waiters.rows c.self.invariant.1

pub invariant_of-self : goal.invariant_of-self
invariant_of-self g c =
    let row : Row = record { key = c.get.result; ticket = c.self.inside.ticket; who = c.args.t.0 } in
    came row c.self.inside.waiters.rows c.insert.new.self.rows (ap (λ (q : Queue). q.rows) c.insert.ensures.rows) c.get.ensures.within c.self.invariant
