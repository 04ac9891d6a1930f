use Rattle.std.proofs.Common.{ap}
use Rattle.rt_waiters.specs.Queue.{Queue}
use Rattle.rt_locks.proofs.Numbers.{left}
use Rattle.rt_locks.proofs.lock_cell.LockCell.take.Goals as goal

pub invariant_of-self : goal.invariant_of-self
invariant_of-self g c = left c.self.inside.ticket c.args.t c.self.inside.waiters.rows c.remove-taken.new.self.rows (ap (λ (q : Queue). q.rows) c.remove-taken.ensures.rows) c.self.invariant
