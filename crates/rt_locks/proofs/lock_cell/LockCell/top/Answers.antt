use Rattle.std.proofs.Common.{◌≤◌, Option, subst, sym}
use Rattle.std.specs.Prelude.{IfSome}
use Rattle.rt_model.specs.declared.row.Row.{Row}
use Rattle.rt_model.proofs.Queues.{top-holds}
use Rattle.rt_locks.proofs.lock_cell.LockCell.top.Goals as goal

pub returns-clause-priority : goal.returns-clause-priority
returns-clause-priority c =
    subst (λ (o : Option Row). IfSome o (λ (r : Row). r.key ≤ 139)) (sym c.top.ensures)
    (top-holds (λ (r : Row). r.key ≤ 139) c.self.inside.waiters.rows c.self.invariant.0)
