use Rattle.std.proofs.Common.{◌≤◌, Option, subst, sym}
use Rattle.std.specs.Prelude.{IfSome}
use Rattle.rt_model.specs.declared.row.Row.{Row}
use Rattle.rt_model.specs.Rows.{is_of}
use Rattle.rt_model.proofs.Queues.{find-holds}
use Rattle.rt_locks.proofs.lock_cell.LockCell.key_of.Goals as goal

pub key_in-requires : goal.key_in-requires
key_in-requires c =
    subst (λ (o : Option Row). IfSome o (λ (r : Row). r.key ≤ 139)) (sym c.row.ensures)
    (find-holds (λ (r : Row). r.key ≤ 139) (is_of c.args.t) c.self.inside.waiters.rows c.self.invariant.0)
