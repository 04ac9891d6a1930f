use Rattle.std.proofs.Common.{◌≤◌, not, List, Option, ap, subst, sym, ◌∙◌}
use Rattle.std.specs.Prelude.{IfSome}
use Rattle.std.proofs.lemmas.List.Elements.{All-filter}
use Rattle.rt_model.specs.declared.row.Row.{Row}
use Rattle.rt_model.specs.Rows.{is_of, top_waiter, without}
use Rattle.rt_model.proofs.Queues.{top-holds}
use Rattle.rt_locks.proofs.lock_cell.LockCell.top_key_without.Goals as goal

pub key_in-requires : goal.key_in-requires
key_in-requires c =
    subst (λ (o : Option Row). IfSome o (λ (r : Row). r.key ≤ 139)) (sym (c.first_other.ensures ∙ ap (λ (rows : List Row). top_waiter (without c.args.t rows)) c.rows.ensures.rows))
    (top-holds (λ (r : Row). r.key ≤ 139) (without c.args.t c.self.inside.waiters.rows) (All-filter (λ (r : Row). not (is_of c.args.t r)) (λ (r : Row). r.key ≤ 139) c.self.inside.waiters.rows c.self.invariant.0))
