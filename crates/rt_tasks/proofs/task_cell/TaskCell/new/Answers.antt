use Rattle.std.proofs.Common.{rules, ◌≡◌, replicate, None}
use Rattle.rt_tasks.proofs.Least.{least-none}
use Rattle.rt_tasks.proofs.task_cell.TaskCell.new.Goals as goal

pub invariant_of-result : goal.invariant_of-result
invariant_of-result c =
    let items : c.in_ok-kept.kept ≡ replicate c.args.locks None = search rules in
    rw (items, least-none c.args.own c.args.locks)
