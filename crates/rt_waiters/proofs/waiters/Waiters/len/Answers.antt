use Rattle.std.proofs.Common.{arith}
use Rattle.rt_waiters.proofs.Queues.{few_rows}
use Rattle.rt_waiters.proofs.waiters.Waiters.len.Goals as goal

pub overflow_cast-result : goal.overflow_cast-result
overflow_cast-result c =
    let few = few_rows c.self.inside.room c.self.inside.rows.items c.self.invariant.0.tasks in
    let long = c.len.ensures in
    let room = c.self.invariant.2 in
    grind arith
