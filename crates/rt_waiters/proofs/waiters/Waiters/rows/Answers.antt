use Rattle.std.proofs.Common.{ap, sym, subst, length, List, arith}
use Rattle.std.specs.Prelude.{AllPairs}
use Rattle.rt_model.specs.declared.row.Row.{Row}
use Rattle.rt_model.specs.laws.Rows.{IsAhead}
use Rattle.rt_waiters.specs.Queue.{Queue}
use Rattle.rt_waiters.proofs.Queues.{few_rows}
use Rattle.rt_waiters.proofs.waiters.Waiters.rows.Goals as goal

pub returns-clause-few : goal.returns-clause-few
returns-clause-few c =
    let few = few_rows c.self.inside.room c.self.inside.rows.items c.self.invariant.0.tasks in
    let long = ap length c.as_slice.ensures.value in
    let room = ap (λ (q : Queue). q.room) c.self.view_is in
    omega arith

pub returns-clause-order : goal.returns-clause-order
returns-clause-order c = subst (λ (rows : List Row). AllPairs IsAhead rows) (sym c.as_slice.ensures.value) c.self.invariant.0.order
