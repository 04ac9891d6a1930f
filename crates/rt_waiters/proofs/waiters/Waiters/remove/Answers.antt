use Rattle.std.proofs.Common.{ap, ◌∙◌, arith}
use Rattle.rt_model.specs.Rows.{without}
use Rattle.rt_waiters.specs.Queue.{Queue}
use Rattle.rt_waiters.proofs.Queues.{queued-without}
use Rattle.rt_waiters.proofs.waiters.Waiters.remove.Goals as goal

pub invariant_of-self : goal.invariant_of-self
invariant_of-self g c =
    let capacity = c.drop_row.ensures.capacity in
    let room = c.self.invariant.1 in (
      queued-without c.self.inside.room (record { 0 = c.args.who }) c.self.inside.rows.items c.drop_row.new.rows.items c.drop_row.ensures.items c.self.invariant.0,
      omega arith,
      c.self.invariant.2,
    )

pub returns-clause-rows : goal.returns-clause-rows
returns-clause-rows g c =
    (λ i. record { rows = c.drop_row.ensures.items i; room = c.self.inside.room })
    ∙ ap (λ (q : Queue). record q { rows = without (record { 0 = c.args.who }) q.rows }) c.self.view_is
