use Rattle.std.proofs.Common.{rules, ◌≡◌, ◌∙◌, sym, ap}
use Rattle.rt_waiters.specs.Queue.{Queue}
use Rattle.rt_model.specs.Rows.{top_waiter}
use Rattle.rt_model.proofs.Queues.{first_row, top-first}
use Rattle.rt_waiters.proofs.waiters.Waiters.top.Goals as goal

pub returns : goal.returns
returns c =
    let first : c.copied.result ≡ first_row c.self.inside.rows.items = search rules in
    first ∙ (sym (top-first c.self.inside.rows.items c.self.invariant.0.order) ∙ ap (λ (q : Queue). top_waiter q.rows) c.self.view_is)
