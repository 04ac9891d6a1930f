use Rattle.std.proofs.Common.{◌≡◌, ◌≢◌, ◌<◌, ℕ, All, None, subst, ap, sym, ◌∙◌, arith}
use Rattle.rt_model.specs.declared.row.Row.{Row}
use Rattle.rt_model.specs.Rows.{row_of}
use Rattle.rt_waiters.specs.Queue.{Queue}
use Rattle.rt_waiters.proofs.Queues.{room_for, queued-insert}
use Rattle.rt_waiters.proofs.waiters.Waiters.insert.Goals as goal

pub put_in_order-requires : goal.put_in_order-requires
put_in_order-requires g c =
    let absent : row_of (record { 0 = c.args.who }) c.self.inside.rows.items ≡ None = ap (λ (q : Queue). row_of (record { 0 = c.args.who }) q.rows) c.self.view_is ∙ c.requires.absent in
    let below : c.args.who < c.self.inside.room = subst (λ (n : ℕ). c.args.who < n) (sym (ap (λ (q : Queue). q.room) c.self.view_is)) c.requires.below in
    let few = room_for c.self.inside.room c.args.who c.self.inside.rows.items below absent c.self.invariant.0.tasks in
    let room = c.self.invariant.1 in
    omega arith

pub invariant_of-self : goal.invariant_of-self
invariant_of-self g c =
    let absent : row_of (record { 0 = c.args.who }) c.self.inside.rows.items ≡ None = ap (λ (q : Queue). row_of (record { 0 = c.args.who }) q.rows) c.self.view_is ∙ c.requires.absent in
    let below : c.args.who < c.self.inside.room = subst (λ (n : ℕ). c.args.who < n) (sym (ap (λ (q : Queue). q.room) c.self.view_is)) c.requires.below in
    let fresh = subst (λ (q : Queue). All (λ (r : Row). r.ticket ≢ c.args.ticket) q.rows) (sym c.self.view_is) c.requires.fresh in
    let capacity = c.put_in_order.ensures.capacity in
    let room = c.self.invariant.1 in (
      queued-insert c.self.inside.room _ c.self.inside.rows.items c.put_in_order.new.rows.items c.put_in_order.ensures.items below absent fresh c.self.invariant.0,
      omega arith,
      c.self.invariant.2,
    )
