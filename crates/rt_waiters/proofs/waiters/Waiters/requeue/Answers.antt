use Rattle.std.proofs.Common.{◌≡◌, ◌≢◌, ◌<◌, not, All, length, refl, subst, ap, sym, ◌∙◌, arith}
use Rattle.std.specs.Prelude.{IsSome}
use Rattle.std.proofs.lemmas.List.Elements.{All-filter}
use Rattle.rt_base.specs.declared.id.TaskId.{TaskId}
use Rattle.rt_model.specs.declared.row.Row.{Row}
use Rattle.rt_model.specs.Rows.{is_of, row_of, without, insert_row}
use Rattle.rt_model.proofs.Queues.{row_of-without}
use Rattle.rt_waiters.specs.Queue.{Queue}
use Rattle.rt_waiters.proofs.Queues.{below_room, room_for, fewer, queued-insert, queued-without}
use Rattle.rt_waiters.proofs.waiters.Waiters.requeue.Goals as goal

pub put_in_order-requires : goal.put_in_order-requires
put_in_order-requires g c =
    let t : TaskId = record { 0 = c.args.who } in
    let rows = c.self.inside.rows.items in
    let queued : IsSome (row_of t rows) = subst (λ (q : Queue). IsSome (row_of t q.rows)) (sym c.self.view_is) c.requires.queued in
    let below : c.args.who < c.self.inside.room = below_room c.self.inside.room t rows queued c.self.invariant.0.tasks in
    let few = room_for c.self.inside.room c.args.who (without t rows) below (row_of-without t rows) (queued-without c.self.inside.room t rows (without t rows) refl c.self.invariant.0).tasks in
    let long = ap length c.drop_row.ensures.items in
    let capacity = c.drop_row.ensures.capacity in
    let room = c.self.invariant.1 in
    omega arith

pub invariant_of-self : goal.invariant_of-self
invariant_of-self g c =
    let t : TaskId = record { 0 = c.args.who } in
    let rows = c.self.inside.rows.items in
    let queued : IsSome (row_of t rows) = subst (λ (q : Queue). IsSome (row_of t q.rows)) (sym c.self.view_is) c.requires.queued in
    let below : c.args.who < c.self.inside.room = below_room c.self.inside.room t rows queued c.self.invariant.0.tasks in
    let fresh : All (λ (r : Row). r.ticket ≢ c.args.ticket) rows = subst (λ (q : Queue). All (λ (r : Row). r.ticket ≢ c.args.ticket) q.rows) (sym c.self.view_is) c.requires.fresh in
    let items : c.put_in_order.new.rows.items ≡ insert_row (record { key = c.args.key; ticket = c.args.ticket; who = c.args.who }) (without t rows) = c.put_in_order.ensures.items ∙ ap (insert_row (record { key = c.args.key; ticket = c.args.ticket; who = c.args.who })) c.drop_row.ensures.items in
    let capacity = c.put_in_order.ensures.capacity ∙ c.drop_row.ensures.capacity in
    let room = c.self.invariant.1 in (
      queued-insert c.self.inside.room _ (without t rows) c.put_in_order.new.rows.items items below (row_of-without t rows)
          (All-filter (λ (r : Row). not (is_of t r)) (λ (r : Row). r.ticket ≢ c.args.ticket) rows fresh) (queued-without c.self.inside.room t rows (without t rows) refl c.self.invariant.0),
      omega arith,
      c.self.invariant.2,
    )

pub returns-clause-cost : goal.returns-clause-cost
returns-clause-cost g c =
    let left = fewer (record { 0 = c.args.who }) c.self.inside.rows.items in
    let long = ap length c.drop_row.ensures.items in
    let cost = c.put_in_order.ensures.cost in
    let same = ap (λ (q : Queue). length q.rows) c.self.view_is in
    omega arith
