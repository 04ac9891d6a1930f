use Rattle.std.proofs.Common.{rules, ◌≡◌, ◌∙◌, sym, ap, Some, None, Option, ℕ}
use Rattle.rt_model.specs.Rows.{top_key}
use Rattle.rt_model.proofs.Queues.{key_with, top_key-insert}
use Rattle.rt_locks.proofs.lock_cell.LockCell.top_key_with.Goals as goal

pub returns-in-Some : goal.returns-in-Some
returns-in-Some c =
    let rows = c.args.self.now.part.rows in
    let top : top_key rows ≡ Some c.in-Some.top = cc in
    let least : c.min.result ≡ key_with c.args.key (Some c.in-Some.top) = search rules in
    ap Some (least ∙ ap (key_with c.args.key) (sym top)) ∙ sym (top_key-insert (record { key = c.args.key; ticket = c.args.self.now.part.ticket; who = c.args.t.0 }) rows)

pub returns-in-None : goal.returns-in-None
returns-in-None c =
    let rows = c.args.self.now.part.rows in
    let top : top_key rows ≡ None = cc in
    ap (λ (o : Option ℕ). Some (key_with c.args.key o)) (sym top) ∙ sym (top_key-insert (record { key = c.args.key; ticket = c.args.self.now.part.ticket; who = c.args.t.0 }) rows)
