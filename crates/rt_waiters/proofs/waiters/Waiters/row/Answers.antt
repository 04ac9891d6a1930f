use Rattle.std.proofs.Common.{rules, eqb, ◌∙◌, ap}
use Rattle.std.proofs.lemmas.Iterator.{YieldsList-from_slice}
use Rattle.std.proofs.lemmas.Iterator.Search.{find_from_yields_List}
use Rattle.rt_model.specs.declared.row.Row.{Row}
use Rattle.rt_model.specs.Rows.{row_of}
use Rattle.rt_waiters.specs.Queue.{Queue}
use Rattle.rt_waiters.proofs.waiters.Waiters.row.Goals as goal

pub returns : goal.returns
returns c =
    let found = find_from_yields_List (λ (row : Row). eqb row.who c.args.who) _ _ c.find.result c.find.ensures.ran (YieldsList-from_slice c.self.inside.rows.items cc) (λ x b q k. search rules) in
    c.copied.ensures ∙ (found ∙ ap (λ (q : Queue). row_of (record { 0 = c.args.who }) q.rows) c.self.view_is)
