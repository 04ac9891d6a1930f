use Rattle.std.proofs.Common.{rules, not, eqb, ◌∙◌}
use Rattle.std.proofs.lemmas.Iterator.{YieldsList-from_slice}
use Rattle.std.proofs.lemmas.Iterator.Search.{find_from_yields_List}
use Rattle.rt_model.specs.declared.row.Row.{Row}
use Rattle.rt_model.proofs.Queues.{find-top}
use Rattle.rt_locks.proofs.top.first_other.Goals as goal

pub returns : goal.returns
returns c =
    let found = find_from_yields_List (λ (row : Row). not (eqb row.who c.args.t.0)) _ _ c.find.result c.find.ensures.ran (YieldsList-from_slice c.args.rows.now cc) (λ x b q k. search rules) in
    c.copied.ensures ∙ (found ∙ find-top (λ (row : Row). not (eqb row.who c.args.t.0)) c.args.rows.now c.requires)
