use Rattle.std.proofs.Common.{sym, ◌∙◌}
use Rattle.rt_script.proofs.Splits.{is_end-pieces_left}
use Rattle.rt_script.proofs.pieces.Pieces.is_end.Goals as goal

pub returns-in-Some : goal.returns-in-Some
returns-in-Some c = rw (← c.self.view_is) (c.is_empty.ensures ∙ sym (is_end-pieces_left c.self.inside.separator c.self.inside.rest c.in-Some.rest c.in-Some.is))
