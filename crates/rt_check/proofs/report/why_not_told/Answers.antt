use Rattle.std.proofs.Common.{◌≡◌, true, false, refl}
use Rattle.rt_check.specs.Place.{at_report}
use Rattle.rt_check.specs.MayStand.{no_line, other_report}
use Rattle.rt_check.proofs.report.why_not_told.Goals as goal

pub returns-then-is_report_line : goal.returns-then-is_report_line
returns-then-is_report_line c = λ events. other_report events c.args.i (c.requires, c.if-is_report_line.ensures.0 refl)

pub returns-else-is_report_line : goal.returns-else-is_report_line
returns-else-is_report_line c = λ events. no_line (at_report events c.args.i) (λ may. let is : false ≡ true = c.if-is_report_line.ensures.1 may.1 in absurd cc)
