use Rattle.std.proofs.Common.{◌++◌, ◌∙◌, ap, refl}
use Rattle.rt_events.specs.Journal.{end_line}
use Rattle.rt_policy.proofs.Printed.{Prints-after_gathered, Writes-printed_err, Writes-flushed}
use Rattle.rt_policy.proofs.reporting.write_report.Goals as goal

pub returns-in_err-push_report-clause-writes : goal.returns-in_err-push_report-clause-writes
returns-in_err-push_report-clause-writes g c =
    let first = c.write_end_line.ensures.text ∙ ap (λ b. b ++ end_line c.args.ended) c.requires.empty in
    Writes-printed_err (Prints-after_gathered first c.in_err-push_report.ensures.prints) c.from_residual.ensures.0

pub returns-clause-writes : goal.returns-clause-writes
returns-clause-writes g c =
    let first = c.write_end_line.ensures.text ∙ ap (λ b. b ++ end_line c.args.ended) c.requires.empty in
    Writes-flushed refl (Prints-after_gathered first c.in_ok-push_report.ensures.prints) c.flush.ensures.prints c.flush.ensures.empty
