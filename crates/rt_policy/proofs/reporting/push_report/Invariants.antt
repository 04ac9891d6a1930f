use Rattle.std.proofs.Common.{◌≤◌, Ok, vec_capacity}
use Rattle.rt_core.specs.Report.{report_upto}
use Rattle.rt_policy.specs.Printing.{Prints}
use Rattle.rt_policy.proofs.reporting.push_report.Given as goal

abbrev pub invariant-loop-i : goal.invariant-loop-i
invariant-loop-i g l =
    Prints {T = Unit {0}} (Ok tt) (g.K.Sink.held l.fn.out) l.fn.buf.items (g.K.Sink.held l.out) l.buf.items (g.K.Sink.faults l.fn.out) (g.K.Sink.faults l.out) (report_upto l.script l.core.state l.i)
    × (vec_capacity l.fn.buf ≤ vec_capacity l.buf)
