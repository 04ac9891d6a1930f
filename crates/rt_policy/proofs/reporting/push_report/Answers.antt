use Rattle.std.proofs.Common.{◌+◌, ◌≤◌, add-one, arith, length}
use Rattle.rt_core.specs.Report.{report_line_of}
use Rattle.rt_policy.proofs.Printed.{Prints-cut, Prints-more}
use Rattle.rt_policy.proofs.Reported.{report_upto-prefix}
use Rattle.rt_policy.proofs.reporting.push_report.Goals as goal

pub returns-in_err-flush_if_full-clause-prints : goal.returns-in_err-flush_if_full-clause-prints
returns-in_err-flush_if_full-clause-prints g c =
    let n = length c.args.script.now.tasks + length c.args.script.now.locks in
    let lt : c.loop-i.i ≤ n = omega (arith, c.loop-i-test.true, c.tasks.ensures.number, c.locks.ensures.number) in
    let rest = report_upto-prefix c.args.script.now c.args.core.now.state n c.loop-i.i lt in
    rw rest.1 (Prints-cut rest.0 c.loop-i.invariant.0 c.in_err-flush_if_full.ensures.prints c.from_residual.ensures.0)

pub loop-i-preserved : goal.loop-i-preserved
loop-i-preserved g c =
    let told = Prints-more (report_line_of c.args.script.now c.args.core.now.state c.loop-i.i) c.loop-i.invariant.0 c.in_ok-flush_if_full.ensures.prints c.report_line.ensures.text in
    (rw (add-one c.loop-i.i) told, omega (arith, c.loop-i.invariant.1, c.flush_if_full.ensures.capacity, c.report_line.ensures.capacity))
