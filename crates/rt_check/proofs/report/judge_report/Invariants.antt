use Rattle.std.proofs.Common.{◌≡◌, ◌+◌, ◌≤◌, ◌++◌, length}
use Rattle.rt_base.specs.declared.limits.TheConstants.{LINE_LIMIT}
use Rattle.std.specs.Vec.{vec_capacity}
use Rattle.rt_core.specs.Report.{report_upto}
use Rattle.rt_check.proofs.report.judge_report.Given as goal

abbrev pub invariant-loop-i : goal.invariant-loop-i
invariant-loop-i l = record {
  front : l.fn.text ≡ report_upto l.fn.script l.fn.core.state l.i ++ l.rest;
  long : l.i + length l.rest ≤ length l.fn.text;
  room : LINE_LIMIT ≤ vec_capacity l.buf;
  capacity : vec_capacity l.fn.buf ≤ vec_capacity l.buf;
}
