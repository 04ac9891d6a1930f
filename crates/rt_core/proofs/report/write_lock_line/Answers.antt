use Rattle.std.proofs.Common.{◌∙◌, length, ap, arith}
use Rattle.rt_core.proofs.ReportShort.{lock_line_short}
use Rattle.rt_core.proofs.report.write_lock_line.Goals as goal

pub returns-clause-short : goal.returns-clause-short
returns-clause-short c =
    lock_line_short c.args.script.now c.args.l c.args.cell.now.part c.args.readers c.locks.ensures.valid c.requires.lock
    (
    record {
      owner = c.requires.owner;
      count = omega (arith, c.push_readers.ensures.count);
      rows = λ k d lt. record { who = c.requires.rows k d lt; key = omega (arith, c.waiters.ensures.priorities k d lt) };
      few = omega (arith, ap length (c.rows.ensures.rows ∙ c.waiters.ensures.rows), c.rows.ensures.few, c.waiters.ensures.room, c.requires.few);
    }
    )
