use Rattle.std.proofs.Common.{arith}
use Rattle.rt_core.proofs.ReportShort.{task_line_short}
use Rattle.rt_core.proofs.report.write_task_line.Goals as goal

pub returns-clause-short : goal.returns-clause-short
returns-clause-short c =
    task_line_short c.args.script.now c.args.t c.args.cell.now c.args.thread.now c.args.note c.tasks.ensures.valid c.requires.task c.requires.note
    (
    record {
      own = omega (arith, c.push_priorities.ensures.own);
      effective = omega (arith, c.push_priorities.ensures.effective);
      answered = omega (arith, c.push_progress.ensures.answered);
      calls = c.push_progress.ensures.calls;
      key = omega (arith, c.push_note.ensures.key);
    }
    )
