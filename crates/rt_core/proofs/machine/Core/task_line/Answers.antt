use Rattle.std.proofs.Common.{◌≡◌, ◌++◌, ◌<◌, ℕ, List, length, subst, ◌∙◌}
use Rattle.rt_core.specs.Report.{task_line_of, task_report}
use Rattle.rt_core.proofs.Notes.{IsNoteWithin-script}
use Rattle.rt_core.proofs.machine.Core.task_line.Goals as goal

pub write_task_line-requires-clause-note : goal.write_task_line-requires-clause-note
write_task_line-requires-clause-note c = IsNoteWithin-script c.args.script.now c.args.self.now.state c.note.result c.requires.script c.note.ensures.within

pub returns-clause-text : goal.returns-clause-text
returns-clause-text c =
    c.write_task_line.ensures.text ∙ (λ i. c.args.out.now.items ++ task_line_of c.args.script.now c.args.t (c.cell.ensures i) (c.thread.ensures.part i) (c.note.ensures.note i))

pub returns-clause-short : goal.returns-clause-short
returns-clause-short c =
    let same : task_line_of c.args.script.now c.args.t c.cell.result.now c.thread.result.now c.note.result ≡ task_report c.args.script.now c.args.self.now.state c.args.t =
    λ i. task_line_of c.args.script.now c.args.t (c.cell.ensures i) (c.thread.ensures.part i) (c.note.ensures.note i) in
    subst (λ (text : List ℕ). length text < 4096) same c.write_task_line.ensures.short
