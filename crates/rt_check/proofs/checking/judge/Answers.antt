use Rattle.std.proofs.Common.{◌≡◌, ◌+◌, ◌∙◌, sym, arith}
use Rattle.rt_events.specs.Journal.{header}
use Rattle.rt_check.specs.Place.{report_size}
use Rattle.rt_check.proofs.Lines.{not_first}
use Rattle.rt_check.proofs.Wrong.{wrong_header}
use Rattle.rt_check.proofs.Judged.{few_made, end_wrong, report_wrong, more_wrong, legal, not_empty, empty}
use Rattle.rt_check.proofs.checking.judge.Goals as goal

pub returns-in_default-clause-wrong : goal.returns-in_default-clause-wrong
returns-in_default-clause-wrong c = wrong_header c.args.script.now c.locks.ensures.valid c.args.text.now (not_first header c.args.text.now c.in_default.ensures)

pub returns-in-Err-clause-wrong : goal.returns-in-Err-clause-wrong
returns-in-Err-clause-wrong c =
    let core = c.play_lines-rest.new.core in
    let few = few_made c.args.text.now c.in-Some.lines.now c.play_lines-rest.result.now core c.in-Some.ensures c.play_lines-rest.ensures.long c.requires.few in
    let number : c.in-Err.wrong.line ≡ 2 + core.made = omega (arith, c.in-Err.ensures.line, c.made.ensures) in
    end_wrong c.args.script.now c.locks.ensures.valid c.args.text.now c.in-Some.lines.now c.play_lines-rest.result.now core c.in-Some.ensures c.play_lines-rest.ensures.played few
    c.in-Err.wrong.line _ number c.play_lines-rest.ensures.none c.in-Err.ensures.wrong c.in-Err.ensures.cause

pub returns-in-Err-judge_report-clause-wrong : goal.returns-in-Err-judge_report-clause-wrong
returns-in-Err-judge_report-clause-wrong c =
    let core = c.play_lines-rest.new.core in
    let few = few_made c.args.text.now c.in-Some.lines.now c.play_lines-rest.result.now core c.in-Some.ensures c.play_lines-rest.ensures.long c.requires.few in
    let number : 2 + c.made.result + 1 ≡ 3 + core.made = omega (arith, c.made.ensures) in
    report_wrong c.args.script.now c.locks.ensures.valid c.args.text.now c.in-Some.lines.now c.play_lines-rest.result.now core c.in-Some.ensures c.play_lines-rest.ensures.played few
    c.in-Ok.report.now c.in-Ok.ensures.ok (2 + c.made.result + 1) c.in-Err-judge_report.wrong number c.in-Err-judge_report.ensures.wrong

pub returns-then-not-is_empty-clause-wrong : goal.returns-then-not-is_empty-clause-wrong
returns-then-not-is_empty-clause-wrong c =
    let core = c.play_lines-rest.new.core in
    let few = few_made c.args.text.now c.in-Some.lines.now c.play_lines-rest.result.now core c.in-Some.ensures c.play_lines-rest.ensures.long c.requires.few in
    let line = 2 + c.made.result + 1 + (c.tasks.result + c.locks.result) in
    let number : line ≡ 3 + core.made + report_size c.args.script.now = omega (arith, c.made.ensures, c.tasks.ensures.number, c.locks.ensures.number) in
    more_wrong c.args.script.now c.locks.ensures.valid c.args.text.now c.in-Some.lines.now c.play_lines-rest.result.now core c.in-Some.ensures c.play_lines-rest.ensures.played few
    c.in-Ok.report.now c.in-Ok.ensures.ok c.in-Ok-judge_report.more.now c.in-Ok-judge_report.ensures.ok line number
    (not_empty c.in-Ok-judge_report.more.now (sym c.is_empty.ensures ∙ c.if-not-is_empty.true))

pub returns-clause-legal : goal.returns-clause-legal
returns-clause-legal c =
    let core = c.play_lines-rest.new.core in
    let few = few_made c.args.text.now c.in-Some.lines.now c.play_lines-rest.result.now core c.in-Some.ensures c.play_lines-rest.ensures.long c.requires.few in
    legal c.args.script.now c.locks.ensures.valid c.args.text.now c.in-Some.lines.now c.play_lines-rest.result.now core c.in-Some.ensures c.play_lines-rest.ensures.played few
    c.in-Ok.report.now c.in-Ok.ensures.ok c.in-Ok-judge_report.more.now c.in-Ok-judge_report.ensures.ok c.ended.result c.ended.ensures
    (empty c.in-Ok-judge_report.more.now (sym c.is_empty.ensures ∙ c.if-not-is_empty.false))
