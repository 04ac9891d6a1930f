use Rattle.std.proofs.Common.{◌++◌, refl, subst, List, ℕ, Ok}
use Rattle.rt_base.specs.Outside.{Writes}
use Rattle.rt_base.proofs.Outside.{Writes-then, Writes-stopped, Writes-as_err, Writes-as_ok}
use Rattle.rt_model.specs.Run.{ended_of}
use Rattle.rt_model.specs.Order.{replayed}
use Rattle.rt_core.specs.Report.{report_of}
use Rattle.rt_events.specs.Journal.{end_line}
use Rattle.rt_top.proofs.Journal.{text_parts, ended_after}
use Rattle.rt_top.proofs.replaying.print_replay.Goals as goal

pub returns-in_err-ended-clause-writes : goal.returns-in_err-ended-clause-writes
returns-in_err-ended-clause-writes g c =
    let script = c.args.script.now in
    let s = (replayed script c.args.turns).state in
    let cut = Writes-stopped (end_line (ended_of s) ++ report_of script s) c.in_err-ended.ensures.writes c.from_residual.ensures.0 in
    subst (λ (text : List ℕ). Writes c.from_residual.result (g.K.Sink.held c.args.out.now) (g.K.Sink.held c.print_journal.new.out) (g.K.Sink.faults c.args.out.now) (g.K.Sink.faults c.print_journal.new.out) text) (text_parts script c.args.turns s (ended_of s) refl refl) cut

pub returns-in_err-write_report-clause-writes : goal.returns-in_err-write_report-clause-writes
returns-in_err-write_report-clause-writes g c =
    let script = c.args.script.now in
    let cut = Writes-as_err (Writes-then c.in_ok-ended.ensures.writes c.in_err-write_report.ensures.writes) c.from_residual-in_err-write_report.ensures.0 in
    subst (λ (text : List ℕ). Writes c.from_residual-in_err-write_report.result (g.K.Sink.held c.args.out.now) (g.K.Sink.held c.write_report.new.out) (g.K.Sink.faults c.args.out.now) (g.K.Sink.faults c.write_report.new.out) text)
    (text_parts script c.args.turns c.print_journal.new.core.state c.in_ok-ended.ended c.in_ok-ended.ensures.state c.in_ok-ended.ensures.ended) cut

pub returns-clause-writes : goal.returns-clause-writes
returns-clause-writes g c =
    let script = c.args.script.now in
    let all = Writes-as_ok {y = c.in_ok-ended.ended} (Writes-then c.in_ok-ended.ensures.writes c.in_ok-write_report.ensures.writes) in
    subst (λ (text : List ℕ). Writes (Ok c.in_ok-ended.ended) (g.K.Sink.held c.args.out.now) (g.K.Sink.held c.write_report.new.out) (g.K.Sink.faults c.args.out.now) (g.K.Sink.faults c.write_report.new.out) text)
    (text_parts script c.args.turns c.print_journal.new.core.state c.in_ok-ended.ended c.in_ok-ended.ensures.state c.in_ok-ended.ensures.ended) all

pub returns-clause-ended : goal.returns-clause-ended
returns-clause-ended g c =
    ended_after c.args.script.now c.args.turns c.print_journal.new.core.state c.in_ok-ended.ended c.in_ok-ended.ensures.state c.in_ok-ended.ensures.ended
