use Rattle.std.proofs.Common.{◌+◌, ◌++◌, ◌∙◌, ap, length, subst, List, ℕ, arith}
use Rattle.rt_base.specs.Outside.{Writes}
use Rattle.rt_base.proofs.Outside.{Writes-then, Writes-stopped}
use Rattle.rt_model.specs.Order.{chosen, replayed}
use Rattle.rt_core.specs.Core.{Made}
use Rattle.rt_events.specs.Journal.{header, lines_of}
use Rattle.rt_policy.specs.Turns.{after_picks}
use Rattle.rt_top.proofs.Journal.{played_picks, after_picks_is, journal_parts, picks_lines, after_picks_lines}
use Rattle.rt_top.proofs.replaying.print_journal.Goals as goal

pub returns-in_err-print_header-clause-writes : goal.returns-in_err-print_header-clause-writes
returns-in_err-print_header-clause-writes g c =
    Writes-stopped (lines_of c.args.script.now 1 (replayed c.args.script.now c.args.turns).events) c.in_err-print_header.ensures.writes c.from_residual.ensures.0

pub returns-in_err-count-clause-writes : goal.returns-in_err-count-clause-writes
returns-in_err-count-clause-writes g c =
    let script = c.args.script.now in
    let back = after_picks script c.args.turns in
    let cut = Writes-stopped (lines_of script (1 + length (played_picks script).events) back.events) (Writes-then c.in_ok-print_header.ensures.writes c.in_err-count.ensures.writes) c.from_residual-in_err-count.ensures.0 in
    let same = ap (λ text. (header ++ text) ++ lines_of script (1 + length (played_picks script).events) back.events) (picks_lines script c.args.core.now c.requires.start) ∙ journal_parts script c.args.turns in
    subst (λ (text : List ℕ). Writes c.from_residual-in_err-count.result (g.K.Sink.held c.args.out.now) (g.K.Sink.held c.run_picks.new.out) (g.K.Sink.faults c.args.out.now) (g.K.Sink.faults c.run_picks.new.out) text) same cut

pub finish-requires-clause-made : goal.finish-requires-clause-made
finish-requires-clause-made g c =
    let zero_made = ap (λ (m : Made). m.made) c.requires.start in
    omega (arith, zero_made, c.requires.valid.picks, c.in_ok-count.ensures.made, c.in_ok-count.ensures.few, c.requires.turns)

pub finish-requires-clause-number : goal.finish-requires-clause-number
finish-requires-clause-number g c =
    omega (arith, c.requires.valid.picks, c.in_ok-count.ensures.few, c.requires.turns)

pub returns-clause-writes : goal.returns-clause-writes
returns-clause-writes g c =
    let script = c.args.script.now in
    let all = Writes-then (Writes-then c.in_ok-print_header.ensures.writes c.in_ok-count.ensures.writes) c.finish.ensures.writes in
    let e = c.in_ok-count.ensures in
    let back = after_picks_lines script c.args.core.now c.in_ok-count.count c.args.turns (chosen c.args.turns c.run_picks.new.core.state c.in_ok-count.last) c.requires.start e.count (after_picks_is script c.args.core.now c.args.turns c.run_picks.new.core.state c.in_ok-count.last c.requires.start e.state e.last) in
    let same = (λ i. (header ++ picks_lines script c.args.core.now c.requires.start i) ++ back i) ∙ journal_parts script c.args.turns in
    subst (λ (text : List ℕ). Writes c.finish.result (g.K.Sink.held c.args.out.now) (g.K.Sink.held c.finish.new.out) (g.K.Sink.faults c.args.out.now) (g.K.Sink.faults c.finish.new.out) text) same all

pub returns-clause-limit : goal.returns-clause-limit
returns-clause-limit g c =
    let e = c.in_ok-count.ensures in
    let back = after_picks_is c.args.script.now c.args.core.now c.args.turns c.run_picks.new.core.state c.in_ok-count.last c.requires.start e.state e.last in
    rw (← back) c.finish.ensures.limit
