use Rattle.std.proofs.Common.{sym, ap, ◌∙◌, arith}
use Rattle.std.specs.Prelude.{bytes_eq}
use Rattle.rt_top.specs.Checked.{length_to_go}
use Rattle.rt_top.proofs.ToGo.{spans, spans-lines, at_go, past}
use Rattle.rt_top.proofs.checking.length_to_go.Goals as goal

pub lines-init : goal.lines-init
lines-init c =
    let all = ap spans c.new-lines.ensures ∙ spans-lines c.args.input.now in
    let there = ap length_to_go c.new-lines.ensures in
    (omega (arith, all), omega (arith, there))

pub overflow_add-length-in-Some : goal.overflow_add-length-in-Some
overflow_add-length-in-Some c =
    let now = ap spans c.in-Some.ensures in
    omega (arith, c.lines.invariant.0, now)

pub returns-then-eq : goal.returns-then-eq
returns-then-eq c =
    let now = ap length_to_go c.in-Some.ensures ∙ at_go c.in-Some.line.now c.next.new.self (ap (bytes_eq c.in-Some.line.now) (sym c.as_slice.ensures) ∙ sym c.eq.ensures ∙ c.if-eq.true) in
    omega (arith, c.lines.invariant.1, now)

pub lines-preserved : goal.lines-preserved
lines-preserved c =
    let all = ap spans c.in-Some.ensures in
    let now = ap length_to_go c.in-Some.ensures ∙ past c.in-Some.line.now c.next.new.self (ap (bytes_eq c.in-Some.line.now) (sym c.as_slice.ensures) ∙ sym c.eq.ensures ∙ c.if-eq.false) in
    (omega (arith, c.lines.invariant.0, all), omega (arith, c.lines.invariant.1, now))

pub returns : goal.returns
returns c =
    let none = ap length_to_go c.in_default.ensures.0 in
    omega (arith, c.lines.invariant.1, none)
