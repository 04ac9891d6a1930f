use Rattle.std.proofs.Common.{◌≡◌, false, take, sym, ap, ◌∙◌, length, arith}
use Rattle.std.proofs.lemmas.Bool.{lt-ltb}
use Rattle.std.proofs.lemmas.List.{take_all}
use Rattle.rt_model.specs.steps.Chain.{is_on_path}
use Rattle.rt_walk.proofs.Paths.{passed, place, all_before}
use Rattle.rt_walk.proofs.next.links_before.Goals as goal

pub returns-then-not-is_on_path-clause-before : goal.returns-then-not-is_on_path-clause-before
returns-then-not-is_on_path-clause-before c =
    let none : is_on_path c.args.task c.args.path.now ≡ false = cc in
    c.len.ensures.links ∙ ap length (sym (all_before c.args.task c.args.path.now none))

pub returns-then-eq-clause-before : goal.returns-then-eq-clause-before
returns-then-eq-clause-before c = sym (place c.args.task c.args.path.now c.loop-i.i (c.at.result.0.0, c.at.result.1.0) c.at.ensures.link (sym c.eq.ensures ∙ c.if-eq.true) c.loop-i.invariant).before

pub returns-then-eq-clause-on_path : goal.returns-then-eq-clause-on_path
returns-then-eq-clause-on_path c = lt-ltb c.loop-i.i (length c.args.path.now) (omega arith)
    ∙ sym (place c.args.task c.args.path.now c.loop-i.i (c.at.result.0.0, c.at.result.1.0) c.at.ensures.link (sym c.eq.ensures ∙ c.if-eq.true) c.loop-i.invariant).on_path

pub loop-i-preserved : goal.loop-i-preserved
loop-i-preserved c = passed c.args.task c.args.path.now c.loop-i.i (c.at.result.0.0, c.at.result.1.0) c.at.ensures.link (sym c.eq.ensures ∙ c.if-eq.false) c.loop-i.invariant

pub returns-clause-before : goal.returns-clause-before
returns-clause-before c =
    let all : take c.loop-i.i c.args.path.now ≡ c.args.path.now = take_all c.loop-i.i c.args.path.now (omega arith) in
    let none : is_on_path c.args.task c.args.path.now ≡ false = ap (is_on_path c.args.task) (sym all) ∙ c.loop-i.invariant in
    c.len-2.ensures.links ∙ ap length (sym (all_before c.args.task c.args.path.now none))
