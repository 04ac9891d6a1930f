use Rattle.std.proofs.Common.{◌≡◌, not, ap, sym, ◌∙◌, Some, arith}
use Rattle.rt_model.specs.Path.{stands}
use Rattle.rt_walk.specs.Link.{link_at}
use Rattle.rt_choice.proofs.PathLinks.{found-here, found-later, found-none}
use Rattle.rt_choice.proofs.confirm.first_broken.Goals.{After-stands}
use Rattle.rt_choice.proofs.confirm.first_broken.Goals as goal

-- what is told of link i
told : (c : After-stands) → not (stands c.args.shared.now (link_at c.args.path.now c.loop-i.i)) ≡ not c.stands.result
told c = ap not (sym (c.stands.ensures ∙ ap (stands c.args.shared.now) c.link_at-link.ensures))

pub returns-then-not-stands : goal.returns-then-not-stands
returns-then-not-stands c =
    let broken = told (goal.at.returns-then-not-stands c).After-stands ∙ ap not c.if-not-stands.true in
    ap Some c.link_at-link.ensures ∙ sym (c.loop-i.invariant ∙ found-here (λ link. not (stands c.args.shared.now link)) c.args.path.now c.loop-i.i (omega (arith, c.loop-i-test.true, c.len-i-end.ensures.links)) broken)

pub loop-i-preserved : goal.loop-i-preserved
loop-i-preserved c =
    let stands_here = told (goal.at.loop-i-preserved c).After-stands ∙ ap not c.if-not-stands.false in
    c.loop-i.invariant ∙ found-later (λ link. not (stands c.args.shared.now link)) c.args.path.now c.loop-i.i (omega (arith, c.loop-i-test.true, c.len-i-end.ensures.links)) stands_here

pub returns : goal.returns
returns c = sym (c.loop-i.invariant ∙ found-none (λ link. not (stands c.args.shared.now link)) c.args.path.now c.loop-i.i (omega (arith, c.loop-i-test.false, c.len-i-end.ensures.links)))
