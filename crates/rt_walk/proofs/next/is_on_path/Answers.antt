use Rattle.std.proofs.Common.{◌≡◌, ◌||◌, take, refl, sym, ap, ◌∙◌, arith}
use Rattle.std.proofs.lemmas.List.{take_all}
use Rattle.rt_model.specs.steps.Chain.{is_on_path}
use Rattle.rt_walk.proofs.Paths.{looked}
use Rattle.rt_walk.proofs.next.is_on_path.Goals as goal

pub loop-i-init : goal.loop-i-init
loop-i-init c = refl

pub loop-i-preserved : goal.loop-i-preserved
loop-i-preserved c = (λ i. c.loop-i.invariant i || c.eq-found.ensures i) ∙ sym (looked c.args.task c.args.path.now c.loop-i.i (c.at.result.0.0, c.at.result.1.0) c.at.ensures.link)

pub returns : goal.returns
returns c = c.loop-i.invariant ∙ ap (is_on_path c.args.task) (take_all c.loop-i.i c.args.path.now (omega arith))
