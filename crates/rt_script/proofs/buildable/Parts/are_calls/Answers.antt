use Rattle.std.proofs.Common.{refl, subst}
use Rattle.std.specs.Prelude.{All}
use Rattle.std.proofs.lemmas.List.{take_all}
use Rattle.std.proofs.lemmas.List.Elements.{All-more}
use Rattle.rt_base.specs.Script.{IsCallOf}
use Rattle.rt_script.specs.Building.{built}
use Rattle.rt_script.proofs.buildable.Parts.are_calls.Goals as goal

pub loop-call-preserved : goal.loop-call-preserved
loop-call-preserved c =
    let fits : IsCallOf (built c.args.self.now) c.call-item.result = c.is_call.ensures.0 cc in
    All-more (IsCallOf (built c.args.self.now)) c.args.calls.now c.loop-call.call-index c.call-item.result c.loop-call-test.true c.loop-call.invariant (subst (IsCallOf (built c.args.self.now)) c.call-item.is fits)

pub returns : goal.returns
returns c = ((λ _. subst (All (IsCallOf (built c.args.self.now))) (take_all c.loop-call.call-index c.args.calls.now c.loop-call-test.false) c.loop-call.invariant), (λ _. refl))
