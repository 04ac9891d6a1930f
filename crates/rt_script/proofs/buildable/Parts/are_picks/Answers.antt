use Rattle.std.proofs.Common.{◌<◌, length, refl, subst}
use Rattle.std.specs.Prelude.{All}
use Rattle.std.proofs.lemmas.List.{take_all}
use Rattle.std.proofs.lemmas.List.Elements.{All-more}
use Rattle.rt_base.specs.declared.id.TaskId.{TaskId}
use Rattle.rt_script.proofs.buildable.Parts.are_picks.Goals as goal

pub loop-t-preserved : goal.loop-t-preserved
loop-t-preserved c =
    All-more (λ (t : TaskId). t.0 < length c.args.self.now.tasks) c.args.picks.now c.loop-t.t-index _ c.loop-t-test.true c.loop-t.invariant (c.is_there.ensures.0 cc)

pub returns : goal.returns
returns c = ((λ _. subst (All (λ (t : TaskId). t.0 < length c.args.self.now.tasks)) (take_all c.loop-t.t-index c.args.picks.now c.loop-t-test.false) c.loop-t.invariant), (λ _. refl))
