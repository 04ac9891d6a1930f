use Rattle.std.proofs.Common.{◌∙◌, sym}
use Rattle.rt_model.specs.declared.obj.Obj.TheVariants.{Task}
use Rattle.rt_events.proofs.Shared.{tasks_more, task_passes, neither}
use Rattle.rt_events.proofs.footprint.any_on_path.Goals as goal

pub returns-then-test : goal.returns-then-test
returns-then-test g c = λ passes tells. sym (task_passes passes c.args.path.now c.loop-i.i (c.at.result.0.0, c.at.result.1.0) c.at.ensures.link (sym (tells (Task c.at.result.0) c.test.result c.test.ensures) ∙ c.if-test.true))

pub loop-i-preserved : goal.loop-i-preserved
loop-i-preserved g c = λ passes tells. tasks_more passes c.args.path.now c.loop-i.i (c.at.result.0.0, c.at.result.1.0) c.at.ensures.link
    ∙ neither _ _ (c.loop-i.invariant passes tells) (sym (tells (Task c.at.result.0) c.test.result c.test.ensures) ∙ c.if-test.false)
