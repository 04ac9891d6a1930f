use Rattle.std.proofs.Common.{◌||◌, ◌∙◌, Bool, sym, ap}
use Rattle.std.specs.List.{list_any}
use Rattle.rt_model.specs.declared.obj.Obj.TheVariants.{OwnerPart}
use Rattle.rt_events.specs.Touched.{path_tasks}
use Rattle.rt_events.proofs.Shared.{along_first}
use Rattle.rt_events.proofs.footprint.any_along.Goals as goal

pub returns-else-test : goal.returns-else-test
returns-else-test g c = λ passes tells.
    c.any_on_path.ensures passes tells
    ∙ (ap (λ (b : Bool). b || list_any passes (path_tasks c.args.path.now)) (sym c.if-test.false ∙ tells (OwnerPart c.at.result.1) c.test.result c.test.ensures)
    ∙ sym (along_first passes c.args.path.now (c.at.result.0.0, c.at.result.1.0) c.at.ensures.link))
