use Rattle.std.proofs.Common.{Some, None}
use Rattle.rt_model.specs.steps.Task.{with_top}
use Rattle.rt_parts.proofs.SharedSteps.{task-set}
use Rattle.rt_parts.proofs.shared.Shared.drop_top.Goals as goal

pub returns : goal.returns
returns c = task-set _ _ _ _ c.self.view_is c.args.t.0 c.index_mut.result.now _ (with_top (Some c.args.l) None) c.requires.task c.index_mut.ensures.value c.drop_top.ensures
