use Rattle.std.proofs.Common.{Some}
use Rattle.rt_model.specs.steps.Task.{blocked_on}
use Rattle.rt_parts.proofs.SharedSteps.{task-set}
use Rattle.rt_parts.proofs.shared.Shared.block.Goals as goal

pub returns : goal.returns
returns c = task-set _ _ _ _ c.self.view_is c.args.t.0 c.index_mut.result.now _ (blocked_on (Some c.args.l) c.args.rest) c.requires c.index_mut.ensures.value c.block.ensures
