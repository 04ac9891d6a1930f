use Rattle.rt_model.specs.steps.Task.{with_own}
use Rattle.rt_parts.proofs.SharedSteps.{task-set}
use Rattle.rt_parts.proofs.shared.Shared.set_own.Goals as goal

pub returns : goal.returns
returns c = task-set _ _ _ _ c.self.view_is c.args.t.0 c.index_mut.result.now _ (with_own c.args.prio) c.requires c.index_mut.ensures.value c.set_own.ensures
