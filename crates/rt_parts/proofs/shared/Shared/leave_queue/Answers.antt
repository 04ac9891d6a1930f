use Rattle.rt_model.specs.steps.Task.{leave_queue}
use Rattle.rt_parts.proofs.SharedSteps.{task-set}
use Rattle.rt_parts.proofs.shared.Shared.leave_queue.Goals as goal

pub returns : goal.returns
returns c = task-set _ _ _ _ c.self.view_is c.args.t.0 c.index_mut.result.now _ (leave_queue c.args.spins) c.requires c.index_mut.ensures.value c.leave_queue.ensures
