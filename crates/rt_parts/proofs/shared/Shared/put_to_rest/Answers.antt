use Rattle.rt_model.specs.steps.Task.{put_to_rest}
use Rattle.rt_parts.proofs.SharedSteps.{task-set}
use Rattle.rt_parts.proofs.shared.Shared.put_to_rest.Goals as goal

pub returns : goal.returns
returns c = task-set _ _ _ _ c.self.view_is c.args.t.0 c.index_mut.result.now _ (put_to_rest c.args.rest) c.requires c.index_mut.ensures.value c.put_to_rest.ensures
