use Rattle.rt_parts.proofs.SharedSteps.{task-set}
use Rattle.rt_parts.proofs.shared.Shared.rest_again.Goals as goal

pub returns : goal.returns
returns c = task-set _ _ _ _ c.self.view_is c.args.t.0 c.index_mut.result.now _ (λ task. record task { state = c.args.rest }) c.requires c.index_mut.ensures.value c.rest_again.ensures
