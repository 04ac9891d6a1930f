use Rattle.rt_parts.proofs.SharedSteps.{task-set}
use Rattle.rt_parts.proofs.shared.Shared.set_state.Goals as goal

pub returns : goal.returns
returns c = task-set _ _ _ _ c.self.view_is c.args.t.0 c.index_mut.result.now _ (λ task. record task { state = c.args.state }) c.requires c.index_mut.ensures.value c.set_state.ensures
