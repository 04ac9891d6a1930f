use Rattle.std.proofs.Common.{◌∙◌, ap, length}
use Rattle.rt_model.specs.Run.{lowest}
use Rattle.rt_model.specs.Order.{is_walking}
use Rattle.rt_core.specs.Core.{Made, with_threads}
use Rattle.rt_core.proofs.KeptSets.{beyond-walking, lowest-kept}
use Rattle.rt_core.proofs.machine.Core.lowest_walking.Goals as goal

pub returns : goal.returns
returns c =
    let s = with_threads c.self.inside.shared c.self.inside.threads.items in
    let laws = c.self.invariant in
    lowest-kept (is_walking s) c.self.inside.enabled.walking (length s.threads) laws.0.shape.few_tasks (λ t lt. (laws.1 t lt).walking) (beyond-walking s) c.lowest.result c.lowest.ensures.some c.lowest.ensures.within c.lowest.ensures.none
    ∙ ap (λ (m : Made). lowest (is_walking m.state) (length m.state.threads)) c.self.view_is
