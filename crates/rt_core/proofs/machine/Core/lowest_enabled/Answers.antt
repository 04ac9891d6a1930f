use Rattle.std.proofs.Common.{◌∙◌, ap, length}
use Rattle.rt_model.specs.Run.{is_enabled, lowest}
use Rattle.rt_core.specs.Core.{Made, with_threads}
use Rattle.rt_core.proofs.KeptSets.{beyond, lowest-kept}
use Rattle.rt_core.proofs.machine.Core.lowest_enabled.Goals as goal

pub returns : goal.returns
returns c =
    let s = with_threads c.self.inside.shared c.self.inside.threads.items in
    let laws = c.self.invariant in
    lowest-kept (is_enabled s) c.self.inside.enabled.all (length s.threads) laws.0.shape.few_tasks (λ t lt. (laws.1 t lt).enabled) (beyond s) c.lowest.result c.lowest.ensures.some c.lowest.ensures.within c.lowest.ensures.none
    ∙ ap (λ (m : Made). lowest (is_enabled m.state) (length m.state.threads)) c.self.view_is
