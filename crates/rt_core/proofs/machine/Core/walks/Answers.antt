use Rattle.std.proofs.Common.{rules, tests, ◌∙◌, ap}
use Rattle.std.proofs.lemmas.Iterator.{YieldsList-from_slice}
use Rattle.std.proofs.lemmas.Iterator.Consumers.{count_from_yields_List, YieldsList-from_filter, YieldsList-at}
use Rattle.std.proofs.lemmas.List.Sums.{length-filter}
use Rattle.rt_model.specs.Parts.{ThreadPart}
use Rattle.rt_model.specs.Order.{in_walk}
use Rattle.rt_core.specs.Core.{Made}
use Rattle.rt_core.proofs.machine.Core.walks.Goals as goal

pub returns-clause-walks : goal.returns-clause-walks
returns-clause-walks c =
    let threads = c.iter.ensures.rest ∙ c.deref.ensures.value ∙ ap (λ (m : Made). m.state.threads) c.self.view_is in
    count_from_yields_List c.filter.result c.count.result c.count.ensures.ran
    (YieldsList-from_filter _ (λ (thread : ThreadPart). in_walk thread.phase) (YieldsList-at c.filter.ensures.source (YieldsList-from_slice c.args.self.now.state.threads threads)) c.filter.ensures.closure (λ x r q k. search (rules, tests)))
    ∙ length-filter (λ (thread : ThreadPart). in_walk thread.phase) c.args.self.now.state.threads
