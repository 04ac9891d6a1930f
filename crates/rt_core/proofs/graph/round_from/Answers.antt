use Rattle.std.proofs.Common.{subst}
use Rattle.rt_core.proofs.GraphRounds.{IsOnRound, on-more}
use Rattle.rt_core.proofs.graph.round_from.Goals as goal

pub edges-preserved : goal.edges-preserved
edges-preserved c =
    let s = c.args.core.now.state in
    let known = c.args.known.now in
    on-more s c.args.core.now.made known.near known.far c.args.u c.requires.lawful c.in-Some.w c.edges.round.tasks c.add.new.self c.leads_to-round.result c.in-Some.ensures.new
    c.add.ensures.member c.leads_to-round.ensures.leads c.leads_to-round.ensures.within
    (subst (IsOnRound s known.near known.far c.args.u c.edges.round.tasks) c.in-Some.ensures.here c.edges.invariant)
