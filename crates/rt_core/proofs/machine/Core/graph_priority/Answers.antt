use Rattle.rt_core.proofs.GraphRounds.{graph-priority}
use Rattle.rt_core.proofs.machine.Core.graph_priority.Goals as goal

pub returns : goal.returns
returns c =
    let known = c.all_known-known in
    let least = c.least_own in
    record {
      graph = graph-priority c.args.self.now.state c.args.self.now.made c.args.t known.result.near known.result.far least.result known.ensures.lawful c.requires known.ensures.known known.ensures.all least.ensures;
    }
