use Rattle.std.proofs.Common.{arith}
use Rattle.rt_core.proofs.GraphRounds.{least-more}
use Rattle.rt_core.proofs.graph.least_own.Goals as goal

pub loop-u-preserved : goal.loop-u-preserved
loop-u-preserved c =
    least-more c.args.core.now.state c.args.near.now c.loop-u.u c.loop-u.best c.better-best.result (omega (arith, c.requires.lawful.shape.tasks)) c.loop-u.invariant
    c.better-best.ensures.best c.better-best.ensures.below c.better-best.ensures.one
