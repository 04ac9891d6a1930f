use Rattle.rt_tasks.proofs.Least.{least-step}
use Rattle.rt_tasks.proofs.kept.least_of.Goals as goal

pub loop-i-preserved : goal.loop-i-preserved
loop-i-preserved c =
    least-step c.args.own c.loop-i.best c.better-best.result c.args.kept.now c.loop-i.i c.index-kept-i.result c.index-kept-i.result c.loop-i-test.true c.index-kept-i.is c.better-best.ensures c.loop-i.invariant
