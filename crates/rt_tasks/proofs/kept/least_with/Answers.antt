use Rattle.std.proofs.Common.{◌<◌, length, None, arith}
use Rattle.std.specs.Prelude.{slice_set}
use Rattle.std.proofs.lemmas.List.{length-set}
use Rattle.rt_tasks.proofs.Least.{least-step}
use Rattle.rt_tasks.proofs.kept.least_with.Goals as goal

pub loop-i-preserved : goal.loop-i-preserved
loop-i-preserved c =
    let within : c.loop-i.i < length (slice_set c.args.kept.now c.args.l.0 c.args.top) = let long = length-set c.args.kept.now c.args.l.0 c.args.top in omega arith in
    least-step c.args.own c.loop-i.best c.better-best.result (slice_set c.args.kept.now c.args.l.0 c.args.top) c.loop-i.i c.kept_with.result None within c.kept_with.ensures c.better-best.ensures c.loop-i.invariant
