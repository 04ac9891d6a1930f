use Rattle.std.proofs.Common.{◌<◌, length, arith}
use Rattle.rt_base.specs.Script.{LockLine}
use Rattle.rt_parts.proofs.Prefixes.{prefix-more}
use Rattle.rt_parts.proofs.start.kinds_in.Goals as goal

pub loop-l-preserved : goal.loop-l-preserved
loop-l-preserved c =
    let locks = c.args.script.now.locks in
    let lt : c.loop-l.l < length locks = omega (arith, c.locks-l-end.ensures.number) in
    prefix-more (λ (line : LockLine). line.kind) locks c.loop-l.l _ _ _ _ lt c.loop-l.invariant c.kind.ensures c.in_ok-push.ensures.items
