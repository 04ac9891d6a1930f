use Rattle.std.proofs.Common.{◌+◌, ◌∙◌, sym, arith}
use Rattle.std.proofs.lemmas.List.{take_all}
use Rattle.rt_script.specs.Building.{built_locks}
use Rattle.rt_script.proofs.Built.{lock_lines_more}
use Rattle.rt_script.proofs.BuiltLines.{length-built_locks, cells_more}
use Rattle.rt_script.proofs.lock.built_locks.Goals as goal

pub loop-n-preserved : goal.loop-n-preserved
loop-n-preserved c =
    let here = c.loop-n-test.true in
    let lines = lock_lines_more c.args.cpus c.args.kinds.now c.loop-n.n _ c.loop-n.locks.items _ c.loop-n.cells here c.loop-n.invariant.locks c.loop-n.invariant.cells c.in_ok-built_lock.ensures in
    record {
      locks = c.in_ok-push.ensures.items ∙ lines;
      cells = (λ i. c.loop-n.invariant.cells i + c.cells_in.ensures i) ∙ sym (cells_more c.args.kinds.now c.loop-n.n _ here);
    }

pub returns : goal.returns
returns c = c.loop-n.invariant.locks ∙ take_all c.loop-n.n (built_locks c.args.cpus c.args.kinds.now) (omega (arith, length-built_locks c.args.cpus c.args.kinds.now, c.loop-n-test.false))
