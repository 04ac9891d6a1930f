use Rattle.rt_base.proofs.Outside.{on_err}
use Rattle.rt_base.proofs.Stream.{AppendsKnownPrefix-kept}
use Rattle.rt_base.proofs.stdio.write_through.Goals as goal

pub returns-in_err-flush-clause-part : goal.returns-in_err-flush-clause-part
returns-in_err-flush-clause-part g c =
    let contents = g.W.Write.contents in
    on_err c.from_residual-in_err-flush.result (AppendsKnownPrefix-kept (contents c.args.writer.now) (contents c.write.new.self) (contents c.flush.new.self) c.args.piece.now c.in_ok-count.count c.in_ok-count.ensures.bytes c.in_err-flush.ensures.bytes)
