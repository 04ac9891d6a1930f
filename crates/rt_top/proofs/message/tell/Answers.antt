use Rattle.rt_top.proofs.MessageWritten.{told}
use Rattle.rt_top.proofs.message.tell.Goals as goal

pub returns-clause-told : goal.returns-clause-told
returns-clause-told g c =
    told c.write_whole.result c.args.line.now (g.K.Sink.held c.args.out.now) (g.K.Sink.held c.write_whole.new.out) (g.K.Sink.faults c.args.out.now) (g.K.Sink.faults c.write_whole.new.out) c.write_whole.ensures
