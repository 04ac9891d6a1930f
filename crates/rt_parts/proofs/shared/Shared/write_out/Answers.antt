use Rattle.rt_model.specs.steps.Readers.{without_writer}
use Rattle.rt_parts.proofs.SharedSteps.{reader-set}
use Rattle.rt_parts.proofs.shared.Shared.write_out.Goals as goal

pub returns : goal.returns
returns c = reader-set _ _ _ _ c.self.view_is c.args.l.0 c.index.result.now _ (without_writer c.args.reader) c.self.invariant.readers c.requires.lock c.index.ensures c.write_out.ensures
