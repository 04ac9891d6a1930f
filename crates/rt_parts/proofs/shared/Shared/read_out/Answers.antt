use Rattle.std.proofs.Common.{◌∙◌, ap, sym}
use Rattle.rt_model.specs.steps.Readers.{without_reader, wakes_writer}
use Rattle.rt_parts.proofs.SharedSteps.{reader-set, reader-read}
use Rattle.rt_parts.proofs.shared.Shared.read_out.Goals as goal

pub returns-clause-parts : goal.returns-clause-parts
returns-clause-parts c =
    reader-set _ _ _ _ c.self.view_is c.args.l.0 c.index.result.now _ without_reader c.self.invariant.readers c.requires.lock c.index.ensures (ap (λ (told : _). told.0) c.read_out-last.ensures)

pub returns-clause-last : goal.returns-clause-last
returns-clause-last c =
    let changed = ap (λ (told : _). told.0) c.read_out-last.ensures in
    ap (λ (told : _). told.1) c.read_out-last.ensures
    ∙ ap wakes_writer (sym (reader-read _ _ _ _ c.self.view_is c.args.l c.read_out-last.result.0 c.self.invariant.readers c.requires.lock ∙ changed))
