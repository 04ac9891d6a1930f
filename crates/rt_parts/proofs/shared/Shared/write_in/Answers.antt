use Rattle.std.proofs.Common.{◌≡◌, ◌∙◌, true, cond, ap, sym, Some, None}
use Rattle.rt_model.specs.declared.reader_cell.ReaderCell.{ReaderCell}
use Rattle.rt_model.specs.steps.Readers.{can_write, with_writer}
use Rattle.rt_parts.proofs.SharedSteps.{reader-at, reader-set}
use Rattle.rt_parts.proofs.shared.Shared.write_in.Goals as goal

-- where no reader is in, the writer gets in
written : (cell : ReaderCell) → can_write cell ≡ true → cond (can_write cell) (Some (with_writer cell)) None ≡ Some (with_writer cell)
written cell can = ap (λ b. cond b (Some (with_writer cell)) None) can

pub returns-in-Some : goal.returns-in-Some
returns-in-Some c =
    let can : can_write c.index.result.now ≡ true = ap can_write (reader-at _ _ _ _ c.self.view_is c.args.l c.index.result.now c.self.invariant.readers c.requires.lock c.index.ensures) ∙ c.requires.can.2 in
    let left : Some c.in-Some.written ≡ Some (with_writer c.index.result.now) = sym c.in-Some.is ∙ (c.write_in.ensures ∙ written c.index.result.now can) in
    reader-set _ _ _ _ c.self.view_is c.args.l.0 c.index.result.now _ with_writer c.self.invariant.readers c.requires.lock c.index.ensures cc

pub returns-in_default : goal.returns-in_default
returns-in_default c =
    let can : can_write c.index.result.now ≡ true = ap can_write (reader-at _ _ _ _ c.self.view_is c.args.l c.index.result.now c.self.invariant.readers c.requires.lock c.index.ensures) ∙ c.requires.can.2 in
    let left = c.write_in.ensures ∙ written c.index.result.now can in
    absurd cc
