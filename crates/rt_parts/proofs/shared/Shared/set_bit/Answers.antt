use Rattle.std.proofs.Common.{ap}
use Rattle.std.proofs.Common.{true}
use Rattle.rt_locks.specs.OwnerCell.{OwnerCell}
use Rattle.rt_parts.proofs.SharedSteps.{lock-set}
use Rattle.rt_parts.proofs.shared.Shared.set_bit.Goals as goal

pub returns : goal.returns
returns c = lock-set _ _ _ _ c.self.view_is c.args.l.0 c.index_mut.result.now _ (λ lock. record lock { bit = true }) c.requires c.index_mut.ensures.value (ap (λ (cell : OwnerCell). cell.part) c.set_bit.ensures)
