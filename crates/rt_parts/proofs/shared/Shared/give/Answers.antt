use Rattle.std.proofs.Common.{ap}
use Rattle.rt_model.specs.steps.Lock.{given_up}
use Rattle.rt_locks.specs.OwnerCell.{OwnerCell}
use Rattle.rt_parts.proofs.SharedSteps.{lock-set}
use Rattle.rt_parts.proofs.shared.Shared.give.Goals as goal

pub returns : goal.returns
returns c = lock-set _ _ _ _ c.self.view_is c.args.l.0 c.index_mut.result.now _ given_up c.requires c.index_mut.ensures.value (ap (λ (cell : OwnerCell). cell.part) c.give.ensures.part)
