use Rattle.std.proofs.Common.{◌∙◌, sym, ap}
use Rattle.rt_model.specs.CanMove.{can_in, can_at}
use Rattle.rt_core.proofs.enabled.can_move.Goals as goal

pub returns-in-Start : goal.returns-in-Start
returns-in-Start c =
    let thread = c.args.thread.now in
    let task = c.args.task.now in
    c.can_start.ensures
    ∙ (ap (λ phase. can_in phase thread task c.in-Some.call) (sym c.in-Start.is ∙ c.phase.ensures) ∙ ap (can_at thread task) (sym c.in-Some.is ∙ c.call.ensures.call))
