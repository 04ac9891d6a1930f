use Rattle.std.proofs.Common.{ℕ, ◌<◌, length, sym, subst, IfSome}
use Rattle.rt_model.specs.Parts.{TaskPart}
use Rattle.rt_core.proofs.Choosing.{blocked-within}
use Rattle.rt_core.proofs.machine.Core.flat_state.Goals as goal

pub waits_spinning-requires : goal.waits_spinning-requires
waits_spinning-requires c =
    let core = c.args.self.now in
    let there = blocked-within core.state core.made c.args.t c.thread.ensures.lawful c.args.t in
    subst (λ (n : ℕ). IfSome c.cell-task.result.now.blocked (λ at. at.0.0 < n)) (sym c.thread.ensures.kinds)
    (subst (λ (task : TaskPart). IfSome task.blocked (λ at. at.0.0 < length core.state.locks)) (sym c.cell-task.ensures) there)
