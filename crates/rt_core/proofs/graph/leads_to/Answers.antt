use Rattle.std.proofs.Common.{◌∙◌, sym, ap, ℕ, Option}
use Rattle.std.specs.Prelude.{option_map}
use Rattle.rt_base.specs.declared.id.LockId.{LockId}
use Rattle.rt_model.specs.Parts.{TaskPart}
use Rattle.rt_core.proofs.Choosing.{blocked-lock}
use Rattle.rt_core.proofs.graph.leads_to.Goals as goal

pub lock-requires : goal.lock-requires
lock-requires c =
    let core = c.args.core.now in
    let at : TaskPart → Option LockId = λ task. option_map (λ (at : LockId × ℕ). at.0) task.blocked in
    blocked-lock core.state core.made c.args.t c.requires.lawful c.args.t c.in-Some.l (sym (ap at c.cell.ensures) ∙ (sym c.blocked.ensures ∙ c.in-Some.is))
