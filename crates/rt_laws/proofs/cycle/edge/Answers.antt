use Rattle.std.proofs.Common.{◌≡◌, ◌∙◌, ◌<◌, ◌≤◌, ℕ, length, sym, ap, arith, Option, Some}
use Rattle.std.specs.Prelude.{option_map}
use Rattle.rt_base.specs.declared.id.LockId.{LockId}
use Rattle.rt_base.specs.declared.limits.TheConstants.{MAX_LOCKS}
use Rattle.rt_model.specs.Parts.{TaskPart}
use Rattle.rt_core.proofs.Choosing.{blocked-lock}
use Rattle.rt_laws.proofs.cycle.edge.Goals.{After-lock-1}
use Rattle.rt_laws.proofs.cycle.edge.Goals as goal

-- the lock on which the task is blocked is there
there : (c : After-lock-1) → c.in_ok-lock.lock.0 < length c.args.core.now.state.locks
there c =
    let core = c.args.core.now in
    let blocked = sym (ap (λ (task : TaskPart). task.blocked) c.cell.ensures) ∙ (sym c.blocked_at.ensures ∙ c.in_ok-lock.was) in
    blocked-lock core.state core.made c.args.t c.requires.lawful c.args.t c.in_ok-lock.lock (ap (λ (b : Option (LockId × ℕ)). option_map (λ (at : LockId × ℕ). at.0) b) blocked)

pub lock-requires : goal.lock-requires
lock-requires c = there c

pub returns-clause-lock : goal.returns-clause-lock
returns-clause-lock c =
    let few = c.requires.lawful.shape.few_locks in
    omega (arith, there (goal.at.returns-clause-lock c).After-lock-1, few)
