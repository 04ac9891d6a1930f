use Rattle.std.proofs.Common.{◌≤◌, sym, subst, inl, inr, arith}
use Rattle.std.specs.Prelude.{◌↔◌, IsTrue}
use Rattle.rt_base.specs.declared.call.Call.{Call}
use Rattle.rt_base.specs.declared.limits.TheConstants.{MAX_PRIO}
use Rattle.rt_base.specs.Script.{IsCallOf}
use Rattle.rt_script.specs.Building.{built}
use Rattle.rt_script.proofs.Buildability.{tells, task_there}
use Rattle.rt_script.proofs.buildable.Parts.is_call.Goals as goal

pub returns-in-SetPrio : goal.returns-in-SetPrio
returns-in-SetPrio c =
    let within : c.in-SetPrio.prio ≤ MAX_PRIO = omega (arith, c.get-within.ensures.number, c.get-within.ensures.within) in
    let there = tells c.is_there.result c.is_there.ensures (task_there c.args.self.now c.in-SetPrio.t.0) in
    subst (λ (call : Call). IsTrue c.is_there.result ↔ IsCallOf (built c.args.self.now) call) (sym c.in-SetPrio.is) ((λ e. (there.0 e, within)), (λ h. there.1 h.0))

pub returns-in-Wake : goal.returns-in-Wake
returns-in-Wake c =
    let there = tells c.is_there-in-Wake.result c.is_there-in-Wake.ensures (task_there c.args.self.now c.in-Wake.t.0) in
    elim c.in-Wake.is [
      | inl e ↦ subst (λ (call : Call). IsTrue c.is_there-in-Wake.result ↔ IsCallOf (built c.args.self.now) call) (sym e) there
      | inr e ↦ subst (λ (call : Call). IsTrue c.is_there-in-Wake.result ↔ IsCallOf (built c.args.self.now) call) (sym e) there
    ]
