use Rattle.std.proofs.Common.{◌≡◌, sym, ◌∙◌, subst}
use Rattle.rt_base.specs.Script.{Script, IsScript}
use Rattle.rt_script.specs.Adding.{empty_script, with_cpus}
use Rattle.rt_script.specs.ScriptFields.{script_of_fields}
use Rattle.rt_script.proofs.Growth.{IsScript-of_cpus}
use Rattle.rt_script.proofs.Naming.{named-with_cpus}
use Rattle.rt_script.proofs.script.Script.set_cpus.Goals as goal

pub invariant_of-self : goal.invariant_of-self
invariant_of-self c =
    let s : Script = script_of_fields c.self.inside in
    let empty : s ≡ empty_script = c.self.view_is ∙ c.requires.empty in
    record {
      script = subst (λ (s : Script). IsScript (with_cpus s c.args.n)) (sym empty) (IsScript-of_cpus c.args.n c.requires.positive c.requires.few);
      calls = c.self.invariant.calls;
      names = λ name. c.self.invariant.names name ∙ sym (named-with_cpus s c.args.n name);
    }
