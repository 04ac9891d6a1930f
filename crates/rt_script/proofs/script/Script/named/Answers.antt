use Rattle.std.proofs.Common.{sym, ◌∙◌}
use Rattle.rt_script.proofs.Naming.{not_a_key}
use Rattle.rt_script.proofs.script.Script.named.Goals as goal

pub returns-in-Err : goal.returns-in-Err
returns-in-Err c = rw (← c.self.view_is) (sym (not_a_key c.self.inside.names c.args.name.now c.in-Err.ensures.cases.0) ∙ c.self.invariant.names c.args.name.now)
