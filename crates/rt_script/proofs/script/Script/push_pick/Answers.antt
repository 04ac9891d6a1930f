use Rattle.std.proofs.Common.{sym, ◌∙◌, arith}
use Rattle.rt_base.specs.Script.{Script}
use Rattle.rt_script.specs.ScriptFields.{script_of_fields}
use Rattle.rt_script.proofs.Growth.{IsScript-with_pick}
use Rattle.rt_script.proofs.Naming.{named-with_pick}
use Rattle.rt_script.proofs.script.Script.push_pick.Goals as goal

pub invariant_of-self-2 : goal.invariant_of-self-2
invariant_of-self-2 c =
    let s : Script = script_of_fields c.self.inside in
    let there = rw (← c.self.view_is) at c.requires.task in
    let room = rw (← c.self.view_is) at c.requires.room in
    let h = IsScript-with_pick s c.args.t c.self.invariant.script there (omega arith) in
    record {
      script = rw c.in_ok-push.ensures.items h;
      calls = c.self.invariant.calls;
      names = λ name. rw c.in_ok-push.ensures.items (c.self.invariant.names name ∙ sym (named-with_pick s c.args.t name));
    }
