use Rattle.std.proofs.Common.{◌≡◌, ◌∷◌, ◌++◌, [], ◌+◌, length, refl, sym, ◌∙◌, ap, arith}
use Rattle.std.proofs.lemmas.Option.{slice_get_read}
use Rattle.rt_base.specs.Script.{Script, task_line}
use Rattle.rt_script.specs.ScriptFields.{script_of_fields}
use Rattle.rt_script.proofs.Growth.{IsScript-with_call}
use Rattle.rt_script.proofs.Naming.{named-with_call}
use Rattle.rt_script.proofs.script.Script.push_call.Goals as goal

-- the task with the call after its others
called : (c : goal.After-self-2-1) → c.push_call.new.self ≡ record (task_line (script_of_fields c.self.inside) c.args.t) { calls = (task_line (script_of_fields c.self.inside) c.args.t).calls ++ c.args.call ∷ [] }
called c =
    let items = c.self.inside.tasks.items in
    let there = rw (← c.self.view_is) at c.requires.task in
    let found = slice_get_read items (length items) c.args.t.0 c.index_mut.result.now refl there c.index_mut.ensures.value in
    rw found c.in_ok-push_call.ensures.ok

pub invariant_of-self-2 : goal.invariant_of-self-2
invariant_of-self-2 c =
    let s : Script = script_of_fields c.self.inside in
    let there = rw (← c.self.view_is) at c.requires.task in
    let room = rw (← c.self.view_is) at c.requires.room in
    let fits = rw (← c.self.view_is) at c.requires.fits in
    let h = IsScript-with_call s c.args.t c.args.call c.self.invariant.script there (omega arith) fits in
    record {
      script = rw (called c) h.0;
      calls = rw (called c) (ap (λ n. n + 1) c.self.invariant.calls ∙ sym h.1);
      names = λ name. rw (called c) (c.self.invariant.names name ∙ sym (named-with_call s c.args.t c.args.call name));
    }

pub returns-clause-ok : goal.returns-clause-ok
returns-clause-ok c = rw (called c, ← c.self.view_is) refl
