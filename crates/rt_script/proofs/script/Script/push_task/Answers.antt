use Rattle.std.proofs.Common.{◌≡◌, length, sym, ap, ◌∙◌, arith, string_bytes}
use Rattle.std.proofs.lemmas.Map.Text.{hash_map_updates_text}
use Rattle.rt_base.specs.Script.{Script, TaskLine}
use Rattle.rt_script.specs.ScriptFields.{script_of_fields}
use Rattle.rt_script.proofs.Growth.{IsScript-with_task}
use Rattle.rt_script.proofs.Naming.{names-with_task}
use Rattle.rt_script.proofs.script.Script.push_task.Goals as goal

pub invariant_of-self-2 : goal.invariant_of-self-2
invariant_of-self-2 c =
    let s : Script = script_of_fields c.self.inside in
    let room = rw (← c.self.view_is) at c.requires.room in
    let fits = rw (← c.self.view_is) at c.requires.fits in
    let free = rw (← c.self.view_is) at c.requires.free in
    let h = IsScript-with_task s c.args.task c.self.invariant.script (omega arith) fits c.requires.uncalled free in
    let after = hash_map_updates_text (string_bytes c.in_ok-name.name) c.reserve.new.self c.insert.new.self _ c.in_ok-insert.ensures.updates in
    let key : string_bytes c.in_ok-name.name ≡ c.args.task.name = c.in_ok-name.ensures.cases ∙ ap (λ (l : TaskLine). l.name) c.task.view_is in
    let number : c.len.result ≡ length s.tasks = omega (arith, c.len.ensures, c.self.inside.tasks.ok) in
    record {
      script = rw c.in_ok-push.ensures.items h.0;
      calls = rw c.in_ok-push.ensures.items (c.self.invariant.calls ∙ sym h.1);
      names = λ name. rw c.in_ok-push.ensures.items
          (names-with_task c.reserve.new.self c.insert.new.self s c.args.task (string_bytes c.in_ok-name.name) (record { 0 = c.len.result })
          (λ name. rw c.reserve.ensures.entries (c.self.invariant.names name)) after key number free name);
    }
