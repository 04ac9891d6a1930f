use Rattle.std.proofs.Common.{◌≡◌, length, arith, string_bytes}
use Rattle.std.proofs.lemmas.Map.Text.{hash_map_updates_text}
use Rattle.rt_base.specs.Script.{Script}
use Rattle.rt_script.specs.ScriptFields.{script_of_fields}
use Rattle.rt_script.proofs.Growth.{IsScript-with_locks}
use Rattle.rt_script.proofs.OwnNames.{names-with_new_locks}
use Rattle.rt_script.proofs.script.Script.push_locks.Goals as goal

pub invariant_of-self-2 : goal.invariant_of-self-2
invariant_of-self-2 c =
    let s : Script = script_of_fields c.self.inside in
    let room = rw (← c.self.view_is) at c.requires.room in
    let added = rw (← c.self.view_is) at c.requires.added in
    let h = IsScript-with_locks s c.args.locks.items (string_bytes c.args.name) c.self.invariant.script room added in
    let after = hash_map_updates_text (string_bytes c.args.name) c.reserve.new.self c.insert.new.self _ c.in_ok-insert.ensures.updates in
    let number : c.len.result ≡ length s.locks = omega (arith, c.len.ensures, c.self.inside.locks.ok) in
    record {
      script = rw c.in_ok-append.ensures.items h;
      calls = c.self.invariant.calls;
      names = λ name. rw c.in_ok-append.ensures.items
          (names-with_new_locks c.reserve.new.self c.insert.new.self s c.args.locks.items (string_bytes c.args.name) (record { 0 = c.len.result })
          (λ name. rw c.reserve.ensures.entries (c.self.invariant.names name)) after c.self.invariant.script.cpus.0 added number name);
    }
