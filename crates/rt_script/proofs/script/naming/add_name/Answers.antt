use Rattle.std.proofs.Common.{◌≡◌, string_bytes, rules}
use Rattle.std.specs.Prelude.{None, Some}
use Rattle.std.specs.HashMap.{get_by_text}
use Rattle.std.proofs.lemmas.Map.Text.{hash_map_updates_text}
use Rattle.rt_script.proofs.BuiltNames.{named_too}
use Rattle.rt_script.proofs.script.naming.add_name.Goals as goal

pub returns-in_ok-insert : goal.returns-in_ok-insert
returns-in_ok-insert c =
    let key : string_bytes c.in_ok-from_str.field-0 ≡ c.args.name.now = c.in_ok-from_str.ensures.ok in
    let none : get_by_text c.args.names.now c.args.name.now ≡ None = search rules in
    let after = hash_map_updates_text (string_bytes c.in_ok-from_str.field-0) c.args.names.now c.insert.new.self (Some c.args.meant) c.in_ok-insert.ensures.updates in
    named_too c.args.names.now c.insert.new.self c.args.name.now c.args.meant none (rw (← key) after)
