use Rattle.std.proofs.Common.{◌≡◌, ◌∙◌, ℕ, List, ap, subst, refl}
use Rattle.std.proofs.lemmas.List.{take_all}
use Rattle.rt_base.specs.declared.id.LockId.{LockId}
use Rattle.rt_base.specs.Script.{LockLine}
use Rattle.rt_script.specs.declared.named.Named.TheVariants.{Lock}
use Rattle.rt_script.specs.ScriptFields.{NamesLines, IsNamedToo}
use Rattle.rt_script.proofs.BuiltNames.{names_lock_more}
use Rattle.rt_script.proofs.script.naming.names_of.Goals as goal

pub loop-l-preserved : goal.loop-l-preserved
loop-l-preserved c =
    let id : LockId = record { 0 = c.loop-l.l } in
    let name : c.as_str.result.now ≡ c.index-locks-l.result.name = c.as_str.ensures.value ∙ ap (λ (l : LockLine). l.name) c.lock.view_is in
    let added : IsNamedToo c.loop-l.names c.index-locks-l.result.name (Lock id) c.add_name.new.names = subst (λ (n : List ℕ). IsNamedToo c.loop-l.names n (Lock id) c.add_name.new.names) name c.in_ok-add_name.ensures in
    names_lock_more c.loop-l.names c.add_name.new.names c.args.tasks.now c.args.locks.now c.loop-l.l c.index-locks-l.result id c.loop-l-test.true c.index-locks-l.is refl c.loop-l.invariant added

pub returns : goal.returns
returns c = subst (λ (locks : List LockLine). NamesLines c.args.tasks.now locks c.loop-l.names) (take_all c.loop-l.l c.args.locks.now c.loop-l-test.false) c.loop-l.invariant
