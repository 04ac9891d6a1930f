use Rattle.std.proofs.Common.{◌≡◌, ◌∙◌, List, ap, arith, length, map, refl, subst}
use Rattle.rt_base.specs.Script.{TaskLine, LockLine}
use Rattle.rt_script.specs.Building.{task_plan, plan_of, planned_calls, built_locks}
use Rattle.rt_script.specs.ScriptFields.{NamesLines}
use Rattle.rt_script.proofs.Built.{IsScript-of_parts, AreFields-built}
use Rattle.rt_script.proofs.BuiltLines.{length-built_tasks, length-built_locks}
use Rattle.rt_script.proofs.Written.{parses}
use Rattle.rt_script.proofs.script.Script.build.Goals as goal

pub names_of-requires-clause-few_tasks : goal.names_of-requires-clause-few_tasks
names_of-requires-clause-few_tasks c =
    let lines = ap length c.in_ok-tasks.ensures in
    omega (arith, c.deref-3.ensures.len, lines, length-built_tasks (map task_plan c.args.tasks.items), c.requires.tasks)

pub names_of-requires-clause-few_locks : goal.names_of-requires-clause-few_locks
names_of-requires-clause-few_locks c =
    let lines = ap length c.in_ok-locks.ensures in
    omega (arith, c.deref-4.ensures.len, lines, c.deref-2.ensures.len, length-built_locks c.args.cpus c.deref-2.result.now, c.requires.locks)

pub invariant_of-result : goal.invariant_of-result
invariant_of-result c =
    let locks : c.in_ok-locks.locks.items ≡ built_locks c.args.cpus c.args.locks.items = c.in_ok-locks.ensures ∙ ap (built_locks c.args.cpus) c.deref-2.ensures.value in
    let names : NamesLines c.in_ok-tasks.tasks.items c.in_ok-locks.locks.items c.in_ok-names.names =
    subst (λ (ls : List LockLine). NamesLines c.in_ok-tasks.tasks.items ls c.in_ok-names.names) c.deref-4.ensures.value
    (subst (λ (ts : List TaskLine). NamesLines ts c.deref-4.result.now c.in_ok-names.names) c.deref-3.ensures.value c.in_ok-names.ensures) in
    AreFields-built _ (plan_of c.args.cpus c.args.tasks.items c.args.locks.items c.args.picks.items) c.requires refl c.in_ok-tasks.ensures locks refl
    (c.count_calls-all_calls.ensures ∙ ap (λ ts. planned_calls (map task_plan ts)) c.deref.ensures.value) names

pub returns-clause-valid : goal.returns-clause-valid
returns-clause-valid c =
    let locks : c.in_ok-locks.locks.items ≡ built_locks c.args.cpus c.args.locks.items = c.in_ok-locks.ensures ∙ ap (built_locks c.args.cpus) c.deref-2.ensures.value in
    IsScript-of_parts (plan_of c.args.cpus c.args.tasks.items c.args.locks.items c.args.picks.items) c.requires _ _ c.in_ok-tasks.ensures locks

pub returns-clause-reads : goal.returns-clause-reads
returns-clause-reads c =
    let locks : c.in_ok-locks.locks.items ≡ built_locks c.args.cpus c.args.locks.items = c.in_ok-locks.ensures ∙ ap (built_locks c.args.cpus) c.deref-2.ensures.value in
    parses _ (IsScript-of_parts (plan_of c.args.cpus c.args.tasks.items c.args.locks.items c.args.picks.items) c.requires _ _ c.in_ok-tasks.ensures locks)
