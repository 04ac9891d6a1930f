use Rattle.std.proofs.Common.{◌<◌, ◌∙◌, sym, ap, subst, length, List, arith}
use Rattle.std.proofs.lemmas.List.{length-map}
use Rattle.rt_base.specs.Script.{TaskLine, LockLine, task_line}
use Rattle.rt_base.specs.declared.call.Call.{Call}
use Rattle.rt_base.specs.declared.id.Cpu.{Cpu}
use Rattle.rt_base.specs.declared.id.TaskId.{TaskId}
use Rattle.rt_base.specs.declared.limits.TheConstants.{MAX_TASKS}
use Rattle.rt_model.specs.State.{fresh_thread, kinds_in}
use Rattle.rt_model.specs.laws.Shape.{IsThread}
use Rattle.rt_parts.proofs.Starting.{fresh-thread}
use Rattle.rt_parts.proofs.Prefixes.{prefix-more}
use Rattle.rt_parts.proofs.start.threads.Goals as goal

pub new-requires-clause-few_locks : goal.new-requires-clause-few_locks
new-requires-clause-few_locks c =
    let long = ap length (c.as_slice.ensures.value ∙ c.in_ok-kinds.ensures) ∙ length-map c.args.script.now.locks (λ (line : LockLine). line.kind) in
    let few = c.tasks-t-end.ensures.valid.locks in
    omega (arith, long, few)

pub new-requires-clause-calls : goal.new-requires-clause-calls
new-requires-clause-calls c =
    let script = c.args.script.now in
    let valid = c.tasks-t-end.ensures.valid in
    let t : TaskId = record { 0 = c.loop-t.t } in
    let lt : c.loop-t.t < length script.tasks = omega (arith, c.tasks-t-end.ensures.number) in
    let long = ap length (c.as_slice.ensures.value ∙ c.in_ok-kinds.ensures) ∙ length-map script.locks (λ (line : LockLine). line.kind) in
    subst (λ (calls : List Call). IsThread calls 0 c.cpu.result MAX_TASKS (length c.as_slice.result.now)) (sym c.calls.ensures)
    (subst (λ (cpu : Cpu). IsThread (task_line script t).calls 0 cpu MAX_TASKS (length c.as_slice.result.now)) (sym c.cpu.ensures)
    (subst (IsThread (task_line script t).calls 0 (task_line script t).cpu MAX_TASKS) (sym long) (fresh-thread script valid t lt)))

pub loop-t-preserved : goal.loop-t-preserved
loop-t-preserved c =
    let tasks = c.args.script.now.tasks in
    let lt : c.loop-t.t < length tasks = omega (arith, c.tasks-t-end.ensures.number) in
    let kinds = c.as_slice.ensures.value ∙ c.in_ok-kinds.ensures in
    prefix-more (λ (line : TaskLine). fresh_thread (kinds_in c.args.script.now) line.calls line.cpu) tasks c.loop-t.t _ _ _ _ lt c.loop-t.invariant (c.in_ok-thread.ensures ∙ (λ i. fresh_thread (kinds i) (c.calls.ensures i) (c.cpu.ensures i))) c.in_ok-push.ensures.items
