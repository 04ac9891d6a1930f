use Rattle.std.proofs.Common.{◌∙◌, ap, replicate, length}
use Rattle.rt_model.specs.State.{free_lock, no_readers}
use Rattle.rt_parts.specs.Shared.{parts_of}
use Rattle.rt_parts.proofs.OwnerParts.{parts-replicate}
use Rattle.rt_parts.proofs.Starting.{start-fits}
use Rattle.rt_parts.proofs.shared.Shared.new.Goals as goal

pub invariant_of-result : goal.invariant_of-result
invariant_of-result c =
    let script = c.args.script.now in
    let few_locks = c.locks.ensures.valid.locks in
    let few_tasks = c.locks.ensures.valid.tasks in
    start-fits (length script.locks) script.tasks _ _ _ no_readers few_locks few_tasks
    (c.in_ok-lock_cells.ensures ∙ (λ i. replicate (c.locks.ensures.number i) (record { part = free_lock; tasks = c.tasks.ensures.number i })))
    (c.in_ok-vec.ensures.items_if_clones_equal (λ y is. is) ∙ ap (λ n. replicate n no_readers) c.locks-2.ensures.number)
    c.in_ok-task_cells.ensures

pub returns-clause-start : goal.returns-clause-start
returns-clause-start c =
    let script = c.args.script.now in
    let locks = ap parts_of (c.in_ok-lock_cells.ensures ∙ (λ i. replicate (c.locks.ensures.number i) (record { part = free_lock; tasks = c.tasks.ensures.number i }))) ∙ parts-replicate (length script.locks) (length script.tasks) in
    let readers = c.in_ok-vec.ensures.items_if_clones_equal (λ y is. is) ∙ ap (λ n. replicate n no_readers) c.locks-2.ensures.number in
    λ i. record { locks = locks i; readers = readers i; tasks = c.in_ok-task_cells.ensures i }
