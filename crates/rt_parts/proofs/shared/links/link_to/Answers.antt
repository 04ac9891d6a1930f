use Rattle.std.proofs.Common.{◌<◌, ◌∙◌, ap, arith, Some}
use Rattle.rt_base.specs.declared.id.TaskId.{TaskId}
use Rattle.rt_model.specs.Parts.{TaskPart}
use Rattle.rt_model.specs.steps.Chain.{requeued_where_old}
use Rattle.rt_locks.specs.OwnerCell.{OwnerCell}
use Rattle.rt_parts.proofs.Linking.{front-cell, back-cell, task-first, owner-first}
use Rattle.rt_parts.proofs.shared.links.link_to.Goals as goal

pub returns-then-cursor-owner-clause-tasks : goal.returns-then-cursor-owner-clause-tasks
returns-then-cursor-owner-clause-tasks g c =
    let tasks = c.args.tasks.now in
    let parts = c.split_at_mut-front.ensures in
    let lt = c.if-cursor-owner.true in
    let there = c.requires.there in
    task-first tasks _ _ c.args.u c.args.o c.args.lock.now.part c.link_cells.new.lock.part _ _ c.link_cells.new.task c.link_cells.new.owner c.requires.owner
    (front-cell tasks _ c.args.u c.args.o.0 c.index-front-cursor.result parts.front (omega (arith, lt)) there)
    (back-cell tasks _ c.args.o c.index-back-0.result parts.back (omega (arith, parts.back_len, there)))
    c.link_cells.ensures.task c.link_cells.ensures.owner parts.front parts.back (omega (arith, lt)) there

-- the lock's cell after a link from a task
abbrev relinked : TaskId → OwnerCell → TaskPart → OwnerCell
relinked u lock task = record lock { part = requeued_where_old (Some u) task lock.part }

pub returns-else-cursor-owner-clause-lock : goal.returns-else-cursor-owner-clause-lock
returns-else-cursor-owner-clause-lock g c =
    let parts = c.split_at_mut-front-else-cursor-owner.ensures in
    let here = back-cell c.args.tasks.now _ c.args.u c.index-back-0-else-cursor-owner.result parts.back (omega (arith, parts.back_len, c.requires.task)) in
    c.link_cells-else-cursor-owner.ensures.lock ∙ ap (relinked c.args.u c.args.lock.now) here

pub returns-else-cursor-owner-clause-tasks : goal.returns-else-cursor-owner-clause-tasks
returns-else-cursor-owner-clause-tasks g c =
    let tasks = c.args.tasks.now in
    let parts = c.split_at_mut-front-else-cursor-owner.ensures in
    let there = c.requires.task in
    let lt : c.args.o.0 < c.args.u.0 = omega (arith, c.if-cursor-owner.false, c.requires.other) in
    owner-first tasks _ _ c.args.u c.args.o c.args.lock.now.part c.link_cells-else-cursor-owner.new.lock.part _ _ c.link_cells-else-cursor-owner.new.task c.link_cells-else-cursor-owner.new.owner c.requires.owner
    (back-cell tasks _ c.args.u c.index-back-0-else-cursor-owner.result parts.back (omega (arith, parts.back_len, there)))
    (front-cell tasks _ c.args.o c.args.u.0 c.index-front-owner.result parts.front lt there)
    c.link_cells-else-cursor-owner.ensures.task c.link_cells-else-cursor-owner.ensures.owner parts.front parts.back lt there
