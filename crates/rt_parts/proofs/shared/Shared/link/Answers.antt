use Rattle.std.proofs.Common.{◌≡◌, ◌∙◌, List, length, sym, ap, subst}
use Rattle.std.proofs.Math.ListN.{take, drop}
use Rattle.std.specs.Prelude.{◌++◌}
use Rattle.rt_model.specs.Parts.{TaskPart}
use Rattle.rt_model.specs.State.{Shared}
use Rattle.rt_model.proofs.Lists.{lent_whole}
use Rattle.rt_parts.specs.Links.{IsQueuedAt, task_among, tasks_linked}
use Rattle.rt_parts.proofs.SharedSteps.{lock-at, lock-there}
use Rattle.rt_parts.proofs.Linking.{cell_linked, linked-many, shared-linked, linked-fits}
use Rattle.rt_parts.proofs.shared.Shared.link.Goals.{After-link}
use Rattle.rt_parts.proofs.shared.Shared.link.Goals as goal

pub link-requires-clause-queued : goal.link-requires-clause-queued
link-requires-clause-queued c =
    let part = lock-at _ _ _ _ c.self.view_is c.args.l c.index_mut-lock.result.now c.requires.lock c.index_mut-lock.ensures.value in
    let tasks = c.as_mut_slice.ensures.value ∙ ap (λ (sh : Shared). sh.tasks) c.self.view_is in
    subst (λ (all : List TaskPart). IsQueuedAt c.args.u (task_among all c.args.u) c.index_mut-lock.result.now.part) (sym tasks)
    (subst (IsQueuedAt c.args.u (task_among c.args.self.now.tasks c.args.u)) (sym part) c.requires.queued)

-- the cells that are left
lock : (c : After-link) → c.link.new.lock ≡ cell_linked c.args.u (task_among c.self.inside.tasks.items c.args.u) c.index_mut-lock.result.now
lock c = c.link.ensures.lock ∙ ap (λ (all : List TaskPart). cell_linked c.args.u (task_among all c.args.u) c.index_mut-lock.result.now) c.as_mut_slice.ensures.value

tasks : (c : After-link) → c.link.new.tasks ≡ tasks_linked c.args.u c.index_mut-lock.result.now.part c.link.new.lock.part c.self.inside.tasks.items
tasks c = c.link.ensures.tasks ∙ ap (tasks_linked c.args.u c.index_mut-lock.result.now.part c.link.new.lock.part) c.as_mut_slice.ensures.value

whole : (c : After-link) → take c.self.inside.tasks.len (c.link.new.tasks ++ drop (length c.link.new.tasks) c.self.inside.tasks.items) ≡ tasks_linked c.args.u c.index_mut-lock.result.now.part c.link.new.lock.part c.self.inside.tasks.items
whole c =
    let long = sym c.self.inside.tasks.ok.0 in
    lent_whole c.self.inside.tasks.len c.link.new.tasks c.self.inside.tasks.items (ap length (tasks c) ∙ (linked-many c.args.u c.index_mut-lock.result.now.part c.link.new.lock.part c.self.inside.tasks.items ∙ long)) long ∙ tasks c

pub invariant_of-self : goal.invariant_of-self
invariant_of-self c =
    let after = (goal.at.invariant_of-self c).After-link in
    linked-fits c.self.inside.locks.items _ c.self.inside.tasks.items _ c.args.u c.args.l c.index_mut-lock.result.now c.link.new.lock c.self.invariant
    (lock-there _ _ _ _ c.self.view_is c.args.l.0 c.requires.lock) c.index_mut-lock.ensures.value (lock after) (whole after)

pub returns : goal.returns
returns c =
    let after = (goal.at.returns c).After-link in
    shared-linked c.self.inside.locks.items c.self.inside.readers.items c.self.inside.tasks.items _ c.args.self.now c.args.u c.args.l c.index_mut-lock.result.now c.link.new.lock c.self.view_is
    c.requires.lock c.index_mut-lock.ensures.value (lock after) (whole after)
