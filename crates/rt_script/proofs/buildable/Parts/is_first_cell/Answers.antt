use Rattle.rt_script.specs.Building.{Plan, plan_of}
use Rattle.rt_script.proofs.Buildability.{never, no_lock_of, first_cell_tells, not_local}
use Rattle.rt_script.proofs.buildable.Parts.is_first_cell.Goals as goal

pub returns-then-n-self : goal.returns-then-n-self
returns-then-n-self c =
    let plan : Plan = plan_of c.self.inside.cpus c.self.inside.tasks.now c.self.inside.locks.now c.self.inside.picks.now in
    rw (← c.self.view_is) (never, (λ h. absurd (no_lock_of plan c.args.l.0 _ c.if-n-self.true h)))

pub returns-then-is_same : goal.returns-then-is_same
returns-then-is_same c =
    let plan : Plan = plan_of c.self.inside.cpus c.self.inside.tasks.now c.self.inside.locks.now c.self.inside.picks.now in
    rw (← c.self.view_is) (first_cell_tells plan c.args.l.0 _ c.count_cells.result c.if-n-self.false (c.is_same.ensures.0 c.if-is_same.true) c.count_cells.ensures)

pub returns-else-is_same : goal.returns-else-is_same
returns-else-is_same c =
    let plan : Plan = plan_of c.self.inside.cpus c.self.inside.tasks.now c.self.inside.locks.now c.self.inside.picks.now in
    rw (← c.self.view_is) (not_local plan c.args.l.0 _ c.is_same.result c.if-n-self.false c.is_same.ensures c.if-is_same.false)
