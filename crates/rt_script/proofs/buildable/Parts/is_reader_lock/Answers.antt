use Rattle.rt_script.specs.Building.{Plan, plan_of}
use Rattle.rt_script.proofs.Buildability.{tells, readers_of, past_locks}
use Rattle.rt_script.proofs.buildable.Parts.is_reader_lock.Goals as goal

pub returns-then-n-self : goal.returns-then-n-self
returns-then-n-self c =
    let plan : Plan = plan_of c.self.inside.cpus c.self.inside.tasks.now c.self.inside.locks.now c.self.inside.picks.now in
    rw (← c.self.view_is) (tells c.has_readers.result c.has_readers.ensures (readers_of plan c.args.l.0 _ c.if-n-self.true))

pub returns-else-n-self : goal.returns-else-n-self
returns-else-n-self c =
    let plan : Plan = plan_of c.self.inside.cpus c.self.inside.tasks.now c.self.inside.locks.now c.self.inside.picks.now in
    rw (← c.self.view_is) (past_locks plan c.args.l.0 _ c.if-n-self.false)
