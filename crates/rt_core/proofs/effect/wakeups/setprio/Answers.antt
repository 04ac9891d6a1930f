use Rattle.rt_model.specs.steps.Task.{with_own}
use Rattle.rt_core.proofs.Leaving.{task-many, named-stays}
use Rattle.rt_core.proofs.effect.wakeups.setprio.Goals as goal

pub first_phase-requires : goal.first_phase-requires
first_phase-requires c = named-stays c.args.shared.now _ c.args.e.now.other (task-many _ _ c.in-Some-Some.u.0 (with_own c.in-Some-Some.prio) c.set_own.ensures) c.requires.other
