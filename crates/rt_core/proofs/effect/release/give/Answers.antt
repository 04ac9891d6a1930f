use Rattle.std.proofs.Common.{Some, None}
use Rattle.rt_model.specs.steps.Lock.{given_up}
use Rattle.rt_model.specs.steps.Task.{with_top}
use Rattle.rt_core.proofs.Leaving.{lock-many, task-many, both-many, lock-stays, named-stays}
use Rattle.rt_core.proofs.effect.release.give.Goals as goal

pub drop_top-requires-clause-lock : goal.drop_top-requires-clause-lock
drop_top-requires-clause-lock c = lock-stays c.args.shared.now _ c.args.l.0 (lock-many _ _ c.args.l.0 given_up c.give.ensures) c.requires.lock

pub lock_wake-requires : goal.lock_wake-requires
lock_wake-requires c =
    named-stays c.args.shared.now _ c.args.e.now.woken
    (both-many _ _ _ (lock-many _ _ c.args.l.0 given_up c.give.ensures) (task-many _ _ c.args.e.now.task.0 (with_top (Some c.args.l) None) c.drop_top.ensures)) c.requires.woken
