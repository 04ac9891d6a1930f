use Rattle.rt_core.proofs.Leaving.{SameMany, named-many, both-many, named-stays}
use Rattle.rt_core.proofs.LinkedParts.{linked-parts}
use Rattle.rt_model.specs.steps.Task.{lock_woken}
use Rattle.rt_core.proofs.effect.walk.walk.Goals.{After-link}
use Rattle.rt_core.proofs.effect.walk.walk.Goals as goal

linked : (c : After-link) → SameMany c.args.shared.now c.link.new.self
linked c = linked-parts _ _ c.in-Some.u c.args.l c.link.ensures

pub lock_wake-requires : goal.lock_wake-requires
lock_wake-requires c = named-stays c.args.shared.now _ c.args.e.now.woken (linked (goal.at.lock_wake-requires c).After-link) c.requires.woken

pub found-requires : goal.found-requires
found-requires c = named-stays c.args.shared.now _ c.args.e.now.owner (both-many _ _ _ (linked (goal.at.found-requires c).After-link) (named-many _ _ c.args.e.now.woken (lock_woken c.spins.result) c.lock_wake.ensures)) c.requires.owner
