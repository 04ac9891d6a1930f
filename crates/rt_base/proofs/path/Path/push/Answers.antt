use Rattle.std.proofs.Common.{◌<◌, arith}
use Rattle.rt_base.specs.declared.limits.TheConstants.{MAX_LINKS}
use Rattle.rt_base.proofs.Links.{IsPadded-push, length_from_view}
use Rattle.rt_base.proofs.path.Path.push.Goals as goal

pub invariant_of-self : goal.invariant_of-self
invariant_of-self c =
    let room : c.self.inside.len < MAX_LINKS = omega (arith, length_from_view _ _ _ c.self.invariant.0 c.self.invariant.1 c.self.view_is) in
    (IsPadded-push _ _ _ c.self.invariant.0 room, IsPadded-push _ _ _ c.self.invariant.1 room)
