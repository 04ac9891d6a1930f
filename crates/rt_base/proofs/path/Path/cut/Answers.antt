use Rattle.std.proofs.Common.{◌≤◌, arith}
use Rattle.rt_base.proofs.Links.{IsPadded-cut, zip_padded-cut, length_from_view}
use Rattle.rt_base.proofs.path.Path.cut.Goals as goal

pub invariant_of-self : goal.invariant_of-self
invariant_of-self c =
    let kept : c.args.n ≤ c.self.inside.len = omega (arith, length_from_view _ _ _ c.self.invariant.0 c.self.invariant.1 c.self.view_is) in
    (rw c.clear_from.ensures (IsPadded-cut _ _ _ c.self.invariant.0 kept), rw c.clear_from-2.ensures (IsPadded-cut _ _ _ c.self.invariant.1 kept))

pub returns : goal.returns
returns c =
    let kept : c.args.n ≤ c.self.inside.len = omega (arith, length_from_view _ _ _ c.self.invariant.0 c.self.invariant.1 c.self.view_is) in
    rw (c.clear_from.ensures, c.clear_from-2.ensures, ← c.self.view_is) (zip_padded-cut _ _ _ _ c.self.invariant.0 c.self.invariant.1 kept)
