use Rattle.std.proofs.lemmas.Bool.Decides.{Decides-at, same_from_decides}
use Rattle.rt_base.specs.PathLaws.{has_same_links-Decides}
use Rattle.rt_base.proofs.Links.{same_fields-Decides}
use Rattle.rt_base.proofs.path.PathPartialEq.eq.Goals as goal

pub returns-clause-same : goal.returns-clause-same
returns-clause-same c =
    rw (← c.self.view_is, ← c.other.view_is) (Decides-at _ _ c.eq.ensures (same_fields-Decides _ _ _ _ _ _ c.self.invariant.0 c.self.invariant.1 c.other.invariant.0 c.other.invariant.1))

pub returns-clause-value : goal.returns-clause-value
returns-clause-value c = same_from_decides _ _ (returns-clause-same c) (has_same_links-Decides _ _)
