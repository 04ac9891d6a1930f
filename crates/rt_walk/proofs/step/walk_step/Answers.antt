use Rattle.std.proofs.Common.{rules, ◌≡◌, ◌⊎◌, inl, inr, ◌∙◌, refl, None, Some, Option}
use Rattle.rt_walk.proofs.step.walk_step.Goals as goal
use Rattle.rt_walk.proofs.step.walk_step.Goals.{in-Some-owner, in-None}

-- there is something, or nothing
there : {X : Type 0} (o : Option X) → (o ≡ None) ⊎ ((x : X) × (o ≡ Some x))
there None = inl refl
there (Some x) = inr (x, refl)

pub returns-then-not-requeue_where_old-clause-owner : goal.returns-then-not-requeue_where_old-clause-owner
returns-then-not-requeue_where_old-clause-owner g c = elim (there c.args.owner) [
  | inl is ↦ rw is refl
  | inr lent ↦ rw lent.1 (search rules)
]

pub returns-then-not-requeue_where_old-clause-boosted : goal.returns-then-not-requeue_where_old-clause-boosted
returns-then-not-requeue_where_old-clause-boosted g c = elim (there c.args.owner) [
  | inl is ↦ rw is refl
  | inr lent ↦ rw lent.1 (search rules)
]

pub returns-clause-owner : goal.returns-clause-owner
returns-clause-owner g c = elim c.match-owner.branch [
  | in-Some-owner w ↦ rw (w.owner-is, w.in-Some-owner.is) (search rules)
  | in-None w ↦ rw (w.owner-is, w.in-None.is) refl
]

pub returns-clause-boosted : goal.returns-clause-boosted
returns-clause-boosted g c = elim c.match-owner.branch [
  | in-Some-owner w ↦ rw (w.owner-is, w.in-Some-owner.is) (w.boosted-is ∙ w.refresh-boosted.ensures.boosted)
  | in-None w ↦ rw (w.owner-is, w.in-None.is) w.boosted-is
]
