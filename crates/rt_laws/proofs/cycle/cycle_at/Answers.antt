use Rattle.std.proofs.Common.{rules, ℕ, ◌<◌, List, [], ◌∷◌, refl, ◌≡◌, sym, ap, ◌∙◌, subst, length, length-append, arith, Option, IfSome}
use Rattle.rt_base.specs.declared.id.LockId.{LockId}
use Rattle.rt_base.specs.declared.id.TaskId.{TaskId}
use Rattle.rt_model.specs.Path.{Edge, IsCycle, first_task}
use Rattle.rt_model.specs.Graph.{at_once}
use Rattle.rt_model.proofs.Numbers.{same_task, other_number}
use Rattle.rt_model.proofs.graph.Reaching.{leads-apart, no-edge}
use Rattle.rt_model.proofs.graph.Followed.{IsFollowed, followed-none, followed-more, followed-back, followed-over, followed-long, on-no-cycle, on-cycle}
use Rattle.rt_laws.proofs.cycle.cycle_at.Goals.{After-eq, Then-eq}
use Rattle.rt_laws.proofs.cycle.cycle_at.Goals as goal

pub loop-init : goal.loop-init
loop-init c = (subst (IsFollowed c.args.core.now.state c.args.t c.args.t) (sym c.empty-path.ensures) (followed-none c.args.core.now.state c.args.t), search rules, search rules)

pub returns-in_default-clause-none : goal.returns-in_default-clause-none
returns-in_default-clause-none c = (
  λ none. on-no-cycle c.args.core.now.state c.args.t
      (followed-over c.args.core.now.state c.args.t c.loop.here c.loop.path c.loop.invariant.0
      (λ u leads. no-edge c.args.core.now.state c.loop.here u (c.edge.ensures.none c.in_default.is) (at_once leads))),
  λ on. refl,
)

-- the edge from where the path stands
edge : (c : After-eq) → Edge c.args.core.now.state (record { from = c.loop.here; lock = c.in-Some.lock; to = c.in-Some.owner })
edge c = subst (λ (r : Option (LockId × TaskId)). IfSome r (λ e. Edge c.args.core.now.state (record { from = c.loop.here; lock = e.0; to = e.1 }))) c.in-Some.is c.edge.ensures.some

-- it leads back
cycle : (c : Then-eq) → IsCycle c.args.core.now.state c.push.new.self × (first_task c.args.t c.push.new.self ≡ c.args.t)
cycle c =
    subst (λ (p : List (ℕ × ℕ)). IsCycle c.args.core.now.state p × (first_task c.args.t p ≡ c.args.t)) (sym c.push.ensures)
    (followed-back c.args.core.now.state c.args.t c.loop.here c.loop.path c.loop.invariant.0 c.in-Some.lock c.in-Some.owner (edge (goal.at.returns-then-eq-clause-some c).After-eq)
    (leads-apart c.args.core.now.state c.tasks-end.ensures.lawful.queued) (same_task c.in-Some.owner c.args.t (sym c.eq.ensures ∙ c.if-eq.true)))

pub returns-then-eq-clause-some : goal.returns-then-eq-clause-some
returns-then-eq-clause-some c = cycle c

pub returns-then-eq-clause-none : goal.returns-then-eq-clause-none
returns-then-eq-clause-none c = (
  λ none. cc,
  λ on.
      let at = cycle c in
      absurd (on-cycle c.args.core.now.state c.args.t c.push.new.self at.0 at.1 (on c.push.new.self at.0)),
)

pub loop-preserved : goal.loop-preserved
loop-preserved c = (
  subst (IsFollowed c.args.core.now.state c.args.t c.in-Some.owner) (sym c.push.ensures)
      (followed-more c.args.core.now.state c.args.t c.loop.here c.loop.path c.loop.invariant.0 c.in-Some.lock c.in-Some.owner (edge (goal.at.loop-preserved c).After-eq)
      (λ same. other_number c.in-Some.owner.0 c.args.t.0 (sym c.eq.ensures ∙ c.if-eq.false) (sym same))),
  subst (λ (r : Option (LockId × TaskId)). IfSome r (λ e. e.1.0 < length c.args.core.now.state.threads)) c.in-Some.is c.edge.ensures.owner,
  ap length c.push.ensures ∙ omega (arith, c.loop.invariant.2, length-append c.loop.path ((c.loop.here.0, c.in-Some.lock.0) ∷ [])),
)

pub returns-clause-none : goal.returns-clause-none
returns-clause-none c = (
  λ none. on-no-cycle c.args.core.now.state c.args.t
      (followed-long c.args.core.now.state c.args.t c.loop.here c.loop.path c.loop.invariant.0
      (omega (arith, c.loop.invariant.2, c.loop-test.false, c.tasks-end.ensures.number, c.tasks-end.ensures.lawful.shape.tasks))),
  λ on. refl,
)
