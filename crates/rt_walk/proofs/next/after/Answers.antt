use Rattle.std.proofs.Common.{rules, ◌≡◌, true, ap, sym, ◌∙◌}
use Rattle.rt_model.specs.declared.phase.Route.TheVariants.{Full}
use Rattle.rt_walk.specs.Next.{next_after, phase_of}
use Rattle.rt_walk.proofs.GoesOn.{told_full, cut_within}
use Rattle.rt_walk.proofs.next.after.Goals as goal

pub returns-in-Some-default-true-default-clause-goes_on :
    goal.returns-in-Some-default-true-default-clause-goes_on
returns-in-Some-default-true-default-clause-goes_on c = λ answer owner task is.
    let chosen : c.along.result ≡ next_after c.args.walker true c.args.path.now c.args.next = search rules in
    rw c.if-full.true (ap (phase_of (Full c.args.path.now)) (chosen ∙ ap (next_after c.args.walker true c.args.path.now) is) ∙ told_full c.args.walker c.args.path.now owner task)

pub returns-in-Some-default-true-default-clause-keep :
    goal.returns-in-Some-default-true-default-clause-keep
returns-in-Some-default-true-default-clause-keep c = λ task keep is.
    let chosen : c.along.result ≡ next_after c.args.walker true c.args.path.now c.args.next = search rules in
    cut_within c.args.walker c.args.path.now c.args.next task keep (sym chosen ∙ is)
