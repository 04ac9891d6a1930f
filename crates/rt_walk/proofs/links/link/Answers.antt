use Rattle.std.proofs.Common.{rules, ◌≡◌, sym, ◌∙◌}
use Rattle.rt_walk.specs.Link.{link_at}
use Rattle.rt_walk.proofs.LinkAt.{lock-at, stands-kept}
use Rattle.rt_walk.proofs.links.link.Goals as goal

pub returns-then-kept-clause-told : goal.returns-then-kept-clause-told
returns-then-kept-clause-told c =
    let lock : (link_at c.args.path.now c.args.i).lock ≡ c.at.result.1 = lock-at c.args.path.now c.args.i (c.at.result.0.0, c.at.result.1.0) c.at.ensures.link in
    rw lock (search rules)

pub returns-then-kept-clause-stands : goal.returns-then-kept-clause-stands
returns-then-kept-clause-stands c = λ sh blocked kept.
    let lock : (link_at c.args.path.now c.args.i).lock ≡ c.at.result.1 = lock-at c.args.path.now c.args.i (c.at.result.0.0, c.at.result.1.0) c.at.ensures.link in
    c.eq.ensures ∙ stands-kept sh (link_at c.args.path.now c.args.i) c.args.blocked c.at.result.1 lock blocked (sym kept ∙ c.if-kept.true)
