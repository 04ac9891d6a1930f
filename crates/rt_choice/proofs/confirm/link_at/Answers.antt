use Rattle.std.proofs.Common.{◌≡◌, sym, arith}
use Rattle.rt_base.specs.declared.id.TaskId.{TaskId}
use Rattle.rt_model.specs.Path.{Link}
use Rattle.rt_walk.specs.Link.{link_at}
use Rattle.rt_walk.proofs.LinkAt.{from-at, lock-at, to-next, to-first}
use Rattle.rt_choice.proofs.confirm.link_at.Goals.{After-at}
use Rattle.rt_choice.proofs.confirm.link_at.Goals as goal

-- it begins at the pair, and leads to where that leads
link : (c : After-at) (to : TaskId) → (link_at c.args.path.now c.args.i).to ≡ to → ◌≡◌ {A = Link} (record { from = c.at.result.0; lock = c.at.result.1; to = to }) (link_at c.args.path.now c.args.i)
link c to leads =
    let path = c.args.path.now in
    λ k. record { from = sym (from-at path c.args.i _ c.at.ensures.link) k; lock = sym (lock-at path c.args.i _ c.at.ensures.link) k; to = sym leads k }

pub returns-then-i-len : goal.returns-then-i-len
returns-then-i-len c = link (goal.at.returns-then-i-len c).After-at _ (to-next c.args.path.now c.args.i _ _ c.at.ensures.link c.at-then-i-len.ensures.link)

pub returns-else-i-len : goal.returns-else-i-len
returns-else-i-len c =
    link (goal.at.returns-else-i-len c).After-at _
    (to-first c.args.path.now c.args.i _ _ c.at-else-i-len.ensures.link c.at.ensures.link (omega (arith, c.if-i-len.false, c.requires, c.len-len.ensures.links)))
