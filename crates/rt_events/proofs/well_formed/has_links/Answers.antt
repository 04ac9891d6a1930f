use Rattle.std.proofs.Common.{◌≡◌, All, subst, arith, take, refl}
use Rattle.std.proofs.lemmas.List.{take_all}
use Rattle.rt_events.specs.WellFormed.{IsLinkIn}
use Rattle.rt_events.proofs.Paths.{links_more}
use Rattle.rt_events.proofs.well_formed.has_links.Goals as goal

pub loop-i-preserved : goal.loop-i-preserved
loop-i-preserved c =
    let task = c.is_task_in.ensures.0 cc in
    let lock = c.is_lock_in.ensures.0 cc in
    links_more c.args.script.now c.args.path.now c.loop-i.i (c.at.result.0.0, c.at.result.1.0) c.at.ensures.link c.loop-i.invariant (task, lock)

pub returns : goal.returns
returns c =
    let whole : take c.loop-i.i c.args.path.now ≡ c.args.path.now = take_all c.loop-i.i c.args.path.now (omega (arith, c.len-i-end.ensures.links)) in
    ((λ _. subst (All (IsLinkIn c.args.script.now)) whole c.loop-i.invariant), (λ _. refl))
