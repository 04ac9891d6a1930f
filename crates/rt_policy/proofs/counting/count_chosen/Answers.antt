use Rattle.std.proofs.Common.{◌+◌, ◌-◌, ◌≤◌, arith, sym, ◌∙◌}
use Rattle.rt_model.specs.NextEvent.{next_event}
use Rattle.rt_model.specs.Order.{chosen}
use Rattle.rt_model.proofs.Lowest.{chosen_below}
use Rattle.rt_policy.proofs.Loops.{chosen-left}
use Rattle.rt_policy.proofs.CountLoop.{counting_moves, one_or_none}
use Rattle.rt_policy.proofs.counting.count_chosen.Goals as goal

pub count_next-last-requires-clause-task : goal.count_next-last-requires-clause-task
count_next-last-requires-clause-task c =
    chosen_below c.loop-turn.core.state c.loop-turn.last c.in-Some.t (sym c.pick_next.ensures ∙ c.in-Some.is) c.loop-turn.invariant.0.last_in

pub loop-turn-preserved : goal.loop-turn-preserved
loop-turn-preserved c =
    let who = sym c.pick_next.ensures ∙ c.in-Some.is in
    let lt = chosen_below c.loop-turn.core.state c.loop-turn.last c.in-Some.t who c.loop-turn.invariant.0.last_in in
    let rest = chosen-left c.args.turns c.loop-turn._turn c.loop-turn.core.state c.loop-turn.last c.in-Some.t c.loop-turn-test.true who in
    let e = c.count_next-last.ensures in
    let next = next_event c.loop-turn.core.state c.in-Some.t in
    let new = c.count_next-last.new in
    let short : new.core.made ≤ c.args.core.now.made + (c.loop-turn._turn + 1) = omega (arith, e.made, one_or_none next, c.loop-turn.invariant.1) in
    (counting_moves c.requires.script.0 (chosen (c.args.turns - (c.loop-turn._turn + 1))) c.in-Some.t next new.core.state new.core.made c.count_next-last.result new.counts c.requires.script.1 lt rest c.loop-turn.invariant.0 e.moves e.made e.counts e.few e.script, short)
