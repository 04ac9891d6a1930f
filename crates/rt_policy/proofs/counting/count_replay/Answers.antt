use Rattle.rt_policy.proofs.CountLoop.{limit_told}
use Rattle.rt_policy.proofs.counting.count_replay.Goals as goal

pub returns-clause-limit : goal.returns-clause-limit
returns-clause-limit c =
    let picks = c.count_picks-last.ensures in
    limit_told c.args.script.now c.args.core.now.state c.args.turns c.count_picks-last.new.core.state c.count_picks-last.result c.count_chosen.new.core.state c.ended.result picks.state picks.last c.count_chosen.ensures.state c.ended.ensures
