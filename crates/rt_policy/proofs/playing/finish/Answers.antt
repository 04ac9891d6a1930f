use Rattle.rt_base.proofs.Outside.{on_err}
use Rattle.rt_model.specs.Order.{chosen}
use Rattle.rt_model.proofs.Runs.{chosen_leads}
use Rattle.rt_policy.proofs.Printed.{Writes-flushed_err}
use Rattle.rt_policy.proofs.Loops.{all_made}
use Rattle.rt_policy.proofs.Turns.{cut_short}
use Rattle.rt_policy.proofs.playing.finish.Goals as goal

pub returns-in_err-flush-clause-writes : goal.returns-in_err-flush-clause-writes
returns-in_err-flush-clause-writes g c =
    Writes-flushed_err c.requires.empty c.in_ok-play_chosen.ensures.prints c.in_err-flush.ensures.prints c.from_residual-in_err-flush.ensures.0

pub returns-in_err-flush-clause-part : goal.returns-in_err-flush-clause-part
returns-in_err-flush-clause-part g c =
    on_err c.from_residual-in_err-flush.result (all_made c.args.core.now c.play_chosen.new.core (chosen c.args.turns c.args.core.now.state c.args.last) c.in_ok-play_chosen.field-0.count (chosen_leads c.args.turns c.args.core.now.state c.args.last) c.in_ok-play_chosen.ensures.state c.in_ok-play_chosen.ensures.made c.in_ok-play_chosen.ensures.count)

pub returns-clause-limit : goal.returns-clause-limit
returns-clause-limit g c =
    cut_short c.args.turns c.args.core.now.state c.args.last c.play_chosen.new.core.state c.ended.result c.ended.ensures c.in_ok-play_chosen.ensures.state
