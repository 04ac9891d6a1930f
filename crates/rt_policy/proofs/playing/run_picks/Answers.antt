use Rattle.std.proofs.Common.{None}
use Rattle.rt_base.proofs.Outside.{on_err}
use Rattle.rt_model.specs.Order.{picked}
use Rattle.rt_model.proofs.Runs.{picked_leads}
use Rattle.rt_policy.proofs.Printed.{Writes-flushed_err}
use Rattle.rt_policy.proofs.Loops.{all_made}
use Rattle.rt_policy.proofs.playing.run_picks.Goals as goal

pub returns-in_err-flush-clause-writes : goal.returns-in_err-flush-clause-writes
returns-in_err-flush-clause-writes g c =
    Writes-flushed_err c.requires.empty c.in_ok-played.ensures.prints c.in_err-flush.ensures.prints c.from_residual-in_err-flush.ensures.0

pub returns-in_err-flush-clause-part : goal.returns-in_err-flush-clause-part
returns-in_err-flush-clause-part g c =
    on_err c.from_residual-in_err-flush.result (all_made c.args.core.now c.play_picks.new.core (picked c.args.script.now.picks c.args.core.now.state None) c.in_ok-played.played.count (picked_leads c.args.script.now.picks c.args.core.now.state None) c.in_ok-played.ensures.state c.in_ok-played.ensures.made c.in_ok-played.ensures.count)
