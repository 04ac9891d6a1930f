use Rattle.rt_events.specs.Entry.{entry}
use Rattle.rt_events.specs.Line.{line_of}
use Rattle.rt_policy.proofs.Printed.{Prints-stopped, Prints-gathered}
use Rattle.rt_policy.proofs.playing.make_event.Goals as goal

pub returns-in_err-flush_if_full-clause-prints : goal.returns-in_err-flush_if_full-clause-prints
returns-in_err-flush_if_full-clause-prints g c =
    Prints-stopped (line_of c.args.script.now (entry c.args.number c.args.e.now)) c.in_err-flush_if_full.ensures.prints c.from_residual.ensures.0

pub returns-clause-prints : goal.returns-clause-prints
returns-clause-prints g c =
    Prints-gathered (line_of c.args.script.now (entry c.args.number c.args.e.now)) c.in_ok-flush_if_full.ensures.prints c.write_event.ensures.text
