use Rattle.rt_events.specs.Told.{as_entry}
use Rattle.rt_events.proofs.Named.{named}
use Rattle.rt_events.proofs.Short.{line_short}
use Rattle.rt_events.proofs.line.write_told.Goals as goal

pub push_parts-requires-clause-named : goal.push_parts-requires-clause-named
push_parts-requires-clause-named c = named c.args.script.now (as_entry c.args.n.now) c.requires.entry

pub returns-clause-short : goal.returns-clause-short
returns-clause-short c = line_short c.args.script.now (as_entry c.args.n.now) c.tasks.ensures.valid c.requires.entry
