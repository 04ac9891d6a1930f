use Rattle.rt_script.proofs.Naming.{named_lock_within}
use Rattle.rt_script.proofs.script.Script.lock_named.Goals as goal

pub returns-in-Some-Lock-clause-within : goal.returns-in-Some-Lock-clause-within
returns-in-Some-Lock-clause-within c = named_lock_within c.args.self.now c.args.name.now c.in-Some-Lock.l cc
