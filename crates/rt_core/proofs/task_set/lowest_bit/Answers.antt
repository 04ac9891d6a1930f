use Rattle.rt_core.proofs.TaskBits.{lowest_bit}
use Rattle.rt_core.proofs.task_set.lowest_bit.Goals as goal

pub returns-clause-lowest : goal.returns-clause-lowest
returns-clause-lowest c = (lowest_bit c.args.word c.requires c.ranges.word.fits).1

pub returns-clause-within : goal.returns-clause-within
returns-clause-within c = (lowest_bit c.args.word c.requires c.ranges.word.fits).0
