use Rattle.std.proofs.Common.{◌∙◌}
use Rattle.std.specs.Prelude.{◌||◌}
use Rattle.rt_core.specs.TaskSet.{has}
use Rattle.rt_core.proofs.TaskBits.{either_bit}
use Rattle.rt_core.proofs.task_set.TaskSet.join.Goals as goal

pub returns : goal.returns
returns c = λ u. either_bit c.self.inside.word c.other.inside.word u ∙ (λ i. has (c.self.view_is i) u || has (c.other.view_is i) u)
