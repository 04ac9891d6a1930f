use Rattle.std.proofs.Common.{◌≡◌, ◌<◌, false, ap, sym, ◌∙◌, subst, arith}
use Rattle.std.specs.Prelude.{nat_eq, ◌||◌}
use Rattle.rt_core.specs.TaskSet.{has}
use Rattle.rt_core.proofs.TaskBits.{with_bit, with_bit-has, with_bit-more, with_bit-fits}
use Rattle.rt_core.proofs.task_set.TaskSet.add.Goals as goal

pub returns-clause-member : goal.returns-clause-member
returns-clause-member c = λ u lt. with_bit-has c.self.inside.word c.args.t.0 c.requires.task u ∙ ap (λ word. nat_eq c.args.t.0 u || has word u) c.self.view_is

pub returns-clause-more : goal.returns-clause-more
returns-clause-more c =
    subst (λ word. word < with_bit c.self.inside.word c.args.t.0) c.self.view_is
    (with_bit-more c.self.inside.word c.args.t.0 c.requires.task (subst (λ word. has word c.args.t.0 ≡ false) (sym c.self.view_is) c.requires.absent))

pub returns-clause-fits : goal.returns-clause-fits
returns-clause-fits c = with_bit-fits c.self.inside.word c.args.t.0 c.requires.task (omega arith)
