use Rattle.std.proofs.Common.{◌∙◌, sym}
use Rattle.rt_parts.proofs.Linking.{none-linked}
use Rattle.rt_parts.proofs.shared.links.link.Goals as goal

pub returns-clause-tasks : goal.returns-clause-tasks
returns-clause-tasks g c = none-linked c.args.tasks.now c.args.u c.args.lock.now.part c.link_to_none.new.lock.part c.index-tasks-u.result _ (sym c.owner.ensures ∙ c.in-None.is) c.requires.task c.link_to_none.ensures.task
