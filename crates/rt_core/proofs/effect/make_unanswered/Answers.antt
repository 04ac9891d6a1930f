use Rattle.std.proofs.Common.{◌∙◌, sym, refl}
use Rattle.rt_base.specs.declared.reply.Reply.TheVariants.{Done}
use Rattle.rt_model.specs.declared.event_kind.EventKind.TheVariants as kinds
use Rattle.rt_model.specs.declared.phase.Route.TheVariants.{Short}
use Rattle.rt_model.specs.State.{task_at}
use Rattle.rt_model.specs.steps.Chain.{goes_on, phase_of_walk}
use Rattle.rt_core.proofs.Leaving.{kind-left, told-moved, end-left, restart-left, own-left}
use Rattle.rt_core.proofs.effect.make_unanswered.Goals as goal

pub returns-in-WalkEnd-clause-shared : goal.returns-in-WalkEnd-clause-shared
returns-in-WalkEnd-clause-shared c = end-left c.args.shared.now c.args.thread.now c.args.e.now c.in-WalkEnd.is

pub returns-in-Restart-clause-shared : goal.returns-in-Restart-clause-shared
returns-in-Restart-clause-shared c = restart-left c.args.shared.now c.args.thread.now c.args.e.now c.in-Restart.is

pub returns-in-Own-clause-shared : goal.returns-in-Own-clause-shared
returns-in-Own-clause-shared c = own-left c.args.shared.now c.args.thread.now c.args.e.now c.in-Own.is

pub returns-in-State-clause-shared : goal.returns-in-State-clause-shared
returns-in-State-clause-shared c = c.state.ensures ∙ kind-left c.args.shared.now c.args.thread.now c.args.e.now kinds.State c.in-State.is

pub returns-in-Sched-clause-shared : goal.returns-in-Sched-clause-shared
returns-in-Sched-clause-shared c = c.sched.ensures ∙ kind-left c.args.shared.now c.args.thread.now c.args.e.now kinds.Sched c.in-Sched.is

pub returns-in-Wake-clause-shared : goal.returns-in-Wake-clause-shared
returns-in-Wake-clause-shared c = c.wake.ensures ∙ kind-left c.args.shared.now c.args.thread.now c.args.e.now kinds.Wake c.in-Wake.is

pub returns-in-SetPrio-clause-shared : goal.returns-in-SetPrio-clause-shared
returns-in-SetPrio-clause-shared c = c.setprio.ensures.shared ∙ kind-left c.args.shared.now c.args.thread.now c.args.e.now kinds.SetPrio c.in-SetPrio.is

pub returns-in-SetPrio-clause-thread : goal.returns-in-SetPrio-clause-thread
returns-in-SetPrio-clause-thread c =
    let e = c.args.e.now in
    let left = c.setprio.ensures.shared ∙ kind-left c.args.shared.now c.args.thread.now e kinds.SetPrio c.in-SetPrio.is in
    told-moved c.args.shared.now c.setprio.new.shared c.args.thread.now _ e (record e { kind = kinds.SetPrio }) (λ x. phase_of_walk (goes_on e.task (Short Done) e.other (task_at x e.other)))
    (sym (λ i. record e { kind = c.in-SetPrio.is i })) refl left c.setprio.ensures.thread
