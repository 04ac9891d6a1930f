use Rattle.std.proofs.Common.{◌∙◌, ap, sym, refl, List, Some}
use Rattle.rt_base.specs.Kind.{spins}
use Rattle.rt_base.specs.declared.kind.Kind.{Kind}
use Rattle.rt_base.specs.declared.state.TaskState.{TaskState}
use Rattle.rt_base.specs.declared.reply.Reply.TheVariants.{Deadlock, Interrupted}
use Rattle.rt_model.specs.declared.event_kind.EventKind.TheVariants as kinds
use Rattle.rt_model.specs.declared.phase.Route.TheVariants.{Short}
use Rattle.rt_model.specs.declared.reader_cell.ReaderCell.{ReaderCell}
use Rattle.rt_model.specs.Parts.{OwnerPart, call_of, kind_of}
use Rattle.rt_model.specs.State.{Shared, task_at}
use Rattle.rt_model.specs.Path.{first_owner}
use Rattle.rt_model.specs.steps.Chain.{goes_on, phase_of_walk}
use Rattle.rt_model.specs.events.Walk.{phase_after_link}
use Rattle.rt_model.specs.steps.Readers.{with_writer}
use Rattle.rt_model.specs.steps.Task.{rest_of, restored, lock_woken}
use Rattle.rt_model.specs.events.Readers.{where_slept, writer_rests}
use Rattle.rt_model.specs.StateAfter.{update, at_task}
use Rattle.rt_model.proofs.Lists.{update-none}
use Rattle.rt_core.proofs.Leaving.{left-at, told-moved, busy-left}
use Rattle.rt_core.proofs.effect.make_on_lock.Goals as goal

pub returns-in-Fast-clause-shared : goal.returns-in-Fast-clause-shared
returns-in-Fast-clause-shared c = c.fast.ensures.shared ∙ left-at c.args.shared.now c.args.thread.now c.args.e.now kinds.Fast c.args.l c.in-Fast.is c.requires.named

pub returns-in-Mark-clause-shared : goal.returns-in-Mark-clause-shared
returns-in-Mark-clause-shared c = c.mark.ensures.shared ∙ left-at c.args.shared.now c.args.thread.now c.args.e.now kinds.Mark c.args.l c.in-Mark.is c.requires.named

pub returns-in-Again-clause-shared : goal.returns-in-Again-clause-shared
returns-in-Again-clause-shared c =
    let sh = c.args.shared.now in
    let left : List OwnerPart → TaskState → Shared = λ locks rest. record sh { locks = locks; tasks = update sh.tasks c.args.e.now.task.0 (λ task. record task { state = rest }) } in
    c.again.ensures ∙ (ap (left sh.locks) c.rest_for.ensures
    ∙ (ap (λ (locks : List OwnerPart). left locks (rest_of (kind_of c.args.thread.now c.args.l) (call_of c.args.thread.now))) (sym (update-none sh.locks c.args.l.0 (λ lock. lock) (λ lock. refl)))
    ∙ left-at sh c.args.thread.now c.args.e.now kinds.Again c.args.l c.in-Again.is c.requires.named))

pub returns-in-Free-clause-shared : goal.returns-in-Free-clause-shared
returns-in-Free-clause-shared c = c.free.ensures ∙ left-at c.args.shared.now c.args.thread.now c.args.e.now kinds.Free c.args.l c.in-Free.is c.requires.named

pub returns-in-Walk-clause-shared : goal.returns-in-Walk-clause-shared
returns-in-Walk-clause-shared c = c.walk.ensures.shared ∙ left-at c.args.shared.now c.args.thread.now c.args.e.now kinds.Walk c.args.l c.in-Walk.is c.requires.named

pub returns-in-Walk-clause-thread : goal.returns-in-Walk-clause-thread
returns-in-Walk-clause-thread c =
    let e = c.args.e.now in
    let left = c.walk.ensures.shared ∙ left-at c.args.shared.now c.args.thread.now e kinds.Walk c.args.l c.in-Walk.is c.requires.named in
    told-moved c.args.shared.now c.walk.new.shared c.args.thread.now _ e (record e { kind = kinds.Walk; lock = Some c.args.l }) (λ x. phase_after_link e.task (Some c.args.l) e.owner (task_at x e.owner) c.args.thread.now.phase)
    (sym (λ i. record e { kind = c.in-Walk.is i; lock = c.requires.named i })) refl left c.walk.ensures.thread

pub returns-in-Leave-clause-shared : goal.returns-in-Leave-clause-shared
returns-in-Leave-clause-shared c = c.leave.ensures.shared ∙ left-at c.args.shared.now c.args.thread.now c.args.e.now kinds.Leave c.args.l c.in-Leave.is c.requires.named

pub returns-in-Leave-clause-thread : goal.returns-in-Leave-clause-thread
returns-in-Leave-clause-thread c =
    let e = c.args.e.now in
    let left = c.leave.ensures.shared ∙ left-at c.args.shared.now c.args.thread.now e kinds.Leave c.args.l c.in-Leave.is c.requires.named in
    told-moved c.args.shared.now c.leave.new.shared c.args.thread.now _ e (record e { kind = kinds.Leave; lock = Some c.args.l }) (λ x. phase_of_walk (goes_on e.task (Short Interrupted) e.owner (task_at x e.owner)))
    (sym (λ i. record e { kind = c.in-Leave.is i; lock = c.requires.named i })) refl left c.leave.ensures.thread

pub returns-in-Cycle-clause-shared : goal.returns-in-Cycle-clause-shared
returns-in-Cycle-clause-shared c = c.cycle.ensures.shared ∙ left-at c.args.shared.now c.args.thread.now c.args.e.now kinds.Cycle c.args.l c.in-Cycle.is c.requires.named

pub returns-in-Cycle-clause-thread : goal.returns-in-Cycle-clause-thread
returns-in-Cycle-clause-thread c =
    let e = c.args.e.now in
    let left = c.cycle.ensures.shared ∙ left-at c.args.shared.now c.args.thread.now e kinds.Cycle c.args.l c.in-Cycle.is c.requires.named in
    told-moved c.args.shared.now c.cycle.new.shared c.args.thread.now _ e (record e { kind = kinds.Cycle; lock = Some c.args.l }) (λ x. phase_of_walk (goes_on e.task (Short Deadlock) (first_owner e.path) (task_at x (first_owner e.path))))
    (sym (λ i. record e { kind = c.in-Cycle.is i; lock = c.requires.named i })) refl left c.cycle.ensures.thread

pub returns-in-Busy-clause-shared : goal.returns-in-Busy-clause-shared
returns-in-Busy-clause-shared c = busy-left c.args.shared.now c.args.thread.now c.args.e.now c.in-Busy.is

pub returns-in-RIn-clause-shared : goal.returns-in-RIn-clause-shared
returns-in-RIn-clause-shared c = c.rin.ensures.shared ∙ left-at c.args.shared.now c.args.thread.now c.args.e.now kinds.RIn c.args.l c.in-RIn.is c.requires.named

pub returns-in-ROut-clause-shared : goal.returns-in-ROut-clause-shared
returns-in-ROut-clause-shared c = c.rout.ensures.shared ∙ left-at c.args.shared.now c.args.thread.now c.args.e.now kinds.ROut c.args.l c.in-ROut.is c.requires.named

pub returns-in-Unbias-clause-shared : goal.returns-in-Unbias-clause-shared
returns-in-Unbias-clause-shared c = c.unbias.ensures.shared ∙ left-at c.args.shared.now c.args.thread.now c.args.e.now kinds.Unbias c.args.l c.in-Unbias.is c.requires.named

pub returns-in-WOpen-clause-shared : goal.returns-in-WOpen-clause-shared
returns-in-WOpen-clause-shared c = c.wopen.ensures.shared ∙ left-at c.args.shared.now c.args.thread.now c.args.e.now kinds.WOpen c.args.l c.in-WOpen.is c.requires.named

pub returns-in-WTake-clause-shared : goal.returns-in-WTake-clause-shared
returns-in-WTake-clause-shared c =
    let sh = c.args.shared.now in
    let e = c.args.e.now in
    let left : Kind → Shared = λ kind. record sh { readers = update sh.readers c.args.l.0 with_writer; tasks = at_task sh.tasks (where_slept e.task e.owner) (restored (spins kind)) } in
    c.wtake.ensures ∙ (ap left c.kind_of-in-WTake.ensures ∙ left-at sh c.args.thread.now e kinds.WTake c.args.l c.in-WTake.is c.requires.named)

pub returns-in-WSleep-clause-shared : goal.returns-in-WSleep-clause-shared
returns-in-WSleep-clause-shared c =
    let sh = c.args.shared.now in
    let thread = c.args.thread.now in
    let left : List ReaderCell → Shared = λ readers. record sh { readers = readers; tasks = update sh.tasks c.args.e.now.task.0 (writer_rests thread.phase (rest_of (kind_of thread c.args.l) (call_of thread))) } in
    c.wsleep.ensures.shared ∙ (ap left (sym (update-none sh.readers c.args.l.0 (λ readers. readers) (λ readers. refl)))
    ∙ left-at sh thread c.args.e.now kinds.WSleep c.args.l c.in-WSleep.is c.requires.named)

pub returns-in-WWake-clause-shared : goal.returns-in-WWake-clause-shared
returns-in-WWake-clause-shared c =
    let sh = c.args.shared.now in
    let left : List OwnerPart → Kind → Shared = λ locks kind. record sh { locks = locks; tasks = at_task sh.tasks c.args.e.now.woken (lock_woken (spins kind)) } in
    let locks = update-none sh.locks c.args.l.0 (λ lock. lock) (λ lock. refl) in
    c.wwake.ensures ∙ ((λ i. left (sym locks i) (c.kind_of-in-WWake.ensures i))
    ∙ left-at sh c.args.thread.now c.args.e.now kinds.WWake c.args.l c.in-WWake.is c.requires.named)
