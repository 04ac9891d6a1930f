use Rattle.std.proofs.Common.{◌∙◌, ◌<◌, ap, sym, subst, length, Option, Some, IfSome}
use Rattle.rt_base.specs.declared.id.TaskId.{TaskId}
use Rattle.rt_model.specs.CanMove.{target_of}
use Rattle.rt_model.specs.State.{State, object}
use Rattle.rt_model.specs.StateAfter.{state_after}
use Rattle.rt_model.specs.laws.Shape.{IsOf, IsWithin}
use Rattle.rt_model.specs.laws.Local.{AgreeOn}
use Rattle.rt_model.specs.laws.Cells.{CellsLaw}
use Rattle.rt_model.proofs.EffectLocal.{effect}
use Rattle.rt_model.proofs.Frame.{frame}
use Rattle.rt_model.proofs.laws.Shape.{IsOf-after}
use Rattle.rt_core.specs.Core.{Made}
use Rattle.rt_model.proofs.Uninvolved.{target-there}
use Rattle.rt_core.proofs.Applying.{thread-there, fits_thread, named-left, names-within, state_left, lawful_left, cells_left, kept-left}
use Rattle.rt_core.proofs.machine.Core.apply.Goals.{After-as_slice}
use Rattle.rt_core.proofs.machine.Core.apply.Goals as goal

pub index_mut-requires : goal.index_mut-requires
index_mut-requires c =
    let long = c.self.inside.threads.ok in
    let there = thread-there _ _ _ _ c.args.e.now c.self.invariant.0 c.self.view_is c.requires.next c.requires.made in
    subst (λ n. c.args.e.now.task.0 < n) (sym long.0) there

pub make-requires : goal.make-requires
make-requires c = fits_thread _ _ _ _ c.args.e.now c.self.invariant.0 c.self.view_is c.requires.next c.requires.made c.index_mut.result.now c.index_mut.ensures.value

pub look_after-requires-clause-tasks : goal.look_after-requires-clause-tasks
look_after-requires-clause-tasks c =
    let left = lawful_left _ _ _ _ c.args.e.now c.self.invariant.0 c.self.view_is c.requires.next c.requires.made c.make.new.shared c.index_mut.result.now _ c.index_mut.ensures.value c.make.ensures.shared c.make.ensures.thread in
    left.shape.tasks ∙ ap length (sym c.as_slice.ensures.value)

-- whom the event names
named : (c : After-as_slice) (o : Option TaskId) → IfSome o (λ t. t.0 < length c.self.inside.threads.items) → IfSome o (λ t. t.0 < length c.as_slice.result.now)
named c o there = named-left _ _ _ _ c.args.e.now c.self.invariant.0 c.self.view_is c.requires.next c.requires.made c.make.new.thread c.as_slice.result.now o c.as_slice.ensures.value there

names : (c : After-as_slice) → IsWithin (length c.self.inside.threads.items) (length c.self.inside.shared.locks) c.args.e.now
names c = names-within _ _ _ _ c.args.e.now c.self.invariant.0 c.self.view_is c.requires.next c.requires.made

pub look_after-requires-clause-task : goal.look_after-requires-clause-task
look_after-requires-clause-task c = named c (Some c.args.e.now.task) (names c).task

pub look_after-requires-clause-woken : goal.look_after-requires-clause-woken
look_after-requires-clause-woken c = named c c.args.e.now.woken (names c).woken

pub look_after-requires-clause-target : goal.look_after-requires-clause-target
look_after-requires-clause-target c = named c (target_of c.args.e.now) (target-there _ c.args.e.now.kind c.args.e.now (names c).other)

pub invariant_of-self : goal.invariant_of-self
invariant_of-self c =
    let e = c.args.e.now in
    let lawful = c.self.invariant.0 in (
      lawful_left _ _ _ _ e lawful c.self.view_is c.requires.next c.requires.made c.make.new.shared c.index_mut.result.now _ c.index_mut.ensures.value c.make.ensures.shared c.make.ensures.thread,
      kept-left _ _ _ _ e lawful c.self.view_is c.requires.next c.requires.made c.self.inside.enabled c.look_after.new.self c.make.new.shared c.index_mut.result.now _ c.index_mut.ensures.value c.make.ensures.shared c.make.ensures.thread c.self.invariant.1 c.as_slice.result.now c.as_slice.ensures.value c.look_after.ensures,
    )

pub returns-clause-state : goal.returns-clause-state
returns-clause-state c = state_left _ _ _ _ c.args.e.now c.self.invariant.0 c.self.view_is c.requires.next c.requires.made c.make.new.shared c.index_mut.result.now _ c.index_mut.ensures.value c.make.ensures.shared c.make.ensures.thread

pub returns-clause-local : goal.returns-clause-local
returns-clause-local c = λ s size agree.
    subst (λ (left : State). AgreeOn c.args.e.now left (state_after s c.args.e.now)) (sym (returns-clause-state c)) (effect c.args.self.now.state s c.args.e.now size agree)

pub returns-clause-frame : goal.returns-clause-frame
returns-clause-frame c = λ o out. ap (λ (s : State). object s o) (returns-clause-state c) ∙ frame c.args.self.now.state c.args.e.now o out

pub returns-clause-script : goal.returns-clause-script
returns-clause-script c =
    let there = thread-there _ _ _ _ c.args.e.now c.self.invariant.0 c.self.view_is c.requires.next c.requires.made in
    let lt = subst (λ (m : Made). c.args.e.now.task.0 < length m.state.threads) c.self.view_is there in
    λ script is. subst (IsOf script) (sym (returns-clause-state c)) (IsOf-after script c.args.self.now.state c.args.e.now lt is)

pub returns-clause-lawful : goal.returns-clause-lawful
returns-clause-lawful c = lawful_left _ _ _ _ c.args.e.now c.self.invariant.0 c.self.view_is c.requires.next c.requires.made c.make.new.shared c.index_mut.result.now _ c.index_mut.ensures.value c.make.ensures.shared c.make.ensures.thread

pub returns-clause-cells : goal.returns-clause-cells
returns-clause-cells c = λ script valid is law.
    subst (CellsLaw script) (sym (returns-clause-state c)) (cells_left _ _ _ _ c.args.e.now c.self.invariant.0 c.self.view_is c.requires.next c.requires.made script valid is law)
