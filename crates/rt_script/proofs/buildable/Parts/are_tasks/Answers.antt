use Rattle.std.proofs.Common.{map, sym, refl, subst, arith}
use Rattle.std.specs.Prelude.{All, IsTrue}
use Rattle.std.proofs.lemmas.List.{take_all, length-map}
use Rattle.std.proofs.lemmas.List.Elements.{All-more}
use Rattle.rt_script.specs.Buildable.{IsTaskFor}
use Rattle.rt_script.specs.Building.{task_plan}
use Rattle.rt_script.proofs.Buildability.{never}
use Rattle.rt_script.proofs.Built.{plan_at, plan_within}
use Rattle.rt_script.proofs.buildable.Parts.are_tasks.Goals as goal

pub returns-then-not-is_task : goal.returns-then-not-is_task
returns-then-not-is_task c =
    let here = plan_at c.args.tasks.now c.loop-task.task-index c.task-item.result c.task-item.is in
    let lt = plan_within c.args.tasks.now c.loop-task.task-index c.loop-task-test.true in (
      never,
      (λ all.
          let fits : IsTrue c.is_task.result = c.is_task.ensures.1 (subst (IsTaskFor c.args.self.now) here (all c.loop-task.task-index (task_plan c.task-item.result) lt)) in
          cc),
    )

pub loop-task-preserved : goal.loop-task-preserved
loop-task-preserved c =
    let here = plan_at c.args.tasks.now c.loop-task.task-index c.task-item.result c.task-item.is in
    let lt = plan_within c.args.tasks.now c.loop-task.task-index c.loop-task-test.true in
    let fits : IsTaskFor c.args.self.now (task_plan c.task-item.result) = c.is_task.ensures.0 cc in
    All-more (IsTaskFor c.args.self.now) (map task_plan c.args.tasks.now) c.loop-task.task-index (task_plan c.task-item.result) lt c.loop-task.invariant (subst (IsTaskFor c.args.self.now) (sym here) fits)

pub returns : goal.returns
returns c = (
  (λ _. subst (All (IsTaskFor c.args.self.now)) (take_all c.loop-task.task-index (map task_plan c.args.tasks.now) (omega (arith, length-map c.args.tasks.now task_plan, c.loop-task-test.false))) c.loop-task.invariant),
  (λ _. refl),
)
