use Rattle.std.proofs.Common.{◌≡◌, ◌+◌, ◌*◌, ◌<◌, ℕ, List, length, get_or, ap, ◌∙◌, arith}
use Rattle.std.specs.Prelude.{map}
use Rattle.rt_base.specs.declared.id.Cpu.{Cpu}
use Rattle.rt_script.specs.Building.{task_plan}
use Rattle.rt_policy.specs.Draws.{number_after}
use Rattle.rt_policy.specs.Generator.{start}
use Rattle.rt_policy.proofs.Drawing.{number_after-more}
use Rattle.rt_policy.proofs.GeneratedParts.{length-each, each-at, tasks-next}
use Rattle.rt_policy.proofs.generator.draw_tasks.Goals as goal

pub loop-start-preserved : goal.loop-start-preserved
loop-start-preserved c =
    let x : ℕ = c.args.draws.now in
    let n : ℕ = c.loop-start.start-index in
    let starts-are = c.deref-start-items.ensures.value ∙ c.in_ok-starts.ensures.starts in
    let lt : n < 32 = omega (arith, ap length starts-are, length-each 32 (start x)) in
    let at : c.start-item.result ≡ start x n =
    c.start-item.is ∙ ap (λ (s : List (ℕ × Cpu)). get_or s n c.start-item.result) starts-are ∙ each-at 32 n (start x) c.start-item.result lt in
    let from : c.loop-start.draws ≡ number_after x (64 + 300 * n) = c.loop-start.invariant.next in
    let same : 64 + 300 * n + 300 ≡ 64 + 300 * (n + 1) = omega arith in
    record {
      tasks = ap (map task_plan) c.in_ok-push.ensures.items
          ∙ tasks-next x n c.loop-start.draws c.loop-start.tasks.items c.start-item.result c.in_ok-calls.calls c.loop-start.invariant.tasks at from c.in_ok-calls.ensures.calls;
      next = c.in_ok-calls.ensures.next ∙ ap (λ (y : ℕ). number_after y 300) from ∙ number_after-more x (64 + 300 * n) 300 ∙ ap (number_after x) same;
    }

-- the loop goes over all starts
all : (c : goal.After-drop-starts-2) → c.loop-start.start-index ≡ 32
all c =
    let starts-are = c.deref-start-items.ensures.value ∙ c.in_ok-starts.ensures.starts in
    omega (arith, ap length starts-are, length-each 32 (start c.args.draws.now))

pub returns-clause-tasks : goal.returns-clause-tasks
returns-clause-tasks c = rw (← all c) c.loop-start.invariant.tasks

pub returns-clause-next : goal.returns-clause-next
returns-clause-next c = c.loop-start.invariant.next ∙ ap (λ (n : ℕ). number_after c.args.draws.now (64 + 300 * n)) (all c)
