use Rattle.std.proofs.Common.{◌≡◌, ℕ, ap, ◌∙◌, sym, subst}
use Rattle.rt_script.specs.Building.{Plan, plan_of, CanBuild}
use Rattle.rt_policy.specs.Draws.{number_after}
use Rattle.rt_policy.specs.Generator.{each, pick, generated_plan}
use Rattle.rt_policy.proofs.Buildable.{can_build}
use Rattle.rt_policy.proofs.generator.generate.Goals as goal

-- the parts that were drawn are the plan that the number gives
plan_is : (c : goal.In_ok-picks) → plan_of 4 c.in_ok-tasks.tasks.items c.in_ok-locks.locks.items c.in_ok-picks.picks.items ≡ generated_plan c.new-draws.result
plan_is c =
    let tasks = c.in_ok-tasks.ensures.tasks in
    let locks = c.in_ok-locks.ensures in
    let picks = c.in_ok-picks.ensures ∙ ap (λ (x : ℕ). each 20000 (pick x)) c.in_ok-tasks.ensures.next in
    λ i. record { cpus = 4; tasks = tasks i; locks = locks i; picks = picks i }

pub build-requires : goal.build-requires
build-requires c = subst CanBuild (sym (plan_is c)) (can_build c.new-draws.result)
