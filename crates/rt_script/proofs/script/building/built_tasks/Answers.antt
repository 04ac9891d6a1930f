use Rattle.std.proofs.Common.{◌≡◌, ◌∙◌, length, arith}
use Rattle.rt_script.proofs.Built.{task_lines_more}
use Rattle.rt_script.proofs.script.building.built_tasks.Goals as goal

pub loop-own-preserved : goal.loop-own-preserved
loop-own-preserved c =
    let len : c.len-in-loop-own.result ≡ length c.loop-own.lines.items = omega (arith, c.len-in-loop-own.ensures, c.loop-own.lines.ok) in
    c.in_ok-push.ensures.items ∙ task_lines_more c.loop-own.yielded (c.in-Some.own, c.in-Some.cpu, c.in-Some.calls) c.loop-own.lines.items c.len-in-loop-own.result _ c.loop-own.invariant len c.in_ok-name.ensures
