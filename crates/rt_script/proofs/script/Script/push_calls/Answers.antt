use Rattle.std.proofs.Common.{◌≡◌, ◌<◌, length, get_or}
use Rattle.rt_script.specs.Canonical.{calls_text}
use Rattle.rt_script.proofs.Whole.{text_more}
use Rattle.rt_script.proofs.script.Script.push_calls.Goals as goal

pub loop-task-preserved : goal.loop-task-preserved
loop-task-preserved c =
    let all = c.task_lines-task-items.ensures in
    let below : c.loop-task.task-index < length c.args.self.now.tasks = rw (← all) c.loop-task-test.true in
    let is : c.task-item.result ≡ get_or c.args.self.now.tasks c.loop-task.task-index c.task-item.result = rw (← all) c.task-item.is in
    text_more (calls_text c.args.self.now) c.args.self.now.tasks c.loop-task.task-index c.task-item.result
    c.args.out.now.items c.loop-task.out.items c.push_calls_of.new.out.items below is c.loop-task.invariant c.in_ok-push_calls_of.ensures
