use Rattle.rt_script.proofs.Whole.{whole_text}
use Rattle.rt_script.proofs.script.Script.push_text.Goals as goal

pub returns-clause-text : goal.returns-clause-text
returns-clause-text c =
    whole_text c.args.self.now c.cpus.result c.task_lines.result.now c.lock_lines.result.now c.args.out.now.items c.extend_from_slice.new.self.items c.push_cpus_line.new.out.items
    c.push_tasks.new.out.items c.push_locks.new.out.items c.push_calls.new.out.items c.push_picks.new.out.items c.extend_from_slice-2.new.self.items c.cpus.ensures.number c.task_lines.ensures c.lock_lines.ensures
    c.in_ok-extend_from_slice.ensures.items c.in_ok-push_cpus_line.ensures c.in_ok-push_tasks.ensures c.in_ok-push_locks.ensures c.in_ok-push_calls.ensures c.in_ok-push_picks.ensures
    c.in_ok-extend_from_slice-2.ensures.items
