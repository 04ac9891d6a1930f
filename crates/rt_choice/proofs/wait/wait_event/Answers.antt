use Rattle.std.proofs.Common.{rules, ◌∙◌, ap}
use Rattle.rt_model.specs.Parts.{effective_of}
use Rattle.rt_model.specs.Rows.{top_key}
use Rattle.rt_model.specs.State.{lock_in, task_in}
use Rattle.rt_model.specs.steps.Lock.{queued}
use Rattle.rt_choice.proofs.wait.wait_event.Goals as goal

pub returns : goal.returns
returns c =
    let sh = c.args.shared.now in
    let key = effective_of (task_in sh c.args.t) in
    let top = c.top_key_with-top.ensures ∙ (λ i. top_key (queued c.args.t ((c.effective.ensures ∙ ap effective_of c.task.ensures.part) i) (c.lock-lock.ensures.part i)).rows) in
    let boost = c.owner_boost.ensures (queued c.args.t key (lock_in sh c.args.l)) top in
    search rules
