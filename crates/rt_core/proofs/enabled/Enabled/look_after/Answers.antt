use Rattle.std.proofs.Common.{subst}
use Rattle.rt_model.specs.CanMove.{IsOther}
use Rattle.rt_core.proofs.enabled.Enabled.look_after.Goals as goal

pub returns : goal.returns
returns c = λ u lt was.
    c.look_at_named-2.ensures u lt (λ target. c.look_at_named.ensures u lt (λ woken. c.look_at.ensures u lt (λ task.
    was (record { task = task; woken = woken; target = subst (IsOther u) c.wakeup_target.ensures target }))))
