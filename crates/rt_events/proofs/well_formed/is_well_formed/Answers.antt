use Rattle.std.proofs.Common.{◌<◌, ◌^◌, arith}
use Rattle.rt_events.proofs.well_formed.is_well_formed.Goals as goal

pub returns-then-has_value : goal.returns-then-has_value
returns-then-has_value c =
    let task = c.is_task_in.ensures.0 cc in
    let boost = c.has_boost.ensures.0 cc in
    let lock = c.has_lock.ensures.0 cc in
    let other = c.has_other.ensures.0 cc in
    let woken = c.has_woken.ensures.0 cc in
    let value = c.has_value.ensures.0 c.if-has_value.true in
    let number : c.args.n.now.number < 2 ^ 64 = omega arith in
    ((λ path. record { number = number; task = task; lock = lock; other = other; woken = woken; value = value; path = c.has_path.ensures.0 path; boost = boost }), (λ is. c.has_path.ensures.1 is.path))
