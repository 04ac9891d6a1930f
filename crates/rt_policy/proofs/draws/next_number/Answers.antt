use Rattle.std.proofs.Common.{◌*◌, ◌^◌}
use native.Mathlib.Nat.{mod-add-mod}
use Rattle.rt_policy.specs.Draws.{next_number}
use Rattle.rt_policy.proofs.draws.next_number.Goals as goal

pub returns : goal.returns
unfolding next_number
returns c = mod-add-mod (c.args.x * 6364136223846793005) (2 ^ 64) 1442695040888963407
