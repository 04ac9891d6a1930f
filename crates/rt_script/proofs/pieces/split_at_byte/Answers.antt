use Rattle.std.proofs.Common.{◌==◌, sym}
use Rattle.rt_script.proofs.Splits.{split_at_none, split_parts}
use Rattle.rt_script.proofs.pieces.split_at_byte.Goals as goal

pub returns-in_err-end : goal.returns-in_err-end
returns-in_err-end c = rw c.from_residual.ensures (record { parts = split_at_none (λ b. b == c.args.byte) c.args.text.now (sym c.in_err-end.ensures); shorter = tt })

pub returns-clause-parts : goal.returns-clause-parts
returns-clause-parts c = split_parts (λ b. b == c.args.byte) c.args.text.now c.in_ok-end.end c.split_at.result.0.now c.split_at.result.1.now (sym c.in_ok-end.ensures) c.split_at.ensures.front c.split_at.ensures.back
