use Rattle.std.proofs.Common.{ap, sym, ◌∙◌, cond}
use Rattle.std.specs.Prelude.{nat_eq}
use Rattle.std.specs.Int.{w64}
use Rattle.std.proofs.lemmas.Nat.Bits.{bit_at_set_same, bit_at_set_other, bit_at_clear_same, bit_at_clear_other}
use Rattle.rt_tasks.specs.LockSet.{has_bit}
use Rattle.rt_tasks.proofs.LockBits.{put_bit}
use Rattle.rt_tasks.proofs.lock_set.with_bit.Goals as goal

pub returns-then-set : goal.returns-then-set
returns-then-set c = λ b lt.
    let word = c.args.word in
    let bit = c.args.bit in
    put_bit _ word bit b _ (ap (λ n. nat_eq n 1) (bit_at_set_same w64 word bit c.requires)) (λ ne. ap (λ n. nat_eq n 1) (bit_at_set_other w64 word bit c.requires b ne))
    ∙ (λ i. cond (nat_eq bit b) (sym c.if-set.true i) (has_bit word b))

pub returns-else-set : goal.returns-else-set
returns-else-set c = λ b lt.
    let word = c.args.word in
    let bit = c.args.bit in
    put_bit _ word bit b _ (ap (λ n. nat_eq n 1) (bit_at_clear_same w64 word bit c.requires)) (λ ne. ap (λ n. nat_eq n 1) (bit_at_clear_other w64 word bit c.requires b lt ne))
    ∙ (λ i. cond (nat_eq bit b) (sym c.if-set.false i) (has_bit word b))
