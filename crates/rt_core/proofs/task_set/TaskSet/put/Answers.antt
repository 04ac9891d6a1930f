use Rattle.std.proofs.Common.{ap, sym, ◌∙◌, cond}
use Rattle.std.specs.Prelude.{nat_eq}
use Rattle.std.specs.Int.{w64}
use Rattle.std.proofs.lemmas.Nat.Bits.{bit_at_set_same, bit_at_set_other, bit_at_clear_same, bit_at_clear_other}
use Rattle.rt_core.specs.TaskSet.{has}
use Rattle.rt_core.proofs.TaskBits.{put_bit}
use Rattle.rt_core.proofs.task_set.TaskSet.put.Goals as goal

pub returns-then-member : goal.returns-then-member
returns-then-member c = λ u lt.
    let word = c.self.inside.word in
    let t = c.args.t.0 in
    put_bit word _ t u _ (ap (λ n. nat_eq n 1) (bit_at_set_same w64 word t c.requires)) (λ ne. ap (λ n. nat_eq n 1) (bit_at_set_other w64 word t c.requires u ne))
    ∙ (λ i. cond (nat_eq t u) (sym c.if-member.true i) (has (c.self.view_is i) u))

pub returns-else-member : goal.returns-else-member
returns-else-member c = λ u lt.
    let word = c.self.inside.word in
    let t = c.args.t.0 in
    put_bit word _ t u _ (ap (λ n. nat_eq n 1) (bit_at_clear_same w64 word t c.requires)) (λ ne. ap (λ n. nat_eq n 1) (bit_at_clear_other w64 word t c.requires u lt ne))
    ∙ (λ i. cond (nat_eq t u) (sym c.if-member.false i) (has (c.self.view_is i) u))
