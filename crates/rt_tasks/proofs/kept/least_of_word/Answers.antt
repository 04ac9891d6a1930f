use Rattle.std.proofs.Common.{ℕ, arith, subst, sym}
use Rattle.rt_tasks.specs.LockSet.{IsInWord}
use Rattle.rt_tasks.proofs.LockBits.{none-zero, rest-smaller}
use Rattle.rt_tasks.proofs.Tops.{least-none_of, least-bit}
use Rattle.rt_tasks.proofs.kept.least_of_word.Goals as goal

pub bits-smaller : goal.bits-smaller
bits-smaller c = rest-smaller c.bits.rest (omega arith) (omega arith)

pub bits-preserved : goal.bits-preserved
bits-preserved c = λ x is.
    c.bits.invariant x
    (least-bit c.bits.rest (omega arith) (omega arith) c.args.w c.bits.best c.args.kept.now c.kept_at.result c.better-best.result x
    c.kept_at.ensures c.better-best.ensures is)

pub returns : goal.returns
returns c =
    c.bits.invariant c.bits.best
    (least-none_of (IsInWord c.bits.rest c.args.w) c.bits.best c.args.kept.now
    (subst (λ (word : ℕ). (l : ℕ) → IsInWord word c.args.w l → ⊥) (sym c.bits-test.false) (none-zero c.args.w)))
