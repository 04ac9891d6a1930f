use Rattle.std.proofs.Common.{arith, inl, inr, length}
use Rattle.std.proofs.lemmas.Bool.Decides.{leb_tells}
use Rattle.rt_core.proofs.enabled.Enabled.of.Goals as goal

pub returns : goal.returns
returns c = λ t lt.
    c.loop-t.invariant (record { 0 = t }) lt
    (elim (leb_tells (length c.args.threads.now) t) [
      | inl past ↦ inr past.1
      | inr below ↦ let under = below.1 in let over = c.loop-t-test.false in inl (omega (arith, under, over))
    ])
