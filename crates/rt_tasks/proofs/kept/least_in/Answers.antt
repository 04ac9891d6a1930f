use Rattle.std.proofs.Common.{◌≡◌, ℕ, arith, subst}
use Rattle.rt_tasks.specs.KeptTops.{IsLeastOf}
use Rattle.rt_tasks.proofs.Tops.{IsBelow, least-word, least-words}
use Rattle.rt_tasks.proofs.kept.least_in.Goals as goal

pub words-preserved : goal.words-preserved
words-preserved c =
    least-word c.args.locks.now c.words.w c.word.result c.args.prio c.words.best c.least_of_word-best.result c.args.kept.now c.word.ensures c.words.invariant c.least_of_word-best.ensures

pub returns : goal.returns
returns c =
    let last : c.words.w ≡ 4 = omega arith in
    least-words c.args.locks.now c.args.prio c.words.best c.args.kept.now
    (subst (λ (w : ℕ). IsLeastOf (IsBelow c.args.locks.now w) c.args.prio c.args.kept.now c.words.best) last c.words.invariant)
