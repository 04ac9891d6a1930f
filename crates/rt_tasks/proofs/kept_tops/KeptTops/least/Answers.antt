use Rattle.std.proofs.Common.{ap, subst, sym, ◌∙◌, arith, ℕ, List, Option}
use Rattle.rt_model.specs.Parts.{least, keys_in}
use Rattle.rt_tasks.specs.KeptTops.{AreLocksOf}
use Rattle.rt_tasks.proofs.Tops.{least-set_all}
use Rattle.rt_tasks.proofs.kept_tops.KeptTops.least.Goals as goal

pub returns-then-len-le-MAX_LOCKS : goal.returns-then-len-le-MAX_LOCKS
returns-then-len-le-MAX_LOCKS c =
    let kept = c.as_slice.result.now in
    let is = c.as_slice.ensures.value in
    let long = c.as_slice.ensures.len in
    least-set_all c.self.inside.locks c.args.own c.least_in.result kept
    (subst (λ (xs : List (Option ℕ)). AreLocksOf xs c.self.inside.locks) (sym is) c.self.invariant) (omega arith) c.least_in.ensures
    ∙ ap (λ (xs : List (Option ℕ)). least c.args.own (keys_in xs)) (is ∙ c.self.view_is)
