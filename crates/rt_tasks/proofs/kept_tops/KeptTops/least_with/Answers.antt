use Rattle.std.proofs.Common.{◌≡◌, ◌<◌, ◌∷◌, [], ap, subst, sym, ◌∙◌, length, arith, ℕ, List, Option, None}
use Rattle.std.specs.Prelude.{slice_set}
use Rattle.rt_model.specs.Parts.{least, keys_in}
use Rattle.rt_tasks.specs.KeptTops.{AreLocksOf}
use Rattle.rt_tasks.proofs.Least.{least-with}
use Rattle.rt_tasks.proofs.Tops.{least-set_others}
use Rattle.rt_tasks.proofs.kept_tops.KeptTops.least_with.Goals as goal

pub returns-then-len-le-MAX_LOCKS : goal.returns-then-len-le-MAX_LOCKS
returns-then-len-le-MAX_LOCKS c =
    let kept = c.as_slice.result.now in
    let is = c.as_slice.ensures.value in
    let long = c.as_slice.ensures.len in
    let lt : c.args.l.0 < length kept = subst (λ (xs : List (Option ℕ)). c.args.l.0 < length xs) (sym (is ∙ c.self.view_is)) c.requires in
    let others : c.least_in.result ≡ least c.args.own (keys_in (slice_set kept c.args.l.0 None)) =
    least-set_others c.self.inside.locks c.without-others.result c.args.own c.least_in.result c.args.l.0 kept
    (subst (λ (xs : List (Option ℕ)). AreLocksOf xs c.self.inside.locks) (sym is) c.self.invariant) (omega arith) lt c.without-others.ensures c.least_in.ensures in
    c.better.ensures
    ∙ (ap (λ (n : ℕ). least n (keys_in (c.args.top ∷ []))) others
    ∙ (sym (least-with c.args.own c.args.l.0 kept c.args.top lt)
    ∙ ap (λ (xs : List (Option ℕ)). least c.args.own (keys_in (slice_set xs c.args.l.0 c.args.top))) (is ∙ c.self.view_is)))
