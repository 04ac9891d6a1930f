use Rattle.std.proofs.Common.{◌≡◌, ℕ, List, [], ◌∷◌, ◌++◌, ap, ◌∙◌, sym, append_assoc}
use Rattle.std.proofs.lemmas.Bool.Decides.{Decides-eqb}
use Rattle.std.proofs.lemmas.List.{append_cancel_left}
use Rattle.std.proofs.lemmas.Slice.Eq.{ends_is}
use Rattle.rt_check.specs.MayStand.{report_word}
use Rattle.rt_check.proofs.report.is_report_line.Goals as goal

pub returns-in-Some : goal.returns-in-Some
returns-in-Some c =
    let word : List ℕ = report_word c.args.script.now c.args.i in
    let rest : List ℕ = c.in-Some.rest.now in
    let line : c.args.line.now ≡ word ++ rest = c.in-Some.ensures ∙ ap (λ w. w ++ rest) c.report_word.ensures in
    let ends = ends_is Decides-eqb rest (10 ∷ []) c.ends_with.result c.ends_with.ensures.value in (
      (λ is. (_, append_assoc word _ (10 ∷ []) ∙ ap (λ r. word ++ r) (sym (ends.0 is)) ∙ sym line)),
      λ body. ends.1 body.0 (append_cancel_left word rest (body.0 ++ 10 ∷ []) (sym line ∙ sym body.1 ∙ append_assoc word body.0 (10 ∷ []))),
    )
