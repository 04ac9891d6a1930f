use Rattle.std.proofs.Common.{◌≡◌, ◌≢◌, ◌∙◌, get_or, length, arith}
use Rattle.std.proofs.lemmas.Grind.{common_steps}
use Rattle.rt_top.proofs.Spelled.{number_upto-parsed, number_upto-plus, number_upto-zeros}
use Rattle.rt_top.proofs.words.number.Goals as goal

pub returns-then-has_plus : goal.returns-then-has_plus
returns-then-has_plus c = grind (arith, common_steps, number_upto-plus)

pub returns-then-leads_with_zero : goal.returns-then-leads_with_zero
returns-then-leads_with_zero c = grind (arith, common_steps, number_upto-zeros)

pub returns : goal.returns
returns c =
    let plain : get_or c.args.word.now 0 0 ≢ 43 = grind (arith, common_steps) in
    let led : get_or c.args.word.now 0 0 ≡ 48 → length c.args.word.now ≡ 1 = λ z. grind (arith, common_steps) in
    c.ok.ensures.value ∙ number_upto-parsed c.args.word.now c.parse.result plain led c.parse.ensures.value.0
