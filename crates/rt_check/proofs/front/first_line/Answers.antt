use Rattle.std.proofs.Common.{◌≡◌, suc, ◌+◌, ap, ◌∙◌, arith, sym, take}
use Rattle.rt_check.proofs.FirstLines.{first_there, first_whole}
use Rattle.rt_check.proofs.front.first_line.Goals as goal

pub returns-in-Some : goal.returns-in-Some
returns-in-Some c =
    let n : c.in-Some.end + 1 ≡ suc c.in-Some.end = omega arith in
    c.split_at.ensures.front ∙ ap (λ m. take m c.args.text.now) n ∙ sym (first_there c.args.text.now c.in-Some.end (sym c.line_feed.ensures ∙ c.in-Some.is))

pub returns-in-None : goal.returns-in-None
returns-in-None c = sym (first_whole c.args.text.now (sym c.line_feed.ensures ∙ c.in-None.is))
