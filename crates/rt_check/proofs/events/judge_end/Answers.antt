use Rattle.std.proofs.Common.{◌∙◌, ◌++◌, List, ℕ, ap, sym}
use Rattle.rt_events.specs.Journal.{end_line}
use Rattle.rt_check.proofs.events.judge_end.Goals as goal

pub returns-in-None-clause-wrong : goal.returns-in-None-clause-wrong
returns-in-None-clause-wrong c = λ more is.
    let line = c.as_slice.ensures.value ∙ (c.write_end_line.ensures.text ∙ (λ i. c.clear.ensures.items i ++ end_line (c.ended.ensures i))) in
    c.in-None.ensures more (is ∙ ap (λ (l : List ℕ). l ++ more) (sym line))
