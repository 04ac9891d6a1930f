use Rattle.std.proofs.Common.{◌∙◌, ◌++◌, List, ℕ, ap}
use Rattle.rt_top.specs.Summary.{every_kind, every_reply, script_line, summary_header}
use Rattle.rt_top.proofs.SummaryParts.{parts}
use Rattle.rt_top.proofs.summary.summary.Goals as goal

pub returns : goal.returns
returns c =
    λ events are. parts c.args.counts.now events c.args.ended every_kind every_reply (summary_header ++ script_line c.args.number)
    c.push_head.new.out.items c.push_kinds.new.out.items c.push_answers.new.out.items c.push_end.new.out.items are
    (c.in_ok-push_head.ensures ∙ ap (λ (t : List ℕ). t ++ (summary_header ++ script_line c.args.number)) c.new-text.ensures.items)
    c.in_ok-push_kinds.ensures c.in_ok-push_answers.ensures c.in_ok-push_end.ensures
