use Rattle.std.proofs.Common.{◌≡◌, ◌+◌, ◌<◌, ◌++◌, ℕ, suc, List, refl, sym, ap, subst, ◌∙◌, arith, append_assoc}
use Rattle.rt_base.specs.Script.{Script}
use Rattle.rt_model.specs.State.{State}
use Rattle.rt_core.specs.Report.{report_upto, report_line_of}
use Rattle.rt_check.specs.Place.{at_report, report_size}
use Rattle.rt_check.specs.MayStand.{IsWhy}
use Rattle.rt_check.specs.Why.{why_number}
use Rattle.rt_check.proofs.report.judge_report.Goals as goal

-- one line more of the report stands before the rest
one_more : (script : Script) (s : State) (i : ℕ) (text rest more : List ℕ) → text ≡ report_upto script s i ++ rest → rest ≡ report_line_of script s i ++ more → text ≡ report_upto script s (i + 1) ++ more
one_more script s i text rest more front is =
    let next : suc i ≡ i + 1 = omega arith in
    front ∙ ap (λ l. report_upto script s i ++ l) is ∙ sym (append_assoc (report_upto script s i) (report_line_of script s i) more) ∙ ap (λ n. report_upto script s n ++ more) next

pub returns-in-None-clause-wrong : goal.returns-in-None-clause-wrong
returns-in-None-clause-wrong c =
    let within : c.loop-i.i < report_size c.args.script.now = omega (arith, c.loop-i-test.true, c.tasks.ensures.number, c.locks.ensures.number) in
    record {
      i = c.loop-i.i;
      rest = c.loop-i.rest.now;
      within = within;
      number = refl;
      front = c.loop-i.invariant.front;
      other = c.in-None.ensures.parts;
      cause = λ events. subst (λ (line : List ℕ). IsWhy c.args.script.now line (at_report events c.loop-i.i) (why_number c.why_not_told.result)) c.first_line.ensures (c.why_not_told.ensures events);
    }

pub loop-i-preserved : goal.loop-i-preserved
loop-i-preserved c = record {
  front = one_more c.args.script.now c.args.core.now.state c.loop-i.i c.args.text.now c.loop-i.rest.now c.in-Some.more.now c.loop-i.invariant.front c.in-Some.ensures.parts;
  long = omega (arith, c.loop-i.invariant.long, c.in-Some.ensures.shorter);
  room = omega (arith, c.loop-i.invariant.room, c.after_report_line.ensures.capacity);
  capacity = omega (arith, c.loop-i.invariant.capacity, c.after_report_line.ensures.capacity);
}
