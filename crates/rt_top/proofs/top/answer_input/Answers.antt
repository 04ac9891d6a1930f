use Rattle.std.proofs.Common.{◌≡◌, ◌∙◌, Err, sym, ap, subst}
use Rattle.rt_script.specs.Grammar.{FaultAt, script_of}
use Rattle.rt_script.specs.Results.{IsFaultOf}
use Rattle.rt_top.specs.Answer.{AnswersBadScript, Output, output_of}
use Rattle.rt_top.specs.Message.{fault_at}
use Rattle.rt_top.proofs.MessageWritten.{refused}
use Rattle.rt_top.proofs.top.answer_input.Goals as goal

pub returns-in-Err-At-clause-outcome : goal.returns-in-Err-At-clause-outcome
returns-in-Err-At-clause-outcome g c =
    let fault = fault_at c.in-Err-At.line c.in-Err-At.why in
    let at_fault : script_of c.parts_for.result.0.now ≡ Err fault = subst (IsFaultOf (script_of c.parts_for.result.0.now)) c.in-Err-At.field-0-is c.in-Err-At.ensures.fault in
    let output : Output = output_of g.K.Sink.held g.K.Sink.faults c.args.out.now c.answer_bad_script.new.out in
    let told : AnswersBadScript c.answer_bad_script.result fault output = subst (λ (f : FaultAt). AnswersBadScript c.answer_bad_script.result f output) (λ i. fault_at (c.in-Err-At.line-is i) (c.in-Err-At.why-is i)) c.answer_bad_script.ensures.outcome in
    refused c.args.purpose c.answer_bad_script.result c.args.bytes.now output fault (ap script_of (sym c.parts_for.ensures.script) ∙ at_fault) told
