use Rattle.std.proofs.Common.{◌≡◌, ◌∙◌, [], false, refl, sym, ap, subst, map, Option, Some, String, Global, arith}
use Rattle.std.specs.Prelude.{string_bytes, is_some}
use Rattle.std.proofs.lemmas.Grind.{common_steps}
use Rattle.rt_base.proofs.Outside.{Takes-nothing}
use Rattle.rt_top.specs.Answer.{Answers, Input, Output, input_of, output_of}
use Rattle.rt_top.specs.declared.command.Command.{Command}
use Rattle.rt_top.specs.declared.command.Command.TheVariants.{Gen}
use Rattle.rt_top.specs.Words.{command_of}
use Rattle.rt_top.proofs.MessageWritten.{unaccepted}
use Rattle.rt_top.proofs.top.answer.Goals as goal

pub returns-then-not-is_accepted-clause-outcome : goal.returns-then-not-is_accepted-clause-outcome
returns-then-not-is_accepted-clause-outcome g c =
    let words = map (λ (word : String Global). string_bytes word) c.args.words.now in
    let none : is_some (command_of words) ≡ false = sym c.is_accepted.ensures ∙ grind (arith, common_steps) in
    ([], Takes-nothing (g.S.Source.left c.args.src.now), unaccepted (command_of words) _ _ none c.tell_usage.ensures.told)

pub returns-in-Ok-Gen-clause-outcome : goal.returns-in-Ok-Gen-clause-outcome
returns-in-Ok-Gen-clause-outcome g c =
    let words = map (λ (word : String Global). string_bytes word) c.args.words.now in
    let input : Input = input_of g.S.Source.left g.S.Source.faults c.args.src.now c.args.src.now in
    let output : Output = output_of g.K.Sink.held g.K.Sink.faults c.args.out.now c.generate_and_count.new.out in
    let is : command_of words ≡ Some (Gen c.in-Ok-Gen.number c.in-Ok-Gen.options) = c.in-Ok-Gen.ensures ∙ ap Some c.in-Ok-Gen.field-0-is in
    ([], Takes-nothing (g.S.Source.left c.args.src.now), subst (λ (o : Option Command). Answers o c.generate_and_count.result [] input output) (sym is) (refl, refl, c.generate_and_count.ensures.outcome))
