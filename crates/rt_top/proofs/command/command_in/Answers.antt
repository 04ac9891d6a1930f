use Rattle.std.proofs.Common.{◌∙◌, ℕ, Option, Some, ap, sym, map}
use Rattle.std.specs.Prelude.{codes, string_bytes}
use Rattle.std.specs.Str.Parse.{ParsesUnsigned, ExplainsUnsignedError, HasUnsignedDigitsIfOk}
use Rattle.clap.specs.Words.{found_of, first_value, one_text}
use Rattle.rt_top.specs.Words.{command_of}
use Rattle.rt_top.proofs.OptionForms.{said_check, command_as, command_read}
use Rattle.rt_top.proofs.command.command_in.Goals as goal

pub returns-then-is_check : goal.returns-then-is_check
returns-then-is_check c =
    said_check (first_value (found_of c.in-Ok.found) (codes "command")) (one_text (found_of c.in-Ok.found) (codes "number")) (one_text (found_of c.in-Ok.found) (codes "turns")) (command_of (map (λ word. string_bytes word) c.args.words.now))
    c.in-Ok.ensures.said (sym c.get_str.ensures ∙ c.is_check.ensures.0 c.if-is_check.true)

pub returns-in-Some : goal.returns-in-Some
returns-in-Some c =
    command_read (λ bs r. ParsesUnsigned 32 10 bs r × ExplainsUnsignedError 10 bs r × HasUnsignedDigitsIfOk bs r) (λ word r g. g.0)
    (first_value (found_of c.in-Ok.found) (codes "command")) (one_text (found_of c.in-Ok.found) (codes "number")) (one_text (found_of c.in-Ok.found) (codes "turns"))
    (command_of (map (λ word. string_bytes word) c.args.words.now)) c.get_one-2.result c.get_one.result c.in-Ok.ensures.said
    (λ is. let yes = c.is_check.ensures.1 (c.get_str.ensures ∙ is) in let other = c.if-is_check.false in cc (yes, other))
    c.get_one-2.ensures.none c.get_one-2.ensures.value c.get_one.ensures.none c.get_one.ensures.value
    ∙ ap (λ (n : Option ℕ). Some (command_as n c.get_one.result)) c.in-Some.is

pub returns : goal.returns
returns c =
    command_read (λ bs r. ParsesUnsigned 32 10 bs r × ExplainsUnsignedError 10 bs r × HasUnsignedDigitsIfOk bs r) (λ word r g. g.0)
    (first_value (found_of c.in-Ok.found) (codes "command")) (one_text (found_of c.in-Ok.found) (codes "number")) (one_text (found_of c.in-Ok.found) (codes "turns"))
    (command_of (map (λ word. string_bytes word) c.args.words.now)) c.get_one-2.result c.get_one.result c.in-Ok.ensures.said
    (λ is. let yes = c.is_check.ensures.1 (c.get_str.ensures ∙ is) in let other = c.if-is_check.false in cc (yes, other))
    c.get_one-2.ensures.none c.get_one-2.ensures.value c.get_one.ensures.none c.get_one.ensures.value
    ∙ ap (λ (n : Option ℕ). Some (command_as n c.get_one.result)) c.in-None.is
