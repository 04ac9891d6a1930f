use Rattle.std.proofs.Common.{rules, ◌≡◌, ◌∙◌, sym, ap, ap₂, subst, codes, true, map, List, Option, String, Global}
use Rattle.std.specs.Prelude.{string_bytes}
use Rattle.std.proofs.lemmas.Result.{IfErr-weaker, IfOk-weaker}
use Rattle.clap.specs.Words.{App, Text, app_of, is_simple, matches_of, new_rule, first_value, one_text, found_of, rows_of, rule_of, takes, with_rule}
use Rattle.clap.specs.Walk.{first_of, one_of}
use Rattle.clap.specs.declared.parser.matches.ArgMatches.{ArgMatches}
use Rattle.rt_top.specs.Words.{IsSaid, command_of}
use Rattle.clap.specs.Simple.{app_of_fields, on_top}
use Rattle.clap.proofs.WalkLemmas.{first_value-rows, one_text-rows}
use Rattle.rt_top.proofs.Cli.{cli, command_rule, turns_rule, patience_rule, bare, IsRead, read_words}
use Rattle.rt_top.proofs.command.matches.Goals as goal

pub returns : goal.returns
returns c =
    let command_is : rule_of c.required-command.result ≡ command_rule = search rules in
    let number_rule_is : rule_of c.new-number.result ≡ new_rule (codes "number") = search rules in
    let turns_is : rule_of c.long-turns.result ≡ turns_rule = search rules in
    let patience_is : rule_of c.long-patience.result ≡ patience_rule = search rules in
    let bare_is : app_of c.no_binary_name.result ≡ bare = ap app_of_fields c.no_binary_name.ensures ∙ ap (on_top (λ s. record s { no_binary_name = true })) c.new-4.ensures.app in
    let cli_is : app_of c.in_ok-arg-4.field-0 ≡ cli = c.in_ok-arg-4.ensures.shape (search rules)
    ∙ ap₂ with_rule (c.in_ok-arg-3.ensures.shape (search rules)
    ∙ ap₂ with_rule (c.in_ok-arg-2.ensures.shape (search rules)
    ∙ ap₂ with_rule (c.in_ok-arg.ensures.shape (search rules) ∙ ap₂ with_rule bare_is command_is) number_rule_is) turns_is) patience_is in
    let words : List Text = map (λ (word : String Global). string_bytes word) c.args.words.now in
    let read : IsRead words = read_words words c.requires in
    let given_is : (m : ArgMatches) → rows_of (found_of m) ≡ matches_of (app_of c.in_ok-arg-4.field-0) words → one_text (found_of m) (codes "turns") ≡ one_of (codes "turns") (matches_of cli words) = λ m rows. one_text-rows (found_of m) (codes "turns") ∙ ap (one_of (codes "turns")) (rows ∙ ap (λ (a : App). matches_of a words) cli_is) in
    let number_is : (m : ArgMatches) → rows_of (found_of m) ≡ matches_of (app_of c.in_ok-arg-4.field-0) words → one_text (found_of m) (codes "number") ≡ one_of (codes "number") (matches_of cli words) = λ m rows. one_text-rows (found_of m) (codes "number") ∙ ap (one_of (codes "number")) (rows ∙ ap (λ (a : App). matches_of a words) cli_is) in
    let named_is : (m : ArgMatches) → rows_of (found_of m) ≡ matches_of (app_of c.in_ok-arg-4.field-0) words → first_value (found_of m) (codes "command") ≡ first_of (codes "command") (matches_of cli words) = λ m rows. first_value-rows (found_of m) (codes "command") ∙ ap (first_of (codes "command")) (rows ∙ ap (λ (a : App). matches_of a words) cli_is) in
    let parse = c.try_get_matches_from in
    record {
      said = IfOk-weaker parse.result _ _ (λ m h.
          let rows = (h (ap is_simple cli_is)).0 in
          subst (λ (given : Option Text). IsSaid (first_value (found_of m) (codes "command")) (one_text (found_of m) (codes "number")) given (command_of words)) (sym (given_is m rows))
          (subst (λ (number : Option Text). IsSaid (first_value (found_of m) (codes "command")) number (one_of (codes "turns") (matches_of cli words)) (command_of words)) (sym (number_is m rows))
          (subst (λ (name : Option Text). IsSaid name (one_of (codes "number") (matches_of cli words)) (one_of (codes "turns") (matches_of cli words)) (command_of words)) (sym (named_is m rows)) read.said))) parse.ensures.matches;
      err = IfErr-weaker parse.result _ _ (λ e h. h (ap (λ (a : App). takes a words) cli_is ∙ read.taken)) parse.ensures.passes;
    }
