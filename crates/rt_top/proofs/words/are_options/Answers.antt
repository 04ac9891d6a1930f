use Rattle.std.proofs.Common.{◌≡◌, ◌≤◌, List, map, length, sym, ap, ◌∙◌, arith, String, Global}
use Rattle.std.specs.Prelude.{string_bytes, is_some}
use Rattle.std.proofs.lemmas.List.{length-map}
use Rattle.rt_top.specs.Words.{no_options, options_after, with_option}
use Rattle.rt_top.proofs.OptionForms.{options_long, options_pair, two_words}
use Rattle.rt_top.proofs.words.are_options.Goals as goal

pub returns-in_default-2 : goal.returns-in_default-2
returns-in_default-2 c =
    let words = map (λ (word : String Global). string_bytes word) c.args.words.now in
    let long : 3 ≤ length words = omega (arith, c.in_default.len_at_least, length-map c.args.words.now (λ (word : String Global). string_bytes word)) in
    sym (options_long words long)

pub returns-in-len2 : goal.returns-in-len2
returns-in-len2 c =
    let two = two_words c.args.words.now c.name-item.result c.word-item.result c.in-len2.len_at_least c.in-len2.len_below c.name-item.is c.word-item.is in
    let option : is_some (with_option no_options (string_bytes c.name-item.result) (string_bytes c.word-item.result)) ≡ c.is_option.result = sym (c.is_option.ensures ∙ λ i. is_some (with_option no_options (c.deref.ensures i) (c.deref-in-len2.ensures i))) in
    sym (ap (λ (words : List (String Global)). is_some (options_after no_options (map (λ word. string_bytes word) words))) two ∙ options_pair (string_bytes c.name-item.result) (string_bytes c.word-item.result) ∙ option)
