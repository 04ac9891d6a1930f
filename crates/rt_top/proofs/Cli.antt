-- The words as `clap` reads them.
use Rattle.std.proofs.Common.{◌≡◌, inl, inr, ℕ, ◌<◌, ◌≤◌, List, [], ◌∷◌, length, true, Option, Some, None, refl, sym, ap, subst, ◌∙◌, codes, arith}
use Rattle.std.specs.Prelude.{is_some}
use Rattle.std.specs.Str.{all_ascii_digits}
use Rattle.std.proofs.lemmas.Str.Parse.{tells_all_ascii_digits}
use Rattle.std.proofs.Math.Nat.{eq-or-lt_of_le}
use Rattle.clap.specs.Walk.{first_of, one_of}
use Rattle.clap.specs.Words.{App, Rule, Text, matches_of, new_app, new_rule, takes, with_rule}
use Rattle.clap.specs.Simple.{on_top}
use Rattle.clap.proofs.OnLiterals.{clap_on_literals}
use Rattle.rt_script.specs.Words.{number_upto}
use Rattle.rt_top.specs.declared.command.Command.{Command}
use Rattle.rt_top.specs.declared.command.Command.TheVariants.{Read, Gen}
use Rattle.rt_top.specs.declared.options.Options.{Options}
use Rattle.rt_top.specs.declared.options.TheConstants.{MAX_TURNS}
use Rattle.rt_top.specs.declared.purpose.Purpose.TheVariants.{Replay}
use Rattle.rt_top.specs.Words.{IsSaid, command_of}
use Rattle.rt_top.proofs.Spelled.{Spells, spells, some_of, digits_of}
use Rattle.rt_top.proofs.OptionForms.{Form, OptionForm, replay, check, gen, none_given, turns_given, forms}

abbrev pub command_rule : Rule
command_rule = record (new_rule (codes "command")) { required = true }

abbrev pub turns_rule : Rule
turns_rule = record (new_rule (codes "turns")) { long = Some (codes "turns") }

abbrev pub patience_rule : Rule
patience_rule = record (new_rule (codes "patience")) { long = Some (codes "patience") }

-- words without the program's name
abbrev pub bare : App
bare = on_top (λ s. record s { no_binary_name = true }) (new_app (codes "rtlab"))

-- a command, a number, and two options
abbrev pub cli : App
cli = with_rule (with_rule (with_rule (with_rule bare command_rule) (new_rule (codes "number"))) turns_rule) patience_rule

-- the words are taken; the command has that name, the number's place that word, and the option that one
pub record Reads (words : List Text) (name : Text) (number word : Option Text) : Type 0 where
  pub taken : takes cli words ≡ true
  pub named : first_of (codes "command") (matches_of cli words) ≡ Some name
  pub number_is : one_of (codes "number") (matches_of cli words) ≡ number
  pub turns_are : one_of (codes "turns") (matches_of cli words) ≡ word

pub reads_replay : Reads (codes "replay" ∷ []) (codes "replay") None None
unfolding clap_on_literals
reads_replay = record { taken = refl; named = refl; number_is = refl; turns_are = refl }

pub reads_check : Reads (codes "check" ∷ []) (codes "check") None None
unfolding clap_on_literals
reads_check = record { taken = refl; named = refl; number_is = refl; turns_are = refl }

-- what is found at words
found : {words : List Text} {name : Text} {number word : Option Text} → takes cli words ≡ true → first_of (codes "command") (matches_of cli words) ≡ Some name
    → one_of (codes "number") (matches_of cli words) ≡ number → one_of (codes "turns") (matches_of cli words) ≡ word → Reads words name number word
found taken named number turns = record { taken = taken; named = named; number_is = number; turns_are = turns }

at_or : (P : ℕ → Type 0) (n d : ℕ) → P n → (n < d → P d) → n ≤ d → P d
at_or P n d here more le = elim (eq-or-lt_of_le le) [ inl e ↦ subst P e here | inr lt ↦ more lt ]

-- each digit by itself, since the tests of `clap` compute at numbers that are written out
each_digit : (P : ℕ → Type 0) → P 48 → P 49 → P 50 → P 51 → P 52 → P 53 → P 54 → P 55 → P 56 → P 57 → (d : ℕ) → 48 ≤ d → d ≤ 57 → P d
each_digit P p0 p1 p2 p3 p4 p5 p6 p7 p8 p9 d low high =
    at_or P 48 d p0 (λ l48. at_or P 49 d p1 (λ l49. at_or P 50 d p2 (λ l50. at_or P 51 d p3 (λ l51. at_or P 52 d p4 (λ l52.
    at_or P 53 d p5 (λ l53. at_or P 54 d p6 (λ l54. at_or P 55 d p7 (λ l55. at_or P 56 d p8 (λ l56. at_or P 57 d p9 (λ l57. absurd (omega arith))
    (omega arith)) (omega arith)) (omega arith)) (omega arith)) (omega arith)) (omega arith)) (omega arith)) (omega arith)) (omega arith)) (omega arith)

-- words whose numbers begin with these digits
abbrev TurnsAt : List ℕ → ℕ → Type 0
TurnsAt ds d = Reads (codes "replay" ∷ codes "--turns" ∷ (d ∷ ds) ∷ []) (codes "replay") None (Some (d ∷ ds))

abbrev NumberAt : List ℕ → ℕ → Type 0
NumberAt ds d = Reads (codes "gen" ∷ (d ∷ ds) ∷ []) (codes "gen") (Some (d ∷ ds)) None

abbrev BothAt : List ℕ → List ℕ → ℕ → ℕ → Type 0
BothAt ds es d e = Reads (codes "gen" ∷ (d ∷ ds) ∷ codes "--turns" ∷ (e ∷ es) ∷ []) (codes "gen") (Some (d ∷ ds)) (Some (e ∷ es))

pub reads_turns : (ds : List ℕ) (d : ℕ) → 48 ≤ d → d ≤ 57 → TurnsAt ds d
unfolding clap_on_literals
reads_turns ds = each_digit (TurnsAt ds)
    (found refl refl refl refl) (found refl refl refl refl) (found refl refl refl refl) (found refl refl refl refl) (found refl refl refl refl)
    (found refl refl refl refl) (found refl refl refl refl) (found refl refl refl refl) (found refl refl refl refl) (found refl refl refl refl)

pub reads_number : (ds : List ℕ) (d : ℕ) → 48 ≤ d → d ≤ 57 → NumberAt ds d
unfolding clap_on_literals
reads_number ds = each_digit (NumberAt ds)
    (found refl refl refl refl) (found refl refl refl refl) (found refl refl refl refl) (found refl refl refl refl) (found refl refl refl refl)
    (found refl refl refl refl) (found refl refl refl refl) (found refl refl refl refl) (found refl refl refl refl) (found refl refl refl refl)

pub reads_both : (ds es : List ℕ) (d : ℕ) → 48 ≤ d → d ≤ 57 → (e : ℕ) → 48 ≤ e → e ≤ 57 → BothAt ds es d e
unfolding clap_on_literals
reads_both ds es = each_digit (λ d. (e : ℕ) → 48 ≤ e → e ≤ 57 → BothAt ds es d e)
    (each_digit (BothAt ds es 48)
    (found refl refl refl refl) (found refl refl refl refl) (found refl refl refl refl) (found refl refl refl refl) (found refl refl refl refl)
    (found refl refl refl refl) (found refl refl refl refl) (found refl refl refl refl) (found refl refl refl refl) (found refl refl refl refl))
    (each_digit (BothAt ds es 49)
    (found refl refl refl refl) (found refl refl refl refl) (found refl refl refl refl) (found refl refl refl refl) (found refl refl refl refl)
    (found refl refl refl refl) (found refl refl refl refl) (found refl refl refl refl) (found refl refl refl refl) (found refl refl refl refl))
    (each_digit (BothAt ds es 50)
    (found refl refl refl refl) (found refl refl refl refl) (found refl refl refl refl) (found refl refl refl refl) (found refl refl refl refl)
    (found refl refl refl refl) (found refl refl refl refl) (found refl refl refl refl) (found refl refl refl refl) (found refl refl refl refl))
    (each_digit (BothAt ds es 51)
    (found refl refl refl refl) (found refl refl refl refl) (found refl refl refl refl) (found refl refl refl refl) (found refl refl refl refl)
    (found refl refl refl refl) (found refl refl refl refl) (found refl refl refl refl) (found refl refl refl refl) (found refl refl refl refl))
    (each_digit (BothAt ds es 52)
    (found refl refl refl refl) (found refl refl refl refl) (found refl refl refl refl) (found refl refl refl refl) (found refl refl refl refl)
    (found refl refl refl refl) (found refl refl refl refl) (found refl refl refl refl) (found refl refl refl refl) (found refl refl refl refl))
    (each_digit (BothAt ds es 53)
    (found refl refl refl refl) (found refl refl refl refl) (found refl refl refl refl) (found refl refl refl refl) (found refl refl refl refl)
    (found refl refl refl refl) (found refl refl refl refl) (found refl refl refl refl) (found refl refl refl refl) (found refl refl refl refl))
    (each_digit (BothAt ds es 54)
    (found refl refl refl refl) (found refl refl refl refl) (found refl refl refl refl) (found refl refl refl refl) (found refl refl refl refl)
    (found refl refl refl refl) (found refl refl refl refl) (found refl refl refl refl) (found refl refl refl refl) (found refl refl refl refl))
    (each_digit (BothAt ds es 55)
    (found refl refl refl refl) (found refl refl refl refl) (found refl refl refl refl) (found refl refl refl refl) (found refl refl refl refl)
    (found refl refl refl refl) (found refl refl refl refl) (found refl refl refl refl) (found refl refl refl refl) (found refl refl refl refl))
    (each_digit (BothAt ds es 56)
    (found refl refl refl refl) (found refl refl refl refl) (found refl refl refl refl) (found refl refl refl refl) (found refl refl refl refl)
    (found refl refl refl refl) (found refl refl refl refl) (found refl refl refl refl) (found refl refl refl refl) (found refl refl refl refl))
    (each_digit (BothAt ds es 57)
    (found refl refl refl refl) (found refl refl refl refl) (found refl refl refl refl) (found refl refl refl refl) (found refl refl refl refl)
    (found refl refl refl refl) (found refl refl refl refl) (found refl refl refl refl) (found refl refl refl refl) (found refl refl refl refl))

-- the words are taken, and what is found says what is asked for
pub record IsRead (words : List Text) : Type 0 where
  pub taken : takes cli words ≡ true
  pub said : IsSaid (first_of (codes "command") (matches_of cli words)) (one_of (codes "number") (matches_of cli words)) (one_of (codes "turns") (matches_of cli words)) (command_of words)

-- a word that spells a number begins with a digit
at_digit : (P : List ℕ → Type 0) (word : List ℕ) (n : ℕ) → number_upto MAX_TURNS word ≡ Some n → ((ds : List ℕ) (d : ℕ) → 48 ≤ d → d ≤ 57 → P (d ∷ ds)) → P word
at_digit P word n is each = first word (some_of MAX_TURNS word n (omega arith) s) (digits_of MAX_TURNS word n (omega arith) s)
  where
    s : Spells MAX_TURNS word n
    s = spells MAX_TURNS word n is

    first : (text : List ℕ) → 0 < length text → all_ascii_digits text ≡ true → P text
    first [] some digits = absurd (omega arith)
    first (d ∷ ds) some digits = let range = tells_all_ascii_digits.parts d ds digits in each ds d range.0.0 range.0.1

-- what is found of words that are read so, which ask for that
said_so : (words : List Text) (name : Text) (number turns : Option Text) (command : Command) → Reads words name number turns → command_of words ≡ Some command → IsSaid (Some name) number turns (Some command) → IsRead words
said_so words name number turns command reads is says =
    record {
      taken = reads.taken;
      said = subst (λ (o : Option Command). IsSaid (first_of (codes "command") (matches_of cli words)) (one_of (codes "number") (matches_of cli words)) (one_of (codes "turns") (matches_of cli words)) o) (sym is)
          (subst (λ (t : Option Text). IsSaid (first_of (codes "command") (matches_of cli words)) (one_of (codes "number") (matches_of cli words)) t (Some command)) (sym reads.turns_are)
          (subst (λ (n : Option Text). IsSaid (first_of (codes "command") (matches_of cli words)) n turns (Some command)) (sym reads.number_is)
          (subst (λ (n : Option Text). IsSaid n number turns (Some command)) (sym reads.named) says)));
    }

-- `replay` with its options
by_replay : (words rest : List Text) (options : Options) (command : Command) → command_of words ≡ Some command → words ≡ codes "replay" ∷ rest → OptionForm rest options → command ≡ Read (Replay options) → IsRead words
by_replay words rest options command is words_are (none_given rest_is options_are) command_is =
    let all : words ≡ codes "replay" ∷ [] = words_are ∙ ap (λ (ws : List Text). codes "replay" ∷ ws) rest_is in
    said_so words (codes "replay") None None command (subst (λ (ws : List Text). Reads ws (codes "replay") None None) (sym all) reads_replay) is (subst (IsSaid (Some (codes "replay")) None None) (ap Some (sym command_is)) (refl, refl, options_are))
by_replay words rest options command is words_are (turns_given word n rest_is spelled options_are) command_is =
    let all : words ≡ codes "replay" ∷ codes "--turns" ∷ word ∷ [] = words_are ∙ ap (λ (ws : List Text). codes "replay" ∷ ws) rest_is in
    let reads = at_digit (λ (w : List ℕ). Reads (codes "replay" ∷ codes "--turns" ∷ w ∷ []) (codes "replay") None (Some w)) word n spelled reads_turns in
    said_so words (codes "replay") None (Some word) command (subst (λ (ws : List Text). Reads ws (codes "replay") None (Some word)) (sym all) reads) is (subst (IsSaid (Some (codes "replay")) None (Some word)) (ap Some (sym command_is)) (refl, refl, (n, spelled, options_are)))

-- `gen` with its number and its options
by_gen : (words : List Text) (word : List ℕ) (n : ℕ) (rest : List Text) (options : Options) (command : Command) → command_of words ≡ Some command → words ≡ codes "gen" ∷ word ∷ rest → number_upto MAX_TURNS word ≡ Some n → OptionForm rest options → command ≡ Gen n options → IsRead words
by_gen words word n rest options command is words_are spelled (none_given rest_is options_are) command_is =
    let all : words ≡ codes "gen" ∷ word ∷ [] = words_are ∙ ap (λ (ws : List Text). codes "gen" ∷ word ∷ ws) rest_is in
    let reads = at_digit (λ (w : List ℕ). Reads (codes "gen" ∷ w ∷ []) (codes "gen") (Some w) None) word n spelled reads_number in
    said_so words (codes "gen") (Some word) None command (subst (λ (ws : List Text). Reads ws (codes "gen") (Some word) None) (sym all) reads) is (subst (IsSaid (Some (codes "gen")) (Some word) None) (ap Some (sym command_is)) (refl, spelled, options_are))
by_gen words word n rest options command is words_are spelled (turns_given more m rest_is at_turns options_are) command_is =
    let all : words ≡ codes "gen" ∷ word ∷ codes "--turns" ∷ more ∷ [] = words_are ∙ ap (λ (ws : List Text). codes "gen" ∷ word ∷ ws) rest_is in
    let reads = at_digit (λ (w : List ℕ). Reads (codes "gen" ∷ w ∷ codes "--turns" ∷ more ∷ []) (codes "gen") (Some w) (Some more)) word n spelled
    (λ ds d low high. at_digit (λ (v : List ℕ). Reads (codes "gen" ∷ (d ∷ ds) ∷ codes "--turns" ∷ v ∷ []) (codes "gen") (Some (d ∷ ds)) (Some v)) more m at_turns (λ es. reads_both ds es d low high)) in
    said_so words (codes "gen") (Some word) (Some more) command (subst (λ (ws : List Text). Reads ws (codes "gen") (Some word) (Some more)) (sym all) reads) is (subst (IsSaid (Some (codes "gen")) (Some word) (Some more)) (ap Some (sym command_is)) (refl, spelled, (m, at_turns, options_are)))

by_form : (words : List Text) (command : Command) → command_of words ≡ Some command → Form words command → IsRead words
by_form words command is (replay rest options words_are form command_is) = by_replay words rest options command is words_are form command_is
by_form words command is (gen word n rest options words_are spelled form command_is) = by_gen words word n rest options command is words_are spelled form command_is
by_form words command is (check words_are command_is) =
    said_so words (codes "check") None None command (subst (λ (ws : List Text). Reads ws (codes "check") None None) (sym words_are) reads_check) is (subst (IsSaid (Some (codes "check")) None None) (ap Some (sym command_is)) refl)

pub read_words : (words : List Text) → is_some (command_of words) ≡ true → IsRead words
read_words words accepted = given (command_of words) refl accepted
  where
    given : (o : Option Command) → command_of words ≡ o → is_some o ≡ true → IsRead words
    given None is some = cc some
    given (Some command) is some = by_form words command is (forms words command is)
