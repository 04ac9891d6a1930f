-- The words after the program's name, and what they ask for.
use Rattle.std.specs.Prelude.{◌≡◌, ℕ, true, ◌&&◌, not, List, [], ◌∷◌, map, String, string_bytes, Option, Some, None, is_some, option_map, bytes_eq, codes, if◌then◌else◌}
use Rattle.rt_script.specs.Words.{◌>>=◌, only_if, number_upto}
use Rattle.rt_top.specs.declared.command.Command.{Command}
use Rattle.rt_top.specs.declared.command.Command.TheVariants.{Read, Gen}
use Rattle.rt_top.specs.declared.options.Options.{Options}
use Rattle.rt_top.specs.declared.options.TheConstants.{MAX_SEED, MAX_TURNS}
use Rattle.rt_top.specs.declared.purpose.Purpose.{Purpose}
use Rattle.rt_top.specs.declared.purpose.Purpose.TheVariants.{Replay, Check}
use Rattle.rt_top.specs.declared.purpose.TheConstants.{MAX_BYTES, MAX_CHECK_BYTES}

-- the bytes of each word
abbrev pub bytes_of : {A : Type 0} → List (String A) → List (List ℕ)
bytes_of words = map (λ word. string_bytes word) words

-- no option is given
abbrev pub no_options : Options
no_options = record { turns = None }

-- one option more, which isn't given yet: its name, and the word after it
abbrev pub with_option : Options → List ℕ → List ℕ → Option Options
with_option options name word =
    only_if (bytes_eq name (codes "--turns") && not (is_some options.turns)) (number_upto MAX_TURNS word >>= λ n. Some (record { turns = Some n }))

-- options, each as two words, after those that are given
abbrev pub options_after : Options → List (List ℕ) → Option Options
options_after options [] = Some options
options_after options (name ∷ []) = None
options_after options (name ∷ word ∷ words) = with_option options name word >>= λ more. options_after more words

-- `replay` with its options
abbrev pub replay_of : List (List ℕ) → Option Command
replay_of words = option_map (λ options. Read (Replay options)) (options_after no_options words)

-- `gen` with its number and then its options
abbrev pub gen_of : List (List ℕ) → Option Command
gen_of [] = None
gen_of (word ∷ words) = number_upto MAX_SEED word >>= λ n. option_map (Gen n) (options_after no_options words)

-- `check`, where no word is left
abbrev pub check_of : List (List ℕ) → Option Command
check_of [] = Some (Read Check)
check_of (word ∷ words) = None

-- the command of that name with these words after it
abbrev pub command_named : List ℕ → List (List ℕ) → Option Command
command_named name words =
    if bytes_eq name (codes "replay") then replay_of words
    else if bytes_eq name (codes "gen") then gen_of words
    else only_if (bytes_eq name (codes "check")) (check_of words)

-- what the words ask for, where they are taken
abbrev pub command_of : List (List ℕ) → Option Command
command_of [] = None
command_of (name ∷ words) = command_named name words

-- the words that the program takes
abbrev pub IsAccepted : List (List ℕ) → Type 0
IsAccepted words = is_some (command_of words) ≡ true

-- the words ask for a script that the generator makes, so that nothing is read
abbrev pub IsGen : Option Command → Type 0
IsGen (Some (Gen n options)) = Unit {0}
IsGen (Some (Read purpose)) = ⊥
IsGen None = ⊥

-- the most bytes of an input that is read for that
abbrev pub most_bytes : Purpose → ℕ
most_bytes (Replay options) = MAX_BYTES
most_bytes Check = MAX_CHECK_BYTES

-- the word after `--turns`, where there is one, spells the number that is asked for
abbrev pub IsTurns : Option (List ℕ) → Options → Type 0
IsTurns None options = options ≡ no_options
IsTurns (Some word) options = (n : ℕ) × (number_upto MAX_TURNS word ≡ Some n) × (options ≡ record { turns = Some n })

-- the word at the number's place is there, and spells it
abbrev pub IsNumber : Option (List ℕ) → ℕ → Type 0
IsNumber None n = ⊥
IsNumber (Some word) n = number_upto MAX_SEED word ≡ Some n

-- the command's name, the word at the number's place and the word after `--turns`, where they are given, say what is asked for
abbrev pub IsSaid : Option (List ℕ) → Option (List ℕ) → Option (List ℕ) → Option Command → Type 0
IsSaid name number turns None = ⊥
IsSaid name number turns (Some (Read (Replay options))) = (name ≡ Some (codes "replay")) × (number ≡ None) × IsTurns turns options
IsSaid name number turns (Some (Read Check)) = name ≡ Some (codes "check")
IsSaid name number turns (Some (Gen n options)) = (name ≡ Some (codes "gen")) × IsNumber number n × IsTurns turns options
