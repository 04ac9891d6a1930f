-- What words ask for, by the forms that they can have.
use Rattle.std.proofs.Common.{◌≡◌, ℕ, ◌<◌, ◌≤◌, Bool, true, false, ◌&&◌, not, List, [], ◌∷◌, length, get_or, Option, Some, None, cond, Result, Ok, Err, refl, sym, ap, subst, ◌∙◌, arith, codes}
use Rattle.std.specs.Prelude.{bytes_eq, is_some, option_map}
use Rattle.std.specs.Str.Parse.{ParsesUnsigned}
use Rattle.std.specs.Result.{result_ok}
use Rattle.clap.specs.Words.{ReadsOne}
use Rattle.std.proofs.lemmas.Slice.Eq.{bytes_eq-Decides}
use Rattle.rt_script.specs.Words.{◌>>=◌, only_if, number_upto}
use Rattle.rt_top.specs.declared.options.Options.{Options}
use Rattle.rt_top.specs.declared.options.TheConstants.{MAX_SEED, MAX_TURNS}
use Rattle.rt_top.specs.declared.command.Command.{Command}
use Rattle.rt_top.specs.declared.command.Command.TheVariants.{Read, Gen}
use Rattle.rt_top.specs.declared.purpose.Purpose.TheVariants.{Replay, Check}
use Rattle.rt_top.specs.Words.{IsNumber, IsSaid, IsTurns, check_of, command_of, gen_of, no_options, options_after, replay_of, with_option}
use Rattle.rt_top.proofs.Spelled.{spells, some_of, first_of, no_zero, number_upto-parsed}

if_passed : {A : Type 0} (b : Bool) (o : Option A) (a : A) → only_if b o ≡ Some a → (b ≡ true) × (o ≡ Some a)
if_passed true o a e = (refl, e)
if_passed false o a e = cc e

pub both : (a b : Bool) → (a && b) ≡ true → (a ≡ true) × (b ≡ true)
both true true e = (refl, refl)
both true false e = cc e
both false b e = cc e

-- an option isn't given twice
not_again : (n : ℕ) (name word : List ℕ) → with_option (record { turns = Some n }) name word ≡ None
not_again n name word = twice (bytes_eq name (codes "--turns"))
  where
    twice : (b : Bool) → only_if {A = Options} (b && not true) (number_upto MAX_TURNS word >>= λ m. Some (record { turns = Some m })) ≡ None
    twice true = refl
    twice false = refl

number_given : (o : Option ℕ) (given : Options) → (o >>= λ m. Some (record { turns = Some m })) ≡ Some given → (n : ℕ) × (o ≡ Some n) × (given ≡ record { turns = Some n })
number_given None given e = cc e
number_given (Some n) given e = (n, refl, cc e)

-- an option that is taken is `--turns` and a number
pub record HasTurns (name word : List ℕ) (options : Options) : Type 0 where
  pub number : ℕ
  pub named : name ≡ codes "--turns"
  pub spelled : number_upto MAX_TURNS word ≡ Some number
  pub given : options ≡ record { turns = Some number }

has_turns : (name word : List ℕ) (options : Options) → with_option no_options name word ≡ Some options → HasTurns name word options
has_turns name word options e =
    let p = if_passed (bytes_eq name (codes "--turns") && true) (number_upto MAX_TURNS word >>= λ m. Some (record { turns = Some m })) options e in
    let n = number_given (number_upto MAX_TURNS word) options p.1 in
    record { number = n.0; named = (bytes_eq-Decides name (codes "--turns")).0 (both _ _ p.0).0; spelled = n.1; given = n.2 }

-- nothing but one option is an option
no_more : (n : ℕ) (words : List (List ℕ)) (options : Options) → options_after (record { turns = Some n }) words ≡ Some options → (words ≡ []) × (options ≡ record { turns = Some n })
no_more n [] options e = (refl, cc e)
no_more n (name ∷ []) options e = cc e
no_more n (name ∷ word ∷ words) options e = cc (e, ap (λ (o : Option Options). o >>= λ more. options_after more words) (not_again n name word))

none_after : (n : ℕ) (word : List ℕ) (words : List (List ℕ)) → is_some (options_after (record { turns = Some n }) (word ∷ words)) ≡ false
none_after n word [] = refl
none_after n word (name ∷ words) = rw (not_again n word name) refl

pub options_long : (words : List (List ℕ)) → 3 ≤ length words → is_some (options_after no_options words) ≡ false
options_long [] long = absurd (omega arith)
options_long (a ∷ []) long = absurd (omega arith)
options_long (a ∷ b ∷ []) long = absurd (omega arith)
options_long (a ∷ b ∷ c ∷ words) long = after (with_option no_options a b) refl
  where
    after : (o : Option Options) → with_option no_options a b ≡ o → is_some (o >>= λ more. options_after more (c ∷ words)) ≡ false
    after None e = refl
    after (Some more) e = let t = has_turns a b more e in rw t.given (none_after t.number c words)

pub options_pair : (name word : List ℕ) → is_some (options_after no_options (name ∷ word ∷ [])) ≡ is_some (with_option no_options name word)
options_pair name word = given (with_option no_options name word)
  where
    given : (o : Option Options) → is_some (o >>= λ more. Some more) ≡ is_some o
    given None = refl
    given (Some options) = refl

-- a list of two elements
pub two_words : {X : Type 0} (xs : List X) (x y : X) → 2 ≤ length xs → length xs < 3 → x ≡ get_or xs 0 x → y ≡ get_or xs 1 y → xs ≡ x ∷ y ∷ []
two_words [] x y some few a b = absurd (omega arith)
two_words (v ∷ []) x y some few a b = absurd (omega arith)
two_words (v ∷ w ∷ []) x y some few a b = λ i. sym a i ∷ sym b i ∷ []
two_words (v ∷ w ∷ z ∷ xs) x y some few a b = absurd (omega arith)

-- ---- the forms

-- no option, or one
pub data OptionForm (words : List (List ℕ)) (options : Options) : Type 0 where
  none_given : words ≡ [] → options ≡ no_options → OptionForm words options
  turns_given : (word : List ℕ) (n : ℕ) → words ≡ codes "--turns" ∷ word ∷ [] → number_upto MAX_TURNS word ≡ Some n → options ≡ record { turns = Some n } → OptionForm words options

-- `replay` with its options, `check`, or `gen` with its number and its options
pub data Form (words : List (List ℕ)) (command : Command) : Type 0 where
  replay : (rest : List (List ℕ)) (options : Options) → words ≡ codes "replay" ∷ rest → OptionForm rest options → command ≡ Read (Replay options) → Form words command
  check : words ≡ codes "check" ∷ [] → command ≡ Read Check → Form words command
  gen : (word : List ℕ) (n : ℕ) (rest : List (List ℕ)) (options : Options) → words ≡ codes "gen" ∷ word ∷ rest → number_upto MAX_SEED word ≡ Some n → OptionForm rest options → command ≡ Gen n options → Form words command

-- words that are options
option_form : (words : List (List ℕ)) (options : Options) → options_after no_options words ≡ Some options → OptionForm words options
option_form [] options is = none_given refl (sym (cc is))
option_form (name ∷ []) options is = cc is
option_form (name ∷ word ∷ more) options is = given (with_option no_options name word) refl is
  where
    given : (o : Option Options) → with_option no_options name word ≡ o → (o >>= λ given. options_after given more) ≡ Some options → OptionForm (name ∷ word ∷ more) options
    given None one all = cc all
    given (Some so_far) one all =
        let t = has_turns name word so_far one in
        let r = no_more t.number more options (subst (λ (o : Options). options_after o more ≡ Some options) t.given all) in
        turns_given word t.number (λ i. t.named i ∷ word ∷ r.0 i) t.spelled r.1

-- what follows `replay`
replayed : (rest : List (List ℕ)) (o : Option Options) (command : Command) → options_after no_options rest ≡ o → option_map (λ options. Read (Replay options)) o ≡ Some command → Form (codes "replay" ∷ rest) command
replayed rest None command is e = cc e
replayed rest (Some options) command is e = replay rest options refl (option_form rest options is) (sym (cc e))

-- what follows the number of `gen`
numbered : (word : List ℕ) (n : ℕ) (rest : List (List ℕ)) (o : Option Options) (command : Command) → number_upto MAX_SEED word ≡ Some n → options_after no_options rest ≡ o → option_map (Gen n) o ≡ Some command → Form (codes "gen" ∷ word ∷ rest) command
numbered word n rest None command spelled is e = cc e
numbered word n rest (Some options) command spelled is e = gen word n rest options refl spelled (option_form rest options is) (sym (cc e))

-- what follows `gen`
generated : (rest : List (List ℕ)) (command : Command) → gen_of rest ≡ Some command → Form (codes "gen" ∷ rest) command
generated [] command e = cc e
generated (word ∷ rest) command e = given (number_upto MAX_SEED word) refl e
  where
    given : (o : Option ℕ) → number_upto MAX_SEED word ≡ o → (o >>= λ n. option_map (Gen n) (options_after no_options rest)) ≡ Some command → Form (codes "gen" ∷ word ∷ rest) command
    given None spelled all = cc all
    given (Some n) spelled all = numbered word n rest (options_after no_options rest) command spelled refl all

checked : (rest : List (List ℕ)) (command : Command) → check_of rest ≡ Some command → Form (codes "check" ∷ rest) command
checked [] command e = check refl (sym (cc e))
checked (word ∷ words) command e = cc e

pub forms : (words : List (List ℕ)) (command : Command) → command_of words ≡ Some command → Form words command
forms [] command e = cc e
forms (name ∷ words) command e = by_name (bytes_eq name (codes "replay")) (bytes_eq name (codes "gen")) refl refl e
  where
    by_name : (b c : Bool) → bytes_eq name (codes "replay") ≡ b → bytes_eq name (codes "gen") ≡ c → cond b (replay_of words) (cond c (gen_of words) (only_if (bytes_eq name (codes "check")) (check_of words))) ≡ Some command → Form (name ∷ words) command
    by_name true c is other e =
        let named : name ≡ codes "replay" = (bytes_eq-Decides name (codes "replay")).0 is in
        subst (λ (n : List ℕ). Form (n ∷ words) command) (sym named) (replayed words (options_after no_options words) command refl e)
    by_name false true is other e =
        let named : name ≡ codes "gen" = (bytes_eq-Decides name (codes "gen")).0 other in
        subst (λ (n : List ℕ). Form (n ∷ words) command) (sym named) (generated words command e)
    by_name false false is other e =
        let p = if_passed (bytes_eq name (codes "check")) (check_of words) command e in
        let named : name ≡ codes "check" = (bytes_eq-Decides name (codes "check")).0 p.0 in
        subst (λ (n : List ℕ). Form (n ∷ words) command) (sym named) (checked words command p.1)

-- ---- what is said

-- a command of that name is `check`
pub said_check : (name number turns : Option (List ℕ)) (o : Option Command) → IsSaid name number turns o → name ≡ Some (codes "check") → o ≡ Some (Read Check)
said_check name number turns None said is = absurd said
said_check name number turns (Some (Read Check)) said is = refl
said_check name number turns (Some (Read (Replay options))) said is = let other : Some (codes "replay") ≡ Some (codes "check") = sym said.0 ∙ is in cc other
said_check name number turns (Some (Gen n options)) said is = let other : Some (codes "gen") ≡ Some (codes "check") = sym said.0 ∙ is in cc other

-- ---- the number that is read

number_read : {E : Type 0} (word : List ℕ) (n : ℕ) (r : Result ℕ E) → number_upto MAX_TURNS word ≡ Some n → ParsesUnsigned 32 10 word r → result_ok r ≡ Some n
number_read word n r is parses =
    let s = spells MAX_TURNS word n is in
    let some = some_of MAX_TURNS word n (omega arith) s in
    let led : get_or word 0 0 ≡ 48 → length word ≡ 1 = λ z. one_digit z some (no_zero n word (omega (arith, s.within)) s.text z) in
    number_upto-parsed word r (first_of MAX_TURNS word n 43 (omega arith) s (omega arith)) led parses ∙ is
  where
    one_digit : get_or word 0 0 ≡ 48 → 0 < length word → (1 < length word → ⊥) → length word ≡ 1
    one_digit z some long = omega (arith, some, long)

abbrev with_number : Option ℕ → Options
with_number n = record { turns = n }

-- `gen` where there is a number, and else `replay`
abbrev pub command_as : Option ℕ → Option ℕ → Command
command_as None t = Read (Replay (with_number t))
command_as (Some n) t = Gen n (with_number t)

module _ {E : Type 0} (G : List ℕ → Result ℕ E → Type 0) (parses : (word : List ℕ) (r : Result ℕ E) → G word r → ParsesUnsigned 32 10 word r) where
  one_read : (word : List ℕ) (n : ℕ) (r : Option ℕ) → number_upto MAX_TURNS word ≡ Some n → ReadsOne G word r → r ≡ Some n
  one_read word n (Some v) is g = number_read {E = E} word n (Ok v) is (parses word (Ok v) g)
  one_read word n None is g = number_read {E = E} word n (Err g.0) is (parses word (Err g.0) g.1)

  -- what `clap` gives for the option, read as a number, is what is asked for
  pub turns_read : (given : Option (List ℕ)) (options : Options) (r : Option ℕ) → IsTurns given options → (given ≡ None → r ≡ None) → ((word : List ℕ) → given ≡ Some word → ReadsOne G word r) → options ≡ with_number r
  turns_read None options r is none some = is ∙ λ i. with_number (sym (none refl) i)
  turns_read (Some word) options r is none some = is.2 ∙ λ i. with_number (sym (one_read word is.0 r is.1 (some word refl)) i)

  -- what it gives at the number's place, read as a number, is the number that is asked for
  number_is : (given : Option (List ℕ)) (n : ℕ) (r : Option ℕ) → IsNumber given n → ((word : List ℕ) → given ≡ Some word → ReadsOne G word r) → r ≡ Some n
  number_is None n r is some = absurd is
  number_is (Some word) n r is some = one_read word n r is (some word refl)

  -- a command of another name than `check` is `gen` where a number is read, and else `replay`
  pub command_read : (name number turns : Option (List ℕ)) (o : Option Command) (n t : Option ℕ) → IsSaid name number turns o → (name ≡ Some (codes "check") → ⊥)
      → (number ≡ None → n ≡ None) → ((word : List ℕ) → number ≡ Some word → ReadsOne G word n) → (turns ≡ None → t ≡ None) → ((word : List ℕ) → turns ≡ Some word → ReadsOne G word t) → o ≡ Some (command_as n t)
  command_read name number turns None n t said other no_number number_at no_turns turns_at = absurd said
  command_read name number turns (Some (Read Check)) n t said other no_number number_at no_turns turns_at = absurd (other said)
  command_read name number turns (Some (Read (Replay options))) n t said other no_number number_at no_turns turns_at =
      ap (λ (o : Options). Some (Read (Replay o))) (turns_read turns options t said.2 no_turns turns_at) ∙ ap (λ (m : Option ℕ). Some (command_as m t)) (sym (no_number said.1))
  command_read name number turns (Some (Gen m options)) n t said other no_number number_at no_turns turns_at =
      ap (λ (o : Options). Some (Gen m o)) (turns_read turns options t said.2 no_turns turns_at) ∙ ap (λ (m : Option ℕ). Some (command_as m t)) (sym (number_is number m n said.1 number_at))
