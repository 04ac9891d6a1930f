-- Lines: texts whose only line feed is their last byte.
use Rattle.std.proofs.Common.{◌≡◌, ℕ, ◌<◌, Bool, true, false, not, ◌&&◌, List, [], ◌∷◌, ◌++◌, length, get_or, refl, sym, ap, ◌∙◌, arith, append_assoc}
use Rattle.std.specs.Prelude.{codes, decimal, ◌^◌, ◌==◌, ◌≢◌}
use Rattle.std.specs.List.{list_all}
use Rattle.std.specs.Char.{is_ascii_digit}
use Rattle.std.specs.Str.{all_ascii_digits}
use Rattle.std.specs.Str.Parse.{digits_value}
use Rattle.std.proofs.lemmas.Str.Parse.{IsNumeralModel, numerals_by_value, tells_all_ascii_digits}
use Rattle.std.proofs.lemmas.Fmt.{digits_decimal, decimal_nonempty}
use Rattle.std.proofs.lemmas.Bool.Decides.{nat_tests}
use Rattle.std.proofs.lemmas.List.{append_cancel_left}
use Rattle.rt_base.specs.Script.{Script}
use Rattle.rt_base.specs.declared.ended.Ended.{Ended}
use Rattle.rt_base.specs.declared.ended.Ended.TheVariants as ends
use Rattle.rt_events.specs.declared.entry.Entry.{Entry}
use Rattle.rt_events.specs.Journal.{header, end_line}
use Rattle.rt_events.specs.Line.{line_of}
use Rattle.rt_events.proofs.LineLaws.{begins}
use Rattle.rt_check.specs.Place.{first_line}

-- its only line feed is its last byte
abbrev pub IsLine : List ℕ → Type 0
IsLine line = (body : List ℕ) × (line ≡ body ++ 10 ∷ []) × (list_all (λ b. not (b == 10)) body ≡ true)

-- ---- first lines

feed : (b : ℕ) → (b == 10) ≡ true → b ≡ 10
feed b e = grind (arith, nat_tests)

first_step : (b : ℕ) (bs more : List ℕ) (x y : Bool) → (b == 10) ≡ x → list_all (λ b. not (b == 10)) bs ≡ y → (not x && y) ≡ true → (list_all (λ b. not (b == 10)) bs ≡ true → first_line (bs ++ 10 ∷ more) ≡ bs ++ 10 ∷ [])
    → first_line (b ∷ (bs ++ 10 ∷ more)) ≡ b ∷ (bs ++ 10 ∷ [])
first_step b bs more true y is all e ih = absurd cc
first_step b bs more false true is all e ih = rw is (ap (λ l. b ∷ l) (ih all))
first_step b bs more false false is all e ih = absurd cc

first_is : (body more : List ℕ) → list_all (λ b. not (b == 10)) body ≡ true → first_line (body ++ 10 ∷ more) ≡ body ++ 10 ∷ []
first_is [] more e = refl
first_is (b ∷ bs) more e = first_step b bs more (b == 10) (list_all (λ b. not (b == 10)) bs) refl refl e (first_is bs more)

-- a text that begins with a line has it as its first line
pub first_of : (line more : List ℕ) → IsLine line → first_line (line ++ more) ≡ line
first_of line more is = ap (λ l. first_line (l ++ more)) is.1 ∙ ap first_line (append_assoc is.0 (10 ∷ []) more) ∙ first_is is.0 more is.2 ∙ sym is.1

rest_step : (b : ℕ) (bs : List ℕ) (x : Bool) → (b == 10) ≡ x → ((more : List ℕ) × (bs ≡ first_line bs ++ more)) → (more : List ℕ) × (b ∷ bs ≡ first_line (b ∷ bs) ++ more)
rest_step b bs true is ih = (bs, rw is refl)
rest_step b bs false is ih = (ih.0, rw is (ap (λ l. b ∷ l) ih.1))

-- a text begins with its first line
pub first_rest : (text : List ℕ) → (more : List ℕ) × (text ≡ first_line text ++ more)
first_rest [] = ([], refl)
first_rest (b ∷ bs) = rest_step b bs (b == 10) refl (first_rest bs)

-- what doesn't begin the text isn't its first line
pub not_first : (line text : List ℕ) → ((more : List ℕ) → text ≢ line ++ more) → first_line text ≢ line
not_first line text none e = none (first_rest text).0 ((first_rest text).1 ∙ ap (λ l. l ++ (first_rest text).0) e)

-- two texts that are one begin with one line
pub same_line : (a b x y : List ℕ) → IsLine a → IsLine b → a ++ x ≡ b ++ y → a ≡ b
same_line a b x y la lb e = sym (first_of a x la) ∙ ap first_line e ∙ first_of b y lb

pub same_rest : (a b x y : List ℕ) → a ≡ b → a ++ x ≡ b ++ y → x ≡ y
same_rest a b x y is e = append_cancel_left a x y (e ∙ ap (λ l. l ++ y) (sym is))

-- ---- the header and end lines

pub header_is_line : IsLine header
header_is_line = (codes "rtjournal 1", refl, refl)

pub end_is_line : (ended : Ended) → IsLine (end_line ended)
end_is_line ends.Done = (codes "end done", refl, refl)
end_is_line ends.Stuck = (codes "end stuck", refl, refl)
end_is_line ends.Limit = (codes "end limit", refl, refl)

own : IsNumeralModel (λ ds. all_ascii_digits ds ≡ true) (digits_value 10)
own = numerals_by_value _ tells_all_ascii_digits

digit_first : (ds more : List ℕ) → all_ascii_digits ds ≡ true → 0 < length ds → get_or (ds ++ more) 0 0 < 58
digit_first [] more e some = absurd (omega arith)
digit_first (d ∷ ds) more e some = small d ds e
  where
    small : (d : ℕ) (ds : List ℕ) → (is_ascii_digit d && list_all is_ascii_digit ds) ≡ true → d < 58
    small d ds e = grind (arith, nat_tests)

end_first : (ended : Ended) → get_or (end_line ended) 0 0 ≡ 101
end_first ends.Done = refl
end_first ends.Stuck = refl
end_first ends.Limit = refl

-- no entry's line is an end line
pub no_end : (script : Script) (n : Entry) (ended : Ended) → n.number < 2 ^ 64 → line_of script n ≡ end_line ended → ⊥
no_end script n ended small e =
    let is = begins script n in
    let digit : get_or (decimal n.number ++ is.0) 0 0 < 58 = digit_first (decimal n.number) is.0 (digits_decimal own n.number small) (decimal_nonempty n.number small) in
    let first : get_or (decimal n.number ++ is.0) 0 0 ≡ 101 = ap (λ l. get_or l 0 0) (sym is.1 ∙ e) ∙ end_first ended in
    omega arith
