-- Lines that are written are read one by one.
use Rattle.std.proofs.Common.{◌≡◌, ℕ, ◌+◌, true, false, List, [], ◌∷◌, ◌++◌, flat_map, All, Ok, refl, sym, ap, subst, ◌∙◌, arith, append-nil, append_assoc}
use Rattle.std.specs.Prelude.{◌==◌, codes, bytes_eq}
use Rattle.std.specs.List.{list_all}
use Rattle.std.proofs.lemmas.Bool.Decides.{nat_tests}
use Rattle.std.proofs.lemmas.List.Splits.{slice_split_at}
use Rattle.rt_base.specs.Script.{Script}
use Rattle.rt_script.specs.Canonical.{with_line_feed}
use Rattle.rt_script.specs.Grammar.{after_lines, is_end}
use Rattle.rt_script.specs.Lines.{SoFar, are_words, after_words, after_line}
use Rattle.rt_script.specs.Words.{text_lines, is_printable, is_passed_over}
use Rattle.rt_script.proofs.Tests.{left, right}
use Rattle.rt_script.proofs.WrittenWords.{all_other, is_word, line_from, words_of-line, printable_line, no_empty_word}

-- ---- the lines of a text

no_line_feed : (b : ℕ) → is_printable b ≡ true → (b == 10) ≡ false
no_line_feed b e = grind (arith, nat_tests)

one_line : (line : List ℕ) → list_all is_printable line ≡ true → All (λ b. (b == 10) ≡ false) line
one_line line e = all_other is_printable 10 no_line_feed line e

pub text_lines-lines : (lines : List (List ℕ)) → list_all (list_all is_printable) lines ≡ true → text_lines (flat_map with_line_feed lines) ≡ lines ++ [] ∷ []
text_lines-lines [] e = refl
text_lines-lines (l ∷ ls) e =
    rw (append_assoc l (10 ∷ []) (flat_map with_line_feed ls)) (
    slice_split_at (λ b. b == 10) l 10 (flat_map with_line_feed ls) (one_line l (left _ _ e)) refl ∙ ap (λ rest. l ∷ rest) (text_lines-lines ls (right _ _ e))
    )

-- ---- lines, one after the other

-- from what the lines before it make, these lines lead to that
unfoldable pub LeadTo : SoFar → List (List ℕ) → SoFar → Type 0
LeadTo a lines b = (n : ℕ) (rest : List (List ℕ)) → (m : ℕ) × (after_lines n a (lines ++ rest) ≡ after_lines m b rest)

pub reads_none : (a : SoFar) → LeadTo a [] a
unfolding LeadTo
reads_none a n rest = (n, refl)

pub reads_then : (a b c : SoFar) (lines more : List (List ℕ)) → LeadTo a lines b → LeadTo b more c → LeadTo a (lines ++ more) c
unfolding LeadTo
reads_then a b c lines more first next n rest =
    let one = first n (more ++ rest) in
    let two = next one.0 rest in
    (two.0, ap (after_lines n a) (append_assoc lines more rest) ∙ one.1 ∙ two.1)

-- a list is gone through from its first element to its last, each making its lines
pub reads_each : {X : Type 0} (all : List X) (at : List X → List X → SoFar) (f : X → List (List ℕ))
    → ((front : List X) (x : X) (back : List X) → all ≡ front ++ x ∷ back → LeadTo (at front (x ∷ back)) (f x) (at (front ++ x ∷ []) back))
    → LeadTo (at [] all) (flat_map f all) (at all [])
reads_each {X} all at f step = from [] all refl
  where
    from : (front back : List X) → all ≡ front ++ back → LeadTo (at front back) (flat_map f back) (at all [])
    from front [] e =
        let whole : front ≡ all = sym (append-nil front) ∙ sym e in
        subst (λ (xs : List X). LeadTo (at front []) [] (at xs [])) whole (reads_none (at front []))
    from front (x ∷ back) e =
        reads_then (at front (x ∷ back)) (at (front ++ x ∷ []) back) (at all []) (f x) (flat_map f back) (step front x back e) (from (front ++ x ∷ []) back (e ∙ sym (append_assoc front (x ∷ []) back)))

-- ---- one line of words

-- what a line has to be for it to be read, besides what its words make
pub record IsRead (first : List ℕ) (words : List (List ℕ)) : Type 0 where
  pub plain : list_all is_word (first ∷ words) ≡ true
  pub kept : is_passed_over (line_from first words) ≡ false
  pub not_go : bytes_eq (line_from first words) (codes "go") ≡ false
  pub not_end : (rest : List (List ℕ)) → is_end (line_from first words ∷ rest) ≡ false

line_read : (a : SoFar) (b : Script) (first : List ℕ) (words : List (List ℕ)) → IsRead first words → after_words a (first ∷ words) ≡ Ok b → after_line a (line_from first words) ≡ Ok (record { script = b; begun = true })
unfolding after_line
line_read a b first words h e =
    let words_fit : are_words (first ∷ words) ≡ true = no_empty_word (first ∷ words) h.plain in
    rw (printable_line first words h.plain, h.kept, words_of-line first words h.plain, words_fit, e) refl

pub reads_line : (a : SoFar) (b : Script) (first : List ℕ) (words : List (List ℕ)) → IsRead first words → after_words a (first ∷ words) ≡ Ok b → LeadTo a (line_from first words ∷ []) (record { script = b; begun = true })
unfolding LeadTo after_lines
reads_line a b first words h e n rest =
    let line : List ℕ = line_from first words in
    (n + 1, rw (h.not_end rest, h.not_go, line_read a b first words h e) refl)
