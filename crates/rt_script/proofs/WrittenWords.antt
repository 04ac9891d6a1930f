-- Words that are written are read again as themselves.
use Rattle.std.proofs.Common.{◌≡◌, ℕ, ◌+◌, ◌*◌, ◌<◌, ◌≤◌, Bool, true, false, ◌&&◌, List, [], ◌∷◌, ◌++◌, length, ltb, leb, All, Some, refl, ap, ◌∙◌, arith, append-nil, length-append}
use Rattle.std.specs.Prelude.{decimal, bytes_eq, ◌==◌}
use Rattle.std.specs.List.{list_all}
use Rattle.std.specs.Char.{is_ascii_digit}
use Rattle.std.specs.Str.Parse.{digits_value}
use Rattle.std.proofs.lemmas.Bool.Decides.{nat_tests}
use Rattle.std.proofs.lemmas.Bool.{le-leb, lt-ltb, leb-true}
use Rattle.std.proofs.lemmas.Fmt.{digits_decimal, digits_value-decimal, decimal_nonempty, length-decimal-le}
use Rattle.std.proofs.lemmas.List.Folds.{list_all-append}
use Rattle.std.proofs.lemmas.List.Splits.{slice_split_none, slice_split_at}
use Rattle.std.proofs.lemmas.List.Elements.{All-nil, All-cons}
use Rattle.std.proofs.lemmas.Slice.Eq.{bytes_eq-Decides}
use Rattle.rt_base.specs.Name.{is_name_byte, is_name}
use Rattle.rt_base.specs.Text.{spaced}
use Rattle.rt_script.proofs.Numbers.{decimals}
use Rattle.rt_script.proofs.Tests.{left, right, both}
use Rattle.rt_script.specs.Lines.{are_words}
use Rattle.rt_base.specs.declared.limits.TheConstants.{MAX_NAME}
use Rattle.rt_script.specs.Words.{words_of, number_upto, is_printable}

-- ---- words

-- a printable character that isn't the space
abbrev pub is_word_byte : ℕ → Bool
is_word_byte b = leb 33 b && leb b 126

-- as many such bytes as a name may have
abbrev pub is_word : List ℕ → Bool
is_word word = ltb 0 (length word) && leb (length word) MAX_NAME && list_all is_word_byte word

word_some : (word : List ℕ) → is_word word ≡ true → ltb 0 (length word) ≡ true
word_some word e = left _ _ (left _ _ e)

word_short : (word : List ℕ) → is_word word ≡ true → leb (length word) MAX_NAME ≡ true
word_short word e = right _ _ (left _ _ e)

word_bytes : (word : List ℕ) → is_word word ≡ true → list_all is_word_byte word ≡ true
word_bytes word e = right _ _ e

all_weaker : (p q : ℕ → Bool) → ((b : ℕ) → p b ≡ true → q b ≡ true) → (bs : List ℕ) → list_all p bs ≡ true → list_all q bs ≡ true
all_weaker p q h [] e = refl
all_weaker p q h (b ∷ bs) e = both _ _ (h b (left _ _ e)) (all_weaker p q h bs (right _ _ e))

-- ---- names and numbers are words

name_byte : (b : ℕ) → is_name_byte b ≡ true → is_word_byte b ≡ true
name_byte b e = grind (arith, nat_tests)

pub word_of_name : (word : List ℕ) → is_name word ≡ true → is_word word ≡ true
word_of_name word e = both _ _ (left _ _ (left _ _ e)) (all_weaker is_name_byte is_word_byte name_byte word (right _ _ e))

digit_byte : (b : ℕ) → is_ascii_digit b ≡ true → is_word_byte b ≡ true
digit_byte b e = grind (arith, nat_tests)

pub word_of_number : (n : ℕ) → n < 256 → is_word (decimal n) ≡ true
word_of_number n small =
    let some : ltb 0 (length (decimal n)) ≡ true = lt-ltb 0 (length (decimal n)) (decimal_nonempty n (omega arith)) in
    let short : leb (length (decimal n)) MAX_NAME ≡ true = le-leb (length (decimal n)) MAX_NAME (omega (arith, length-decimal-le 3 n (omega arith) (omega arith) (omega arith))) in
    both _ _ (both _ _ some short) (all_weaker is_ascii_digit is_word_byte digit_byte (decimal n) (digits_decimal decimals n (omega arith)))

pub number_read : (most n : ℕ) → n ≤ most → most < 256 → number_upto most (decimal n) ≡ Some n
unfolding number_upto
number_read most n le small =
    let value : digits_value 10 (decimal n) ≡ n = digits_value-decimal decimals n (omega arith) in
    let same : bytes_eq (decimal n) (decimal n) ≡ true = (bytes_eq-Decides (decimal n) (decimal n)).1 refl in
    let within : leb n most ≡ true = le-leb n most le in
    rw (value, same, within) refl

-- ---- lines of words

-- a word, and others after spaces
abbrev pub line_from : List ℕ → List (List ℕ) → List ℕ
line_from first words = first ++ spaced words

no_space : (b : ℕ) → is_word_byte b ≡ true → (b == 32) ≡ false
no_space b e = grind (arith, nat_tests)

-- bytes that pass a test which the separator doesn't
pub all_other : (p : ℕ → Bool) (separator : ℕ) → ((b : ℕ) → p b ≡ true → (b == separator) ≡ false) → (bs : List ℕ) → list_all p bs ≡ true → All (λ b. (b == separator) ≡ false) bs
all_other p separator h [] e = All-nil (λ b. (b == separator) ≡ false)
all_other p separator h (b ∷ bs) e = All-cons (λ c. (c == separator) ≡ false) b bs (h b (left _ _ e)) (all_other p separator h bs (right _ _ e))

spaceless : (word : List ℕ) → list_all is_word_byte word ≡ true → All (λ b. (b == 32) ≡ false) word
spaceless word e = all_other is_word_byte 32 no_space word e

pub words_of-line : (first : List ℕ) (words : List (List ℕ)) → list_all is_word (first ∷ words) ≡ true → words_of (line_from first words) ≡ first ∷ words
words_of-line first [] e =
    rw (append-nil first) (slice_split_none (λ b. b == 32) first (spaceless first (word_bytes first (left _ _ e))))
words_of-line first (w ∷ ws) e =
    slice_split_at (λ b. b == 32) first 32 (line_from w ws) (spaceless first (word_bytes first (left _ _ e))) refl ∙ ap (λ rest. first ∷ rest) (words_of-line w ws (right _ _ e))

printable_byte : (b : ℕ) → is_word_byte b ≡ true → is_printable b ≡ true
printable_byte b e = grind (arith, nat_tests)

printable_word : (word : List ℕ) → is_word word ≡ true → list_all is_printable word ≡ true
printable_word word e = all_weaker is_word_byte is_printable printable_byte word (word_bytes word e)

printable_spaced : (words : List (List ℕ)) → list_all is_word words ≡ true → list_all is_printable (spaced words) ≡ true
printable_spaced [] e = refl
printable_spaced (w ∷ ws) e = list_all-append is_printable w (spaced ws) ∙ both _ _ (printable_word w (left _ _ e)) (printable_spaced ws (right _ _ e))

pub printable_line : (first : List ℕ) (words : List (List ℕ)) → list_all is_word (first ∷ words) ≡ true → list_all is_printable (line_from first words) ≡ true
printable_line first words e = list_all-append is_printable first (spaced words) ∙ both _ _ (printable_word first (left _ _ e)) (printable_spaced words (right _ _ e))

length_spaced : (words : List (List ℕ)) → list_all is_word words ≡ true → length (spaced words) ≤ (MAX_NAME + 1) * length words
length_spaced [] e = omega arith
length_spaced (w ∷ ws) e = omega (arith, length-append w (spaced ws), leb-true (length w) MAX_NAME (word_short w (left _ _ e)), length_spaced ws (right _ _ e))

pub length_line : (first : List ℕ) (words : List (List ℕ)) → list_all is_word (first ∷ words) ≡ true → length (line_from first words) ≤ MAX_NAME + (MAX_NAME + 1) * length words
length_line first words e = omega (arith, length-append first (spaced words), leb-true (length first) MAX_NAME (word_short first (left _ _ e)), length_spaced words (right _ _ e))

-- no word of such a line is empty
pub no_empty_word : (words : List (List ℕ)) → list_all is_word words ≡ true → are_words words ≡ true
no_empty_word [] e = refl
no_empty_word (w ∷ ws) e = both _ _ (word_some w (left _ _ e)) (no_empty_word ws (right _ _ e))
