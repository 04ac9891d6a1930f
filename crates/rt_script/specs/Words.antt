-- The lines of a text, the words of a line, and what words spell.
use Rattle.std.specs.Prelude.{ℕ, Bool, true, ◌&&◌, List, [], ◌∷◌, Option, Some, None, option_and_then, if◌then◌else◌, ◌==◌, nat_le, bytes_eq, decimal}
use Rattle.std.specs.List.{slice_split}
use Rattle.std.specs.Str.Parse.{digits_value}

-- a step that needs what another gives
infixl 10 ◌>>=◌
abbrev pub ◌>>=◌ : {A B : Type 0} → Option A → (A → Option B) → Option B
o >>= f = option_and_then f o

-- nothing, unless the test is passed
abbrev pub only_if : {A : Type 0} → Bool → Option A → Option A
only_if passed o = if passed then o else None

-- what stands between the line feeds; the last is what stands after the last one
abbrev pub text_lines : List ℕ → List (List ℕ)
text_lines text = slice_split (λ b. b == 10) text

-- what stands between the spaces
abbrev pub words_of : List ℕ → List (List ℕ)
words_of line = slice_split (λ b. b == 32) line

-- the word, where it is the only one
abbrev pub one : List (List ℕ) → Option (List ℕ)
one (a ∷ []) = Some a
one _ = None

-- the words, where they are two
abbrev pub two : List (List ℕ) → Option (List ℕ × List ℕ)
two (a ∷ b ∷ []) = Some (a, b)
two _ = None

-- the words, where they are three
abbrev pub three : List (List ℕ) → Option (List ℕ × List ℕ × List ℕ)
three (a ∷ b ∷ c ∷ []) = Some (a, b, c)
three _ = None

-- the number whose decimal digits the word is
abbrev pub number_spelled : List ℕ → Option ℕ
number_spelled word = only_if (bytes_eq (decimal (digits_value 10 word)) word) (Some (digits_value 10 word))

-- the same, where it is at most that
unfoldable pub number_upto : ℕ → List ℕ → Option ℕ
number_upto most word = number_spelled word >>= λ n. only_if (nat_le n most) (Some n)

-- a printable ASCII character, the space among them
abbrev pub is_printable : ℕ → Bool
is_printable b = nat_le 32 b && nat_le b 126

-- an empty line, or one that begins with `#`
abbrev pub is_passed_over : List ℕ → Bool
is_passed_over [] = true
is_passed_over (b ∷ bytes) = b == 35
