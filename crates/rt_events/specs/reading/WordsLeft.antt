-- What is left of a line.
use Rattle.std.specs.Prelude.{ℕ, List, [], ◌∷◌, Option, Some, None}
use denote.Ref.{Bor}

-- the word that is next, and the others
abbrev pub words_left : Option (Bor (List ℕ)) → List (List ℕ) → List (List ℕ)
words_left None others = []
words_left (Some word) others = word.now ∷ others
