-- A reader or a writer of the system.
use Rattle.std.specs.Prelude.{◌≡◌, ℕ, List, ◌++◌, Option}
use Rattle.std.specs.Io.KnownBytes as known

-- its bytes, where std knows them, and how often it has failed
pub record Stream : Type 0 where
  pub bytes : Option (List ℕ)
  pub faults : ℕ

-- some prefix of the bytes was appended to what a writer has
abbrev pub AppendsKnownPrefix : Option (List ℕ) → Option (List ℕ) → List ℕ → Type 0
AppendsKnownPrefix before after bytes = (prefix : List ℕ) × (rest : List ℕ) × (prefix ++ rest ≡ bytes) × known.Appends before after prefix
