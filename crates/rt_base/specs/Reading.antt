-- How the reading of a whole input ends.
use Rattle.std.specs.Prelude.{◌≡◌, ℕ, ◌+◌, ◌≤◌, List, length, Option}
use Rattle.rt_base.specs.declared.reading.Taken.{Taken}
use Rattle.rt_base.specs.declared.reading.Taken.TheVariants.{Whole, Over, Fault}
use Rattle.rt_base.specs.Outside.{Rises, IsAtEnd}

-- at the end of input or with one byte more than the limit, and without a fault; or as the source's count of faults rose
abbrev pub Ends : Taken → List ℕ → ℕ → Option (List ℕ) → ℕ → ℕ → Type 0
Ends Whole bytes limit left faults_before faults_after = IsAtEnd left × (length bytes ≤ limit) × (faults_after ≡ faults_before)
Ends Over bytes limit left faults_before faults_after = (length bytes ≡ limit + 1) × (faults_after ≡ faults_before)
Ends Fault bytes limit left faults_before faults_after = Rises faults_before faults_after × (length bytes ≤ limit)
