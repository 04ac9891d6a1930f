-- Where bytes come from and where they go: what is left of a source, what a sink holds, and counts of faults.
use Rattle.std.specs.Prelude.{◌≡◌, ℕ, ◌+◌, ◌-◌, ◌^◌, ◌≤◌, min, List, [], ◌++◌, Option, Some, None, IfSome, Result, OnOk, OnErr}
use Rattle.rt_base.specs.declared.fault.Failed.{Failed}

-- one more, up to the type's end
abbrev pub raised : ℕ → ℕ
raised count = min (count + 1) (2 ^ 64 - 1)

-- the count rose; one that stands at its type's end counts as risen
abbrev pub Rises : ℕ → ℕ → Type 0
Rises before now = raised before ≤ now

-- what is left began with these bytes and has lost them, where that is told
abbrev pub Takes : Option (List ℕ) → List ℕ → Option (List ℕ) → Type 0
Takes None bytes after = Unit {0}
Takes (Some before) bytes after = (rest : List ℕ) × (before ≡ bytes ++ rest) × (after ≡ Some rest)

-- nothing is left, where that is told
abbrev pub IsAtEnd : Option (List ℕ) → Type 0
IsAtEnd left = IfSome left (λ rest. rest ≡ [])

-- bytes were appended to what a sink holds: one that tells its bytes now told them before
abbrev pub Appends : Option (List ℕ) → List ℕ → Option (List ℕ) → Type 0
Appends before bytes None = Unit {0}
Appends before bytes (Some after) = (held : List ℕ) × (before ≡ Some held) × (after ≡ held ++ bytes)

-- some prefix of the bytes was appended to what a sink holds
abbrev pub AppendsPrefix : Option (List ℕ) → List ℕ → Option (List ℕ) → Type 0
AppendsPrefix before bytes after = (prefix : List ℕ) × (rest : List ℕ) × (prefix ++ rest ≡ bytes) × Appends before prefix after

-- what a call that was to write these bytes did: it wrote them all without a fault, or after a fault some prefix of them
pub record Writes {T : Type 0} (result : Result T Failed) (held_before held_after : Option (List ℕ)) (faults_before faults_after : ℕ) (bytes : List ℕ) : Type 0 where
  pub whole : OnOk result (Appends held_before bytes held_after)
  pub no_fault : OnOk result (faults_after ≡ faults_before)
  pub part : OnErr result (AppendsPrefix held_before bytes held_after)
  pub cause : OnErr result (Rises faults_before faults_after)
  pub count : faults_before ≤ faults_after
