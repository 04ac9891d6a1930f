-- Text that is gathered before it goes to a sink.
use Rattle.std.specs.Prelude.{◌≡◌, ℕ, ◌≤◌, List, ◌++◌, Option, Result, OnOk, OnErr}
use Rattle.rt_base.specs.declared.fault.Failed.{Failed}
use Rattle.rt_base.specs.Outside.{Rises, Appends, AppendsPrefix}

-- of what was gathered and the text after it a prefix went to the sink, and the rest is gathered now
abbrev pub HandsOn : Option (List ℕ) → List ℕ → List ℕ → Option (List ℕ) → List ℕ → Type 0
HandsOn held_before gathered_before text held_after gathered_after =
    (gone : List ℕ) × (gone ++ gathered_after ≡ gathered_before ++ text) × Appends held_before gone held_after

-- a call that was to print this text: without a fault nothing of it is lost, or after a fault the sink took some prefix
-- of what was gathered and the text
pub record Prints {T : Type 0} (result : Result T Failed) (held_before : Option (List ℕ)) (gathered_before : List ℕ) (held_after : Option (List ℕ)) (gathered_after : List ℕ) (faults_before faults_after : ℕ) (text : List ℕ) : Type 0 where
  pub whole : OnOk result (HandsOn held_before gathered_before text held_after gathered_after)
  pub no_fault : OnOk result (faults_after ≡ faults_before)
  pub part : OnErr result (AppendsPrefix held_before (gathered_before ++ text) held_after)
  pub cause : OnErr result (Rises faults_before faults_after)
  pub count : faults_before ≤ faults_after

-- the same between two states of a sink, by what it holds and how often it has failed, and of what is gathered
abbrev pub PrintsTo : {T K : Type 0} → (K → Option (List ℕ)) → (K → ℕ) → Result T Failed → K → List ℕ → K → List ℕ → List ℕ → Type 0
PrintsTo held faults result before gathered_before after gathered_after text =
    Prints result (held before) gathered_before (held after) gathered_after (faults before) (faults after) text
