-- What is told where nothing is played.
use Rattle.std.proofs.Common.{◌≡◌, ◌∙◌, ℕ, inl, inr, List, [], ◌++◌, append_assoc, sym, Option, Some, None, Result, Ok, Err, false, refl}
use Rattle.std.specs.Prelude.{is_some}
use Rattle.rt_base.specs.declared.fault.Failed.{Failed}
use Rattle.rt_base.specs.Outside.{Writes}
use Rattle.rt_script.specs.Grammar.{FaultAt, script_of}
use Rattle.rt_top.specs.declared.command.Command.{Command}
use Rattle.rt_top.specs.declared.purpose.Purpose.{Purpose}
use Rattle.rt_top.specs.declared.status.Status.{Status}
use Rattle.rt_top.specs.declared.status.Status.TheVariants as statuses
use Rattle.rt_top.specs.Message.{usage_line}
use Rattle.rt_top.specs.Answer.{Answers, AnswersInput, Input, IsTold, Output, AnswersBadScript, script_text}

-- five parts, grouped from the left
pub grouped : (a b c d e : List ℕ) → a ++ (b ++ (c ++ (d ++ e))) ≡ a ++ b ++ c ++ d ++ e
grouped a b c d e = sym (append_assoc a b (c ++ (d ++ e))) ∙ (sym (append_assoc (a ++ b) c (d ++ e)) ∙ sym (append_assoc (a ++ b ++ c) d e))

-- a line that was written, or some prefix of it
pub told : {T : Type 0} (result : Result T Failed) (line : List ℕ) (held_before held_after : Option (List ℕ)) (faults_before faults_after : ℕ)
    → Writes result held_before held_after faults_before faults_after line
    → IsTold line (record { held_before = held_before; held_after = held_after; faults_before = faults_before; faults_after = faults_after })
told (Ok x) line held_before held_after faults_before faults_after writes = inl (writes.whole, writes.no_fault)
told (Err e) line held_before held_after faults_before faults_after writes = inr (writes.cause, writes.part)

-- an input whose script is refused for its fault
pub refused : (purpose : Purpose) (status : Status) (input : List ℕ) (output : Output) (fault : FaultAt) → script_of (script_text purpose input) ≡ Err fault → AnswersBadScript status fault output → AnswersInput purpose status input output
refused purpose statuses.BadScript input output fault is told = (fault, is, told)
refused purpose statuses.NoMemory input output fault is told = tt
refused purpose statuses.Done input output fault is told = absurd told
refused purpose statuses.Usage input output fault is told = absurd told
refused purpose statuses.Stuck input output fault is told = absurd told
refused purpose statuses.Limit input output fault is told = absurd told
refused purpose statuses.ReadFault input output fault is told = absurd told
refused purpose statuses.WriteFault input output fault is told = absurd told
refused purpose statuses.TooLong input output fault is told = absurd told
refused purpose statuses.Illegal input output fault is told = absurd told

-- words that aren't taken
pub unaccepted : (o : Option Command) (input : Input) (output : Output) → is_some o ≡ false → IsTold usage_line output → Answers o statuses.Usage [] input output
unaccepted None input output none told = (refl, told)
unaccepted (Some command) input output none told = cc none
