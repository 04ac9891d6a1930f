-- What each answer of the top call says.
use Rattle.std.specs.Prelude.{◌≡◌, ◌⊎◌, ◌↔◌, ℕ, ◌+◌, ◌≤◌, List, [], length, Option, Some, None, unwrap_or, Ok, Err}
use Rattle.rt_base.specs.declared.ended.Ended.{Ended}
use Rattle.rt_base.specs.declared.ended.Ended.TheVariants as ends
use Rattle.rt_base.specs.Outside.{Rises, IsAtEnd, Appends, AppendsPrefix}
use Rattle.rt_base.specs.Script.{Script, budget_of}
use Rattle.rt_model.specs.State.{start}
use Rattle.rt_model.specs.Run.{IsRun, after, ended_of}
use Rattle.rt_model.specs.Order.{replayed}
use Rattle.rt_model.specs.laws.Sound.{IsSound}
use Rattle.rt_script.specs.Grammar.{FaultAt, script_of}
use Rattle.rt_core.specs.Text.{replay_text}
use Rattle.rt_check.specs.Legal.{IsLegal}
use Rattle.rt_check.specs.FirstWrong.{IsFirstWrong}
use Rattle.rt_top.specs.declared.command.Command.{Command}
use Rattle.rt_top.specs.declared.command.Command.TheVariants.{Read, Gen}
use Rattle.rt_top.specs.declared.options.Options.{Options}
use Rattle.rt_top.specs.declared.purpose.Purpose.{Purpose}
use Rattle.rt_top.specs.declared.purpose.Purpose.TheVariants.{Replay, Check}
use Rattle.rt_top.specs.declared.status.Status.{Status}
use Rattle.rt_top.specs.declared.status.Status.TheVariants as statuses
use Rattle.rt_top.specs.Checked.{script_part, journal_part}
use Rattle.rt_top.specs.Message.{usage_line, read_fault_line, too_long_line, bad_script_line, legal_line, illegal_line}
use Rattle.rt_policy.specs.Generator.{generated}
use Rattle.rt_policy.specs.Turns.{IsCutShort, after_picks}
use Rattle.rt_top.specs.Summary.{gen_text}
use Rattle.rt_top.specs.Words.{most_bytes}

-- the sink of a call: what it held before and holds after it, and how often it had failed
pub record Output : Type 0 where
  pub held_before : Option (List ℕ)
  pub held_after : Option (List ℕ)
  pub faults_before : ℕ
  pub faults_after : ℕ

-- that between two states of a sink, by what it holds and how often it has failed
abbrev pub output_of : {K : Type 0} → (K → Option (List ℕ)) → (K → ℕ) → K → K → Output
output_of held faults before after =
    record { held_before = held before; held_after = held after; faults_before = faults before; faults_after = faults after }

-- the source of a call: what is left of it afterwards, and how often it had failed
pub record Input : Type 0 where
  pub left : Option (List ℕ)
  pub faults_before : ℕ
  pub faults_after : ℕ

-- that between two states of a source, by what is left of it and how often it has failed
abbrev pub input_of : {S : Type 0} → (S → Option (List ℕ)) → (S → ℕ) → S → S → Input
input_of left faults before after = record { left = left after; faults_before = faults before; faults_after = faults after }

-- the line was written without a fault, or, where the sink failed, some prefix of it
abbrev pub IsTold : List ℕ → Output → Type 0
IsTold line output =
    (Appends output.held_before line output.held_after × (output.faults_after ≡ output.faults_before))
    ⊎ (Rises output.faults_before output.faults_after × AppendsPrefix output.held_before line output.held_after)

-- how many events the stated order makes at most: what the words say, and else the budget
abbrev pub turns_of : Options → Script → ℕ
turns_of options script = unwrap_or options.turns (budget_of script)

-- the replay of the script with so many turns is a run, and sound; what is to be printed was written without a fault, and the run ended so
pub record IsPrinted (script : Script) (turns : ℕ) (printed : List ℕ) (ended : Ended) (output : Output) : Type 0 where
  pub run : IsRun (start script) (replayed script turns).events
  pub sound : IsSound script (replayed script turns).events
  pub text : Appends output.held_before printed output.held_after
  pub no_fault : output.faults_after ≡ output.faults_before
  pub ends_so : ended_of (after (start script) (replayed script turns).events) ≡ ended
  pub limit : (ended ≡ ends.Limit) ↔ IsCutShort turns (after_picks script turns)

-- the sink failed, and holds some prefix of what is to be printed of the script's replay, which is a run, and sound
pub record IsCut (script : Script) (turns : ℕ) (printed : List ℕ) (output : Output) : Type 0 where
  pub cause : Rises output.faults_before output.faults_after
  pub run : IsRun (start script) (replayed script turns).events
  pub sound : IsSound script (replayed script turns).events
  pub text : AppendsPrefix output.held_before printed output.held_after

-- what an answer says of the replay of a script, of which this text is written
abbrev pub Replays : Status → Script → ℕ → List ℕ → Output → Type 0
Replays statuses.Done script turns text output = IsPrinted script turns text ends.Done output
Replays statuses.Stuck script turns text output = IsPrinted script turns text ends.Stuck output
Replays statuses.Limit script turns text output = IsPrinted script turns text ends.Limit output
Replays statuses.WriteFault script turns text output = IsCut script turns text output
Replays statuses.NoMemory script turns text output = Unit {0}
Replays _ script turns text output = ⊥

-- what an answer says of a replay that is written as journal and report
abbrev pub Journals : Status → Options → Script → Output → Type 0
Journals status options script output = let turns = turns_of options script in Replays status script turns (replay_text script turns) output

-- what an answer says of the replay of the script of n, of which the summary is written
abbrev pub Generates : Status → ℕ → Options → Output → Type 0
Generates status n options output = let turns = turns_of options (generated n) in Replays status (generated n) turns (gen_text n turns) output

-- the answer that a text is no script for that fault, and its line
abbrev pub AnswersBadScript : Status → FaultAt → Output → Type 0
AnswersBadScript statuses.BadScript fault output = IsTold (bad_script_line fault) output
AnswersBadScript statuses.NoMemory fault output = Unit {0}
AnswersBadScript _ fault output = ⊥

-- what an answer says of a journal: the text of a run, which is told with how that ended, or no run's, for its first wrong line
abbrev pub Judges : Status → Script → List ℕ → Output → Type 0
Judges statuses.Done script journal output = (ended : Ended) × IsLegal script journal ended × Appends output.held_before (legal_line ended) output.held_after × (output.faults_after ≡ output.faults_before)
Judges statuses.Illegal script journal output = ((ended : Ended) → IsLegal script journal ended → ⊥) × ((line : ℕ) × (why : ℕ) × IsFirstWrong script journal line why × IsTold (illegal_line line why) output)
Judges statuses.WriteFault script journal output = (ended : Ended) × IsLegal script journal ended × Rises output.faults_before output.faults_after × AppendsPrefix output.held_before (legal_line ended) output.held_after
Judges statuses.NoMemory script journal output = Unit {0}
Judges _ script journal output = ⊥

-- the script of an input that is read for that: all of it, or what stands before the journal
abbrev pub script_text : Purpose → List ℕ → List ℕ
script_text (Replay options) input = input
script_text Check input = script_part input

-- the journal of such an input, where there is to be one
abbrev pub journal_text : Purpose → List ℕ → List ℕ
journal_text (Replay options) input = []
journal_text Check input = journal_part input

-- what an answer says of a script and of a journal that were read for that
abbrev pub AnswersScript : Purpose → Status → Script → List ℕ → Output → Type 0
AnswersScript (Replay options) status script journal output = Journals status options script output
AnswersScript Check status script journal output = Judges status script journal output

-- what an answer says of an input that was read whole: no script, for its first fault, or a script and what comes of it
abbrev pub AnswersInput : Purpose → Status → List ℕ → Output → Type 0
AnswersInput purpose statuses.BadScript input output = (fault : FaultAt) × (script_of (script_text purpose input) ≡ Err fault) × IsTold (bad_script_line fault) output
AnswersInput purpose statuses.NoMemory input output = Unit {0}
AnswersInput purpose status input output = (script : Script) × (script_of (script_text purpose input) ≡ Ok script) × AnswersScript purpose status script (journal_text purpose input) output

-- the input was read to its end, within its limit and without a fault
pub record IsWhole (purpose : Purpose) (bytes : List ℕ) (input : Input) : Type 0 where
  pub at_end : IsAtEnd input.left
  pub short : length bytes ≤ most_bytes purpose
  pub no_fault : input.faults_after ≡ input.faults_before

-- what an answer says of the bytes that were read for that, and of the outside
abbrev pub AnswersRead : Purpose → Status → List ℕ → Input → Output → Type 0
AnswersRead purpose statuses.Usage bytes input output = ⊥
AnswersRead purpose statuses.ReadFault bytes input output = Rises input.faults_before input.faults_after × (length bytes ≤ most_bytes purpose) × IsTold read_fault_line output
AnswersRead purpose statuses.TooLong bytes input output = (length bytes ≡ most_bytes purpose + 1) × (input.faults_after ≡ input.faults_before) × IsTold too_long_line output
AnswersRead purpose statuses.NoMemory bytes input output = (length bytes ≤ most_bytes purpose + 1) × (input.faults_after ≡ input.faults_before)
AnswersRead purpose status bytes input output = IsWhole purpose bytes input × AnswersInput purpose status bytes output

-- what an answer says where the words ask for that: an input is read, or a script is made and nothing is read
abbrev pub AnswersCommand : Command → Status → List ℕ → Input → Output → Type 0
AnswersCommand (Read purpose) status bytes input output = AnswersRead purpose status bytes input output
AnswersCommand (Gen n options) status bytes input output = (bytes ≡ []) × (input.faults_after ≡ input.faults_before) × Generates status n options output

-- what an answer says where the words ask for that, or aren't taken
abbrev pub Answers : Option Command → Status → List ℕ → Input → Output → Type 0
Answers (Some command) status bytes input output = AnswersCommand command status bytes input output
Answers None statuses.Usage bytes input output = (bytes ≡ []) × IsTold usage_line output
Answers None _ bytes input output = ⊥
