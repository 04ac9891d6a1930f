-- What a function that reads returns: what the text is judged to be, or a want of memory.
use Rattle.std.specs.Prelude.{◌≡◌, ℕ, Result, Ok, Err}
use Rattle.rt_base.specs.Script.{Script}
use Rattle.rt_script.specs.declared.fault.ScriptFault.{ScriptFault}
use Rattle.rt_script.specs.declared.fault.ScriptFault.TheVariants.{At}
use Rattle.rt_script.specs.declared.fault.ScriptFault.TheVariants as scripts
use Rattle.rt_script.specs.declared.line_error.LineError.{LineError}
use Rattle.rt_script.specs.declared.line_error.LineError.TheVariants.{Fault, Memory}
use Rattle.rt_script.specs.Judging.{Judged}
use Rattle.rt_script.specs.Grammar.{FaultAt}

-- the fault is the one that is judged, unless memory ran out
abbrev pub Fails : {Y : Type 0} → LineError → Judged Y → Type 0
Fails Memory judged = Unit {0}
Fails (Fault why) judged = judged ≡ Err why

-- the result, seen by view, is what is judged
abbrev pub Gives : {X Y : Type 0} → (X → Y) → Result X LineError → Judged Y → Type 0
Gives view (Ok x) judged = judged ≡ Ok (view x)
Gives view (Err e) judged = Fails e judged

-- the call left what is judged, or the fault is the one that is judged
abbrev pub Leaves : {X Y : Type 0} → Y → Result X LineError → Judged Y → Type 0
Leaves left result judged = Gives (λ _. left) result judged

-- the fault is the one that is judged, in its line; memory may run out anyway
abbrev pub IsFaultOf : {Y : Type 0} → Result Y FaultAt → ScriptFault → Type 0
IsFaultOf judged (At line why) = judged ≡ Err (record { line = line; why = why })
IsFaultOf judged (scripts.Memory _) = Unit {0}

-- the script is the one that is judged, or the fault is
abbrev pub Reads : Result Script ScriptFault → Result Script FaultAt → Type 0
Reads (Ok script) judged = judged ≡ Ok script
Reads (Err fault) judged = IsFaultOf judged fault

-- the error of line n, as a caller is told
abbrev pub IsInLine : ℕ → LineError → ScriptFault → Type 0
IsInLine n (Fault why) fault = fault ≡ At n why
IsInLine n Memory (scripts.Memory none) = Unit {0}
IsInLine n Memory (At line why) = ⊥
