-- How the fields of scripts, drafts and pieces hold them.
use Rattle.std.specs.Prelude.{◌≡◌, ◌==◌, ℕ, false, List, [], Option, Some, None, String, bytes_eq, if◌then◌else◌}
use Rattle.std.specs.HashMap.{HashMap}
use Rattle.std.specs.Option.{option_or}
use Rattle.std.specs.List.{slice_split}
use denote.Ref.{Bor}
use Rattle.rt_base.specs.Script.{Script, TaskLine, LockLine, all_calls, IsScript}
use Rattle.rt_script.specs.declared.script.Script.TheInside.{Inside}
use Rattle.rt_script.specs.declared.draft.Draft.TheInside.{Inside as DraftFields}
use Rattle.rt_script.specs.Adding.{empty_script}
use Rattle.rt_script.specs.Lines.{SoFar}
use Rattle.rt_script.specs.Names.{named}
use Rattle.rt_script.specs.declared.named.Named.{Named}
use Rattle.indexmap.specs.IndexMap.{get_by_text}

-- the script that the fields hold
abbrev pub script_of_fields : Inside → Script
script_of_fields s = record { cpus = s.cpus; tasks = s.tasks.items; locks = s.locks.items; picks = s.picks.items }

-- the fields hold a script, the count of its calls, and in a map its names, each with what it stands for
pub record AreFields (s : Inside) : Type 0 where
  pub script : IsScript (script_of_fields s)
  pub calls : s.all_calls ≡ all_calls (script_of_fields s)
  pub names : (name : List ℕ) → get_by_text s.names name ≡ named (script_of_fields s) name

-- the pieces of what is left of a text, cut at a byte
abbrev pub pieces_left : ℕ → Option (Bor (List ℕ)) → List (List ℕ)
pieces_left separator None = []
pieces_left separator (Some rest) = slice_split (λ b. b == separator) rest.now

-- what a draft has read
abbrev pub so_far_of_draft : DraftFields → SoFar
so_far_of_draft d = record { script = d.script; begun = d.begun }

-- before the first line there is nothing
abbrev pub BeginsEmpty : DraftFields → Type 0
BeginsEmpty d = d.begun ≡ false → d.script ≡ empty_script

-- a script with these tasks and locks
abbrev pub with_lines : List TaskLine → List LockLine → Script
with_lines tasks locks = record { cpus = 1; tasks = tasks; locks = locks; picks = [] }

-- a map has what each name of these tasks and locks stands for
abbrev pub NamesLines : {Y S : Type 0} → List TaskLine → List LockLine → HashMap (String Y) Named S → Type 0
NamesLines tasks locks names = (name : List ℕ) → get_by_text names name ≡ named (with_lines tasks locks) name

-- a map in which the name stands for this, unless it stood for something
abbrev pub IsNamedToo : {Y S : Type 0} → HashMap (String Y) Named S → List ℕ → Named → HashMap (String Y) Named S → Type 0
IsNamedToo old name meant new = (word : List ℕ) → get_by_text new word ≡ option_or (get_by_text old word) (if bytes_eq word name then Some meant else None)
