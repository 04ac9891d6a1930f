-- The words of each kind of line that is written are words.
use Rattle.std.proofs.Common.{◌≡◌, ℕ, ◌≤◌, true, List, [], ◌∷◌, refl, arith}
use Rattle.std.specs.Prelude.{codes, decimal}
use Rattle.std.specs.List.{list_all}
use Rattle.rt_base.specs.Name.{is_name}
use Rattle.rt_base.specs.declared.kind.Kind.{Kind}
use Rattle.rt_base.specs.declared.kind.Kind.TheVariants as kinds
use Rattle.rt_base.specs.Script.{Script, TaskLine, IsTaskOf}
use Rattle.rt_script.specs.Canonical.{lock_kind_word}
use Rattle.rt_base.specs.declared.limits.TheConstants.{MAX_CPUS}
use Rattle.rt_script.proofs.Tests.{both}
use Rattle.rt_script.proofs.WrittenWords.{is_word, word_of_name, word_of_number}

pub cpus_plain : (cpus : ℕ) → cpus ≤ MAX_CPUS → list_all is_word (codes "cpus" ∷ decimal cpus ∷ []) ≡ true
cpus_plain cpus few = both _ _ refl (both _ _ (word_of_number cpus (omega (arith, few))) refl)

pub task_plain : (s : Script) (t : TaskLine) → IsTaskOf s t → s.cpus ≤ MAX_CPUS → list_all is_word (codes "task" ∷ t.name ∷ decimal t.own ∷ decimal t.cpu.0 ∷ []) ≡ true
task_plain s t fits few =
    both _ _ refl (both _ _ (word_of_name t.name fits.name) (both _ _ (word_of_number t.own (omega (arith, fits.own))) (both _ _ (word_of_number t.cpu.0 (omega (arith, fits.cpu))) refl)))

kind_plain : (kind : Kind) → is_word (lock_kind_word kind) ≡ true
kind_plain kinds.Mutex = refl
kind_plain kinds.Spin = refl
kind_plain kinds.RwLock = refl
kind_plain kinds.RwSem = refl
kind_plain kinds.Local = refl

pub lock_plain : (name : List ℕ) (kind : Kind) → is_name name ≡ true → list_all is_word (codes "lock" ∷ name ∷ lock_kind_word kind ∷ []) ≡ true
lock_plain name kind shape = both _ _ refl (both _ _ (word_of_name name shape) (both _ _ (kind_plain kind) refl))

-- a task's call, whose own words are words
pub call_plain : (name : List ℕ) (words : List (List ℕ)) → is_name name ≡ true → list_all is_word words ≡ true → list_all is_word (codes "call" ∷ name ∷ words) ≡ true
call_plain name words shape plain = both _ _ refl (both _ _ (word_of_name name shape) plain)

pub pick_plain : (name : List ℕ) → is_name name ≡ true → list_all is_word (codes "pick" ∷ name ∷ []) ≡ true
pick_plain name shape = both _ _ refl (both _ _ (word_of_name name shape) refl)
