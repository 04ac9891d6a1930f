-- What a task or a lock is told by stands for it, and what stands for one is what it is told by.
use Rattle.std.proofs.Common.{◌≡◌, inl, inr, ℕ, ◌+◌, ◌-◌, ◌<◌, ◌≤◌, Bool, true, false, not, List, [], ◌∷◌, ◌++◌, Option, Some, None, refl, sym, ap, ◌∙◌, subst, arith, append-nil}
use Rattle.std.specs.Prelude.{All, ◌==◌, decimal, is_none, is_some, ◌^◌}
use Rattle.std.specs.List.{list_all, slice_split, join_with_byte}
use Rattle.std.specs.Char.{is_ascii_digit}
use Rattle.std.proofs.lemmas.Fmt.{digits_decimal}
use Rattle.std.proofs.lemmas.Bool.Decides.{nat_tests}
use Rattle.std.proofs.lemmas.List.Splits.{slice_split_none, slice_split_at, join_with_byte-slice_split}
use Rattle.rt_base.specs.declared.id.Cpu.{Cpu}
use Rattle.rt_base.specs.declared.id.LockId.{LockId}
use Rattle.rt_base.specs.declared.id.TaskId.{TaskId}
use Rattle.rt_base.specs.Name.{is_name, is_name_byte}
use Rattle.rt_base.specs.Script.{Script, LockLine, lock_line, is_first_cell, IsScript}
use Rattle.rt_script.specs.Names.{task_named, lock_named}
use Rattle.rt_script.specs.Words.{◌>>=◌, only_if, number_upto}
use Rattle.rt_script.proofs.Cells.{cell_at}
use Rattle.rt_script.proofs.Lookups.{task_named-own, task_named-has, lock_named-own, lock_named-first, lock_named-has, lock_named-is_first, lock_line-cell}
use Rattle.rt_script.proofs.ScriptParts.{lock_fits}
use Rattle.rt_events.specs.Words.{cell_word, task_word, lock_word}
use Rattle.rt_events.specs.WellFormed.{IsTaskIn, IsLockIn}
use Rattle.rt_events.specs.reading.Spelling.{lone_lock, cell_in, lock_of_parts, lock_in}
use Rattle.rt_events.proofs.lines.Cells.{IsCell, stands, cell_line}
use Rattle.rt_events.proofs.lines.Chains.{after, passed, some_is}
use Rattle.rt_events.proofs.lines.Numerals.{own, number_read, numbers_said}
use Rattle.rt_events.proofs.lines.Solid.{weaker, without, right}

-- ---- tasks

pub tasks_said : (script : Script) (w : List ℕ) (t : TaskId) → task_named script w ≡ Some t → (task_word script t ≡ w) × IsTaskIn script t
tasks_said script w t e =
    let has = task_named-has script w t e in
    (has.1, has.0)

pub task_read : (script : Script) → IsScript script → (t : TaskId) → IsTaskIn script t → task_named script (task_word script t) ≡ Some t
task_read script is t within = task_named-own script t is within

-- ---- the lock that was read

abbrev IsLockSaid : Script → List ℕ → LockId → Type 0
IsLockSaid script w l = (lock_word script l ≡ w) × IsLockIn script l

none_is : {A : Type 0} (o : Option A) → is_none o ≡ true → o ≡ None
none_is None e = refl
none_is (Some a) e = absurd cc

lone_said : (script : Script) → IsScript script → (name : List ℕ) (l : LockId) → lone_lock script name ≡ Some l → IsLockSaid script name l
lone_said script is name l e =
    let known = after (lock_named script name) _ l e in
    let test = passed (is_none (lock_line script known.0).cell) (Some known.0) l known.2 in
    let fact = lock_named-has script name known.0 known.1 in
    let none : (lock_line script known.0).cell ≡ None = none_is (lock_line script known.0).cell test.0 in
    let word : lock_word script known.0 ≡ name =
    ap (λ (cell : Option Cpu). (lock_line script known.0).name ++ cell_word cell) none ∙ append-nil (lock_line script known.0).name ∙ fact.name in
    subst (IsLockSaid script name) (some_is known.0 l test.1) (word, fact.there)

zero_cell : (cell : Option Cpu) → is_some cell ≡ true → is_first_cell cell ≡ true → cell ≡ Some (record { 0 = 0 })
zero_cell None some first = absurd cc
zero_cell (Some cpu) some first =
    let zero : cpu.0 ≡ 0 = grind (arith, nat_tests) in
    ap (λ (n : ℕ). Some (record { 0 = n })) zero

-- the cells of a local lock stand from its first one on
pub cell_there : (script : Script) → IsScript script → (name : List ℕ) (l : LockId) → lock_named script name ≡ Some l → is_some (lock_line script l).cell ≡ true → (n : ℕ) → n ≤ script.cpus - 1
    → IsLockIn script (record { 0 = l.0 + n }) × (lock_line script (record { 0 = l.0 + n }) ≡ cell_at name n)
cell_there script is name l e some n few =
    let fact = lock_named-has script name l e in
    let zero = zero_cell (lock_line script l).cell some (lock_named-is_first script name l is e) in
    let there = lock_line-cell script l (record { 0 = n }) is fact.there zero (omega (arith, few, is.cpus.0)) in
    (there.0, there.1 ∙ ap (λ name. cell_at name n) fact.name)

cell_said : (script : Script) → IsScript script → (name cpu : List ℕ) (l : LockId) → cell_in script name cpu ≡ Some l → IsLockSaid script (name ++ 46 ∷ cpu) l
cell_said script is name cpu l e =
    let known = after (lock_named script name) _ l e in
    let n = after (number_upto (script.cpus - 1) cpu) _ l known.2 in
    let test = passed (is_some (lock_line script known.0).cell) (Some (record { 0 = known.0.0 + n.0 })) l n.2 in
    let number = numbers_said (script.cpus - 1) cpu n.0 n.1 in
    let there = cell_there script is name known.0 known.1 test.0 n.0 number.1 in
    let word : lock_word script (record { 0 = known.0.0 + n.0 }) ≡ name ++ 46 ∷ cpu = ap (λ (l : LockLine). l.name ++ cell_word l.cell) there.1 ∙ ap (λ digits. name ++ 46 ∷ digits) number.0 in
    subst (IsLockSaid script (name ++ 46 ∷ cpu)) (some_is _ l test.1) (word, there.0)

parts_said : (script : Script) → IsScript script → (parts : List (List ℕ)) (l : LockId) → lock_of_parts script parts ≡ Some l → IsLockSaid script (join_with_byte 46 parts) l
parts_said script is [] l e = absurd cc
parts_said script is (name ∷ []) l e = lone_said script is name l e
parts_said script is (name ∷ cpu ∷ []) l e = cell_said script is name cpu l e
parts_said script is (name ∷ cpu ∷ more ∷ parts) l e = absurd cc

pub locks_said : (script : Script) → IsScript script → (w : List ℕ) (l : LockId) → lock_in script w ≡ Some l → (lock_word script l ≡ w) × IsLockIn script l
locks_said script is w l e = subst (λ w. IsLockSaid script w l) (join_with_byte-slice_split 46 w) (parts_said script is (slice_split (λ b. b == 46) w) l e)

-- ---- the word is cut at its dot

abbrev no_dot : ℕ → Bool
no_dot b = not (b == 46)

name_byte : (b : ℕ) → is_name_byte b ≡ true → no_dot b ≡ true
name_byte b e = grind (arith, nat_tests)

digit_byte : (b : ℕ) → is_ascii_digit b ≡ true → no_dot b ≡ true
digit_byte b e = grind (arith, nat_tests)

dot_no : (b : ℕ) → no_dot b ≡ true → (b == 46) ≡ false
dot_no b e = grind (arith, nat_tests)

undotted : (word : List ℕ) → list_all no_dot word ≡ true → All (λ b. (b == 46) ≡ false) word
undotted word e = without no_dot (λ b. b == 46) dot_no word e

undotted_name : (name : List ℕ) → is_name name ≡ true → All (λ b. (b == 46) ≡ false) name
undotted_name name shape = undotted name (weaker is_name_byte no_dot name_byte name (right _ _ shape))

undotted_number : (n : ℕ) → n < 2 ^ 64 → All (λ b. (b == 46) ≡ false) (decimal n)
undotted_number n small = undotted (decimal n) (weaker is_ascii_digit no_dot digit_byte (decimal n) (digits_decimal own n (omega arith)))

split_name : (name : List ℕ) → is_name name ≡ true → slice_split (λ b. b == 46) (name ++ []) ≡ name ∷ []
split_name name shape = rw (append-nil name) (slice_split_none (λ b. b == 46) name (undotted_name name shape))

split_cell : (name : List ℕ) (n : ℕ) → is_name name ≡ true → n < 2 ^ 64 → slice_split (λ b. b == 46) (name ++ 46 ∷ decimal n) ≡ name ∷ decimal n ∷ []
split_cell name n shape small =
    slice_split_at (λ b. b == 46) name 46 (decimal n) (undotted_name name shape) refl ∙ ap (λ more. name ∷ more) (slice_split_none (λ b. b == 46) (decimal n) (undotted_number n small))

-- ---- the word of a lock is read as that lock

lone_read : (script : Script) (o : Option LockId) (l : LockId) → o ≡ Some l → (lock_line script l).cell ≡ None → (o >>= λ l. only_if (is_none (lock_line script l).cell) (Some l)) ≡ Some l
lone_read script o l e f = rw (e, f) refl

cell_read : (script : Script) (name cpu : List ℕ) (l : LockId) (n : ℕ) → lock_named script name ≡ Some l → number_upto (script.cpus - 1) cpu ≡ Some n → is_some (lock_line script l).cell ≡ true
    → cell_in script name cpu ≡ Some (record { 0 = l.0 + n })
cell_read script name cpu l n e f g = rw (e, f, g) refl

of_lone : (script : Script) → IsScript script → (l : LockId) → IsLockIn script l → (lock_line script l).cell ≡ None → lock_in script (lock_word script l) ≡ Some l
of_lone script is l within none =
    let name : List ℕ = (lock_line script l).name in
    ap (λ (cell : Option Cpu). lock_in script (name ++ cell_word cell)) none ∙ ap (lock_of_parts script) (split_name name (lock_fits script l is within).name)
    ∙ lone_read script (lock_named script name) l (lock_named-own script l is within none) none

of_cell : (script : Script) → IsScript script → (l : LockId) → IsLockIn script l → IsCell script l → lock_in script (lock_word script l) ≡ Some l
of_cell script is l within a =
    let k : LockId = record { 0 = a.first } in
    let line = cell_line script l a in
    let start : IsLockIn script k × (lock_line script k ≡ cell_at a.name 0) =
    subst (λ (i : ℕ). IsLockIn script (record { 0 = i }) × (lock_line script (record { 0 = i }) ≡ cell_at a.name 0)) (omega arith) (a.cells 0 (omega (arith, is.cpus.0))) in
    let shape : is_name a.name ≡ true = sym (ap (λ (l : LockLine). is_name l.name) line) ∙ (lock_fits script l is within).name in
    let known : lock_named script a.name ≡ Some k = ap (λ (l : LockLine). lock_named script l.name) (sym start.1) ∙ lock_named-first script k is start.0 (ap (λ (l : LockLine). is_first_cell l.cell) start.1) in
    let number : number_upto (script.cpus - 1) (decimal a.cpu) ≡ Some a.cpu = number_read (script.cpus - 1) a.cpu (omega (arith, a.few)) (omega (arith, is.cpus.1)) in
    ap (λ (l : LockLine). lock_in script (l.name ++ cell_word l.cell)) line ∙ ap (lock_of_parts script) (split_cell a.name a.cpu shape (omega (arith, a.few, is.cpus.1)))
    ∙ cell_read script a.name (decimal a.cpu) k a.cpu known number (ap (λ (l : LockLine). is_some l.cell) start.1)
    ∙ ap (λ (i : ℕ). Some (record { 0 = i })) (sym a.at)

pub lock_read : (script : Script) → IsScript script → (l : LockId) → IsLockIn script l → lock_in script (lock_word script l) ≡ Some l
lock_read script is l within = elim (stands script is l within) [
  | inl none ↦ of_lone script is l within none
  | inr a ↦ of_cell script is l within a
]
