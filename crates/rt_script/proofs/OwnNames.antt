-- A name stands for one task, or for one lock with its cells, as lines are added.
use Rattle.std.proofs.Common.{◌≡◌, inl, inr, ℕ, ◌+◌, ◌-◌, ◌<◌, ◌≤◌, Bool, true, false, cond, List, [], ◌∷◌, ◌++◌, length, get_or, set, Option, Some, None, refl, sym, ap, ◌∙◌, subst, arith, append-nil, length-append, length-set}
use Rattle.std.specs.Prelude.{All, Ok, position, bytes_eq, nat_lt, String}
use Rattle.std.specs.HashMap.{HashMap, get_by_text}
use Rattle.std.specs.List.{position_or_len}
use Rattle.std.specs.Map.{update}
use Rattle.std.specs.Option.{option_or}
use Rattle.std.proofs.lemmas.Bool.{cases_lt, cases_eq}
use Rattle.std.proofs.lemmas.Bool.Decides.{nat_tests}
use Rattle.std.proofs.lemmas.Grind.{flat_map-append}
use Rattle.std.proofs.lemmas.List.{get_or_append_left, get_or-append_right, get_or_push, get_or-set_same, get_or-set_other}
use Rattle.std.proofs.lemmas.List.Quantifiers.{position-Some}
use Rattle.std.proofs.lemmas.List.Sums.{fails_before_first}
use Rattle.std.proofs.lemmas.Slice.Eq.{bytes_eq-Decides}
use Rattle.rt_base.specs.declared.call.Call.{Call}
use Rattle.rt_base.specs.declared.id.TaskId.{TaskId}
use Rattle.rt_base.specs.declared.id.LockId.{LockId}
use Rattle.rt_base.specs.declared.kind.Kind.{Kind}
use Rattle.rt_base.specs.Name.{is_name}
use Rattle.rt_base.specs.Script.{Script, TaskLine, LockLine, task_line, lock_line, task_place, is_first_cell, locks_of, locks_of_lines, HasOwnNames, HasWholeLocks, IsScript}
use Rattle.rt_script.specs.declared.fault.Why.TheVariants.{Unknown}
use Rattle.rt_script.specs.declared.named.Named.{Named}
use Rattle.rt_script.specs.declared.named.Named.TheVariants.{Task, Lock}
use Rattle.rt_script.specs.Judging.{need}
use Rattle.rt_script.specs.Adding.{with_task, with_locks, with_call}
use Rattle.rt_script.specs.Names.{named, only_lock, lock_named, AreNewLocks}
use Rattle.rt_script.proofs.Cells.{some_of, named_of, first_at_zero, first_in_lines}
use Rattle.rt_script.proofs.ScriptParts.{no_task, no_lock, task_line_at, lock_line_at}
use Rattle.rt_script.proofs.Naming.{position_push, position-set, locks_found, same_test, no_index, lock_index_of, names-with_locks}

-- the index of a name among tasks and among locks
abbrev task_index_in : List TaskLine → List ℕ → Option ℕ
task_index_in xs name = position (λ (t : TaskLine). bytes_eq name t.name) xs

abbrev lock_index_in : List LockLine → List ℕ → Option ℕ
lock_index_in xs name = position (λ (l : LockLine). bytes_eq name l.name) xs

same_name : (a : List ℕ) → bytes_eq a a ≡ true
same_name a = (bytes_eq-Decides a a).1 refl

past_end : (at len : ℕ) → cond (nat_lt at len) (Some at) None ≡ None → len ≤ at
past_end at len e = grind (arith, nat_tests)

-- a name that no lock has
other_name : (xs : List LockLine) (name : List ℕ) (i : ℕ) (d : LockLine) → lock_index_in xs name ≡ None → i < length xs → bytes_eq name (get_or xs i d).name ≡ false
other_name xs name i d none lt =
    let p : LockLine → Bool = λ l. bytes_eq name l.name in
    let end : length xs ≤ position_or_len p xs = past_end (position_or_len p xs) (length xs) none in
    fails_before_first p xs i d (omega arith)

-- ---- a task more

own_task : (xs : List TaskLine) (y d : TaskLine) (i : ℕ) → task_index_in xs y.name ≡ None → (i < length xs → task_index_in xs (get_or xs i d).name ≡ Some i) → i < length xs + 1 → task_index_in (xs ++ y ∷ []) (get_or (xs ++ y ∷ []) i d).name ≡ Some i
own_task xs y d i none old lt = elim (cases_lt i (length xs)) [
  | inl below ↦
      let n : List ℕ = (get_or xs i d).name in
      let is : get_or (xs ++ y ∷ []) i d ≡ get_or xs i d = get_or_append_left xs (y ∷ []) d i below in
      ap (λ (l : TaskLine). task_index_in (xs ++ y ∷ []) l.name) is ∙ position_push (λ (t : TaskLine). bytes_eq n t.name) xs y ∙ ap (λ (o : Option ℕ). option_or o (cond (bytes_eq n y.name) (Some (length xs)) None)) (old below)
  | inr above ↦
      let at : length xs ≡ i = omega arith in
      let is : get_or (xs ++ y ∷ []) i d ≡ y = get_or_push xs y d i at in
      ap (λ (l : TaskLine). task_index_in (xs ++ y ∷ []) l.name) is ∙ position_push (λ (t : TaskLine). bytes_eq y.name t.name) xs y ∙ ap (λ (o : Option ℕ). option_or o (cond (bytes_eq y.name y.name) (Some (length xs)) None)) none
      ∙ ap (λ (b : Bool). cond b (Some (length xs)) None) (same_name y.name) ∙ ap (λ (n : ℕ). Some n) at
]

still_none : (o : Option ℕ) (b : Bool) (n : ℕ) → o ≡ None → b ≡ false → option_or o (cond b (Some n) None) ≡ None
still_none o b n e f = rw (e, f) refl

pub HasOwnNames-with_task : (s : Script) (line : TaskLine) → HasOwnNames s → named s line.name ≡ None → HasOwnNames (with_task s line)
HasOwnNames-with_task s line h free =
    let n : Script = with_task s line in
    let none = no_index s line.name free in
    let more : length (s.tasks ++ line ∷ []) ≡ length s.tasks + 1 = omega (arith, length-append s.tasks (line ∷ [])) in
    record {
      task = λ t lt.
          ap (λ (l : TaskLine). task_index_in n.tasks l.name) (task_line_at n t)
          ∙ own_task s.tasks line no_task t.0 none.0 (λ below. subst (λ (l : TaskLine). task_index_in s.tasks l.name ≡ Some t.0) (task_line_at s t) (h.task t below)) (omega arith);
      lock = h.lock;
      apart = λ l lt.
          let name : List ℕ = (lock_line s l).name in
          let other : bytes_eq line.name name ≡ false = rw (lock_line_at s l) (other_name s.locks line.name l.0 no_lock none.1 lt) in
          position_push (λ (t : TaskLine). bytes_eq name t.name) s.tasks line ∙ still_none (task_place s name) (bytes_eq name line.name) (length s.tasks) (h.apart l lt) (same_test name line.name ∙ other);
    }

-- ---- locks more

own_lock : (xs ys : List LockLine) (key : List ℕ) (i : ℕ) (d : LockLine) → All (λ (y : LockLine). y.name ≡ key) ys → 1 ≤ length ys → lock_index_in xs key ≡ None → (i < length xs → lock_index_in xs (get_or xs i d).name ≡ Some i)
    → (length xs ≤ i → i ≡ length xs) → i < length xs + length ys → lock_index_in (xs ++ ys) (get_or (xs ++ ys) i d).name ≡ Some i
own_lock xs ys key i d names some none old back lt = elim (cases_lt i (length xs)) [
  | inl below ↦
      let n : List ℕ = (get_or xs i d).name in
      let is : get_or (xs ++ ys) i d ≡ get_or xs i d = get_or_append_left xs ys d i below in
      let test : LockLine → Bool = λ l. bytes_eq n l.name in
      let all : All (λ (l : LockLine). test l ≡ bytes_eq n key) ys = λ k e in'. ap (bytes_eq n) (names k e in') in
      ap (λ (l : LockLine). lock_index_in (xs ++ ys) l.name) is ∙ locks_found test (bytes_eq n key) xs ys all some ∙ ap (λ (o : Option ℕ). option_or o (cond (bytes_eq n key) (Some (length xs)) None)) (old below)
  | inr above ↦
      let at : i ≡ length xs = back above in
      let is : get_or (xs ++ ys) i d ≡ get_or ys (i - length xs) d = get_or-append_right xs ys (length xs) i d refl above in
      let name : (get_or (xs ++ ys) i d).name ≡ key = ap (λ (l : LockLine). l.name) is ∙ names (i - length xs) d (omega arith) in
      let test : LockLine → Bool = λ l. bytes_eq key l.name in
      let all : All (λ (l : LockLine). test l ≡ true) ys = λ k e in'. ap (bytes_eq key) (names k e in') ∙ same_name key in
      ap (λ (n : List ℕ). lock_index_in (xs ++ ys) n) name ∙ locks_found test true xs ys all some ∙ ap (λ (o : Option ℕ). option_or o (Some (length xs))) none ∙ ap (λ (n : ℕ). Some n) (sym at)
]

-- what holds of the name of a lock, one of the old ones or of the new ones
apart_of : (P : List ℕ → Type 0) (xs ys : List LockLine) (key : List ℕ) (i : ℕ) (d : LockLine) → All (λ (y : LockLine). y.name ≡ key) ys → P key → (i < length xs → P (get_or xs i d).name) → i < length xs + length ys → P (get_or (xs ++ ys) i d).name
apart_of P xs ys key i d names new old lt = elim (cases_lt i (length xs)) [
  | inl below ↦ rw (get_or_append_left xs ys d i below) (old below)
  | inr above ↦ subst P (sym (ap (λ (l : LockLine). l.name) (get_or-append_right xs ys (length xs) i d refl above) ∙ names (i - length xs) d (omega arith))) new
]

pub HasOwnNames-with_locks : (s : Script) (lines : List LockLine) (key : List ℕ) → IsScript s → AreNewLocks s key lines → HasOwnNames (with_locks s lines)
HasOwnNames-with_locks s lines key h new =
    let n : Script = with_locks s lines in
    let own : List LockLine = locks_of s.cpus key new.kind in
    let none = no_index s key new.free in
    let names : All (λ (y : LockLine). y.name ≡ key) lines = rw new.made (named_of s.cpus key new.kind) in
    let some : 1 ≤ length lines = rw new.made (some_of s.cpus key new.kind h.cpus.0) in
    let more : length (s.locks ++ lines) ≡ length s.locks + length lines = length-append s.locks lines in
    record {
      task = h.names.task;
      lock = λ l lt first.
          let i : ℕ = l.0 in
          let at : is_first_cell (get_or (s.locks ++ lines) i no_lock).cell ≡ true = rw (← lock_line_at n l) first in
          let old : i < length s.locks → lock_index_in s.locks (get_or s.locks i no_lock).name ≡ Some i = λ below.
          let same : get_or (s.locks ++ lines) i no_lock ≡ get_or s.locks i no_lock = get_or_append_left s.locks lines no_lock i below in
          let here : is_first_cell (lock_line s l).cell ≡ true = ap (λ (x : LockLine). is_first_cell x.cell) (lock_line_at s l ∙ sym same) ∙ at in
          subst (λ (x : LockLine). lock_index_in s.locks x.name ≡ Some i) (lock_line_at s l) (h.names.lock l below here) in
          let back : length s.locks ≤ i → i ≡ length s.locks = λ above.
          let right : get_or (s.locks ++ lines) i no_lock ≡ get_or lines (i - length s.locks) no_lock = get_or-append_right s.locks lines (length s.locks) i no_lock refl above in
          let here : is_first_cell (get_or lines (i - length s.locks) no_lock).cell ≡ true = sym (ap (λ (x : LockLine). is_first_cell x.cell) right) ∙ at in
          let within : i - length s.locks < length lines = omega arith in
          let zero : i - length s.locks ≡ 0 = first_at_zero s.cpus key new.kind (i - length s.locks) no_lock (subst (λ (ls : List LockLine). i - length s.locks < length ls) new.made within) (subst (λ (ls : List LockLine). is_first_cell (get_or ls (i - length s.locks) no_lock).cell ≡ true) new.made here) in
          omega arith in
          ap (λ (x : LockLine). lock_index_in n.locks x.name) (lock_line_at n l) ∙ own_lock s.locks lines key i no_lock names some none.1 old back (omega arith);
      apart = λ l lt.
          subst (λ (x : LockLine). task_place s x.name ≡ None) (sym (lock_line_at n l))
          (apart_of (λ name. task_place s name ≡ None) s.locks lines key l.0 no_lock names none.0 (λ below. subst (λ (x : LockLine). task_place s x.name ≡ None) (lock_line_at s l) (h.names.apart l below)) (omega arith));
    }

pub HasWholeLocks-with_locks : (s : Script) (lines : List LockLine) (key : List ℕ) → HasWholeLocks s → AreNewLocks s key lines → HasWholeLocks (with_locks s lines)
HasWholeLocks-with_locks s lines key h new =
    let f : List ℕ × Kind → List LockLine = λ line. locks_of s.cpus line.0 line.1 in
    let one : f (key, new.kind) ++ [] ≡ lines = append-nil (f (key, new.kind)) ∙ sym new.made in
    (h.0 ++ (key, new.kind) ∷ [], ap (λ (xs : List LockLine). xs ++ lines) h.1 ∙ ap (λ (ys : List LockLine). locks_of_lines s.cpus h.0 ++ ys) (sym one) ∙ sym (flat_map-append f h.0 ((key, new.kind) ∷ [])))

-- ---- a call more

-- a task's name is what it was
name_after : (xs : List TaskLine) (i j : ℕ) (y d : TaskLine) → i < length xs → y.name ≡ (get_or xs i d).name → (get_or (set xs i y) j d).name ≡ (get_or xs j d).name
name_after xs i j y d lt same = elim (cases_eq j i) [
  | inl here ↦ rw here (ap (λ (l : TaskLine). l.name) (get_or-set_same xs i y d lt) ∙ same)
  | inr other ↦ ap (λ (l : TaskLine). l.name) (get_or-set_other xs i j y d other)
]

pub HasOwnNames-with_call : (s : Script) (t : TaskId) (call : Call) → HasOwnNames s → t.0 < length s.tasks → HasOwnNames (with_call s t call)
HasOwnNames-with_call s t call h in' =
    let line : TaskLine = task_line s t in
    let new : TaskLine = record line { calls = line.calls ++ call ∷ [] } in
    let n : Script = with_call s t call in
    let name : line.name ≡ (get_or s.tasks t.0 no_task).name = ap (λ (l : TaskLine). l.name) (task_line_at s t) in
    let place : (key : List ℕ) → task_place n key ≡ task_place s key = λ key. position-set (λ (l : TaskLine). bytes_eq key l.name) s.tasks t.0 new no_task (ap (bytes_eq key) name) in
    let len : length n.tasks ≡ length s.tasks = length-set s.tasks t.0 new in
    record {
      task = λ u lt.
          let is : (task_line n u).name ≡ (task_line s u).name =
          ap (λ (l : TaskLine). l.name) (task_line_at n u) ∙ name_after s.tasks t.0 u.0 new no_task in' name ∙ sym (ap (λ (l : TaskLine). l.name) (task_line_at s u)) in
          ap (task_place n) is ∙ place (task_line s u).name ∙ h.task u (omega arith);
      lock = h.lock;
      apart = λ l lt. place (lock_line s l).name ∙ h.apart l lt;
    }

-- ---- what a name stands for is the first of its locks

first_of_lines : (cpus : ℕ) (lines : List (List ℕ × Kind)) (name : List ℕ) (i : ℕ) (d : LockLine) → lock_index_in (locks_of_lines cpus lines) name ≡ Some i → is_first_cell (get_or (locks_of_lines cpus lines) i d).cell ≡ true
first_of_lines cpus lines name i d e =
    let xs : List LockLine = locks_of_lines cpus lines in
    let found = position-Some (λ (l : LockLine). bytes_eq name l.name) xs i d e in
    let f = first_in_lines cpus lines i found.0 d in
    elim (cases_lt f.0 i) [
      | inl before ↦
          let none : bytes_eq name (get_or xs f.0 d).name ≡ false = found.2 f.0 before in
          let some : bytes_eq name (get_or xs f.0 d).name ≡ true = ap (bytes_eq name) f.2 ∙ found.1 in
          absurd cc
      | inr at ↦ let same : f.0 ≡ i = omega (arith, f.1) in subst (λ (k : ℕ). is_first_cell (get_or xs k d).cell ≡ true) same f.3
    ]

pub first_named : (s : Script) (name : List ℕ) (l : LockId) → IsScript s → named s name ≡ Some (Lock l) → is_first_cell (lock_line s l).cell ≡ true
first_named s name l h e =
    let place : lock_index_in s.locks name ≡ Some l.0 = lock_index_of s name l e in
    let whole = h.whole in
    rw (lock_line_at s l, whole.1) (first_of_lines s.cpus whole.0 name l.0 no_lock (rw whole.1 at place))

named_lock : (o : Option Named) (l : LockId) → need Unknown (only_lock o) ≡ Ok l → o ≡ Some (Lock l)
named_lock None l e = absurd cc
named_lock (Some (Task t)) l e = absurd cc
named_lock (Some (Lock k)) l e =
    let same : k ≡ l = cc in
    ap (λ (k : LockId). Some (Lock k)) same

pub first_needed : (s : Script) (name : List ℕ) (l : LockId) → IsScript s → need Unknown (lock_named s name) ≡ Ok l → is_first_cell (lock_line s l).cell ≡ true
first_needed s name l h e = first_named s name l h (named_lock (named s name) l e)

-- ---- the locks of a line that is read

pub new_locks : (s : Script) (lines : List LockLine) (n : ℕ) (text name : List ℕ) (kind : Kind) → lines ≡ locks_of n text kind → n ≡ s.cpus → text ≡ name → is_name name ≡ true → named s name ≡ None → AreNewLocks s name lines
new_locks s lines n text name kind made cpus same shape free = record { shape = shape; free = free; kind = kind; made = made ∙ ap (λ (n : ℕ). locks_of n text kind) cpus ∙ ap (λ (t : List ℕ). locks_of s.cpus t kind) same }

pub names-with_new_locks : {Y S : Type 0} (old new : HashMap (String Y) Named S) (s : Script) (lines : List LockLine) (key : List ℕ) (id : LockId) → ((name : List ℕ) → get_by_text old name ≡ named s name)
    → ((name : List ℕ) → get_by_text new name ≡ update bytes_eq (get_by_text old) key (Some (Lock id)) name) → 1 ≤ s.cpus → AreNewLocks s key lines → id.0 ≡ length s.locks
    → (name : List ℕ) → get_by_text new name ≡ named (with_locks s lines) name
names-with_new_locks old new s lines key id before after cpus added id-is name =
    let names : All (λ (y : LockLine). y.name ≡ key) lines = rw added.made (named_of s.cpus key added.kind) in
    let some : 1 ≤ length lines = rw added.made (some_of s.cpus key added.kind cpus) in
    names-with_locks old new s lines key id before after names some id-is added.free name
