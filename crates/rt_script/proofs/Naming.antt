-- What names stand for, as lines are added.
use Rattle.std.proofs.Common.{◌≡◌, ℕ, zero, suc, ◌+◌, ◌<◌, ◌≤◌, Bool, true, false, cond, not, List, [], ◌∷◌, ◌++◌, length, get_or, set, ltb, eqb, Option, Some, None, refl, sym, ap, subst, ◌∙◌, arith, append_assoc, length-append, length-set}
use Rattle.std.specs.Prelude.{All, position, bytes_eq, option_map, String, string_bytes, IsUtf8, IsAscii}
use Rattle.std.specs.List.{position_or_len, list_all}
use Rattle.std.specs.Option.{option_or}
use Rattle.std.specs.HashMap.{HashMap, get_by_text}
use Rattle.std.specs.Map.{lookup, update}
use Rattle.std.proofs.lemmas.Bool.{false_from_ne_true}
use Rattle.std.proofs.lemmas.Bool.Decides.{nat_tests}
use Rattle.std.proofs.lemmas.List.Elements.{All-tail}
use Rattle.std.proofs.lemmas.List.Sums.{prefix_len-le-length}
use Rattle.std.proofs.lemmas.List.Folds.{position_or_len_push, position_or_len-set}
use Rattle.std.proofs.lemmas.List.Quantifiers.{position-Some}
use Rattle.std.proofs.lemmas.Slice.Eq.{bytes_eq-Decides}
use Rattle.std.proofs.lemmas.Str.{IsUtf8-string_bytes, IsUtf8-from_ascii}
use Rattle.rt_base.specs.declared.call.Call.{Call}
use Rattle.rt_base.specs.declared.id.TaskId.{TaskId}
use Rattle.rt_base.specs.declared.id.LockId.{LockId}
use Rattle.rt_base.specs.Script.{Script, TaskLine, LockLine, task_line, task_place, lock_place}
use Rattle.rt_script.specs.declared.named.Named.{Named}
use Rattle.rt_script.specs.declared.named.Named.TheVariants.{Task, Lock}
use Rattle.rt_script.specs.Adding.{empty_script, with_cpus, with_task, with_locks, with_call, with_pick}
use Rattle.rt_base.specs.Name.{is_name_byte, is_name}
use Rattle.rt_script.proofs.Tests.{left, right}
use Rattle.rt_script.proofs.ScriptParts.{no_task, no_lock, task_line_at}
use Rattle.rt_script.specs.Names.{the_task, the_lock, named}

-- ---- the index of a name

pushed_index : (n len : ℕ) (b : Bool) → n ≤ len → let at : ℕ = cond (eqb n len) (len + cond b 0 1) n in cond (ltb at (len + 1)) (Some at) None ≡ option_or (cond (ltb n len) (Some n) None) (cond b (Some len) None)
pushed_index n len true le = grind (arith, nat_tests)
pushed_index n len false le = grind (arith, nat_tests)

pub position_push : {X : Type 0} (p : X → Bool) (xs : List X) (y : X) → position p (xs ++ y ∷ []) ≡ option_or (position p xs) (cond (p y) (Some (length xs)) None)
position_push p xs y =
    let more : length (xs ++ y ∷ []) ≡ length xs + 1 = omega (arith, length-append xs (y ∷ [])) in
    rw (position_or_len_push p xs y, more) (pushed_index (position_or_len p xs) (length xs) (p y) (prefix_len-le-length (λ x. not (p x)) xs))

pub position-set : {X : Type 0} (p : X → Bool) (xs : List X) (i : ℕ) (y d : X) → p y ≡ p (get_or xs i d) → position p (set xs i y) ≡ position p xs
position-set p xs i y d e = rw (position_or_len-set p xs i y d e, length-set xs i y) refl

twice : (a : Option ℕ) (b : Bool) (n m : ℕ) → option_or (option_or a (cond b (Some n) None)) (cond b (Some m) None) ≡ option_or a (cond b (Some n) None)
twice (Some i) b n m = refl
twice None true n m = refl
twice None false n m = refl

-- elements after the others, all of which pass, or don't
position_append : {X : Type 0} (p : X → Bool) (b : Bool) (xs : List X) (y : X) (ys : List X) → p y ≡ b → All (λ z. p z ≡ b) ys → position p (xs ++ y ∷ ys) ≡ option_or (position p xs) (cond b (Some (length xs)) None)
position_append p b xs y [] e all = rw (position_push p xs y, e) refl
position_append p b xs y (z ∷ zs) e all =
    let first : p z ≡ b = all 0 z (omega arith) in
    let others : All (λ z. p z ≡ b) zs = All-tail (λ z. p z ≡ b) z zs all in
    let front : position p (xs ++ y ∷ []) ≡ option_or (position p xs) (cond b (Some (length xs)) None) = rw (position_push p xs y, e) refl in
    let whole : position p ((xs ++ y ∷ []) ++ z ∷ zs) ≡ option_or (position p (xs ++ y ∷ [])) (cond b (Some (length (xs ++ y ∷ []))) None) = position_append p b (xs ++ y ∷ []) z zs first others in
    let same : (xs ++ y ∷ []) ++ z ∷ zs ≡ xs ++ y ∷ z ∷ zs = append_assoc xs (y ∷ []) (z ∷ zs) in
    ap (position p) (sym same) ∙ whole ∙ ap (λ (o : Option ℕ). option_or o (cond b (Some (length (xs ++ y ∷ []))) None)) front ∙ twice (position p xs) b (length xs) (length (xs ++ y ∷ []))

-- ---- names of a script

pub named-nothing : (name : List ℕ) → named empty_script name ≡ None
unfolding named
named-nothing name = refl

-- what stands for a name that is among the tasks or among the locks
abbrev pub either : Option ℕ → Option ℕ → Option Named
either task lock = option_or (option_map the_task task) (option_map the_lock lock)

added_task : (a b : Option ℕ) (n : ℕ) (e : Bool) → (e ≡ true → either a b ≡ None) → either (option_or a (cond e (Some n) None)) b ≡ cond e (Some (the_task n)) (either a b)
added_task (Some i) b n true h = let k = h refl in absurd cc
added_task (Some i) b n false h = refl
added_task None b n true h = refl
added_task None b n false h = refl

added_lock : (a b : Option ℕ) (n : ℕ) (e : Bool) → (e ≡ true → either a b ≡ None) → either a (option_or b (cond e (Some n) None)) ≡ cond e (Some (the_lock n)) (either a b)
added_lock (Some i) b n true h = let k = h refl in absurd cc
added_lock (Some i) b n false h = refl
added_lock None (Some j) n true h = let k = h refl in absurd cc
added_lock None (Some j) n false h = refl
added_lock None None n true h = refl
added_lock None None n false h = refl

pub same_test : (a b : List ℕ) → bytes_eq a b ≡ bytes_eq b a
same_test a b = grind (arith, bytes_eq-Decides a b, bytes_eq-Decides b a)

pub named-with_task : (s : Script) (line : TaskLine) → named s line.name ≡ None → (name : List ℕ) → named (with_task s line) name ≡ update bytes_eq (named s) line.name (Some (the_task (length s.tasks))) name
unfolding named
named-with_task s line new name =
    let tasks : TaskLine → Bool = λ t. bytes_eq name t.name in
    let locks : LockLine → Bool = λ l. bytes_eq name l.name in
    let free : bytes_eq name line.name ≡ true → named s name ≡ None = λ e. rw ((bytes_eq-Decides name line.name).0 e) new in
    rw (position_push tasks s.tasks line, same_test line.name name) (added_task (position tasks s.tasks) (position locks s.locks) (length s.tasks) (bytes_eq name line.name) free)

pub locks_found : (p : LockLine → Bool) (b : Bool) (xs ys : List LockLine) → All (λ y. p y ≡ b) ys → 1 ≤ length ys → position p (xs ++ ys) ≡ option_or (position p xs) (cond b (Some (length xs)) None)
locks_found p b xs [] all some = absurd (omega arith)
locks_found p b xs (y ∷ ys) all some = position_append p b xs y ys (all 0 y (omega arith)) (All-tail (λ y. p y ≡ b) y ys all)

pub named-with_locks : (s : Script) (lines : List LockLine) (key : List ℕ) → All (λ (line : LockLine). line.name ≡ key) lines → 1 ≤ length lines → named s key ≡ None → (name : List ℕ) → named (with_locks s lines) name ≡ update bytes_eq (named s) key (Some (the_lock (length s.locks))) name
unfolding named
named-with_locks s lines key names some new name =
    let tasks : TaskLine → Bool = λ t. bytes_eq name t.name in
    let locks : LockLine → Bool = λ l. bytes_eq name l.name in
    let free : bytes_eq name key ≡ true → named s name ≡ None = λ e. rw ((bytes_eq-Decides name key).0 e) new in
    let all : All (λ l. locks l ≡ bytes_eq name key) lines = λ i d in'. ap (bytes_eq name) (names i d in') in
    rw (locks_found locks (bytes_eq name key) s.locks lines all some, same_test key name) (added_lock (position tasks s.tasks) (position locks s.locks) (length s.locks) (bytes_eq name key) free)

pub named-with_cpus : (s : Script) (n : ℕ) (name : List ℕ) → named (with_cpus s n) name ≡ named s name
unfolding named
named-with_cpus s n name = refl

pub named-with_call : (s : Script) (t : TaskId) (call : Call) (name : List ℕ) → named (with_call s t call) name ≡ named s name
unfolding named
named-with_call s t call name =
    let test : TaskLine → Bool = λ line. bytes_eq name line.name in
    let line : TaskLine = task_line s t in
    let same : test line ≡ test (get_or s.tasks t.0 no_task) = ap test (task_line_at s t) in
    ap (λ (place : Option ℕ). either place (position (λ (l : LockLine). bytes_eq name l.name) s.locks)) (position-set test s.tasks t.0 (record line { calls = line.calls ++ call ∷ [] }) no_task same)

pub named-with_pick : (s : Script) (t : TaskId) (name : List ℕ) → named (with_pick s t) name ≡ named s name
unfolding named
named-with_pick s t name = refl

task_is : (a b : Option ℕ) (t : TaskId) → either a b ≡ Some (Task t) → a ≡ Some t.0
task_is (Some i) b t e =
    let same : record { 0 = i } ≡ t = cc in
    ap (λ (u : TaskId). Some u.0) same
task_is None (Some j) t e = absurd cc
task_is None None t e = absurd cc

lock_is : (a b : Option ℕ) (l : LockId) → either a b ≡ Some (Lock l) → b ≡ Some l.0
lock_is (Some i) b l e = absurd cc
lock_is None (Some j) l e =
    let same : record { 0 = j } ≡ l = cc in
    ap (λ (u : LockId). Some u.0) same
lock_is None None l e = absurd cc

pub named_task_within : (s : Script) (name : List ℕ) (t : TaskId) → named s name ≡ Some (Task t) → t.0 < length s.tasks
unfolding named
named_task_within s name t e =
    let tasks : TaskLine → Bool = λ t. bytes_eq name t.name in
    let locks : LockLine → Bool = λ l. bytes_eq name l.name in
    (position-Some tasks s.tasks t.0 no_task (task_is (position tasks s.tasks) (position locks s.locks) t e)).0

pub named_lock_within : (s : Script) (name : List ℕ) (l : LockId) → named s name ≡ Some (Lock l) → l.0 < length s.locks
unfolding named
named_lock_within s name l e =
    let tasks : TaskLine → Bool = λ t. bytes_eq name t.name in
    let locks : LockLine → Bool = λ l. bytes_eq name l.name in
    (position-Some locks s.locks l.0 no_lock (lock_is (position tasks s.tasks) (position locks s.locks) l e)).0

none_of : (a b : Option ℕ) → either a b ≡ None → (a ≡ None) × (b ≡ None)
none_of (Some i) b e = absurd cc
none_of None (Some j) e = absurd cc
none_of None None e = (refl, refl)

-- a name that stands for nothing is no task's, and no lock's
pub no_index : (s : Script) (name : List ℕ) → named s name ≡ None → (task_place s name ≡ None) × (lock_place s name ≡ None)
unfolding named
no_index s name e = none_of (task_place s name) (lock_place s name) e

pub task_index_of : (s : Script) (name : List ℕ) (t : TaskId) → named s name ≡ Some (Task t) → task_place s name ≡ Some t.0
unfolding named
task_index_of s name t e = task_is (task_place s name) (lock_place s name) t e

pub lock_index_of : (s : Script) (name : List ℕ) (l : LockId) → named s name ≡ Some (Lock l) → lock_place s name ≡ Some l.0
unfolding named
lock_index_of s name l e = lock_is (task_place s name) (lock_place s name) l e

-- ---- a map whose keys are texts has no other

no_key : {Y : Type 0} (bytes : List ℕ) (k : String Y) → ¬ (IsUtf8 bytes) → bytes_eq bytes (string_bytes k) ≡ false
no_key bytes k other = false_from_ne_true _ (λ e. other (subst IsUtf8 (sym ((bytes_eq-Decides bytes (string_bytes k)).0 e)) (IsUtf8-string_bytes k)))

no_entry : {X Y : Type 0} (bytes : List ℕ) (es : List (String Y × X)) → ¬ (IsUtf8 bytes) → lookup (λ k. bytes_eq bytes (string_bytes k)) es ≡ None
no_entry bytes [] other = refl
no_entry bytes (e ∷ es) other = rw (no_key bytes e.0 other) (no_entry bytes es other)

pub not_a_key : {X Y S : Type 0} (m : HashMap (String Y) X S) (bytes : List ℕ) → ¬ (IsUtf8 bytes) → get_by_text m bytes ≡ None
not_a_key m bytes other = no_entry bytes m.entries other

-- ---- a map of names and its script

pub names-with_task : {Y S : Type 0} (old new : HashMap (String Y) Named S) (s : Script) (line : TaskLine) (key : List ℕ) (id : TaskId) → ((name : List ℕ) → get_by_text old name ≡ named s name)
    → ((name : List ℕ) → get_by_text new name ≡ update bytes_eq (get_by_text old) key (Some (Task id)) name) → key ≡ line.name → id.0 ≡ length s.tasks → named s line.name ≡ None
    → (name : List ℕ) → get_by_text new name ≡ named (with_task s line) name
names-with_task old new s line key id before after key-is id-is free name =
    let same : id ≡ record { 0 = length s.tasks } = ap (λ (i : ℕ). record { 0 = i }) id-is in
    after name ∙ rw (key-is, same, before name) (sym (named-with_task s line free name))

pub names-with_locks : {Y S : Type 0} (old new : HashMap (String Y) Named S) (s : Script) (lines : List LockLine) (key : List ℕ) (id : LockId) → ((name : List ℕ) → get_by_text old name ≡ named s name)
    → ((name : List ℕ) → get_by_text new name ≡ update bytes_eq (get_by_text old) key (Some (Lock id)) name) → All (λ (line : LockLine). line.name ≡ key) lines → 1 ≤ length lines → id.0 ≡ length s.locks → named s key ≡ None
    → (name : List ℕ) → get_by_text new name ≡ named (with_locks s lines) name
names-with_locks old new s lines key id before after names some id-is free name =
    let same : id ≡ record { 0 = length s.locks } = ap (λ (i : ℕ). record { 0 = i }) id-is in
    after name ∙ rw (same, before name) (sym (named-with_locks s lines key names some free name))

-- ---- a name is text

name_byte_fits : (b : ℕ) → is_name_byte b ≡ true → b < 128
name_byte_fits b e = grind (arith, nat_tests)

name_bytes_fit : (bs : List ℕ) → list_all is_name_byte bs ≡ true → IsAscii bs
name_bytes_fit [] e i = omega arith
name_bytes_fit (b ∷ bs) e zero = name_byte_fits b (left _ _ e)
name_bytes_fit (b ∷ bs) e (suc i) = name_bytes_fit bs (right _ _ e) i

pub IsUtf8-from_name : (word : List ℕ) → is_name word ≡ true → IsUtf8 word
IsUtf8-from_name word e = IsUtf8-from_ascii word (name_bytes_fit word (right _ _ e))
