-- What names stand for in a script of which some lines are read.
use Rattle.std.proofs.Common.{◌≡◌, ℕ, suc, ◌+◌, ◌<◌, Bool, true, false, cond, not, List, [], ◌∷◌, ◌++◌, length, map, ltb, Option, Some, None, refl, sym, ap, subst, ◌∙◌, arith, length-append}
use Rattle.std.specs.Prelude.{position, bytes_eq, option_map, slice_get}
use Rattle.std.specs.List.{position_or_len}
use Rattle.std.proofs.lemmas.Bool.Decides.{nat_tests}
use Rattle.rt_base.specs.declared.id.TaskId.{TaskId}
use Rattle.rt_base.specs.declared.id.LockId.{LockId}
use Rattle.rt_base.specs.Script.{Script, TaskLine, LockLine, task_line, lock_line, task_place, lock_place, is_first_cell, HasOwnNames}
use Rattle.rt_script.specs.Names.{named, task_named, lock_named}

-- ---- indices in lists

counted : (b : Bool) (n len : ℕ) → cond (ltb (cond (not b) (1 + n) 0) (suc len)) (Some (cond (not b) (1 + n) 0)) None ≡ cond b (Some 0) (option_map suc (cond (ltb n len) (Some n) None))
counted true n len = grind (arith, nat_tests)
counted false n len = grind (arith, nat_tests)

position-cons : {X : Type 0} (p : X → Bool) (x : X) (xs : List X) → position p (x ∷ xs) ≡ cond (p x) (Some 0) (option_map suc (position p xs))
position-cons p x xs = counted (p x) (position_or_len p xs) (length xs)

not_zero : (n : ℕ) → Some 0 ≡ Some (suc n) → ⊥
not_zero n e = let k : 0 ≡ suc n = cc in omega arith

one_less : (o : Option ℕ) (n : ℕ) → option_map suc o ≡ Some (suc n) → o ≡ Some n
one_less (Some m) n e =
    let k : suc m ≡ suc n = cc in
    let l : m ≡ n = omega arith in
    ap Some l
one_less None n e = absurd cc

behind : {X : Type 0} (p : X → Bool) (y : X) (ys : List X) (x : X) (back : List X) → (position p (ys ++ x ∷ back) ≡ Some (length ys) → position p ys ≡ None)
    → (b : Bool) → p y ≡ b → cond (p y) (Some 0) (option_map suc (position p (ys ++ x ∷ back))) ≡ Some (suc (length ys)) → position p (y ∷ ys) ≡ None
behind p y ys x back ih true h f = absurd (not_zero (length ys) (rw h at f))
behind p y ys x back ih false h f =
    let g : option_map suc (position p (ys ++ x ∷ back)) ≡ Some (suc (length ys)) = rw h at f in
    let k : position p ys ≡ None = ih (one_less (position p (ys ++ x ∷ back)) (length ys) g) in
    rw (position-cons p y ys, h, k) refl

-- what is found first stands after none that would be found
pub none_before : {X : Type 0} (p : X → Bool) (front : List X) (x : X) (back : List X) → position p (front ++ x ∷ back) ≡ Some (length front) → position p front ≡ None
none_before p [] x back e = refl
none_before p (y ∷ ys) x back e = behind p y ys x back (none_before p ys x back) (p y) refl (sym (position-cons p y (ys ++ x ∷ back)) ∙ e)

pub position-map : {X Y : Type 0} (p : Y → Bool) (f : X → Y) (xs : List X) → position p (map f xs) ≡ position (λ x. p (f x)) xs
position-map p f [] = refl
position-map p f (x ∷ xs) = rw (position-cons p (f x) (map f xs), position-cons (λ y. p (f y)) x xs, position-map p f xs) refl

pub get-middle : {X : Type 0} (front : List X) (x : X) (back : List X) → slice_get (front ++ x ∷ back) (length front) ≡ Some x
get-middle [] x back = refl
get-middle (y ∷ ys) x back = get-middle ys x back

pub length-middle : {X : Type 0} (front : List X) (x : X) (back : List X) → length front < length (front ++ x ∷ back)
length-middle front x back = omega (arith, length-append front (x ∷ back))

-- ---- tasks and locks of a script

pub the_task_line : (s : Script) (front : List TaskLine) (x : TaskLine) (back : List TaskLine) → s.tasks ≡ front ++ x ∷ back → task_line s (record { 0 = length front }) ≡ x
the_task_line s front x back e = rw (e, get-middle front x back) refl

pub the_lock_line : (s : Script) (front : List LockLine) (x : LockLine) (back : List LockLine) → s.locks ≡ front ++ x ∷ back → lock_line s (record { 0 = length front }) ≡ x
the_lock_line s front x back e = rw (e, get-middle front x back) refl

pub task_index_is : (s : Script) → HasOwnNames s → (front : List TaskLine) (x : TaskLine) (back : List TaskLine) → s.tasks ≡ front ++ x ∷ back → task_place s x.name ≡ Some (length front)
task_index_is s names front x back e =
    let t : TaskId = record { 0 = length front } in
    let within : t.0 < length s.tasks = rw e (length-middle front x back) in
    subst (λ (line : TaskLine). task_place s line.name ≡ Some (length front)) (the_task_line s front x back e) (names.task t within)

pub lock_index_is : (s : Script) → HasOwnNames s → (front : List LockLine) (x : LockLine) (back : List LockLine) → s.locks ≡ front ++ x ∷ back → is_first_cell x.cell ≡ true
    → (lock_place s x.name ≡ Some (length front)) × (task_place s x.name ≡ None)
lock_index_is s names front x back e first =
    let l : LockId = record { 0 = length front } in
    let within : l.0 < length s.locks = rw e (length-middle front x back) in
    let is : lock_line s l ≡ x = the_lock_line s front x back e in
    let place : lock_place s (lock_line s l).name ≡ Some (length front) = names.lock l within (rw is first) in (
      subst (λ (line : LockLine). lock_place s line.name ≡ Some (length front)) is place,
      subst (λ (line : LockLine). task_place s line.name ≡ None) is (names.apart l within),
    )

-- ---- names in a part of a script

abbrev pub name_of : TaskLine → List ℕ
name_of t = t.name

-- the task without its calls
abbrev pub uncalled : TaskLine → TaskLine
uncalled t = record t { calls = [] }

named_none : (p : Script) (name : List ℕ) → task_place p name ≡ None → lock_place p name ≡ None → named p name ≡ None
unfolding named
named_none p name t l = rw (t, l) refl

named_task : (p : Script) (name : List ℕ) (n : ℕ) → task_place p name ≡ Some n → task_named p name ≡ Some (record { 0 = n })
unfolding named
named_task p name n t = rw t refl

named_lock : (p : Script) (name : List ℕ) (n : ℕ) → task_place p name ≡ None → lock_place p name ≡ Some n → lock_named p name ≡ Some (record { 0 = n })
unfolding named
named_lock p name n t l = rw (t, l) refl

-- an index is told by the names alone
index_by_names : (p s : Script) (name : List ℕ) → map name_of p.tasks ≡ map name_of s.tasks → task_place p name ≡ task_place s name
index_by_names p s name e = sym (position-map (bytes_eq name) name_of p.tasks) ∙ ap (position (bytes_eq name)) e ∙ position-map (bytes_eq name) name_of s.tasks

pub uncalled-names : (ts : List TaskLine) → map name_of (map uncalled ts) ≡ map name_of ts
uncalled-names [] = refl
uncalled-names (t ∷ ts) = ap (λ (names : List (List ℕ)). t.name ∷ names) (uncalled-names ts)

-- the name of the next task is new
pub task_is_new : (p s : Script) → HasOwnNames s → (front : List TaskLine) (x : TaskLine) (back : List TaskLine) → s.tasks ≡ front ++ x ∷ back → p.tasks ≡ map uncalled front → p.locks ≡ [] → named p x.name ≡ None
task_is_new p s names front x back e tasks locks =
    let place : position (λ (t : TaskLine). bytes_eq x.name t.name) (front ++ x ∷ back) ≡ Some (length front) = rw e at (task_index_is s names front x back e) in
    let before : position (λ (t : TaskLine). bytes_eq x.name t.name) front ≡ None = none_before (λ (t : TaskLine). bytes_eq x.name t.name) front x back place in
    let same : position (λ (t : TaskLine). bytes_eq x.name t.name) (map uncalled front) ≡ position (λ (t : TaskLine). bytes_eq x.name t.name) front = position-map (λ (t : TaskLine). bytes_eq x.name t.name) uncalled front in
    named_none p x.name (rw tasks (same ∙ before)) (rw locks refl)

-- the name of the next lock is new
pub lock_is_new : (p s : Script) → HasOwnNames s → (front : List LockLine) (x : LockLine) (back : List LockLine) → s.locks ≡ front ++ x ∷ back → is_first_cell x.cell ≡ true
    → map name_of p.tasks ≡ map name_of s.tasks → p.locks ≡ front → named p x.name ≡ None
lock_is_new p s names front x back e first tasks locks =
    let places = lock_index_is s names front x back e first in
    let place : position (λ (l : LockLine). bytes_eq x.name l.name) (front ++ x ∷ back) ≡ Some (length front) = rw e at places.0 in
    let before : position (λ (l : LockLine). bytes_eq x.name l.name) front ≡ None = none_before (λ (l : LockLine). bytes_eq x.name l.name) front x back place in
    named_none p x.name (index_by_names p s x.name tasks ∙ places.1) (rw locks before)

-- once all tasks and locks are read, names stand for what they stand for in the whole
pub task_is_known : (p s : Script) → HasOwnNames s → (t : TaskId) → t.0 < length s.tasks → map name_of p.tasks ≡ map name_of s.tasks → task_named p (task_line s t).name ≡ Some t
task_is_known p s names t within tasks = named_task p (task_line s t).name t.0 (index_by_names p s (task_line s t).name tasks ∙ names.task t within)

pub lock_is_known : (p s : Script) → HasOwnNames s → (l : LockId) → l.0 < length s.locks → is_first_cell (lock_line s l).cell ≡ true → map name_of p.tasks ≡ map name_of s.tasks → p.locks ≡ s.locks
    → lock_named p (lock_line s l).name ≡ Some l
lock_is_known p s names l within first tasks locks =
    named_lock p (lock_line s l).name l.0 (index_by_names p s (lock_line s l).name tasks ∙ names.apart l within) (rw locks (names.lock l within first))
