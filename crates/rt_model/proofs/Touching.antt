-- What an event touches, slot by slot.
use Rattle.std.proofs.lemmas.Bool.{or_parts}
use Rattle.std.proofs.lemmas.List.Folds.{list_any-append}
use Rattle.std.proofs.Common.{◌≡◌, ℕ, Bool, true, false, List, [], ◌∷◌, ◌++◌, map, refl, sym, ◌∙◌, subst, Option, Some, None, IfSome}
use Rattle.std.specs.Prelude.{nat_eq}
use Rattle.std.specs.List.{list_any}
use Rattle.rt_base.specs.declared.id.LockId.{LockId}
use Rattle.rt_base.specs.declared.id.TaskId.{TaskId}
use Rattle.rt_model.specs.declared.event.Event.{Event}
use Rattle.rt_model.specs.declared.obj.Obj.{Obj}
use Rattle.rt_model.specs.declared.obj.Obj.TheVariants as objects
use Rattle.rt_model.specs.steps.Chain.{is_on_path}
use Rattle.rt_model.specs.Effect.{Touched}
use Rattle.rt_model.specs.Rules.{touched}
use Rattle.rt_model.specs.Footprint.{same_object, owner_parts, reader_parts, tasks_of, along, objects_of, touches}
use Rattle.rt_model.proofs.Numbers.{number_itself, other_way}

-- the first doesn't pass the test, and none of the rest
record IsSplit (First : Type 0) (p : Obj → Bool) (rest : List Obj) : Type 0 where
  here : First
  others : list_any p rest ≡ false

-- so it is of two lists
parts : (p : Obj → Bool) (xs rest : List Obj) → list_any p (xs ++ rest) ≡ false → IsSplit (list_any p xs ≡ false) p rest
parts p xs rest is = let both = or_parts (list_any p xs) (list_any p rest) (sym (list_any-append p xs rest) ∙ is) in record { here = both.0; others = both.1 }

in_lock : (p : Obj → Bool) (o : Option LockId) → list_any p (owner_parts o) ≡ false → IfSome o (λ l. p (objects.OwnerPart l) ≡ false)
in_lock p None is = tt
in_lock p (Some l) is = (or_parts (p (objects.OwnerPart l)) false is).0

in_readers : (p : Obj → Bool) (o : Option LockId) → list_any p (reader_parts o) ≡ false → IfSome o (λ l. p (objects.ReaderPart l) ≡ false)
in_readers p None is = tt
in_readers p (Some l) is = (or_parts (p (objects.ReaderPart l)) false is).0

in_task : (p : Obj → Bool) (o : Option TaskId) → list_any p (tasks_of o) ≡ false → IfSome o (λ t. p (objects.Task t) ≡ false)
in_task p None is = tt
in_task p (Some t) is = (or_parts (p (objects.Task t)) false is).0

-- no slot has an object that passes the test
pub record IsApart (p : Obj → Bool) (named : Touched) : Type 0 where
  pub lock : IfSome named.lock (λ l. p (objects.OwnerPart l) ≡ false)
  pub readers : IfSome named.readers (λ l. p (objects.ReaderPart l) ≡ false)
  pub own : IfSome named.own (λ t. p (objects.Task t) ≡ false)
  pub owner : IfSome named.owner (λ t. p (objects.Task t) ≡ false)
  pub other : IfSome named.other (λ t. p (objects.Task t) ≡ false)
  pub woken : IfSome named.woken (λ t. p (objects.Task t) ≡ false)
  pub path : list_any p (along named.path) ≡ false

pub apart : (p : Obj → Bool) (named : Touched) → list_any p (objects_of named) ≡ false → IsApart p named
apart p named is =
    let lock = parts p (owner_parts named.lock) _ is in
    let readers = parts p (reader_parts named.readers) _ lock.others in
    let own = parts p (tasks_of named.own) _ readers.others in
    let owner = parts p (tasks_of named.owner) _ own.others in
    let other = parts p (tasks_of named.other) _ owner.others in
    let woken = parts p (tasks_of named.woken) _ other.others in
    record { lock = in_lock p _ lock.here; readers = in_readers p _ readers.here; own = in_task p _ own.here; owner = in_task p _ owner.here; other = in_task p _ other.here; woken = in_task p _ woken.here; path = woken.others }

pub apart-not : (e : Event) (o : Obj) → touches e o ≡ false → IsApart (same_object o) (touched e.kind e)
apart-not e o is = apart (same_object o) (touched e.kind e) (or_parts (same_object o (objects.Thread e.task)) (list_any (same_object o) (objects_of (touched e.kind e))) is).1

-- ---- what a slot names is touched

by_contra : (b : Bool) → (b ≡ false → ⊥) → b ≡ true
by_contra true never = refl
by_contra false never = absurd (never refl)

not_itself : {X : Type 0} (number : X → ℕ) (named : Option X) (x : X) → named ≡ Some x → IfSome named (λ y. nat_eq (number x) (number y) ≡ false) → ⊥
not_itself {X} number named x is none =
    let here : nat_eq (number x) (number x) ≡ false = subst (λ (o : Option X). IfSome o (λ y. nat_eq (number x) (number y) ≡ false)) is none in
    let itself = number_itself (number x) in cc

-- a task that is nothing along a path isn't on it
on_path : (u : TaskId) (path : List (ℕ × ℕ))
    → list_any (same_object (objects.Task u)) (map (λ (pair : ℕ × ℕ). objects.Task (record { 0 = pair.0 })) path) ≡ false → is_on_path u path ≡ false
on_path u [] none = refl
on_path u (pair ∷ path) none =
    let both = or_parts (nat_eq u.0 pair.0) _ none in
    let here = other_way (record { 0 = pair.0 }) u both.0 in
    let later = on_path u path both.1 in rw (here, later) refl

along-on_path : (u : TaskId) (path : List (ℕ × ℕ))
    → list_any (same_object (objects.Task u)) (along path) ≡ false → is_on_path u path ≡ false
along-on_path u [] none = refl
along-on_path u (pair ∷ path) none = on_path u (pair ∷ path) none

module _ (e : Event) where
  pub touches-thread : touches e (objects.Thread e.task) ≡ true
  touches-thread = let itself = number_itself e.task.0 in rw itself refl

  pub touches-lock : (l : LockId) → (touched e.kind e).lock ≡ Some l → touches e (objects.OwnerPart l) ≡ true
  touches-lock l is = by_contra _ (λ none. not_itself (λ (m : LockId). m.0) _ l is (apart-not e (objects.OwnerPart l) none).lock)

  pub touches-readers : (l : LockId) → (touched e.kind e).readers ≡ Some l → touches e (objects.ReaderPart l) ≡ true
  touches-readers l is = by_contra _ (λ none. not_itself (λ (m : LockId). m.0) _ l is (apart-not e (objects.ReaderPart l) none).readers)

  pub touches-own : (t : TaskId) → (touched e.kind e).own ≡ Some t → touches e (objects.Task t) ≡ true
  touches-own t is = by_contra _ (λ none. not_itself (λ (u : TaskId). u.0) _ t is (apart-not e (objects.Task t) none).own)

  pub touches-owner : (t : TaskId) → (touched e.kind e).owner ≡ Some t → touches e (objects.Task t) ≡ true
  touches-owner t is = by_contra _ (λ none. not_itself (λ (u : TaskId). u.0) _ t is (apart-not e (objects.Task t) none).owner)

  pub touches-other : (t : TaskId) → (touched e.kind e).other ≡ Some t → touches e (objects.Task t) ≡ true
  touches-other t is = by_contra _ (λ none. not_itself (λ (u : TaskId). u.0) _ t is (apart-not e (objects.Task t) none).other)

  pub touches-path : (u : TaskId) → is_on_path u (touched e.kind e).path ≡ true → touches e (objects.Task u) ≡ true
  touches-path u is = by_contra _ (λ none. let off = along-on_path u _ (apart-not e (objects.Task u) none).path in cc)
