-- Tests over the objects of a footprint: one after another along a path, and of two events together.
use Rattle.std.proofs.Common.{◌≡◌, ℕ, ◌+◌, ◌<◌, Bool, true, false, not, ◌||◌, List, [], ◌∷◌, take, get_or, refl, ap, sym, subst, ◌∙◌, Some, None}
use Rattle.std.specs.Prelude.{◌↔◌, IsTrue, slice_get}
use Rattle.std.specs.List.{list_any}
use Rattle.std.proofs.Math.Bool.{or-false}
use Rattle.std.proofs.lemmas.Bool.{eq-eqb, eqb-true}
use Rattle.std.proofs.lemmas.List.{map_more, length-map}
use Rattle.std.proofs.Math.ListN.{get_or-map}
use Rattle.std.proofs.lemmas.List.Folds.{list_any-append, list_any_at}
use Rattle.rt_model.specs.declared.obj.Obj.{Obj}
use Rattle.rt_model.specs.declared.obj.Obj.TheVariants.{OwnerPart, ReaderPart, Task, Thread}
use Rattle.rt_model.specs.Footprint.{same_object, along}
use Rattle.rt_events.specs.Touched.{path_tasks}
use Rattle.rt_events.proofs.Paths.{at_place}

-- ---- along a path

abbrev task_of : ℕ × ℕ → Obj
task_of link = Task (record { 0 = link.0 })

-- one task more
pub tasks_more : (passes : Obj → Bool) (path : List (ℕ × ℕ)) (i : ℕ) (link : ℕ × ℕ) → slice_get path i ≡ Some link
    → list_any passes (path_tasks (take (i + 1) path)) ≡ (list_any passes (path_tasks (take i path)) || passes (Task (record { 0 = link.0 })))
tasks_more passes path i link is =
    let at = at_place path i link is in
    ap (list_any passes) (map_more task_of path i link at.lt)
    ∙ (list_any-append passes (path_tasks (take i path)) (task_of (get_or path i link) ∷ [])
    ∙ (ap (λ (b : Bool). list_any passes (path_tasks (take i path)) || b) (or-false (passes (task_of (get_or path i link))))
    ∙ ap (λ (l : ℕ × ℕ). list_any passes (path_tasks (take i path)) || passes (task_of l)) at.same))

-- one task settles the answer
pub task_passes : (passes : Obj → Bool) (path : List (ℕ × ℕ)) (i : ℕ) (link : ℕ × ℕ) → slice_get path i ≡ Some link
    → passes (Task (record { 0 = link.0 })) ≡ true → list_any passes (path_tasks path) ≡ true
task_passes passes path i link is passing =
    let at = at_place path i link is in
    list_any_at passes (path_tasks path) i (task_of link) (subst (λ (n : ℕ). i < n) (sym (length-map path task_of)) at.lt)
    (ap passes (get_or-map task_of path i link) ∙ (ap (λ (l : ℕ × ℕ). passes (task_of l)) at.same ∙ passing))

pub neither : (a b : Bool) → a ≡ false → b ≡ false → (a || b) ≡ false
neither false b first second = second
neither true b first second = absurd cc

-- the first lock, and then the tasks
pub along_first : (passes : Obj → Bool) (path : List (ℕ × ℕ)) (link : ℕ × ℕ) → slice_get path 0 ≡ Some link
    → list_any passes (along path) ≡ (passes (OwnerPart (record { 0 = link.1 })) || list_any passes (path_tasks path))
along_first passes [] link is = let none : None ≡ Some link = is in absurd cc
along_first passes (first ∷ links) link is =
    ap (λ (l : ℕ × ℕ). passes (OwnerPart (record { 0 = l.1 })) || list_any passes (path_tasks (first ∷ links))) (at_place (first ∷ links) 0 link is).same

-- ---- two events

-- an object is itself, and only what is one with it is the same
same_object-refl : (o : Obj) → same_object o o ≡ true
same_object-refl (OwnerPart l) = eq-eqb l.0 l.0 refl
same_object-refl (ReaderPart l) = eq-eqb l.0 l.0 refl
same_object-refl (Task t) = eq-eqb t.0 t.0 refl
same_object-refl (Thread t) = eq-eqb t.0 t.0 refl

same_object-same : (o p : Obj) → same_object o p ≡ true → o ≡ p
same_object-same (OwnerPart l) (OwnerPart m) is = λ i. OwnerPart (record { 0 = eqb-true l.0 m.0 is i })
same_object-same (ReaderPart l) (ReaderPart m) is = λ i. ReaderPart (record { 0 = eqb-true l.0 m.0 is i })
same_object-same (Task t) (Task u) is = λ i. Task (record { 0 = eqb-true t.0 u.0 is i })
same_object-same (Thread t) (Thread u) is = λ i. Thread (record { 0 = eqb-true t.0 u.0 is i })
same_object-same _ _ is = cc

both_false : (a b : Bool) → (a || b) ≡ false → (a ≡ false) × (b ≡ false)
both_false false b is = (refl, is)
both_false true b is = absurd cc

-- what is in the list fails, where none of it passes
apart : (passes : Obj → Bool) (xs : List Obj) → list_any passes xs ≡ false → (o : Obj) → list_any (same_object o) xs ≡ true → passes o ≡ false
apart passes [] none o there = absurd cc
apart passes (x ∷ xs) none o there = by_test (same_object o x) refl there (apart passes xs (both_false (passes x) (list_any passes xs) none).1 o)
  where
    by_test : (b : Bool) → same_object o x ≡ b → (b || list_any (same_object o) xs) ≡ true → (list_any (same_object o) xs ≡ true → passes o ≡ false) → passes o ≡ false
    by_test true same there behind = ap passes (same_object-same o x same) ∙ (both_false (passes x) (list_any passes xs) none).0
    by_test false other there behind = behind there

or_true : (a b : Bool) → b ≡ true → (a || b) ≡ true
or_true false b is = is
or_true true b is = refl

none_passes : (passes : Obj → Bool) (xs : List Obj) → ((o : Obj) → list_any (same_object o) xs ≡ true → passes o ≡ false) → list_any passes xs ≡ false
none_passes passes [] fails = refl
none_passes passes (x ∷ xs) fails =
    let first : passes x ≡ false = fails x (ap (λ (b : Bool). b || list_any (same_object x) xs) (same_object-refl x)) in
    ap (λ (b : Bool). b || list_any passes xs) first ∙ none_passes passes xs (λ o there. fails o (or_true (same_object o x) (list_any (same_object o) xs) there))

-- whether nothing in the list passes, told by each object that is in it
pub no_object : (passes : Obj → Bool) (xs : List Obj) (meets : Bool) → meets ≡ list_any passes xs
    → IsTrue (not meets) ↔ ((o : Obj) → list_any (same_object o) xs ≡ true → passes o ≡ false)
no_object passes xs true is = ((λ no. absurd cc), (λ fails. absurd (let none = none_passes passes xs fails in cc)))
no_object passes xs false is = ((λ yes. apart passes xs (sym is)), (λ fails. refl))
