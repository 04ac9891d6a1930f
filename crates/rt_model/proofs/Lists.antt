-- Elements of lists and options, one of a list changed.
use Rattle.std.proofs.Common.{unwrap_or, ◌++◌, take, drop, get_or, ◌≡◌, ◌≢◌, ◌∙◌, ℕ, zero, suc, ◌<◌, List, [], ◌∷◌, length, map, refl, sym, ap, subst, arith, Option, Some, None, All, IfSome, replicate}
use Rattle.std.specs.Prelude.{slice_get, slice_set}
use Rattle.std.proofs.lemmas.List.Elements.{All-head, All-tail, All-cons, All-nil}
use Rattle.std.proofs.lemmas.List.{append-nil, drop_all, take_all}
use Rattle.rt_base.specs.declared.id.LockId.{LockId}
use Rattle.rt_base.specs.declared.id.TaskId.{TaskId}
use Rattle.rt_model.specs.StateAfter.{update, at_lock, at_task}

-- ---- reading

-- what holds of each element holds of the one at i
pub All-at : {X : Type 0} (P : X → Type 0) (xs : List X) (i : ℕ) (x : X) → All P xs → slice_get xs i ≡ Some x → P x
All-at P [] i x all is = cc
All-at P (y ∷ xs) zero x all is = let here : y ≡ x = cc in subst P here (All-head P y xs all)
All-at P (y ∷ xs) (suc i) x all is = All-at P xs i x (All-tail P y xs all) is

-- what holds of each element holds of the one at i, whatever stands for one that is missing
pub All-default : {X : Type 0} (P : X → Type 0) (xs : List X) (i : ℕ) (d : X) → All P xs → i < length xs → P (unwrap_or (slice_get xs i) d)
All-default P [] i d all lt = absurd (omega arith)
All-default P (x ∷ xs) zero d all lt = All-head P x xs all
All-default P (x ∷ xs) (suc i) d all lt = All-default P xs i d (All-tail P x xs all) (omega arith)

-- and where the default has it, too, of the one at any i
pub All-read : {X : Type 0} (P : X → Type 0) (xs : List X) (i : ℕ) (d : X) → All P xs → P d → P (unwrap_or (slice_get xs i) d)
All-read P [] i d all default = default
All-read P (x ∷ xs) zero d all default = All-head P x xs all
All-read P (x ∷ xs) (suc i) d all default = All-read P xs i d (All-tail P x xs all) default

-- an element that was read, as the list has it
pub slice_get-index : {X : Type 0} (xs : List X) (i : ℕ) (x : X) → i < length xs → x ≡ get_or xs i x → slice_get xs i ≡ Some x
slice_get-index [] i x lt is = absurd (omega arith)
slice_get-index (y ∷ xs) zero x lt is = ap Some (sym is)
slice_get-index (y ∷ xs) (suc i) x lt is = slice_get-index xs i x (omega arith) is

-- what follows of the value in a `Some`
pub if_some : {X : Type 0} (o : Option X) (P Q : X → Type 0) → ((x : X) → o ≡ Some x → P x → Q x) → IfSome o P → IfSome o Q
if_some None P Q then is = tt
if_some (Some x) P Q then is = then x refl is

pub if_found : {X : Type 0} (o : Option X) (P : X → Type 0) → ((x : X) → o ≡ Some x → P x) → IfSome o P
if_found None P holds = tt
if_found (Some x) P holds = holds x refl

-- ---- one element updated

-- an update, as a write of what f makes of the element
pub update-index : {X : Type 0} (xs : List X) (i : ℕ) (x : X) (f : X → X) → i < length xs → update xs i f ≡ slice_set xs i (f (get_or xs i x))
update-index [] i x f lt = absurd (omega arith)
update-index (y ∷ xs) zero x f lt = refl
update-index (y ∷ xs) (suc i) x f lt = ap (λ zs. y ∷ zs) (update-index xs i x f (omega arith))

-- an update changes no other element
pub update-other : {X : Type 0} (xs : List X) (i j : ℕ) (f : X → X) → i ≢ j → slice_get (update xs i f) j ≡ slice_get xs j
update-other [] i j f ne = refl
update-other (x ∷ xs) zero zero f ne = absurd (ne refl)
update-other (x ∷ xs) zero (suc j) f ne = refl
update-other (x ∷ xs) (suc i) zero f ne = refl
update-other (x ∷ xs) (suc i) (suc j) f ne = update-other xs i j f (λ same. ne (ap suc same))

-- an update that changes nothing
pub update-none : {X : Type 0} (xs : List X) (i : ℕ) (f : X → X) → ((x : X) → f x ≡ x) → update xs i f ≡ xs
update-none [] i f same = refl
update-none (x ∷ xs) zero f same = ap (λ y. y ∷ xs) (same x)
update-none (x ∷ xs) (suc i) f same = ap (λ ys. x ∷ ys) (update-none xs i f same)

pub length-update : {X : Type 0} (xs : List X) (i : ℕ) (f : X → X) → length (update xs i f) ≡ length xs
length-update [] i f = refl
length-update (x ∷ xs) zero f = refl
length-update (x ∷ xs) (suc i) f = ap suc (length-update xs i f)

-- what f keeps of an element, an update keeps of each
pub map-update : {X Y : Type 0} (g : X → Y) (xs : List X) (i : ℕ) (f : X → X) → ((x : X) → g (f x) ≡ g x) → map g (update xs i f) ≡ map g xs
map-update g [] i f keeps = refl
map-update g (x ∷ xs) zero f keeps = ap (λ y. y ∷ map g xs) (keeps x)
map-update g (x ∷ xs) (suc i) f keeps = ap (λ ys. g x ∷ ys) (map-update g xs i f keeps)

pub All-update : {X : Type 0} (P : X → Type 0) (xs : List X) (i : ℕ) (f : X → X) → ((x : X) → P x → P (f x)) → All P xs → All P (update xs i f)
All-update P [] i f keeps all = all
All-update P (x ∷ xs) zero f keeps all = All-cons P (f x) xs (keeps x (All-head P x xs all)) (All-tail P x xs all)
All-update P (x ∷ xs) (suc i) f keeps all = All-cons P x (update xs i f) (All-head P x xs all) (All-update P xs i f keeps (All-tail P x xs all))

-- ---- the same at a lock or a task that may not be named

pub length-at_lock : {X : Type 0} (xs : List X) (l : Option LockId) (f : X → X) → length (at_lock xs l f) ≡ length xs
length-at_lock xs None f = refl
length-at_lock xs (Some l) f = length-update xs l.0 f

pub length-at_task : {X : Type 0} (xs : List X) (t : Option TaskId) (f : X → X) → length (at_task xs t f) ≡ length xs
length-at_task xs None f = refl
length-at_task xs (Some t) f = length-update xs t.0 f

pub map-at_lock : {X Y : Type 0} (g : X → Y) (xs : List X) (l : Option LockId) (f : X → X) → ((x : X) → g (f x) ≡ g x) → map g (at_lock xs l f) ≡ map g xs
map-at_lock g xs None f keeps = refl
map-at_lock g xs (Some l) f keeps = map-update g xs l.0 f keeps

pub All-at_lock : {X : Type 0} (P : X → Type 0) (xs : List X) (l : Option LockId) (f : X → X) → ((x : X) → P x → P (f x)) → All P xs → All P (at_lock xs l f)
All-at_lock P xs None f keeps all = all
All-at_lock P xs (Some l) f keeps all = All-update P xs l.0 f keeps all

pub All-at_task : {X : Type 0} (P : X → Type 0) (xs : List X) (t : Option TaskId) (f : X → X) → ((x : X) → P x → P (f x)) → All P xs → All P (at_task xs t f)
All-at_task P xs None f keeps all = all
All-at_task P xs (Some t) f keeps all = All-update P xs t.0 f keeps all

pub at_lock-none : {X : Type 0} (xs : List X) (l : Option LockId) (f : X → X) → ((x : X) → f x ≡ x) → at_lock xs l f ≡ xs
at_lock-none xs None f same = refl
at_lock-none xs (Some l) f same = update-none xs l.0 f same

pub at_task-none : {X : Type 0} (xs : List X) (t : Option TaskId) (f : X → X) → ((x : X) → f x ≡ x) → at_task xs t f ≡ xs
at_task-none xs None f same = refl
at_task-none xs (Some t) f same = update-none xs t.0 f same

-- an update at a lock that is named
pub at_lock-some : {X : Type 0} (xs : List X) (o : Option LockId) (l : LockId) (f : X → X) → o ≡ Some l → at_lock xs o f ≡ update xs l.0 f
at_lock-some xs o l f is = ap (λ (p : Option LockId). at_lock xs p f) is

-- an update at a task that is named, as a write
pub at_task-index : {X : Type 0} (xs : List X) (o : Option TaskId) (t : TaskId) (x : X) (f : X → X) → o ≡ Some t → t.0 < length xs → slice_set xs t.0 (f (get_or xs t.0 x)) ≡ at_task xs o f
at_task-index xs o t x f is lt = sym (ap (λ (p : Option TaskId). at_task xs p f) is ∙ update-index xs t.0 x f lt)

-- ---- lists that are made, and lent

-- one more element of a prefix, seen by f
pub map-take-more : {X Y : Type 0} (f : X → Y) (xs : List X) (i : ℕ) (d : X) → i < length xs → map f (take (suc i) xs) ≡ map f (take i xs) ++ f (unwrap_or (slice_get xs i) d) ∷ []
map-take-more f [] i d lt = absurd (omega arith)
map-take-more f (x ∷ xs) zero d lt = refl
map-take-more f (x ∷ xs) (suc i) d lt = ap (λ ys. f x ∷ ys) (map-take-more f xs i d (omega arith))

pub map-map : {X Y Z : Type 0} (g : Y → Z) (f : X → Y) (xs : List X) → map g (map f xs) ≡ map (λ x. g (f x)) xs
map-map g f [] = refl
map-map g f (x ∷ xs) = ap (λ ys. g (f x) ∷ ys) (map-map g f xs)

-- an element that is there, seen by f
pub read-map : {X Y : Type 0} (f : X → Y) (xs : List X) (i : ℕ) (d : X) (e : Y) → i < length xs → unwrap_or (slice_get (map f xs) i) e ≡ f (unwrap_or (slice_get xs i) d)
read-map f [] i d e lt = absurd (omega arith)
read-map f (x ∷ xs) zero d e lt = refl
read-map f (x ∷ xs) (suc i) d e lt = read-map f xs i d e (omega arith)

-- what holds of each of two facts holds of both
pub All-both : {X : Type 0} (P Q R : X → Type 0) → ((x : X) → P x → Q x → R x) → (xs : List X) → All P xs → All Q xs → All R xs
All-both P Q R both [] p q = All-nil R
All-both P Q R both (x ∷ xs) p q = All-cons R x xs (both x (All-head P x xs p) (All-head Q x xs q)) (All-both P Q R both xs (All-tail P x xs p) (All-tail Q x xs q))

-- what holds of each made element
pub All-made : {X Y : Type 0} (P : Y → Type 0) (f : X → Y) → ((x : X) → P (f x)) → (xs : List X) → All P (map f xs)
All-made P f holds [] = All-nil P
All-made P f holds (x ∷ xs) = All-cons P (f x) (map f xs) (holds x) (All-made P f holds xs)

pub read-replicate : {X : Type 0} (n i : ℕ) (x : X) → unwrap_or (slice_get (replicate n x) i) x ≡ x
read-replicate zero i x = refl
read-replicate (suc n) zero x = refl
read-replicate (suc n) (suc i) x = read-replicate n i x

-- the whole of a list was lent and comes back
pub lent_whole : {X : Type 0} (n : ℕ) (new old : List X) → length new ≡ n → length old ≡ n → take n (new ++ drop (length new) old) ≡ new
lent_whole n new old long was =
    let none : drop (length new) old ≡ [] = drop_all (length new) old (omega arith) in
    rw none (rw append-nil (take_all n new (omega arith)))
