-- What a thread's holds count together, where one of them is written.
use Rattle.std.proofs.Common.{◌≡◌, ℕ, zero, suc, ◌+◌, ◌<◌, List, [], ◌∷◌, length, replicate, refl, sym, ap, ◌∙◌, arith, Some, unwrap_or}
use Rattle.std.specs.Prelude.{slice_get, slice_set}
use Rattle.std.proofs.lemmas.Option.{slice_get-get_or, unwrap_or-slice_get}
use Rattle.rt_base.specs.declared.kind.Kind.{Kind}
use Rattle.rt_model.specs.declared.hold.Hold.{Hold}
use Rattle.rt_model.specs.Parts.{count_holds}

-- one hold is another: what was counted for it goes, and what is counted for the other comes
pub count-set : (count : Kind → Hold → ℕ) (kinds : List Kind) (holds : List Hold) (i : ℕ) (kind : Kind) (hold left : Hold) → slice_get kinds i ≡ Some kind → slice_get holds i ≡ Some hold
    → count_holds count kinds (slice_set holds i left) + count kind hold ≡ count_holds count kinds holds + count kind left
count-set count [] holds i kind hold left is_kind is_hold = cc
count-set count (k ∷ kinds) [] i kind hold left is_kind is_hold = cc
count-set count (k ∷ kinds) (h ∷ holds) zero kind hold left is_kind is_hold =
    let same_kind : k ≡ kind = cc in
    let same_hold : h ≡ hold = cc in
    let was : count k h ≡ count kind hold = λ i. count (same_kind i) (same_hold i) in
    let is : count k left ≡ count kind left = ap (λ (x : Kind). count x left) same_kind in
    omega (arith, was, is)
count-set count (k ∷ kinds) (h ∷ holds) (suc i) kind hold left is_kind is_hold = let rest = count-set count kinds holds i kind hold left is_kind is_hold in omega (arith, rest)

-- holds that count nothing count nothing together
pub count-none : (count : Kind → Hold → ℕ) (kinds : List Kind) (n : ℕ) (hold : Hold) → ((kind : Kind) → count kind hold ≡ 0) → count_holds count kinds (replicate n hold) ≡ 0
count-none count [] n hold none = refl
count-none count (kind ∷ kinds) zero hold none = refl
count-none count (kind ∷ kinds) (suc n) hold none = omega (arith, none kind, count-none count kinds n hold none)

-- an element that is there, as it is read
pub read-some : {X : Type 0} (xs : List X) (i : ℕ) (d : X) → i < length xs → slice_get xs i ≡ Some (unwrap_or (slice_get xs i) d)
read-some xs i d lt = slice_get-get_or xs i d lt ∙ ap Some (sym (unwrap_or-slice_get xs i d))
