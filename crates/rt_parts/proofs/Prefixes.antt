-- The prefix of a list, seen by a function, as a loop makes it.
use Rattle.std.proofs.Common.{◌≡◌, ℕ, ◌+◌, ◌<◌, List, [], ◌∷◌, ◌++◌, length, map, take, sym, ◌∙◌, add-one, unwrap_or}
use Rattle.std.specs.Prelude.{slice_get}
use Rattle.rt_model.proofs.Lists.{map-take-more}

-- what f makes of i elements, with what it makes of the next one after them
pub prefix-more : {X Y : Type 0} (f : X → Y) (xs : List X) (i : ℕ) (d : X) (old new : List Y) (y : Y) → i < length xs → old ≡ map f (take i xs) → y ≡ f (unwrap_or (slice_get xs i) d) → new ≡ old ++ y ∷ [] → new ≡ map f (take (i + 1) xs)
prefix-more f xs i d old new y lt prefix made pushed = rw add-one (pushed ∙ ((λ k. prefix k ++ made k ∷ []) ∙ sym (map-take-more f xs i d lt)))
