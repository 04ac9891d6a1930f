-- How long a name is.
use Rattle.std.proofs.Common.{◌≡◌, ℕ, ◌≤◌, Bool, true, false, ◌&&◌, List, length, ltb, leb, refl, arith}
use Rattle.std.proofs.lemmas.Bool.{ltb-true, leb-true}
use Rattle.rt_base.specs.declared.limits.TheConstants.{MAX_NAME}
use Rattle.rt_base.specs.Name.{is_name}

first : (a b : Bool) → (a && b) ≡ true → a ≡ true
first true b e = refl
first false b e = absurd cc

second : (a b : Bool) → (a && b) ≡ true → b ≡ true
second true b e = e
second false b e = absurd cc

pub name_length : (name : List ℕ) → is_name name ≡ true → (1 ≤ length name) × (length name ≤ MAX_NAME)
name_length name is =
    let lengths : (ltb 0 (length name) && leb (length name) MAX_NAME) ≡ true = first _ _ (first _ _ is) in
    (omega (arith, ltb-true 0 (length name) (first _ _ lengths)), leb-true (length name) MAX_NAME (second _ _ lengths))
