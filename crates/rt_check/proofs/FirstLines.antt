-- A text's first line, by the index of its first line feed.
use Rattle.std.proofs.Common.{◌≡◌, ℕ, suc, ◌+◌, Bool, true, false, cond, not, ltb, List, [], ◌∷◌, length, take, Option, Some, None, refl, sym, ap, ◌∙◌, arith}
use Rattle.std.specs.Prelude.{position, option_map, ◌==◌}
use Rattle.std.specs.List.{position_or_len}
use Rattle.std.proofs.lemmas.Bool.Decides.{nat_tests}
use Rattle.rt_check.specs.Place.{first_line}

counted : (b : Bool) (n len : ℕ) → cond (ltb (cond (not b) (1 + n) 0) (suc len)) (Some (cond (not b) (1 + n) 0)) None ≡ cond b (Some 0) (option_map suc (cond (ltb n len) (Some n) None))
counted true n len = grind (arith, nat_tests)
counted false n len = grind (arith, nat_tests)

position-cons : {X : Type 0} (p : X → Bool) (x : X) (xs : List X) → position p (x ∷ xs) ≡ cond (p x) (Some 0) (option_map suc (position p xs))
position-cons p x xs = counted (p x) (position_or_len p xs) (length xs)

is_suc : (o : Option ℕ) (k : ℕ) → option_map suc o ≡ Some k → (m : ℕ) × (o ≡ Some m) × (k ≡ suc m)
is_suc None k e = absurd cc
is_suc (Some m) k e = let same : suc m ≡ k = cc in (m, refl, sym same)

is_none : (o : Option ℕ) → option_map suc o ≡ None → o ≡ None
is_none None e = refl
is_none (Some m) e = absurd cc

there : (b : ℕ) (bs : List ℕ) (i : ℕ) (x : Bool) → (b == 10) ≡ x → cond x (Some 0) (option_map suc (position (λ b. b == 10) bs)) ≡ Some i → ((k : ℕ) → position (λ b. b == 10) bs ≡ Some k → first_line bs ≡ take (suc k) bs) → first_line (b ∷ bs) ≡ take (suc i) (b ∷ bs)
there b bs i true is e ih = let zero_is : 0 ≡ i = cc in rw (is, ← zero_is) refl
there b bs i false is e ih = let at = is_suc (position (λ b. b == 10) bs) i e in rw (is, at.2) (ap (λ l. b ∷ l) (ih at.0 at.1))

-- it goes to the first line feed
pub first_there : (text : List ℕ) (i : ℕ) → position (λ b. b == 10) text ≡ Some i → first_line text ≡ take (suc i) text
first_there [] i e = absurd cc
first_there (b ∷ bs) i e = there b bs i (b == 10) refl (sym (position-cons (λ b. b == 10) b bs) ∙ e) (first_there bs)

whole : (b : ℕ) (bs : List ℕ) (x : Bool) → (b == 10) ≡ x → cond x (Some 0) (option_map suc (position (λ b. b == 10) bs)) ≡ None → (position (λ b. b == 10) bs ≡ None → first_line bs ≡ bs) → first_line (b ∷ bs) ≡ b ∷ bs
whole b bs true is e ih = absurd cc
whole b bs false is e ih = rw is (ap (λ l. b ∷ l) (ih (is_none (position (λ b. b == 10) bs) e)))

-- where there is none, it is the whole text
pub first_whole : (text : List ℕ) → position (λ b. b == 10) text ≡ None → first_line text ≡ text
first_whole [] e = refl
first_whole (b ∷ bs) e = whole b bs (b == 10) refl (sym (position-cons (λ b. b == 10) b bs) ∙ e) (first_whole bs)
