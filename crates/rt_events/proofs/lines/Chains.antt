-- Steps of reading words: what was read when something was, and what is read of what was written.
use Rattle.std.proofs.Common.{◌≡◌, ℕ, Bool, true, false, cond, List, [], ◌∷◌, Option, Some, None, refl, ap, subst}
use Rattle.std.specs.Prelude.{bytes_eq}
use Rattle.std.proofs.lemmas.Slice.Eq.{bytes_eq-Decides}
use Rattle.rt_script.specs.Words.{◌>>=◌, only_if}
use Rattle.rt_events.specs.reading.Operands.{at_end, first}

-- a step gave something
pub after : {A B : Type 0} (o : Option A) (f : A → Option B) (b : B) → (o >>= f) ≡ Some b → (a : A) × (o ≡ Some a) × (f a ≡ Some b)
after None f b e = absurd cc
after (Some a) f b e = (a, refl, e)

pub passed : {A : Type 0} (test : Bool) (o : Option A) (a : A) → only_if test o ≡ Some a → (test ≡ true) × (o ≡ Some a)
passed true o a e = (refl, e)
passed false o a e = absurd cc

pub is_word_read : (a b : List ℕ) → bytes_eq a b ≡ true → a ≡ b
is_word_read a b e = (bytes_eq-Decides a b).0 e

pub same_word : (a : List ℕ) → bytes_eq a a ≡ true
same_word a = (bytes_eq-Decides a a).1 refl

pub some_is : {A : Type 0} (a b : A) → Some a ≡ Some b → a ≡ b
some_is a b e = cc

pub ended : {A : Type 0} (a b : A) (ws : List (List ℕ)) → at_end a ws ≡ Some b → (ws ≡ []) × (a ≡ b)
ended a b [] e = (refl, cc)
ended a b (w ∷ ws) e = absurd cc

-- a word was read first, by a reader that says what its word is
pub firsts : {A B : Type 0} (read : List ℕ → Option A) (word : A → List ℕ) (Fits : A → Type 0) (rest : A → List (List ℕ) → Option B)
    → ((w : List ℕ) (a : A) → read w ≡ Some a → (word a ≡ w) × Fits a)
    → (ws : List (List ℕ)) (b : B) → first read rest ws ≡ Some b → (a : A) × (more : List (List ℕ)) × Fits a × (word a ∷ more ≡ ws) × (rest a more ≡ Some b)
firsts read word Fits rest says [] b e = absurd cc
firsts read word Fits rest says (w ∷ ws) b e =
    let step = after (read w) (λ a. rest a ws) b e in
    let is = says w step.0 step.1 in
    (step.0, ws, is.1, ap (λ w. w ∷ ws) is.0, step.2)

-- one of a chain of words
pub one_of : {A : Type 0} (P : A → Type 0) (word lit : List ℕ) (a : A) (rest : Option A) → (word ≡ lit → P a) → ((x : A) → rest ≡ Some x → P x)
    → (x : A) → cond (bytes_eq word lit) (Some a) rest ≡ Some x → P x
one_of P word lit a rest this others x e = by (bytes_eq word lit) refl e
  where
    by : (b : Bool) → bytes_eq word lit ≡ b → cond b (Some a) rest ≡ Some x → P x
    by true is e = subst P (some_is a x e) (this (is_word_read word lit is))
    by false is e = others x e

pub none_of : {A : Type 0} (P : A → Type 0) (x : A) → None ≡ Some x → P x
none_of P x e = absurd cc
