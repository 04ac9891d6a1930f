-- What a path's calls do to its links.
use Rattle.std.proofs.Common.{◌≡◌, ℕ, suc, zero, ◌+◌, ◌-◌, ◌<◌, ◌≤◌, List, [], ◌∷◌, ◌++◌, length, get_or, take, drop, set, replicate, Some, slice_get, refl, ap, sym, ◌∙◌, arith}
use Rattle.std.specs.List.{zip}
use Rattle.std.proofs.lemmas.Grind.{common_steps}
use Rattle.std.proofs.lemmas.Option.{slice_get-get_or}
use Rattle.std.proofs.lemmas.List.{length-take-le, take_at, take-take, take_more_set, drop-drop, drop-set-lt, drop-replicate, get_or-take}
use Rattle.std.proofs.lemmas.Slice.Zip.{get_or-zip}
use Rattle.std.specs.Bool.{Decides}
use Rattle.std.specs.Prelude.{◌==◌, ◌&&◌, nat_eq, map}
use Rattle.std.specs.Cmp.Lexicographic.{pointwise}
use Rattle.std.proofs.lemmas.Bool.Decides.{Decides-eqb, Decides-and, Decides-like}
use Rattle.std.proofs.lemmas.Slice.Eq.{bytes_eq-Decides}
use Rattle.rt_base.specs.declared.limits.TheConstants.{MAX_LINKS}
use Rattle.rt_base.specs.Path.{padded, IsPadded}
use Rattle.rt_base.specs.PathLaws.{padded-firsts, padded-seconds, length-take_padded, length-zip_padded}

IsPadded-push_zeros : (n : ℕ) (xs : List ℕ) (x : ℕ) → IsPadded n xs → n < MAX_LINKS → drop (n + 1) (set xs n x) ≡ replicate (MAX_LINKS - (n + 1)) 0
IsPadded-push_zeros n xs x h room =
    let one_less : MAX_LINKS - n - 1 ≡ MAX_LINKS - (n + 1) = omega arith in
    drop-set-lt (n + 1) xs n x (omega arith) ∙ sym (drop-drop 1 n xs) ∙ ap (drop 1) h.zeros ∙ drop-replicate 1 (MAX_LINKS - n) 0 ∙ ap (λ m. replicate m 0) one_less

pub length_from_view : (n : ℕ) (xs ys : List ℕ) {v : List (ℕ × ℕ)} → IsPadded n xs → IsPadded n ys → zip (take n xs) (take n ys) ≡ v → length v ≡ n
length_from_view n xs ys h k e = ap length (sym e) ∙ length-zip_padded n xs ys h k

-- one more place in use
pub IsPadded-push : (n : ℕ) (xs : List ℕ) (x : ℕ) → IsPadded n xs → n < MAX_LINKS → IsPadded (n + 1) (set xs n x)
IsPadded-push n xs x h room = record { within = omega arith; places = grind (arith, common_steps); zeros = IsPadded-push_zeros n xs x h room }

-- fewer places in use
pub IsPadded-cut : (k n : ℕ) (xs : List ℕ) → IsPadded n xs → k ≤ n → IsPadded k (take k xs ++ replicate (MAX_LINKS - k) 0)
IsPadded-cut k n xs h within = record { within = omega arith; places = grind (arith, common_steps); zeros = grind (arith, common_steps) }

pub zip-push : {A B : Type 0} (xs : List A) (ys : List B) (x : A) (y : B) → length xs ≡ length ys → zip (xs ++ x ∷ []) (ys ++ y ∷ []) ≡ zip xs ys ++ (x, y) ∷ []
zip-push [] [] x y e = refl
zip-push [] (v ∷ vs) x y e = absurd (omega arith)
zip-push (u ∷ us) [] x y e = absurd (omega arith)
zip-push (u ∷ us) (v ∷ vs) x y e = ap (λ l. (u, v) ∷ l) (zip-push us vs x y (omega arith))

pub take-zip : {A B : Type 0} (n : ℕ) (xs : List A) (ys : List B) → take n (zip xs ys) ≡ zip (take n xs) (take n ys)
take-zip zero xs ys = refl
take-zip (suc n) [] ys = refl
take-zip (suc n) (x ∷ xs) [] = refl
take-zip (suc n) (x ∷ xs) (y ∷ ys) = ap (λ l. (x, y) ∷ l) (take-zip n xs ys)

pub zip_padded-push : (n : ℕ) (xs ys : List ℕ) (x y : ℕ) → IsPadded n xs → IsPadded n ys → n < MAX_LINKS → zip (take (n + 1) (set xs n x)) (take (n + 1) (set ys n y)) ≡ zip (take n xs) (take n ys) ++ (x, y) ∷ []
zip_padded-push n xs ys x y h k room =
    let first : take (n + 1) (set xs n x) ≡ take n xs ++ x ∷ [] = take_more_set xs n x (omega arith) in
    let other : take (n + 1) (set ys n y) ≡ take n ys ++ y ∷ [] = take_more_set ys n y (omega arith) in
    rw (first, other) (zip-push (take n xs) (take n ys) x y (length-take_padded n xs h ∙ sym (length-take_padded n ys k)))

pub zip_padded-cut : (k n : ℕ) (xs ys : List ℕ) → IsPadded n xs → IsPadded n ys → k ≤ n → zip (take k (take k xs ++ replicate (MAX_LINKS - k) 0)) (take k (take k ys ++ replicate (MAX_LINKS - k) 0)) ≡ take k (zip (take n xs) (take n ys))
zip_padded-cut k n xs ys hx hy within =
    let first : take k (take k xs ++ replicate (MAX_LINKS - k) 0) ≡ take k xs = take_at (take k xs) (replicate (MAX_LINKS - k) 0) k (length-take-le k xs (omega arith)) in
    let other : take k (take k ys ++ replicate (MAX_LINKS - k) 0) ≡ take k ys = take_at (take k ys) (replicate (MAX_LINKS - k) 0) k (length-take-le k ys (omega arith)) in
    rw (first, other, take-zip k (take n xs) (take n ys), take-take k n xs within, take-take k n ys within)

pub slice_get-zip_padded : (n : ℕ) (xs ys : List ℕ) (i : ℕ) → IsPadded n xs → IsPadded n ys → i < n → slice_get (zip (take n xs) (take n ys)) i ≡ Some (get_or xs i 0, get_or ys i 0)
slice_get-zip_padded n xs ys i h k below =
    let long : length (zip (take n xs) (take n ys)) ≡ n = length-zip_padded n xs ys h k in
    let first : length (take n xs) ≡ n = length-take_padded n xs h in
    let other : length (take n ys) ≡ n = length-take_padded n ys k in
    slice_get-get_or (zip (take n xs) (take n ys)) i (0, 0) (omega arith)
    ∙ ap Some (get_or-zip (take n xs) (take n ys) i (0, 0) (omega arith) (omega arith))
    ∙ rw (get_or-take n xs i 0 below, get_or-take n ys i 0 below)

-- two paths are equal in their fields exactly where they are in their links
pub same_fields-Decides : (n m : ℕ) (xs ys us vs : List ℕ) → IsPadded n xs → IsPadded n ys → IsPadded m us → IsPadded m vs → Decides ((n == m) && pointwise nat_eq xs us && pointwise nat_eq ys vs) (zip (take n xs) (take n ys) ≡ zip (take m us) (take m vs))
same_fields-Decides n m xs ys us vs hx hy hu hv =
    Decides-like _ (λ e i. zip (take (e.0.0 i) (e.0.1 i)) (take (e.0.0 i) (e.1 i)))
    (λ e. (
      (
        sym (length-zip_padded n xs ys hx hy) ∙ ap length e ∙ length-zip_padded m us vs hu hv,
        sym (padded-firsts n xs ys hx hy) ∙ ap (λ v. padded (map (λ (l : ℕ × ℕ). l.0) v)) e ∙ padded-firsts m us vs hu hv,
      ),
      sym (padded-seconds n xs ys hx hy) ∙ ap (λ v. padded (map (λ (l : ℕ × ℕ). l.1) v)) e ∙ padded-seconds m us vs hu hv,
    ))
    (Decides-and _ _ (Decides-and _ _ (Decides-eqb n m) (bytes_eq-Decides xs us)) (bytes_eq-Decides ys vs))

pub ruleset links = (length-zip_padded, zip_padded-push, slice_get-zip_padded)
