-- A path's arrays follow from its links.
use Rattle.std.specs.Prelude.{◌≡◌, ◌≢◌, ◌⊎◌, Bool, true, false, ℕ, ◌==◌, ◌&&◌, refl, List, length, take, map}
use Rattle.std.specs.List.{zip}
use Rattle.std.proofs.Common.{ap, sym, ◌∙◌, inl, inr, arith}
use Rattle.std.proofs.lemmas.Bool.{false≢true}
use Rattle.std.proofs.lemmas.List.{length-take-le, take-append-drop}
use Rattle.std.proofs.lemmas.Slice.Zip.{length-zip, firsts-zip, seconds-zip}
use Rattle.std.specs.Cmp.{IsEquivalence}
use Rattle.std.proofs.lemmas.Cmp.{lists_equiv, and_equiv, on_equiv, nat_eq_equiv}
use Rattle.std.specs.Bool.{Decides}
use Rattle.std.proofs.lemmas.Bool.Decides.{Decides-eqb, Decides-and, Decides-like}
use Rattle.std.proofs.lemmas.Slice.Eq.{slice_eq-Decides}
use Rattle.rt_base.specs.Path.{padded, IsPadded, has_same_links}

pub length-take_padded : (n : ℕ) (xs : List ℕ) → IsPadded n xs → length (take n xs) ≡ n
length-take_padded n xs h = length-take-le n xs (omega arith)

pub length-zip_padded : (n : ℕ) (xs ys : List ℕ) → IsPadded n xs → IsPadded n ys → length (zip (take n xs) (take n ys)) ≡ n
length-zip_padded n xs ys h k =
    omega (arith, length-zip (take n xs) (take n ys), length-take_padded n xs h, length-take_padded n ys k)

-- what the places in use and the zeros after them give back
pub padded-take : (n : ℕ) (xs : List ℕ) → IsPadded n xs → padded (take n xs) ≡ xs
padded-take n xs h =
    let long : length (take n xs) ≡ n = length-take_padded n xs h in
    rw (long, ← h.zeros) (take-append-drop n xs)

pub padded-firsts : (n : ℕ) (xs ys : List ℕ) → IsPadded n xs → IsPadded n ys → padded (map (λ (l : ℕ × ℕ). l.0) (zip (take n xs) (take n ys))) ≡ xs
padded-firsts n xs ys h k =
    let same : length (take n ys) ≡ length (take n xs) = length-take_padded n ys k ∙ sym (length-take_padded n xs h) in
    ap padded (firsts-zip (take n xs) (take n ys) same) ∙ padded-take n xs h

pub padded-seconds : (n : ℕ) (xs ys : List ℕ) → IsPadded n xs → IsPadded n ys → padded (map (λ (l : ℕ × ℕ). l.1) (zip (take n xs) (take n ys))) ≡ ys
padded-seconds n xs ys h k =
    let same : length (take n ys) ≡ length (take n xs) = length-take_padded n ys k ∙ sym (length-take_padded n xs h) in
    ap padded (seconds-zip (take n xs) (take n ys) same) ∙ padded-take n ys k

pub has_same_links-equiv : IsEquivalence has_same_links
has_same_links-equiv = lists_equiv (and_equiv (on_equiv (λ (l : ℕ × ℕ). l.0) nat_eq_equiv) (on_equiv (λ (l : ℕ × ℕ). l.1) nat_eq_equiv))

link_eq-Decides : (a b : ℕ × ℕ) → Decides ((a.0 == b.0) && (a.1 == b.1)) (a ≡ b)
link_eq-Decides a b =
    Decides-like _ (λ e i. (e.0 i, e.1 i)) (λ e. (ap (λ (l : ℕ × ℕ). l.0) e, ap (λ (l : ℕ × ℕ). l.1) e)) (Decides-and _ _ (Decides-eqb a.0 b.0) (Decides-eqb a.1 b.1))

-- what `==` at two paths says of their links
pub has_same_links-Decides : (a b : List (ℕ × ℕ)) → Decides (has_same_links a b) (a ≡ b)
has_same_links-Decides a b = slice_eq-Decides link_eq-Decides a b (has_same_links a b) refl

-- the same as cases, for `grind`
pub has_same_links_tells : (a b : List (ℕ × ℕ)) → ((has_same_links a b ≡ true) × (a ≡ b)) ⊎ ((has_same_links a b ≡ false) × (a ≢ b))
has_same_links_tells a b = tells (has_same_links a b) refl
  where
    tells : (r : Bool) → r ≡ has_same_links a b → ((has_same_links a b ≡ true) × (a ≡ b)) ⊎ ((has_same_links a b ≡ false) × (a ≢ b))
    tells true e = inl (sym e, (has_same_links-Decides a b).0 (sym e))
    tells false e = inr (sym e, λ s. false≢true (e ∙ (has_same_links-Decides a b).1 s))
