-- The links of a path: how many they are, the first of them, and the first one that passes a test.
use Rattle.std.proofs.Common.{◌≡◌, ℕ, zero, suc, ◌+◌, ◌<◌, ◌≤◌, Bool, true, false, cond, List, [], ◌∷◌, length, drop, refl, ap, sym, subst, ◌∙◌, Some, None, unwrap_or, All, add-one, arith}
use Rattle.std.specs.Prelude.{find, slice_get}
use Rattle.rt_base.specs.declared.id.TaskId.{TaskId}
use Rattle.rt_model.specs.Path.{Link, links_to, links_of, first_lock, first_owner}
use Rattle.rt_model.proofs.Lists.{All-default, All-both}
use Rattle.rt_model.proofs.graph.Turned.{links-from, links-lead}
use Rattle.rt_walk.specs.Link.{link_at}

length-to : (end : TaskId) (path : List (ℕ × ℕ)) → length (links_to end path) ≡ length path
length-to end [] = refl
length-to end (pair ∷ path) = ap suc (length-to end path)

-- as many as the path's pairs
pub length-links : (path : List (ℕ × ℕ)) → length (links_of path) ≡ length path
length-links [] = refl
length-links (pair ∷ path) = length-to (record { 0 = pair.0 }) (pair ∷ path)

-- what holds of each holds of the one at i
pub at-link : (P : Link → Type 0) (path : List (ℕ × ℕ)) (i : ℕ) → All P (links_of path) → i < length path → P (link_at path i)
at-link P path i each lt = All-default P (links_of path) i _ each (subst (λ (n : ℕ). i < n) (sym (length-links path)) lt)

-- the tasks of each are among n where those of the path's pairs are
pub links-there : (n : ℕ) (path : List (ℕ × ℕ)) → All (λ (pair : ℕ × ℕ). pair.0 < n) path → All (λ (link : Link). (link.from.0 < n) × (link.to.0 < n)) (links_of path)
links-there n path each =
    let from = links-from (λ (t : TaskId). t.0 < n) path each in
    All-both (λ (link : Link). link.from.0 < n) (λ (link : Link). link.to.0 < n) (λ (link : Link). (link.from.0 < n) × (link.to.0 < n)) (λ link first second. (first, second)) (links_of path) from (links-lead (λ (t : TaskId). t.0 < n) path from)

-- ---- the first one

pub first-lock : (path : List (ℕ × ℕ)) → 0 < length path → first_lock path ≡ Some (link_at path 0).lock
first-lock [] lt = absurd (omega (arith, lt))
first-lock (pair ∷ path) lt = refl

pub first-owner : (path : List (ℕ × ℕ)) → 0 < length path → first_owner path ≡ Some (link_at path 0).to
first-owner [] lt = absurd (omega (arith, lt))
first-owner (pair ∷ path) lt = refl

-- ---- the first one that passes a test, looked for from i on

here_or : {X : Type 0} (p : X → Bool) (xs : List X) (i : ℕ) (d : X) → i < length xs
    → find p (drop i xs) ≡ cond (p (unwrap_or (slice_get xs i) d)) (Some (unwrap_or (slice_get xs i) d)) (find p (drop (suc i) xs))
here_or p [] i d lt = absurd (omega (arith, lt))
here_or p (x ∷ xs) zero d lt = refl
here_or p (x ∷ xs) (suc i) d lt = here_or p xs i d (omega (arith, lt))

module _ (p : Link → Bool) (path : List (ℕ × ℕ)) (i : ℕ) (lt : i < length path) where
  here : find p (drop i (links_of path)) ≡ cond (p (link_at path i)) (Some (link_at path i)) (find p (drop (suc i) (links_of path)))
  here = here_or p (links_of path) i _ (subst (λ (n : ℕ). i < n) (sym (length-links path)) lt)

  -- it is link i, or stands after it
  pub found-here : p (link_at path i) ≡ true → find p (drop i (links_of path)) ≡ Some (link_at path i)
  found-here passes = here ∙ ap (λ b. cond b (Some (link_at path i)) (find p (drop (suc i) (links_of path)))) passes

  pub found-later : p (link_at path i) ≡ false → find p (drop i (links_of path)) ≡ find p (drop (i + 1) (links_of path))
  found-later fails = rw add-one (here ∙ ap (λ b. cond b (Some (link_at path i)) (find p (drop (suc i) (links_of path)))) fails)

none_past : {X : Type 0} (p : X → Bool) (xs : List X) (n : ℕ) → length xs ≤ n → find p (drop n xs) ≡ None
none_past p [] zero le = refl
none_past p [] (suc n) le = refl
none_past p (x ∷ xs) zero le = absurd (omega (arith, le))
none_past p (x ∷ xs) (suc n) le = none_past p xs n (omega (arith, le))

-- after the last one there is none
pub found-none : (p : Link → Bool) (path : List (ℕ × ℕ)) (n : ℕ) → length path ≤ n → find p (drop n (links_of path)) ≡ None
found-none p path n le = none_past p (links_of path) n (subst (λ (m : ℕ). m ≤ n) (sym (length-links path)) le)
