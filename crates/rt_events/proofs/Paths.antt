-- A link of a path at its place, and the path's text, which grows by a link.
use Rattle.std.proofs.Common.{◌≡◌, ◌⊎◌, inl, inr, ℕ, ◌+◌, ◌<◌, ◌≤◌, List, [], ◌∷◌, ◌++◌, take, get_or, length, ap, sym, subst, ◌∙◌, Some, None, append-nil, All}
use Rattle.std.specs.Prelude.{flat_map, slice_get}
use Rattle.std.proofs.lemmas.Option.{slice_get_cases}
use Rattle.std.proofs.lemmas.List.{take_more}
use Rattle.std.proofs.lemmas.Grind.{flat_map-append}
use Rattle.rt_base.specs.Script.{Script}
use Rattle.std.proofs.lemmas.List.Elements.{All-more}
use Rattle.rt_events.specs.WellFormed.{IsLinkIn}
use Rattle.rt_events.specs.Words.{spaced}
use Rattle.rt_events.specs.Line.{link_words}

-- the link that is read is the one at its place
pub record IsAt (path : List (ℕ × ℕ)) (i : ℕ) (link : ℕ × ℕ) : Type 0 where
  pub lt : i < length path
  pub same : get_or path i link ≡ link

pub at_place : (path : List (ℕ × ℕ)) (i : ℕ) (link : ℕ × ℕ) → slice_get path i ≡ Some link → IsAt path i link
at_place path i link is = there (slice_get_cases path i).1
  where
    there : ((l : ℕ × ℕ) × (i < length path) × (slice_get path i ≡ Some l) × (get_or path i l ≡ l)) ⊎ ((length path ≤ i) × (slice_get path i ≡ None)) → IsAt path i link
    there (inl here) =
        let same : here.0 ≡ link = let both : Some here.0 ≡ Some link = sym here.2 ∙ is in cc in
        record { lt = here.1; same = subst (λ (l : ℕ × ℕ). get_or path i l ≡ l) same here.3 }
    there (inr past) = let none : None ≡ Some link = sym past.1 ∙ is in absurd cc

pub path_more : (script : Script) (path : List (ℕ × ℕ)) (i : ℕ) (link : ℕ × ℕ) → slice_get path i ≡ Some link
    → spaced (flat_map (link_words script) (take (i + 1) path)) ≡ spaced (flat_map (link_words script) (take i path)) ++ spaced (link_words script link)
path_more script path i link is =
    let at = at_place path i link is in
    let whole : take (i + 1) path ≡ take i path ++ link ∷ [] = take_more path i link at.lt ∙ ap (λ (l : ℕ × ℕ). take i path ++ l ∷ []) at.same in
    let words = flat_map (link_words script) (take i path) in
    ap (λ (p : List (ℕ × ℕ)). spaced (flat_map (link_words script) p)) whole
    ∙ (ap spaced (flat_map-append (link_words script) (take i path) (link ∷ []) ∙ ap (λ (more : List (List ℕ)). words ++ more) (append-nil (link_words script link)))
    ∙ flat_map-append (λ (w : List ℕ). 32 ∷ w) words (link_words script link))

-- a link more that is the script's
pub links_more : (script : Script) (path : List (ℕ × ℕ)) (i : ℕ) (link : ℕ × ℕ) → slice_get path i ≡ Some link → All (IsLinkIn script) (take i path) → IsLinkIn script link → All (IsLinkIn script) (take (i + 1) path)
links_more script path i link is before one =
    let at = at_place path i link is in
    All-more (IsLinkIn script) path i link at.lt before (subst (IsLinkIn script) (sym at.same) one)
