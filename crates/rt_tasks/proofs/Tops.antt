-- The least of a priority and what is kept of some locks.
use Rattle.std.proofs.Common.{◌≡◌, ℕ, zero, suc, ◌+◌, ◌*◌, ◌/◌, ◌^◌, ◌<◌, ◌≤◌, ◌⊎◌, ◌↔◌, inl, inr, Bool, true, false, cond, List, [], ◌∷◌, length, refl, sym, ap, ◌∙◌, subst, Option, Some, None, IfSome, unwrap_or, is_some, arith}
use Rattle.std.specs.Prelude.{slice_set, slice_index, nat_eq}
use Rattle.std.specs.Int.{trailing_zeros, w64}
use Rattle.std.proofs.lemmas.Bool.{cases_eq, cases_lt}
use Rattle.std.proofs.lemmas.Option.{slice_get_past}
use Rattle.rt_model.specs.Parts.{least, keys_in}
use Rattle.rt_model.proofs.Numbers.{same_number}
use Rattle.rt_model.proofs.PartsAfter.{read-set_same, read-set_other}
use Rattle.rt_tasks.specs.KeptTops.{key_at, AreLocksOf, IsLeastOf}
use Rattle.rt_tasks.specs.LockSet.{has, IsIn, IsInWord}
use Rattle.rt_tasks.proofs.Least.{least-front}
use Rattle.rt_tasks.proofs.LockBits.{rest_of, first_or_rest, first-in, rest-in}

-- the keys below the better of a priority and a key are those below both
pub better-bound : (prio : ℕ) (top : Option ℕ) (b : ℕ) → (b ≤ least prio (keys_in (top ∷ []))) ↔ ((b ≤ prio) × IfSome top (λ key. b ≤ key))
better-bound prio None b = (λ le. (le, tt), λ both. both.0)
better-bound prio (Some key) b = (λ le. (omega arith, omega arith), λ both. let low = both.0 in let key_low = both.1 in omega arith)

-- of no locks it is the priority
pub least-none_of : (Among : ℕ → Type 0) (prio : ℕ) (kept : List (Option ℕ)) → ((l : ℕ) → Among l → ⊥) → IsLeastOf Among prio kept prio
least-none_of Among prio kept none = λ b. (λ le. (le, λ l here. absurd (none l here)), λ bound. bound.0)

-- a lock visited, and then the rest
pub least-visit : (All Rest : ℕ → Type 0) (prio l : ℕ) (kept : List (Option ℕ)) (top : Option ℕ) (best x : ℕ)
    → top ≡ key_at kept l → best ≡ least prio (keys_in (top ∷ [])) → All l → ((m : ℕ) → Rest m → All m) → ((m : ℕ) → All m → (m ≡ l) ⊎ Rest m)
    → IsLeastOf Rest best kept x → IsLeastOf All prio kept x
least-visit All Rest prio l kept top best x read made here less more is = λ b. (
  λ le.
      let rest = (is b).0 le in
      let both = (better-bound prio top b).0 (subst (λ (n : ℕ). b ≤ n) made rest.0) in (
        both.0,
        λ m among. elim (more m among) [
          | inl same ↦ subst (λ (n : ℕ). IfSome (key_at kept n) (λ key. b ≤ key)) (sym same) (subst (λ (o : Option ℕ). IfSome o (λ key. b ≤ key)) read both.1)
          | inr left ↦ rest.1 m left
        ],
      ),
  λ bound.
      (is b).1 (
        subst (λ (n : ℕ). b ≤ n) (sym made) ((better-bound prio top b).1 (bound.0, subst (λ (o : Option ℕ). IfSome o (λ key. b ≤ key)) (sym read) (bound.1 l here))),
        λ m left. bound.1 m (less m left),
      ),
)

-- of some locks, and then of others
pub least-join : (First Second Both : ℕ → Type 0) (prio best x : ℕ) (kept : List (Option ℕ))
    → ((l : ℕ) → First l → Both l) → ((l : ℕ) → Second l → Both l) → ((l : ℕ) → Both l → First l ⊎ Second l)
    → IsLeastOf First prio kept best → IsLeastOf Second best kept x → IsLeastOf Both prio kept x
least-join First Second Both prio best x kept first second either is then = λ b. (
  λ le.
      let later = (then b).0 le in
      let sooner = (is b).0 later.0 in
      (sooner.0, λ l among. elim (either l among) [ inl one ↦ sooner.1 l one | inr other ↦ later.1 l other ]),
  λ bound. (then b).1 ((is b).1 (bound.0, λ l one. bound.1 l (first l one)), λ l other. bound.1 l (second l other)),
)

-- of all that is kept
least-bound : (prio : ℕ) (kept : List (Option ℕ)) (b : ℕ) → (b ≤ least prio (keys_in kept)) ↔ ((b ≤ prio) × ((l : ℕ) → IfSome (key_at kept l) (λ key. b ≤ key)))
least-bound prio [] b = (λ le. (le, λ l. tt), λ bound. bound.0)
least-bound prio (first ∷ kept) b =
    let rest = least-bound prio kept b in
    let here = better-bound (least prio (keys_in kept)) first b in
    let joined : least prio (keys_in (first ∷ kept)) ≡ least (least prio (keys_in kept)) (keys_in (first ∷ [])) = least-front prio first kept in (
      λ le. let both = here.0 (subst (λ (n : ℕ). b ≤ n) joined le) in let later = rest.0 both.0 in (later.0, at first kept b both.1 later.1),
      λ bound. subst (λ (n : ℕ). b ≤ n) (sym joined) (here.1 (rest.1 (bound.0, λ l. bound.1 (suc l)), bound.1 zero)),
    )
  where
    at : (top : Option ℕ) (kept : List (Option ℕ)) (b : ℕ) → IfSome top (λ key. b ≤ key) → ((l : ℕ) → IfSome (key_at kept l) (λ key. b ≤ key)) → (l : ℕ) → IfSome (key_at (top ∷ kept) l) (λ key. b ≤ key)
    at top kept b here later zero = here
    at top kept b here later (suc l) = later l

-- the least of a priority and all that is kept is that of any locks that have all the tops
pub least-all : (Among : ℕ → Type 0) (prio : ℕ) (part kept : List (Option ℕ)) (x : ℕ)
    → ((l : ℕ) → Among l → key_at kept l ≡ key_at part l) → ((l : ℕ) → (Among l) ⊎ (key_at kept l ≡ None))
    → IsLeastOf Among prio part x → x ≡ least prio (keys_in kept)
least-all Among prio part kept x same all is = let up = below in let down = above in omega arith
  where
    below : x ≤ least prio (keys_in kept)
    below =
        let bound = (is x).0 (omega arith) in
        (least-bound prio kept x).1 (
          bound.0,
          λ l. elim (all l) [
            | inl among ↦ subst (λ (o : Option ℕ). IfSome o (λ key. x ≤ key)) (sym (same l among)) (bound.1 l among)
            | inr none ↦ subst (λ (o : Option ℕ). IfSome o (λ key. x ≤ key)) (sym none) tt
          ],
        )

    above : least prio (keys_in kept) ≤ x
    above =
        let best = least prio (keys_in kept) in
        let bound = (least-bound prio kept best).0 (omega arith) in
        (is best).1 (bound.0, λ l among. subst (λ (o : Option ℕ). IfSome o (λ key. best ≤ key)) (same l among) (bound.1 l))

-- ---- by words

-- the lowest lock of a word visited, and then the rest of the word
pub least-bit : (word : ℕ) → 0 < word → word < 2 ^ 64 → (w prio : ℕ) (kept : List (Option ℕ)) (top : Option ℕ) (best x : ℕ)
    → top ≡ key_at kept (w * 64 + trailing_zeros w64 word) → best ≡ least prio (keys_in (top ∷ []))
    → IsLeastOf (IsInWord (rest_of word) w) best kept x → IsLeastOf (IsInWord word w) prio kept x
least-bit word some fits w prio kept top best x read made =
    least-visit (IsInWord word w) (IsInWord (rest_of word) w) prio (w * 64 + trailing_zeros w64 word) kept top best x read made
    (first-in word some fits w) (rest-in word some fits w) (first_or_rest word some fits w)

-- the locks of the words below w
abbrev pub IsBelow : List ℕ → ℕ → ℕ → Type 0
IsBelow words w l = (l / 64 < w) × (has words l ≡ true)

pub least-word : (words : List ℕ) (w word prio best x : ℕ) (kept : List (Option ℕ)) → word ≡ slice_index words w
    → IsLeastOf (IsBelow words w) prio kept best → IsLeastOf (IsInWord word w) best kept x → IsLeastOf (IsBelow words (w + 1)) prio kept x
least-word words w word prio best x kept is =
    least-join (IsBelow words w) (IsInWord word w) (IsBelow words (w + 1)) prio best x kept
    (λ l here. let at = here.0 in (omega arith, here.1)) in_word either
  where
    in_word : (l : ℕ) → IsInWord word w l → IsBelow words (w + 1) l
    in_word l here = let at = here.0 in (omega arith, cc)

    either : (l : ℕ) → IsBelow words (w + 1) l → (IsBelow words w l) ⊎ (IsInWord word w l)
    either l here = elim (cases_eq (l / 64) w) [
      | inl at ↦ inr (at, cc)
      | inr other ↦ let low = here.0 in inl (omega arith, here.1)
    ]

-- after the last word the locks of all words are those that a set has room for
pub least-words : (words : List ℕ) (prio x : ℕ) (kept : List (Option ℕ)) → IsLeastOf (IsBelow words 4) prio kept x → IsLeastOf (IsIn words) prio kept x
least-words words prio x kept =
    let low : (l : ℕ) → l < 256 → l / 64 < 4 = λ l lt. omega arith in
    let back : (l : ℕ) → l / 64 < 4 → l < 256 = λ l lt. omega arith in
    λ is b. (λ le. let bound = (is b).0 le in (bound.0, λ l here. bound.1 l (low l here.0, here.1)), λ bound. (is b).1 (bound.0, λ l here. bound.1 l (back l here.0, here.1)))

-- ---- by sets

-- a lock of which a top is kept is in the set
pub in_set : (kept : List (Option ℕ)) (words : List ℕ) → AreLocksOf kept words → length kept ≤ 256 → (l : ℕ) → (IsIn words l) ⊎ (key_at kept l ≡ None)
in_set kept words are short l = elim (cases_lt l 256) [
  | inl lt ↦ by_key (key_at kept l) refl lt
  | inr past ↦ inr (ap (λ (o : Option (Option ℕ)). unwrap_or o None) (slice_get_past kept l (omega arith)))
]
  where
    by_key : (o : Option ℕ) → key_at kept l ≡ o → l < 256 → (IsIn words l) ⊎ (key_at kept l ≡ None)
    by_key None is lt = inr is
    by_key (Some key) is lt = inl (lt, are l lt ∙ ap (λ (o : Option ℕ). is_some o) is)

pub least-set_all : (words : List ℕ) (prio x : ℕ) (kept : List (Option ℕ)) → AreLocksOf kept words → length kept ≤ 256 → IsLeastOf (IsIn words) prio kept x → x ≡ least prio (keys_in kept)
least-set_all words prio x kept are short = least-all (IsIn words) prio kept kept x (λ l here. refl) (in_set kept words are short)

-- without a lock, it is of what is kept of the others
pub least-set_others : (words others : List ℕ) (prio x l : ℕ) (kept : List (Option ℕ)) → AreLocksOf kept words → length kept ≤ 256 → l < length kept
    → ((m : ℕ) → m < 256 → has others m ≡ cond (nat_eq l m) false (has words m)) → IsLeastOf (IsIn others) prio kept x → x ≡ least prio (keys_in (slice_set kept l None))
least-set_others words others prio x l kept are short lt without =
    least-all (IsIn others) prio kept (slice_set kept l None) x (λ m here. same m here (nat_eq l m) refl) (λ m. all m (nat_eq l m) refl)
  where
    same : (m : ℕ) → IsIn others m → (t : Bool) → nat_eq l m ≡ t → key_at (slice_set kept l None) m ≡ key_at kept m
    same m here true is = let gone : has others m ≡ false = without m here.0 ∙ ap (λ (t : Bool). cond t false (has words m)) is in let there = here.1 in cc
    same m here false is = read-set_other kept l m None None is

    all : (m : ℕ) → (t : Bool) → nat_eq l m ≡ t → (IsIn others m) ⊎ (key_at (slice_set kept l None) m ≡ None)
    all m true is = inr (subst (λ (n : ℕ). key_at (slice_set kept l None) n ≡ None) (same_number l m is) (read-set_same kept l None None lt))
    all m false is = elim (in_set kept words are short m) [
      | inl there ↦ inl (there.0, without m there.0 ∙ (ap (λ (t : Bool). cond t false (has words m)) is ∙ there.1))
      | inr none ↦ inr (read-set_other kept l m None None is ∙ none)
    ]

-- the set after a write
pub set-put : (words left : List ℕ) (l : ℕ) (kept : List (Option ℕ)) (top : Option ℕ) → AreLocksOf kept words → l < length kept
    → ((m : ℕ) → m < 256 → has left m ≡ cond (nat_eq l m) (is_some top) (has words m)) → AreLocksOf (slice_set kept l top) left
set-put words left l kept top are lt put = λ m low. put m low ∙ by_test m low (nat_eq l m) refl
  where
    by_test : (m : ℕ) → m < 256 → (t : Bool) → nat_eq l m ≡ t → cond (nat_eq l m) (is_some top) (has words m) ≡ is_some (key_at (slice_set kept l top) m)
    by_test m low true is =
        ap (λ (t : Bool). cond t (is_some top) (has words m)) is
        ∙ ap (λ (o : Option ℕ). is_some o) (sym (subst (λ (n : ℕ). key_at (slice_set kept l top) n ≡ top) (same_number l m is) (read-set_same kept l top None lt)))
    by_test m low false is =
        ap (λ (t : Bool). cond t (is_some top) (has words m)) is
        ∙ (are m low ∙ ap (λ (o : Option ℕ). is_some o) (sym (read-set_other kept l m top None is)))
