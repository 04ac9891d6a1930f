-- The path of a full walk, as a link is put after it and as it is cut.
use Rattle.std.proofs.Common.{◌≡◌, ◌≢◌, ◌⊎◌, inl, inr, ℕ, zero, suc, ◌<◌, ◌≤◌, false, not, List, [], ◌∷◌, ◌++◌, length, refl, sym, ap, ◌∙◌, subst, arith, Option, Some, All}
use Rattle.std.specs.Prelude.{AllPairs, filter, nat_eq}
use Rattle.std.proofs.lemmas.Bool.{cond_both, not-true, not-false}
use Rattle.std.proofs.lemmas.Bool.Decides.{nat_tests}
use Rattle.std.proofs.lemmas.List.{length-append}
use Rattle.std.proofs.lemmas.List.Elements.{All-nil, All-head, All-tail, All-cons, All-push, All-weaker}
use Rattle.std.proofs.lemmas.List.Kept.{AllPairs-cons, AllPairs-filter}
use Rattle.rt_base.specs.declared.id.LockId.{LockId}
use Rattle.rt_base.specs.declared.id.TaskId.{TaskId}
use Rattle.rt_model.specs.steps.Chain.{path_before}
use Rattle.rt_model.specs.laws.Walks.{BeginsWith, IsFullWalk, IsToConfirm}
use Rattle.rt_model.proofs.Numbers.{same_number, other_number}
use Rattle.rt_model.proofs.Queues.{AllPairs-head, AllPairs-tail}

-- the tasks of two links differ
abbrev pub Differ : ℕ × ℕ → ℕ × ℕ → Type 0
Differ link other = link.0 ≢ other.0

-- ---- a link after the others

AllPairs-nil : {X : Type 0} (R : X → X → Type 0) → AllPairs R []
AllPairs-nil R = λ i j d lt within. absurd (omega (arith, within))

pub AllPairs-push : {X : Type 0} (R : X → X → Type 0) (xs : List X) (x : X) → AllPairs R xs → All (λ y. R y x) xs → AllPairs R (xs ++ x ∷ [])
AllPairs-push R [] x pairs last = AllPairs-cons R x [] (All-nil (R x)) (AllPairs-nil R)
AllPairs-push R (y ∷ xs) x pairs last =
    AllPairs-cons R y (xs ++ x ∷ []) (All-push (R y) xs x (AllPairs-head R y xs pairs) (All-head (λ y. R y x) y xs last)) (AllPairs-push R xs x (AllPairs-tail R y xs pairs) (All-tail (λ y. R y x) y xs last))

begins-push : (t : TaskId) (lock : Option LockId) (path : List (ℕ × ℕ)) (link : ℕ × ℕ) → BeginsWith t lock path → BeginsWith t lock (path ++ link ∷ [])
begins-push t lock [] link begins = absurd begins
begins-push t lock (first ∷ path) link begins = begins

-- ---- the links before a task's own

module _ (o : TaskId) where
  All-path_before : (P : ℕ × ℕ → Type 0) (path : List (ℕ × ℕ)) → All P path → All P (path_before o path)
  All-path_before P [] all = all
  All-path_before P (link ∷ path) all =
      cond_both (nat_eq link.0 o.0) [] (link ∷ path_before o path) (All P) (λ is. All-nil P) (λ is. All-cons P link (path_before o path) (All-head P link path all) (All-path_before P path (All-tail P link path all)))

  AllPairs-path_before : (R : ℕ × ℕ → ℕ × ℕ → Type 0) (path : List (ℕ × ℕ)) → AllPairs R path → AllPairs R (path_before o path)
  AllPairs-path_before R [] pairs = pairs
  AllPairs-path_before R (link ∷ path) pairs =
      cond_both (nat_eq link.0 o.0) [] (link ∷ path_before o path) (AllPairs R) (λ is. AllPairs-nil R)
      (λ is. AllPairs-cons R link (path_before o path) (All-path_before (R link) path (AllPairs-head R link path pairs)) (AllPairs-path_before R path (AllPairs-tail R link path pairs)))

  -- none of them is of that task
  ahead-path_before : (path : List (ℕ × ℕ)) → All (λ (link : ℕ × ℕ). link.0 ≢ o.0) (path_before o path)
  ahead-path_before [] = All-nil (λ (link : ℕ × ℕ). link.0 ≢ o.0)
  ahead-path_before (link ∷ path) =
      cond_both (nat_eq link.0 o.0) [] (link ∷ path_before o path) (All (λ (other : ℕ × ℕ). other.0 ≢ o.0)) (λ is. All-nil (λ (other : ℕ × ℕ). other.0 ≢ o.0))
      (λ is. All-cons (λ (other : ℕ × ℕ). other.0 ≢ o.0) link (path_before o path) (λ same. other_number link.0 o.0 is same) (ahead-path_before path))

  -- there are none where that is the path's first task, and else it begins as it did
  begins-path_before : (t : TaskId) (lock : Option LockId) (path : List (ℕ × ℕ)) → BeginsWith t lock path → ((path_before o path ≡ []) × (o ≡ t)) ⊎ BeginsWith t lock (path_before o path)
  begins-path_before t lock [] begins = absurd begins
  begins-path_before t lock (link ∷ path) begins =
      cond_both (nat_eq link.0 o.0) [] (link ∷ path_before o path) (λ (xs : List (ℕ × ℕ)). ((xs ≡ []) × (o ≡ t)) ⊎ BeginsWith t lock xs)
      (λ is. inl (refl, ap (λ (n : ℕ). record { 0 = n }) (sym (same_number link.0 o.0 is) ∙ begins.0))) (λ is. inr begins)

-- ---- a walk that goes on

-- the task and the lock of a link are there
abbrev pub Within : ℕ → ℕ → ℕ × ℕ → Type 0
Within n m link = (link.0 < n) × (link.1 < m)

-- with its cursor's link, and cut before the task that is the cursor then; the walker's own link is of its lock
pub full-goes : (n m : ℕ) (t u o : TaskId) (l : LockId) (lock : Option LockId) (path : List (ℕ × ℕ)) → u.0 < n → l.0 < m → IsFullWalk n m t lock u path → (u ≡ t → lock ≡ Some l) → IsFullWalk n m t lock o (path_before o (path ++ (u.0, l.0) ∷ []))
full-goes n m t u o l lock path lt within full own =
    let link : ℕ × ℕ = (u.0, l.0) in
    record {
      begins = begins-path_before o t lock (path ++ link ∷ []) (begun full.begins);
      there = All-path_before o (Within n m) (path ++ link ∷ []) (All-push (Within n m) path link full.there (lt, within));
      differ = AllPairs-path_before o Differ (path ++ link ∷ []) (AllPairs-push Differ path link full.differ full.ahead);
      ahead = ahead-path_before o (path ++ link ∷ []);
    }
  where
    begun : ((path ≡ []) × (u ≡ t)) ⊎ BeginsWith t lock path → BeginsWith t lock (path ++ (u.0, l.0) ∷ [])
    begun (inl fresh) = subst (λ (xs : List (ℕ × ℕ)). BeginsWith t lock (xs ++ (u.0, l.0) ∷ [])) (sym fresh.0) (ap (λ (v : TaskId). v.0) fresh.1, own fresh.1)
    begun (inr begins) = begins-push t lock path (u.0, l.0) begins

-- ---- a walk that comes back to its own task

-- with its cursor's link, where the cursor is another task, it is to be confirmed
pub full-confirms : (n m : ℕ) (t u : TaskId) (l : LockId) (lock : Option LockId) (path : List (ℕ × ℕ)) → u.0 < n → l.0 < m → IsFullWalk n m t lock u path → nat_eq t.0 u.0 ≡ false → IsToConfirm n m t lock (path ++ (u.0, l.0) ∷ [])
full-confirms n m t u l lock path lt within full apart = begun full.begins
  where
    link : ℕ × ℕ
    link = (u.0, l.0)

    long : (path : List (ℕ × ℕ)) → BeginsWith t lock path → 2 ≤ length (path ++ link ∷ [])
    long [] begins = absurd begins
    long (first ∷ path) begins = let more = length-append path (link ∷ []) in omega (arith, more)

    begun : ((path ≡ []) × (u ≡ t)) ⊎ BeginsWith t lock path → IsToConfirm n m t lock (path ++ link ∷ [])
    begun (inl fresh) = absurd (other_number t.0 u.0 apart (ap (λ (v : TaskId). v.0) (sym fresh.1)))
    begun (inr begins) = record {
      begins = begins-push t lock path link begins;
      many = long path begins;
      there = All-push (Within n m) path link full.there (lt, within);
      differ = AllPairs-push Differ path link full.differ full.ahead;
    }

-- ---- how long a path is

-- the links that aren't of this task
abbrev others : ℕ → List (ℕ × ℕ) → List (ℕ × ℕ)
others n path = filter (λ (link : ℕ × ℕ). not (nat_eq link.0 n)) path

all_others : (n : ℕ) (path : List (ℕ × ℕ)) → All (λ (link : ℕ × ℕ). n ≢ link.0) path → length path ≤ length (others n path)
all_others n [] all = omega arith
all_others n (link ∷ path) all =
    let rest : length path ≤ length (others n path) = all_others n path (All-tail (λ (other : ℕ × ℕ). n ≢ other.0) link path all) in
    cond_both (not (nat_eq link.0 n)) (link ∷ others n path) (others n path) (λ (xs : List (ℕ × ℕ)). suc (length path) ≤ length xs)
    (λ is. omega (arith, rest))
    (λ is. absurd (All-head (λ (other : ℕ × ℕ). n ≢ other.0) link path all (sym (same_number link.0 n (not-false (nat_eq link.0 n) is)))))

-- of different tasks one at most is this
one_less : (n : ℕ) (path : List (ℕ × ℕ)) → AllPairs Differ path → length path ≤ suc (length (others n path))
one_less n [] differ = omega arith
one_less n (link ∷ path) differ =
    let rest : length path ≤ suc (length (others n path)) = one_less n path (AllPairs-tail Differ link path differ) in
    cond_both (not (nat_eq link.0 n)) (link ∷ others n path) (others n path) (λ (xs : List (ℕ × ℕ)). suc (length path) ≤ suc (length xs))
    (λ is. omega (arith, rest))
    (λ is. let here : length path ≤ length (others n path) = all_others n path (subst (λ (k : ℕ). All (λ (other : ℕ × ℕ). k ≢ other.0) path) (same_number link.0 n (not-false (nat_eq link.0 n) is)) (AllPairs-head Differ link path differ)) in
    omega (arith, here))

below_others : (n : ℕ) (path : List (ℕ × ℕ)) → All (λ (link : ℕ × ℕ). link.0 < suc n) path → All (λ (link : ℕ × ℕ). link.0 < n) (others n path)
below_others n [] all = All-nil (λ (link : ℕ × ℕ). link.0 < n)
below_others n (link ∷ path) all =
    let rest = below_others n path (All-tail (λ (other : ℕ × ℕ). other.0 < suc n) link path all) in
    let lt : link.0 < suc n = All-head (λ (other : ℕ × ℕ). other.0 < suc n) link path all in
    cond_both (not (nat_eq link.0 n)) (link ∷ others n path) (others n path) (All (λ (other : ℕ × ℕ). other.0 < n))
    (λ is. All-cons (λ (other : ℕ × ℕ). other.0 < n) link (others n path) (below link.0 n lt (not-true (nat_eq link.0 n) is)) rest)
    (λ is. rest)
  where
    below : (i k : ℕ) → i < suc k → nat_eq i k ≡ false → i < k
    below i k lt other = grind (arith, nat_tests)

-- different tasks below n are n at most
pub few-differ : (n : ℕ) (path : List (ℕ × ℕ)) → All (λ (link : ℕ × ℕ). link.0 < n) path → AllPairs Differ path → length path ≤ n
few-differ zero [] there differ = omega arith
few-differ zero (link ∷ path) there differ = let lt : link.0 < 0 = All-head (λ (other : ℕ × ℕ). other.0 < 0) link path there in absurd (omega (arith, lt))
few-differ (suc n) path there differ =
    let rest : length (others n path) ≤ n = few-differ n (others n path) (below_others n path there) (AllPairs-filter Differ (λ (link : ℕ × ℕ). not (nat_eq link.0 n)) path differ) in
    let one : length path ≤ suc (length (others n path)) = one_less n path differ in
    omega (arith, rest, one)

-- and where their walk's cursor is another, there is room for its link
pub full-room : (n m : ℕ) (t u : TaskId) (lock : Option LockId) (path : List (ℕ × ℕ)) → u.0 < n → IsFullWalk n m t lock u path → length path < n
full-room n m t u lock path lt full =
    few-differ n ((u.0, 0) ∷ path) (All-cons (λ (link : ℕ × ℕ). link.0 < n) (u.0, 0) path lt (All-weaker (Within n m) (λ (link : ℕ × ℕ). link.0 < n) (λ link is. is.0) path full.there))
    (AllPairs-cons Differ (u.0, 0) path (λ k d within same. full.ahead k d within (sym same)) full.differ)
