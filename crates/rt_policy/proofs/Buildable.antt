-- What a number gives can be built.
use Rattle.std.proofs.Common.{◌≡◌, inl, inr, ℕ, zero, suc, ◌+◌, ◌-◌, ◌*◌, ◌/◌, ◌%◌, ◌<◌, ◌≤◌, Bool, true, false, List, [], ◌∷◌, ◌++◌, length, refl, ap, sym, ◌∙◌, subst, arith, length-append, lit<, lit≤, replicate}
use Rattle.std.specs.Prelude.{map, sum, All, ◌==◌, if◌then◌else◌}
use Rattle.std.proofs.lemmas.Bool.{cases_lt}
use Rattle.std.proofs.lemmas.List.{map-append}
use Rattle.std.proofs.lemmas.List.Elements.{All-nil, All-cons, All-append}
use Rattle.std.proofs.lemmas.List.Sums.{sum_by_push}
use Rattle.rt_base.specs.declared.call.Call.{Call}
use Rattle.rt_base.specs.declared.call.Call.TheVariants.{Lock, Unlock, Spin, Unspin, Read, Unread, Write, Unwrite, Local, Unlocal}
use Rattle.rt_base.specs.declared.id.TaskId.{TaskId}
use Rattle.rt_base.specs.declared.kind.Kind.TheVariants as kinds
use Rattle.rt_base.specs.declared.limits.TheConstants.{MAX_PRIO}
use Rattle.rt_base.specs.Script.{Script, IsCallOf, IsLockOf, IsMutex, IsSpin, IsReaderLock, IsLocal}
use Rattle.rt_script.specs.Building.{TaskPlan, CanBuild}
use Rattle.rt_policy.specs.Draws.{number_after, draw}
use Rattle.rt_policy.specs.Generator.{each, lock_kinds, mutex, spin, rwlock, rwsem, local, block_calls, block, blocks, start, task, pick, generated_plan, generated}
use Rattle.rt_policy.proofs.Drawing.{draw-below}
use Rattle.rt_policy.proofs.GeneratedParts.{length-each, All-each}

-- ---- the locks

three : (P : ℕ → Type 0) → P 0 → P 1 → P 2 → (i : ℕ) → i < 3 → P i
three P a b c zero lt = a
three P a b c (suc zero) lt = b
three P a b c (suc (suc zero)) lt = c
three P a b c (suc (suc (suc i))) lt = absurd (omega arith)

six : (P : ℕ → Type 0) → P 0 → P 1 → P 2 → P 3 → P 4 → P 5 → (i : ℕ) → i < 6 → P i
six P a b c d e f i lt = elim (cases_lt i 3) [
  | inl below ↦ three P a b c i below
  | inr above ↦ let at : 3 + (i - 3) ≡ i = omega arith in subst P at (three (λ k. P (3 + k)) d e f (i - 3) (omega arith))
]

-- the script that n gives
abbrev script : ℕ → Script
script n = generated n

mutexes : (n p : ℕ) → p < 12 → IsLockOf (script n) IsMutex (mutex p)
mutexes n p lt = elim (cases_lt p 6) [
  | inl below ↦ six (λ k. IsLockOf (script n) IsMutex (mutex k)) refl refl refl refl refl refl p below
  | inr above ↦
      let at : 6 + (p - 6) ≡ p = omega arith in
      subst (λ k. IsLockOf (script n) IsMutex (mutex k)) at (six (λ k. IsLockOf (script n) IsMutex (mutex (6 + k))) refl refl refl refl refl refl (p - 6) (omega arith))
]

spins : (n p : ℕ) → IsLockOf (script n) IsSpin (spin p)
spins n p = six (λ r. IsLockOf (script n) IsSpin (record { 0 = 12 + r })) refl refl refl refl refl refl (p % 6) (omega arith)

rwlocks : (n p : ℕ) → IsLockOf (script n) IsReaderLock (rwlock p)
rwlocks n p = three (λ r. IsLockOf (script n) IsReaderLock (record { 0 = 18 + r })) tt tt tt (p % 3) (omega arith)

rwsems : (n p : ℕ) → IsLockOf (script n) IsReaderLock (rwsem p)
rwsems n p = three (λ r. IsLockOf (script n) IsReaderLock (record { 0 = 21 + r })) tt tt tt (p % 3) (omega arith)

is_local : (n : ℕ) → IsLockOf (script n) IsLocal local
is_local n = (refl, refl)

-- ---- the calls

either : (P : List Call → Type 0) (b : Bool) (xs ys : List Call) → P xs → P ys → P (if b then xs else ys)
either P true xs ys x y = x
either P false xs ys x y = y

-- what holds of the calls of each kind of block holds of a block
of_kinds : (P : List Call → Type 0) (c p q : ℕ) → P (Lock (mutex p) ∷ Lock (mutex q) ∷ Unlock (mutex q) ∷ Unlock (mutex p) ∷ []) → P (Spin (spin p) ∷ Unspin (spin p) ∷ []) → P (Read (rwlock p) ∷ Unread (rwlock p) ∷ [])
    → P (Write (rwsem p) ∷ Unwrite (rwsem p) ∷ []) → P (Lock (mutex p) ∷ Write (rwlock q) ∷ Unwrite (rwlock q) ∷ Unlock (mutex p) ∷ []) → P (Local local ∷ Unlocal local ∷ []) → P (block_calls c p q)
unfolding block_calls
of_kinds P c p q nested spun read written inner localised =
    either P (c == 0) _ _ nested (either P (c == 1) _ _ spun (either P (c == 2) _ _ read (either P (c == 3) _ _ written (either P (c == 4) _ _ inner localised))))

pair : (P : Call → Type 0) (a b : Call) → P a → P b → All P (a ∷ b ∷ [])
pair P a b x y = All-cons P a (b ∷ []) x (All-cons P b [] y (All-nil P))

four : (P : Call → Type 0) (a b c d : Call) → P a → P b → P c → P d → All P (a ∷ b ∷ c ∷ d ∷ [])
four P a b c d x y z w = All-cons P a (b ∷ c ∷ d ∷ []) x (All-cons P b (c ∷ d ∷ []) y (pair P c d z w))

block-fits : (n x : ℕ) → All (IsCallOf (script n)) (block x)
block-fits n x =
    let P : Call → Type 0 = IsCallOf (script n) in
    let p : ℕ = draw x 12 1 in
    let q : ℕ = draw x 12 2 in
    let m : IsLockOf (script n) IsMutex (mutex p) = mutexes n p (draw-below x 12 1 (lit< tt)) in
    let k : IsLockOf (script n) IsMutex (mutex q) = mutexes n q (draw-below x 12 2 (lit< tt)) in
    of_kinds (All P) (draw x 6 0) p q (four P _ _ _ _ m k k m) (pair P _ _ (spins n p) (spins n p)) (pair P _ _ (rwlocks n p) (rwlocks n p))
    (pair P _ _ (rwsems n p) (rwsems n p)) (four P _ _ _ _ m (rwlocks n q) (rwlocks n q) m) (pair P _ _ (is_local n) (is_local n))

block-short : (x : ℕ) → length (block x) ≤ 4
block-short x = of_kinds (λ calls. length calls ≤ 4) (draw x 6 0) (draw x 12 1) (draw x 12 2) (lit≤ tt) (lit≤ tt) (lit≤ tt) (lit≤ tt) (lit≤ tt) (lit≤ tt)

blocks-fit : (n x m : ℕ) → All (IsCallOf (script n)) (blocks x m)
unfolding blocks
blocks-fit n x zero = All-nil (IsCallOf (script n))
blocks-fit n x (suc m) = All-append (IsCallOf (script n)) (blocks x m) (block (number_after x (3 * m))) (blocks-fit n x m) (block-fits n (number_after x (3 * m)))

blocks-short : (x m : ℕ) → length (blocks x m) ≤ 4 * m
unfolding blocks
blocks-short x zero = omega arith
blocks-short x (suc m) = omega (arith, length-append (blocks x m) (block (number_after x (3 * m))), blocks-short x m, block-short (number_after x (3 * m)))

sum-each : {A : Type 0} (size : A → ℕ) (f : ℕ → A) → ((i : ℕ) → size (f i) ≤ 400) → (n : ℕ) → sum (map size (each n f)) ≤ 400 * n
unfolding each
sum-each size f most zero = omega arith
sum-each size f most (suc n) =
    let one : map size (each n f ++ f n ∷ []) ≡ map size (each n f) ++ size (f n) ∷ [] = map-append size (each n f) (f n ∷ []) in
    omega (arith, ap sum one, sum_by_push (λ x. x) (map size (each n f)) (size (f n)), sum-each size f most n, most n)

-- ---- the plan

pub can_build : (n : ℕ) → CanBuild (generated_plan n)
can_build n = record {
  cpus = (lit≤ tt, lit≤ tt);
  tasks = omega (arith, length-each 32 (task n));
  locks = lit≤ tt;
  calls = omega (arith, sum-each (λ (t : TaskPlan). length t.calls) (task n) (λ t. blocks-short (number_after n (64 + 300 * t)) 100) 32);
  picks = omega (arith, length-each 20000 (pick (number_after n 9664)));
  each_own = All-each (λ (t : TaskPlan). t.own ≤ MAX_PRIO) 32 (task n) (λ t. let h = draw-below n 140 (2 * t) (lit< tt) in omega arith);
  each_cpu = All-each (λ (t : TaskPlan). t.cpu.0 < 4) 32 (task n) (λ t. draw-below n 4 (2 * t + 1) (lit< tt));
  each_call = All-each (λ (t : TaskPlan). All (IsCallOf (script n)) t.calls) 32 (task n) (λ t. blocks-fit n (number_after n (64 + 300 * t)) 100);
  each_pick = All-each (λ (t : TaskId). t.0 < length (each 32 (task n))) 20000 (pick (number_after n 9664))
      (λ i. let h = draw-below (number_after n 9664) 32 i (lit< tt) in omega (arith, length-each 32 (task n)));
  whole = (replicate 12 kinds.Mutex ++ replicate 6 kinds.Spin ++ replicate 3 kinds.RwLock ++ replicate 3 kinds.RwSem ++ kinds.Local ∷ [], refl);
}
