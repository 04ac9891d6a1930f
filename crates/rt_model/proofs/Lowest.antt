-- The lowest number that passes a test.
use Rattle.std.proofs.Common.{◌≡◌, ◌⊎◌, inl, inr, ℕ, zero, suc, ◌<◌, ◌≤◌, Bool, true, false, refl, subst, arith, Some, None, cond, length, IfSome, Option}
use Rattle.std.proofs.Math.Nat.{le-suc_iff}
use Rattle.rt_base.specs.declared.id.TaskId.{TaskId}
use Rattle.rt_model.specs.State.{State}
use Rattle.rt_model.specs.Order.{if_enabled, is_walking, chosen_task}
use Rattle.rt_model.specs.Run.{is_enabled, lowest, or_else}

below_or_at : (i n : ℕ) → i < suc n → (i < n) ⊎ (i ≡ n)
below_or_at i zero lt = inr (omega arith)
below_or_at i (suc n) lt = elim (le-suc_iff.0 at_most) [ inl le ↦ inl (omega arith) | inr is ↦ inr is ]
  where
    at_most : i ≤ suc n
    at_most = omega arith

-- one that passes, with none below it
pub lowest-found : (test : ℕ → Bool) (n i : ℕ) → i < n → lowest test i ≡ None → test i ≡ true → lowest test n ≡ Some (record { 0 = i })
lowest-found test zero i lt none is = absurd (omega arith)
lowest-found test (suc n) i lt none is = elim (below_or_at i n lt) [
  | inl below ↦ rw (lowest-found test n i below none is) refl
  | inr at ↦ subst (λ (m : ℕ). lowest test (suc m) ≡ Some (record { 0 = i })) at (rw (none, is) refl)
]

below_at : (n : ℕ) (t : TaskId) (b : Bool) → cond b (Some (record { 0 = n })) None ≡ Some t → t.0 < suc n
below_at n t true at = let same : record { 0 = n } ≡ t = cc in subst (λ (u : TaskId). u.0 < suc n) same (omega arith)
below_at n t false at = cc

below_rest : (n : ℕ) (t : TaskId) (b : Bool) (o : Option TaskId) → ((u : TaskId) → o ≡ Some u → u.0 < n) → or_else o (cond b (Some (record { 0 = n })) None) ≡ Some t → t.0 < suc n
below_rest n t b None below at = below_at n t b at
below_rest n t b (Some u) below at = let under = below t at in omega arith

-- it is below the bound
pub lowest-below : (test : ℕ → Bool) (n : ℕ) (t : TaskId) → lowest test n ≡ Some t → t.0 < n
lowest-below test zero t is = cc
lowest-below test (suc n) t is = below_rest n t (test n) (lowest test n) (lowest-below test n) is

or_else_some : (a b : Option TaskId) (t : TaskId) → or_else a b ≡ Some t → (a ≡ Some t) ⊎ (b ≡ Some t)
or_else_some None b t is = inr is
or_else_some (Some u) b t is = inl is

enabled_below : (s : State) (last : Option TaskId) (t : TaskId) → if_enabled s last ≡ Some t → IfSome last (λ u. u.0 < length s.threads) → t.0 < length s.threads
enabled_below s None t is within = cc
enabled_below s (Some u) t is within = there (is_enabled s u.0) is
  where
    there : (b : Bool) → cond b (Some u) None ≡ Some t → t.0 < length s.threads
    there true at = let same : u ≡ t = cc in subst (λ (v : TaskId). v.0 < length s.threads) same within
    there false at = cc

-- who is chosen is a task
pub chosen_below : (s : State) (last : Option TaskId) (t : TaskId) → chosen_task s last ≡ Some t → IfSome last (λ u. u.0 < length s.threads) → t.0 < length s.threads
chosen_below s last t is within =
    elim (or_else_some (if_enabled s last) (or_else (lowest (is_walking s) (length s.threads)) (lowest (is_enabled s) (length s.threads))) t is) [
      | inl here ↦ enabled_below s last t here within
      | inr others ↦ elim (or_else_some (lowest (is_walking s) (length s.threads)) (lowest (is_enabled s) (length s.threads)) t others) [
        | inl walking ↦ lowest-below (is_walking s) (length s.threads) t walking
        | inr enabled ↦ lowest-below (is_enabled s) (length s.threads) t enabled
      ]
    ]
