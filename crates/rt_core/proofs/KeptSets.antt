-- The kept sets of tasks: a task looked at anew, and tasks that nobody is.
use Rattle.std.proofs.Common.{◌≡◌, ℕ, zero, suc, ◌<◌, ◌≤◌, Bool, true, false, cond, List, length, get_or, refl, sym, ap, ◌∙◌, arith, inl, inr, Option, Some, None, IfSome}
use Rattle.std.proofs.lemmas.Bool.Decides.{leb_tells}
use Rattle.std.specs.Prelude.{nat_eq, ◌&&◌}
use Rattle.rt_base.specs.declared.call.Call.{Call}
use Rattle.rt_base.specs.declared.id.TaskId.{TaskId}
use Rattle.rt_model.specs.Parts.{TaskPart, ThreadPart, call_of}
use Rattle.rt_model.specs.State.{State, Shared, task_part, thread_part}
use Rattle.rt_model.specs.CanMove.{can_at, can_move}
use Rattle.rt_model.specs.Run.{is_enabled, lowest, or_else}
use Rattle.rt_model.specs.Order.{in_walk, is_walking}
use Rattle.rt_model.proofs.Calling.{at_call, thread_part-index}
use Rattle.rt_model.proofs.Local.{has-next}
use Rattle.rt_model.proofs.Lowest.{lowest-found}
use Rattle.rt_model.proofs.Numbers.{same_number}
use Rattle.rt_core.specs.Core.{with_threads}
use Rattle.rt_core.specs.TaskSet.{has, IsLowestIn}

-- a set in which a task is put as the test says is right about that task, and about another one where it was
pub put-right : (test : ℕ → Bool) (old new t u : ℕ) (member : Bool) → has new u ≡ cond (nat_eq t u) member (has old u) → member ≡ test t → (nat_eq t u ≡ false → has old u ≡ test u) → has new u ≡ test u
put-right test old new t u member put is others = put ∙ by_test (nat_eq t u) refl
  where
    by_test : (b : Bool) → nat_eq t u ≡ b → cond b member (has old u) ≡ test u
    by_test true at = is ∙ ap test (same_number t u at)
    by_test false at = others at

module _ (sh : Shared) (threads : List ThreadPart) (t : TaskId) (thread : ThreadPart) (task : TaskPart) (lt : t.0 < length threads) (at : thread ≡ get_or threads t.0 thread) (part : task ≡ task_part (with_threads sh threads) t) where
  pub told-enabled : can_move thread task ≡ is_enabled (with_threads sh threads) t.0
  told-enabled = sym (has-next (with_threads sh threads) t ∙ (λ i. can_move (thread_part-index (with_threads sh threads) t thread lt at i) (sym part i)))

  pub told-walking : (in_walk thread.phase && can_move thread task) ≡ is_walking (with_threads sh threads) t.0
  told-walking = λ i. in_walk (sym (thread_part-index (with_threads sh threads) t thread lt at) i).phase && told-enabled i

-- nobody has no next event
pub beyond : (s : State) (u : TaskId) → length s.threads ≤ u.0 → is_enabled s u.0 ≡ false
beyond s u past = has-next s u ∙ by_call (call_of (thread_part s u)) refl
  where
    by_call : (call : Option Call) → call_of (thread_part s u) ≡ call → can_at (thread_part s u) (task_part s u) call ≡ false
    by_call None is = refl
    by_call (Some call) is = let there = (at_call s u call is).1 in absurd (omega arith)

and_false : (b : Bool) → (b && false) ≡ false
and_false true = refl
and_false false = refl

pub beyond-walking : (s : State) (u : TaskId) → length s.threads ≤ u.0 → is_walking s u.0 ≡ false
beyond-walking s u past = ap (λ b. in_walk (thread_part s u).phase && b) (beyond s u past) ∙ and_false (in_walk (thread_part s u).phase)

-- ---- the lowest one of a set

lowest_none : (test : ℕ → Bool) (n : ℕ) → ((u : ℕ) → u < n → test u ≡ false) → lowest test n ≡ None
lowest_none test zero none = refl
lowest_none test (suc n) none = λ i. or_else (lowest_none test n (λ u lt. none u (omega arith)) i) (cond (none n (omega arith) i) (Some (record { 0 = n })) None)

-- is the lowest one that passes the test of which the set is
module _ (test : ℕ → Bool) (word n : ℕ) (few : n ≤ 64) (is : (t : ℕ) → t < 64 → has word t ≡ test t) (past : (u : TaskId) → n ≤ u.0 → test u.0 ≡ false) where
  found : (t : TaskId) → t.0 < 64 → IsLowestIn word t.0 → Some t ≡ lowest test n
  found t lt low =
      let passes : test t.0 ≡ true = sym (is t.0 lt) ∙ low.0 in
      elim (leb_tells n t.0) [
        | inl beyond_n ↦ let no : true ≡ false = sym passes ∙ past t beyond_n.1 in cc
        | inr within ↦ sym (lowest-found test n t.0 within.1 (lowest_none test t.0 (λ u under. sym (is u (omega (arith, under, lt))) ∙ low.1 u under)) passes)
      ]

  pub lowest-kept : (result : Option TaskId) → IfSome result (λ t. IsLowestIn word t.0) → IfSome result (λ t. t.0 < 64) → (result ≡ None → (u : ℕ) → has word u ≡ false) → result ≡ lowest test n
  lowest-kept (Some t) low lt none = found t lt low
  lowest-kept None low lt none = sym (lowest_none test n (λ u under. sym (is u (omega (arith, under, few))) ∙ none refl u))
