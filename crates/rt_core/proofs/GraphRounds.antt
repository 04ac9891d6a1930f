-- Rounds over sets of tasks that are words, and the least own priority of a set.
use Rattle.std.proofs.Common.{◌≡◌, ◌⊎◌, inl, inr, ℕ, ◌+◌, ◌<◌, ◌≤◌, Bool, true, false, length, refl, sym, ap, ◌∙◌, subst, arith, IfSome, Option, Some, None}
use Rattle.std.specs.Prelude.{◌||◌, nat_eq}
use Rattle.std.proofs.lemmas.Bool.{or_left, or_right, cases_lt}
use Rattle.rt_base.specs.declared.id.TaskId.{TaskId}
use Rattle.rt_model.specs.State.{State, task_part}
use Rattle.rt_model.specs.Graph.{leads_to, IsGraphPriority}
use Rattle.rt_model.specs.Rounds.{AreKnown, IsRound}
use Rattle.rt_model.specs.laws.Lawful.{IsLawful}
use Rattle.rt_model.proofs.Numbers.{same_number, number_itself}
use Rattle.rt_model.proofs.graph.Reaching.{owners-there}
use Rattle.rt_model.proofs.graph.Rounds.{round-none, round-more, known-near, known-far, known-priority}
use Rattle.rt_core.specs.TaskSet.{has}
use Rattle.rt_core.specs.KnownSets.{set_of, in_either, in_any, is_in, IsLeastOwn}

-- ---- a round

-- the round from a task on, for whatever task it is asked; that one is in it, or it is still at its begin
pub record IsOnRound (s : State) (near far : ℕ) (u : TaskId) (round : ℕ) (here : Option TaskId) : Type 0 where
  pub rounds : (t : TaskId) → t.0 < length s.tasks → has near t.0 ≡ true → IsRound s t (set_of round) here
  pub from : u.0 < length s.threads
  pub within : IfSome here (λ w. w.0 < length s.threads)
  pub first : (here ≡ Some u) ⊎ (has round u.0 ≡ true)

pub on-none : (s : State) (near far : ℕ) (u : TaskId) (round : ℕ) → u.0 < length s.threads → ((v : ℕ) → has round v ≡ false) → IsOnRound s near far u round (Some u)
on-none s near far u round there none = record {
  rounds = λ t lt is. round-none s t (set_of round) (Some u) lt (λ v within. none v.0);
  from = there;
  within = there;
  first = inl refl;
}

-- a task of which nothing is known is another one than one that is near
apart : (near far round : ℕ) (w t : TaskId) → in_any near far round w.0 ≡ false → has near t.0 ≡ true → nat_eq w.0 t.0 ≡ false
apart near far round w t new is = by_test (nat_eq w.0 t.0) refl
  where
    by_test : (b : Bool) → nat_eq w.0 t.0 ≡ b → b ≡ false
    by_test false at = refl
    by_test true at =
        let here : has near w.0 ≡ true = ap (has near) (same_number w.0 t.0 at) ∙ is in
        let known : in_any near far round w.0 ≡ true = or_left (in_either near far w.0) (has round w.0) (or_left (has near w.0) (has far w.0) here) in
        sym known ∙ new

module _ (s : State) (made : ℕ) (near far : ℕ) (u : TaskId) (lawful : IsLawful s made) where
  within64 : (v : TaskId) → v.0 < length s.tasks → v.0 < 64
  within64 v lt = let few = lawful.shape.few_tasks in let long = lawful.shape.tasks in omega arith

  pub on-more : (w : TaskId) (round more : ℕ) (next : Option TaskId) → in_any near far round w.0 ≡ false → ((v : ℕ) → v < 64 → has more v ≡ (nat_eq w.0 v || has round v))
      → next ≡ leads_to s w → IfSome next (λ v. v.0 < length s.threads) → IsOnRound s near far u round (Some w) → IsOnRound s near far u more next
  on-more w round more next new is leads within was = record {
    rounds = λ t lt at. subst (IsRound s t (set_of more)) (sym leads)
        (round-more s t w (set_of round) (set_of more) (owners-there s lawful.shape) lt (apart near far round w t new at) (λ v there. is v.0 (within64 v there)) (was.rounds t lt at));
    from = was.from;
    within = within;
    first = inr (elim was.first [
      | inl begin ↦ let same : w ≡ u = cc in is u.0 here ∙ or_left (nat_eq w.0 u.0) (has round u.0) (subst (λ (v : TaskId). nat_eq w.0 v.0 ≡ true) same (number_itself w.0))
      | inr in_round ↦ is u.0 here ∙ or_right (nat_eq w.0 u.0) (has round u.0) in_round
    ]);
  }
    where
      here : u.0 < 64
      here = let few = lawful.shape.few_tasks in let lt = was.from in omega arith

  -- what is known once it is at its end
  pub ended : (t : TaskId) (round more : ℕ) (here : Option TaskId) → t.0 < length s.tasks → IfSome here (λ w. w.0 < length s.threads)
      → (has near t.0 ≡ true → IsRound s t (set_of round) here) → AreKnown s t (set_of near) (set_of far) → is_in near here ≡ true → ((v : ℕ) → has more v ≡ (has near v || has round v)) → AreKnown s t (set_of more) (set_of far)
  ended t round more None lt within was known at is = absurd (no at)
    where
      no : false ≡ true → ⊥
      no never = cc
  ended t round more (Some w) lt within was known at is =
      known-near s t w (set_of near) (set_of far) (set_of round) (set_of more) lt (subst (λ (n : ℕ). w.0 < n) (sym lawful.shape.tasks) within) (λ v there. is v.0) known (was known.itself) at

  -- and where that isn't near
  pub ended-far : (t : TaskId) (round more : ℕ) (here : Option TaskId) → t.0 < length s.tasks → IfSome here (λ w. in_any near far round w.0 ≡ true)
      → (has near t.0 ≡ true → IsRound s t (set_of round) here) → AreKnown s t (set_of near) (set_of far) → is_in near here ≡ false → ((v : ℕ) → has more v ≡ (has far v || has round v)) → AreKnown s t (set_of near) (set_of more)
  ended-far t round more here lt end was known away is =
      known-far s t (set_of near) (set_of far) (set_of round) (set_of more) here (owners-there s lawful.shape) lt (λ v there. is v.0) known (was known.itself) (far-end here end away)
    where
      far-end : (here : Option TaskId) → IfSome here (λ w. in_any near far round w.0 ≡ true) → is_in near here ≡ false → IfSome here (λ w. (has far w.0 || has round w.0) ≡ true)
      far-end None end away = tt
      far-end (Some w) end away = subst (λ (b : Bool). ((b || has far w.0) || has round w.0) ≡ true) away end

-- ---- the least own priority

module _ (s : State) (near : ℕ) where
  pub least-more : (i best better : ℕ) → i < length s.tasks → IsLeastOwn s near i best → better ≤ best → (has near i ≡ true → better ≤ (task_part s (record { 0 = i })).own)
      → (better ≡ best) ⊎ ((has near i ≡ true) × (better ≡ (task_part s (record { 0 = i })).own)) → IsLeastOwn s near (i + 1) better
  least-more i best better there was le own one = record {
    below = λ u lt is. elim (cases_lt u.0 i) [
      | inl under ↦ let old = was.below u under is in omega arith
      | inr past ↦ let same : u.0 ≡ i = omega arith in subst (λ (v : TaskId). better ≤ (task_part s v).own) (λ k. record { 0 = sym same k }) (own (sym (ap (has near) same) ∙ is))
    ];
    one = elim one [
      | inl same ↦ (was.one.0, was.one.1, was.one.2, same ∙ was.one.3)
      | inr here ↦ (record { 0 = i }, there, here.0, here.1)
    ];
  }

-- ---- the graph priority

pub graph-priority : (s : State) (made : ℕ) (t : TaskId) (near far prio : ℕ) → IsLawful s made → t.0 < length s.threads → AreKnown s t (set_of near) (set_of far)
    → ((u : ℕ) → u < length s.threads → in_either near far u ≡ true) → IsLeastOwn s near (length s.threads) prio → IsGraphPriority s t prio
graph-priority s made t near far prio lawful there known all least =
    let long = lawful.shape.tasks in
    known-priority s t (set_of near) (set_of far) (λ u lt. all u.0 (omega (arith, lt, long))) known prio (omega (arith, there, long)) (λ u lt is. least.below u (omega (arith, lt, long)) is)
    least.one.0 least.one.1 least.one.2 least.one.3
