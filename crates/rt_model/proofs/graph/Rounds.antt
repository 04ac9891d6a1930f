-- How a round goes on, what is known at its end, and the graph priority once it is known of each task whether it leads to one.
use Rattle.std.proofs.Common.{◌≡◌, ◌⊎◌, inl, inr, ℕ, ◌<◌, ◌≤◌, Bool, true, false, length, refl, sym, ap, ◌∙◌, subst, IfSome, Option, Some}
use Rattle.std.specs.Prelude.{◌||◌, nat_eq}
use Rattle.std.proofs.lemmas.Bool.{or_cases, or_left, or_right}
use Rattle.rt_base.specs.declared.id.TaskId.{TaskId}
use Rattle.rt_model.specs.State.{State, task_part}
use Rattle.rt_model.specs.Graph.{Leads, leads_to, Reaches, at_once, onward, IsGraphPriority}
use Rattle.rt_model.specs.Rounds.{Set, AreKnown, IsRound}
use Rattle.rt_model.proofs.Lists.{if_found}
use Rattle.rt_model.proofs.Numbers.{same_task, number_itself}
use Rattle.rt_model.proofs.graph.Reaching.{OwnersThere, leads-there, leads-within, leads-to, to-leads, reaches-join, stays-in}

-- ---- a round

not-in : (b : Bool) → b ≡ false → b ≡ true → ⊥
not-in b out in_it = cc

-- at its begin nobody is in it
pub round-none : (s : State) (t : TaskId) (round : Set) (here : Option TaskId) → t.0 < length s.tasks → ((u : TaskId) → u.0 < length s.tasks → round u ≡ false) → IsRound s t round here
round-none s t round here lt none = record {
  other = none t lt;
  stay = λ u v at is leads. absurd (not-in (round u) (none u at) is);
  lead = λ u at is. absurd (not-in (round u) (none u at) is);
}

-- it goes on by the edge of where it stands
pub round-more : (s : State) (t w : TaskId) (round more : Set) → OwnersThere s → t.0 < length s.tasks → nat_eq w.0 t.0 ≡ false
    → ((u : TaskId) → u.0 < length s.tasks → more u ≡ (nat_eq w.0 u.0 || round u)) → IsRound s t round (Some w) → IsRound s t more (leads_to s w)
round-more s t w round more owners lt apart is was = record { other = is t lt ∙ rw (apart, was.other) refl; stay = stay; lead = lead }
  where
    stay : (u v : TaskId) → u.0 < length s.tasks → more u ≡ true → Leads s u v → (more v ≡ true) ⊎ (leads_to s w ≡ Some v)
    stay u v at here leads = elim (or_cases (nat_eq w.0 u.0) (round u) (sym (is u at) ∙ here)) [
      | inl same ↦ inr (leads-to s w v (subst (λ (x : TaskId). Leads s x v) (sym (same_task w u same)) leads))
      | inr in_round ↦ elim (was.stay u v at in_round leads) [
        | inl stays ↦ inl (is v (leads-within s owners u v leads) ∙ or_right (nat_eq w.0 v.0) (round v) stays)
        | inr stands ↦ inl (is v (leads-within s owners u v leads) ∙ or_left (nat_eq w.0 v.0) (round v) (itself v stands))
      ]
    ]
      where
        itself : (v : TaskId) → Some w ≡ Some v → nat_eq w.0 v.0 ≡ true
        itself v some = let same : w ≡ v = cc in subst (λ (x : TaskId). nat_eq w.0 x.0 ≡ true) same (number_itself w.0)

    lead : (u : TaskId) → u.0 < length s.tasks → more u ≡ true → IfSome (leads_to s w) (Reaches s u)
    lead u at here = if_found (leads_to s w) (Reaches s u) (λ v some. elim (or_cases (nat_eq w.0 u.0) (round u) (sym (is u at) ∙ here)) [
      | inl same ↦ at_once (subst (λ (x : TaskId). Leads s x v) (same_task w u same) (to-leads s w v some))
      | inr in_round ↦ reaches-join s u w v (was.lead u at in_round) (at_once (to-leads s w v some))
    ])

-- ---- at its end

-- where it stands at a task that leads there, all of it does
pub known-near : (s : State) (t w : TaskId) (near far round more : Set) → t.0 < length s.tasks → w.0 < length s.tasks
    → ((u : TaskId) → u.0 < length s.tasks → more u ≡ (near u || round u)) → AreKnown s t near far → IsRound s t round (Some w) → near w ≡ true → AreKnown s t more far
known-near s t w near far round more lt there is known ended at = record { itself = is t lt ∙ or_left (near t) (round t) known.itself; lead = lead; other = known.other; stay = known.stay }
  where
    lead : (u : TaskId) → u.0 < length s.tasks → more u ≡ true → (u ≡ t) ⊎ Reaches s u t
    lead u within here = elim (or_cases (near u) (round u) (sym (is u within) ∙ here)) [
      | inl was ↦ known.lead u within was
      | inr in_round ↦ inr (elim (known.lead w there at) [
        | inl same ↦ subst (Reaches s u) same (ended.lead u within in_round)
        | inr reaches ↦ reaches-join s u w t (ended.lead u within in_round) reaches
      ])
    ]

-- where it stands nowhere, at a task that doesn't, or at one of itself, none of it does
pub known-far : (s : State) (t : TaskId) (near far round more : Set) (here : Option TaskId) → OwnersThere s → t.0 < length s.tasks → ((u : TaskId) → u.0 < length s.tasks → more u ≡ (far u || round u))
    → AreKnown s t near far → IsRound s t round here → IfSome here (λ w. (far w || round w) ≡ true) → AreKnown s t near more
known-far s t near far round more here owners lt is known ended at = record { itself = known.itself; lead = known.lead; other = is t lt ∙ rw (known.other, ended.other) refl; stay = stay }
  where
    stay : (u v : TaskId) → u.0 < length s.tasks → more u ≡ true → Leads s u v → more v ≡ true
    stay u v within was leads = is v (leads-within s owners u v leads) ∙ elim (or_cases (far u) (round u) (sym (is u within) ∙ was)) [
      | inl away ↦ or_left (far v) (round v) (known.stay u v within away leads)
      | inr in_round ↦ elim (ended.stay u v within in_round leads) [
        | inl stays ↦ or_right (far v) (round v) stays
        | inr stands ↦ subst (λ (o : Option TaskId). IfSome o (λ w. (far w || round w) ≡ true)) stands at
      ]
    ]

-- ---- once each task is in one of the sets

reaches-there : (s : State) (t u : TaskId) → Reaches s t u → t.0 < length s.tasks
reaches-there s t u (at_once {t = a} {u = b} leads) = leads-there s a b leads
reaches-there s t u (onward {t = a} {u = b} {v = c} leads reaches) = leads-there s a b leads

module _ (s : State) (t : TaskId) (near far : Set) (all : (u : TaskId) → u.0 < length s.tasks → (near u || far u) ≡ true) (known : AreKnown s t near far) where
  -- who leads to the task is known to
  pub known-reaches : (u : TaskId) → Reaches s u t → near u ≡ true
  known-reaches u reaches = elim (or_cases (near u) (far u) (all u (reaches-there s u t reaches))) [
    | inl leads ↦ leads
    | inr stays ↦ absurd (not-in (far t) known.other (stays-in s (λ v. far v ≡ true) (λ v w is leads. known.stay v w (leads-there s v w leads) is leads) u t stays reaches))
  ]

  -- the least own priority of those is the graph priority
  pub known-priority : (prio : ℕ) → t.0 < length s.tasks → ((u : TaskId) → u.0 < length s.tasks → near u ≡ true → prio ≤ (task_part s u).own)
      → (u : TaskId) → u.0 < length s.tasks → near u ≡ true → prio ≡ (task_part s u).own → IsGraphPriority s t prio
  known-priority prio lt below u there leads is = record {
    own = below t lt known.itself;
    others = λ v reaches. below v (reaches-there s v t reaches) (known-reaches v reaches);
    one = elim (known.lead u there leads) [
      | inl same ↦ inl (is ∙ ap (λ (v : TaskId). (task_part s v).own) same)
      | inr reaches ↦ inr (u, reaches, is)
    ];
  }
