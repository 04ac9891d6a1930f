-- When the stated order was cut short.
use Rattle.std.proofs.Common.{◌≡◌, ◌↔◌, ◌⊎◌, inl, inr, ℕ, zero, suc, ◌<◌, ◌≤◌, Bool, true, false, ◌&&◌, not, List, [], ◌∷◌, length, Option, Some, None, refl, sym, ap, ◌∙◌, subst, cond, arith}
use Rattle.std.specs.Prelude.{is_some, is_none, unwrap_or, slice_get}
use Rattle.std.proofs.Math.Nat.{eq-or-lt_of_le}
use Rattle.std.proofs.lemmas.Bool.{false≢true}
use Rattle.std.specs.List.{list_all}
use Rattle.rt_base.specs.declared.ended.Ended.{Ended}
use Rattle.rt_base.specs.declared.ended.Ended.TheVariants.{Done, Stuck, Limit}
use Rattle.rt_base.specs.declared.call.Call.{Call}
use Rattle.rt_base.specs.declared.id.TaskId.{TaskId}
use Rattle.rt_model.specs.declared.event.Event.{Event}
use Rattle.rt_model.specs.State.{State, shared, thread_part}
use Rattle.rt_model.specs.Parts.{ThreadPart, call_of}
use Rattle.rt_model.specs.NextEvent.{next_event, event_of}
use Rattle.rt_model.specs.StateAfter.{state_after}
use Rattle.rt_model.specs.Run.{is_enabled, is_at_end, is_done, ended_of, lowest, or_else}
use Rattle.rt_model.specs.Order.{Played, in_walk, then_play, if_enabled, is_walking, chosen_task, play_chosen, chosen}
use Rattle.rt_model.proofs.Lowest.{lowest-below}
use Rattle.rt_script.proofs.Tests.{left, right}
use Rattle.rt_policy.specs.Turns.{HasNext, IsCutShort}

-- ---- the lowest number that passes a test

passes_here : (n : ℕ) (t : TaskId) (test : ℕ → Bool) (b : Bool) → test n ≡ b → cond b (Some (record { 0 = n })) None ≡ Some t → test t.0 ≡ true
passes_here n t test true is found = let same : record { 0 = n } ≡ t = cc in subst (λ (u : TaskId). test u.0 ≡ true) same is
passes_here n t test false is found = cc

passes_rest : (n : ℕ) (t : TaskId) (test : ℕ → Bool) (o : Option TaskId) → ((u : TaskId) → o ≡ Some u → test u.0 ≡ true) → or_else o (cond (test n) (Some (record { 0 = n })) None) ≡ Some t → test t.0 ≡ true
passes_rest n t test None below found = passes_here n t test (test n) refl found
passes_rest n t test (Some u) below found = below t found

lowest-passes : (test : ℕ → Bool) (n : ℕ) (t : TaskId) → lowest test n ≡ Some t → test t.0 ≡ true
lowest-passes test zero t found = cc
lowest-passes test (suc n) t found = passes_rest n t test (lowest test n) (lowest-passes test n) found

or_else_first : (a b : Option TaskId) → is_none a ≡ false → is_none (or_else a b) ≡ false
or_else_first None b some = cc some
or_else_first (Some t) b some = refl

or_else_last : (a : Option TaskId) (t : TaskId) → is_none (or_else a (Some t)) ≡ false
or_else_last None t = refl
or_else_last (Some u) t = refl

or_else_none : (a b : Option TaskId) → or_else a b ≡ None → b ≡ None
or_else_none None b is = is
or_else_none (Some t) b is = cc is

or_else_either : (a b : Option TaskId) (t : TaskId) → or_else a b ≡ Some t → (a ≡ Some t) ⊎ (b ≡ Some t)
or_else_either None b t is = inr is
or_else_either (Some u) b t is = inl is

-- one that passes is a reason to find one
lowest-some : (test : ℕ → Bool) (n i : ℕ) → i < n → test i ≡ true → is_none (lowest test n) ≡ false
lowest-some test zero i lt is = absurd (omega arith)
lowest-some test (suc n) i lt is = elim (eq-or-lt_of_le at_most) [
  | inl at ↦ rw (at_last at) (or_else_last (lowest test n) (record { 0 = n }))
  | inr below ↦ or_else_first (lowest test n) (cond (test n) (Some (record { 0 = n })) None) (lowest-some test n i below is)
]
  where
    at_most : i ≤ n
    at_most = omega arith

    at_last : i ≡ n → test n ≡ true
    at_last at = subst (λ (m : ℕ). test m ≡ true) at is

-- ---- who is chosen has a next event

enabled-passes : (s : State) (last : Option TaskId) (t : TaskId) → if_enabled s last ≡ Some t → is_enabled s t.0 ≡ true
enabled-passes s None t is = cc
enabled-passes s (Some u) t is = there (is_enabled s u.0) refl is
  where
    there : (b : Bool) → is_enabled s u.0 ≡ b → cond b (Some u) None ≡ Some t → is_enabled s t.0 ≡ true
    there true on at = let same : u ≡ t = cc in subst (λ (v : TaskId). is_enabled s v.0 ≡ true) same on
    there false on at = cc

pub chosen-passes : (s : State) (last : Option TaskId) (t : TaskId) → chosen_task s last ≡ Some t → is_enabled s t.0 ≡ true
chosen-passes s last t is =
    elim (or_else_either (if_enabled s last) (or_else (lowest (is_walking s) (length s.threads)) (lowest (is_enabled s) (length s.threads))) t is) [
      | inl same ↦ enabled-passes s last t same
      | inr others ↦ elim (or_else_either (lowest (is_walking s) (length s.threads)) (lowest (is_enabled s) (length s.threads)) t others) [
        | inl walking ↦ second (in_walk (thread_part s (record { 0 = t.0 })).phase) (is_enabled s t.0) (lowest-passes (is_walking s) (length s.threads) t walking)
        | inr enabled ↦ lowest-passes (is_enabled s) (length s.threads) t enabled
      ]
    ]
  where
    second : (a b : Bool) → (a && b) ≡ true → b ≡ true
    second true b is = is
    second false b is = cc is

-- nobody is chosen where nobody has a next event
pub chosen-nobody : (s : State) (last : Option TaskId) → chosen_task s last ≡ None → lowest (is_enabled s) (length s.threads) ≡ None
chosen-nobody s last is =
    or_else_none (lowest (is_walking s) (length s.threads)) (lowest (is_enabled s) (length s.threads))
    (or_else_none (if_enabled s last) (or_else (lowest (is_walking s) (length s.threads)) (lowest (is_enabled s) (length s.threads))) is)

-- all turns are played where somebody has a next event afterwards
abbrev PlaysAll : (State → Option TaskId → Played) → ℕ → Type 0
PlaysAll rest n = (s : State) (last : Option TaskId) → HasNext (rest s last).state → length (rest s last).events ≡ n

move_plays : (rest : State → Option TaskId → Played) (n : ℕ) (s : State) (last : Option TaskId) (t : TaskId) (e : Option Event) → PlaysAll rest n → is_some e ≡ true → HasNext (then_play rest s last t e).state → length (then_play rest s last t e).events ≡ suc n
move_plays rest n s last t None all some next = cc some
move_plays rest n s last t (Some e) all some next = ap suc (all (state_after s e) (Some t) next)

choice_plays : (rest : State → Option TaskId → Played) (n : ℕ) (s : State) (last : Option TaskId) (o : Option TaskId) → PlaysAll rest n → chosen_task s last ≡ o → HasNext (play_chosen rest s last o).state → length (play_chosen rest s last o).events ≡ suc n
choice_plays rest n s last None all is next =
    let some = lowest-some (is_enabled s) (length s.threads) next.0 next.1 next.2 in
    let none : is_none (lowest (is_enabled s) (length s.threads)) ≡ true = ap is_none (chosen-nobody s last is) in
    absurd (false≢true (sym some ∙ none))
choice_plays rest n s last (Some t) all is next = move_plays rest n s last t (next_event s t) all (chosen-passes s last t is) next

pub all_turns : (n : ℕ) → PlaysAll (chosen n) n
all_turns zero s last next = refl
all_turns (suc n) s last next = choice_plays (chosen n) n s last (chosen_task s last) (all_turns n) refl next

-- ---- how the run ended

thread_at : (threads : List ThreadPart) (i : ℕ) (d : ThreadPart) → list_all is_at_end threads ≡ true → i < length threads → is_at_end (unwrap_or (slice_get threads i) d) ≡ true
thread_at [] i d all lt = absurd (omega arith)
thread_at (thread ∷ threads) zero d all lt = left (is_at_end thread) (list_all is_at_end threads) all
thread_at (thread ∷ threads) (suc i) d all lt = thread_at threads i d (right (is_at_end thread) (list_all is_at_end threads) all) (omega arith)

-- a task that is at the end of its calls has no next event
done-none : (s : State) → is_done s ≡ true → HasNext s → ⊥
done-none s done next = no_call (call_of thread) (thread_at s.threads next.0 _ done next.1) next.2
  where
    t : TaskId
    t = record { 0 = next.0 }

    thread : ThreadPart
    thread = thread_part s t

    no_call : (o : Option Call) → is_none o ≡ true → is_some (event_of (shared s) t thread o) ≡ true → ⊥
    no_call None none some = cc some
    no_call (Some call) none some = cc none

-- the tests of how a run ended: whether it is done, and whether nobody has a next event
limit_by : (done nobody : Bool) → cond done Done (cond (nobody && not done) Stuck Limit) ≡ Limit → nobody ≡ false
limit_by true nobody is = cc is
limit_by false true is = cc is
limit_by false false is = refl

not_true : (b : Bool) → (b ≡ true → ⊥) → b ≡ false
not_true true h = absurd (h refl)
not_true false h = refl

found : (o : Option TaskId) → is_none o ≡ false → (t : TaskId) × (o ≡ Some t)
found None some = cc some
found (Some t) some = (t, refl)

pub limit_next : (s : State) → ended_of s ≡ Limit → HasNext s
limit_next s is =
    let who = found (lowest (is_enabled s) (length s.threads)) (limit_by (is_done s) (is_none (lowest (is_enabled s) (length s.threads))) is) in
    (who.0.0, lowest-below (is_enabled s) (length s.threads) who.0 who.1, lowest-passes (is_enabled s) (length s.threads) who.0 who.1)

pub next_limit : (s : State) → HasNext s → ended_of s ≡ Limit
next_limit s next =
    let not_done : is_done s ≡ false = not_true (is_done s) (λ done. done-none s done next) in
    let some = lowest-some (is_enabled s) (length s.threads) next.0 next.1 next.2 in
    rw (not_done, some) refl

-- a run ended with its turns used up exactly where it made them all and somebody has a next event
pub cut_short : (n : ℕ) (s : State) (last : Option TaskId) (left : State) (ended : Ended) → ended ≡ ended_of left → left ≡ (chosen n s last).state → (ended ≡ Limit) ↔ IsCutShort n (chosen n s last)
cut_short n s last left ended ends_so is = (
  λ limit. let next = subst HasNext is (limit_next left (sym ends_so ∙ limit)) in (all_turns n s last next, next),
  λ short. ends_so ∙ (ap ended_of is ∙ next_limit (chosen n s last).state short.1),
)
