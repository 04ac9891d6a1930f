-- What a thread holds, and how many locks of a spinning kind that is of, where one hold changes.
use Rattle.std.proofs.Common.{◌≡◌, ℕ, zero, suc, ◌+◌, ◌<◌, ◌≤◌, Bool, true, false, cond, List, [], ◌∷◌, ◌&&◌, ◌||◌, length, get_or, replicate, refl, sym, ap, subst, ◌∙◌, arith, Option, option_map}
use Rattle.std.specs.Prelude.{slice_set, slice_get, nat_lt}
use Rattle.std.proofs.lemmas.Bool.{cond_both}
use Rattle.std.proofs.lemmas.List.{length-replicate}
use Rattle.std.proofs.lemmas.List.Elements.{All-replicate}
use Rattle.rt_base.specs.Kind.{spins}
use Rattle.rt_base.specs.declared.call.Call.{Call}
use Rattle.rt_base.specs.declared.kind.Kind.{Kind}
use Rattle.rt_base.specs.declared.id.Cpu.{Cpu}
use Rattle.rt_base.specs.declared.id.LockId.{LockId}
use Rattle.rt_base.specs.declared.limits.TheConstants.{MAX_LOCKS, MAX_TASKS}
use Rattle.rt_model.specs.declared.hold.Hold.{Hold}
use Rattle.rt_model.specs.laws.Shape.{IsThread}
use Rattle.rt_model.specs.Parts.{ThreadPart, hold_of, made_on}
use Rattle.rt_model.specs.events.Own.{spinning_hold, spinning_holds}
use Rattle.rt_parts.specs.Thread.{IsPrivate}
use Rattle.rt_parts.proofs.SharedSteps.{read-index}

-- a hold that is written, made of the one before, is made of the thread's hold of the lock
pub hold-set : (was now : ThreadPart) (l : LockId) (hold : Hold) (made : Hold → Hold) → was ≡ now → l.0 < length was.holds → hold ≡ get_or was.holds l.0 hold
    → record was { holds = slice_set was.holds l.0 (made hold) } ≡ record now { holds = slice_set now.holds l.0 (made (hold_of now l)) }
hold-set was now l hold made is lt at =
    subst (λ (thread : ThreadPart). record was { holds = slice_set was.holds l.0 (made hold) } ≡ record thread { holds = slice_set thread.holds l.0 (made (hold_of thread l)) }) is
    (ap (λ (h : Hold). record was { holds = slice_set was.holds l.0 (made h) }) (at ∙ sym (read-index was.holds l.0 hold _ lt)))

-- ---- spinning kinds

one-most : (kind : Kind) (hold : Hold) → spinning_hold kind hold ≤ 1
one-most kind hold = cond_both (spins kind && (hold.owns || nat_lt 0 hold.reads)) 1 0 (λ (n : ℕ). n ≤ 1) (λ _. omega arith) (λ _. omega arith)

-- not more than locks
pub spinning-most : (kinds : List Kind) (holds : List Hold) → spinning_holds kinds holds ≤ length kinds
spinning-most [] holds = omega arith
spinning-most (kind ∷ kinds) [] = omega arith
spinning-most (kind ∷ kinds) (hold ∷ holds) = omega (arith, one-most kind hold, spinning-most kinds holds)

-- one hold is among them
pub spinning-least : (kinds : List Kind) (holds : List Hold) (i : ℕ) (kind : Kind) (hold : Hold) → i < length kinds → length holds ≡ length kinds → kind ≡ get_or kinds i kind → hold ≡ get_or holds i hold
    → spinning_hold kind hold ≤ spinning_holds kinds holds
spinning-least [] holds i kind hold lt same at_kind at_hold = absurd (omega arith)
spinning-least (k ∷ kinds) [] i kind hold lt same at_kind at_hold = absurd (omega (arith, same))
spinning-least (k ∷ kinds) (h ∷ holds) zero kind hold lt same at_kind at_hold =
    let here : spinning_hold kind hold ≡ spinning_hold k h = λ i. spinning_hold (at_kind i) (at_hold i) in
    omega (arith, here)
spinning-least (k ∷ kinds) (h ∷ holds) (suc i) kind hold lt same at_kind at_hold =
    let rest = spinning-least kinds holds i kind hold (omega arith) (omega (arith, same)) at_kind at_hold in omega (arith, rest)

-- one hold is another
pub spinning-set : (kinds : List Kind) (holds : List Hold) (i : ℕ) (kind : Kind) (hold left : Hold) → i < length kinds → length holds ≡ length kinds → kind ≡ get_or kinds i kind → hold ≡ get_or holds i hold
    → spinning_holds kinds (slice_set holds i left) + spinning_hold kind hold ≡ spinning_holds kinds holds + spinning_hold kind left
spinning-set [] holds i kind hold left lt same at_kind at_hold = absurd (omega arith)
spinning-set (k ∷ kinds) [] i kind hold left lt same at_kind at_hold = absurd (omega (arith, same))
spinning-set (k ∷ kinds) (h ∷ holds) zero kind hold left lt same at_kind at_hold =
    let was : spinning_hold kind hold ≡ spinning_hold k h = λ i. spinning_hold (at_kind i) (at_hold i) in
    let is : spinning_hold kind left ≡ spinning_hold k left = ap (λ (x : Kind). spinning_hold x left) at_kind in
    omega (arith, was, is)
spinning-set (k ∷ kinds) (h ∷ holds) (suc i) kind hold left lt same at_kind at_hold =
    let rest = spinning-set kinds holds i kind hold left (omega arith) (omega (arith, same)) at_kind at_hold in omega (arith, rest)

-- nothing is held
pub spinning-none : (kinds : List Kind) → spinning_holds kinds (replicate (length kinds) (record { owns = false; reads = 0 })) ≡ 0
spinning-none [] = refl
spinning-none (kind ∷ kinds) = omega (arith, none_of (spins kind), spinning-none kinds)
  where
    none_of : (b : Bool) → (let n : ℕ = cond (b && false) 1 0 in n ≡ 0)
    none_of true = refl
    none_of false = refl

-- a thread that has made no call, and holds nothing
pub fresh-fits : (kinds : List Kind) (calls : List Call) (ks : List Kind) (cs : List Call) (holds : List Hold) → ks ≡ kinds → cs ≡ calls → holds ≡ replicate (length kinds) (record { owns = false; reads = 0 })
    → (cpu : Cpu) → length kinds ≤ MAX_LOCKS → IsThread calls 0 cpu MAX_TASKS (length kinds) → (at : Option Call) → at ≡ option_map (made_on cpu) (slice_get calls 0) → IsPrivate ks cs 0 holds 0 cpu at
fresh-fits kinds calls ks cs holds is_kinds is_calls is_holds cpu few_locks thread at is_at =
    let fresh : IsPrivate kinds calls 0 (replicate (length kinds) (record { owns = false; reads = 0 })) 0 cpu at = record {
      thread = thread;
      few = few_locks;
      holds = length-replicate (length kinds) _;
      spinning = sym (spinning-none kinds);
      reads = All-replicate (λ (hold : Hold). hold.reads ≤ 0) (length kinds) _ (omega arith);
      call = is_at;
    } in
    subst (λ (xs : List Kind). IsPrivate xs cs 0 holds 0 cpu at) (sym is_kinds)
    (subst (λ (xs : List Call). IsPrivate kinds xs 0 holds 0 cpu at) (sym is_calls) (subst (λ (xs : List Hold). IsPrivate kinds calls 0 xs 0 cpu at) (sym is_holds) fresh))
