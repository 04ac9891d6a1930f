-- A thread that is on its way through an inner lock, and who owns a lock in a lawful state.
use Rattle.std.proofs.Common.{◌≡◌, ℕ, Bool, true, false, ◌&&◌, ◌||◌, refl, sym, ap, ◌∙◌, subst, Option, Some, None, IfSome}
use Rattle.std.specs.Prelude.{nat_eq, option_and_then}
use Rattle.std.proofs.lemmas.Bool.{or_parts}
use Rattle.rt_base.specs.declared.call.Call.{Call}
use Rattle.rt_base.specs.declared.id.LockId.{LockId}
use Rattle.rt_base.specs.declared.id.TaskId.{TaskId}
use Rattle.rt_model.specs.declared.phase.Phase.{Phase}
use Rattle.rt_model.specs.declared.phase.Phase.TheVariants as phases
use Rattle.rt_model.specs.Parts.{ThreadPart, hold_of}
use Rattle.rt_model.specs.State.{State, owner_part, thread_part}
use Rattle.rt_model.specs.Choice.{called_lock, present_lock, is_on}
use Rattle.rt_model.specs.laws.Owners.{owned_by, has_inner, is_passing, has_owner_part, gives_back, OwnersLaw}
use Rattle.rt_model.specs.laws.Queued.{asked_in}
use Rattle.rt_model.specs.laws.Lawful.{IsLawful}
use Rattle.rt_model.proofs.Calling.{IsIn, asks-present, ends-called, ReturnsBy, Returns, from_hold, from_inside}
use Rattle.rt_model.proofs.Numbers.{number_itself, nobodys}
use Rattle.rt_model.proofs.events.Acquire.{AsksBy, from_start, from_reading}

-- the lock that a thread's call is about
pub present-at : (s : State) (t : TaskId) (phase : Phase) (call : Call) (lock : Option LockId) → IsIn s t phase call → called_lock call ≡ lock → present_lock (thread_part s t) ≡ lock
present-at s t phase call lock at about = ap (λ (c : Option Call). option_and_then called_lock c) at.calling ∙ about

-- in any other phase a thread is inside no lock
pub outside : (thread : ThreadPart) (l : LockId) → has_inner thread.phase ≡ false → is_passing thread l ≡ false
outside thread l is = ap (λ (b : Bool). b && is_on (present_lock thread) l) is

-- in such a phase it is inside the one that its call is about
pub inside-at : (thread : ThreadPart) (l m : LockId) → has_inner thread.phase ≡ true → present_lock thread ≡ Some l → is_passing thread m ≡ nat_eq l.0 m.0
inside-at thread l m is present = λ i. is i && is_on (present i) m

or_false : (b : Bool) → (b || false) ≡ b
or_false true = refl
or_false false = refl

or_true : (b : Bool) → (b || true) ≡ true
or_true true = refl
or_true false = refl

-- it has the owner part of a lock that it isn't inside exactly where it holds that, and not for reading
pub apart-owns : (thread : ThreadPart) (l : LockId) → is_passing thread l ≡ false → has_owner_part thread l ≡ (hold_of thread l).owns
apart-owns thread l is = ap (λ (b : Bool). (hold_of thread l).owns || b) is ∙ or_false (hold_of thread l).owns

-- so in any other phase each lock
pub outside-owns : (thread : ThreadPart) (l : LockId) → has_inner thread.phase ≡ false → has_owner_part thread l ≡ (hold_of thread l).owns
outside-owns thread l is = apart-owns thread l (outside thread l is)

pub inside-its : (s : State) (t : TaskId) (l : LockId) (phase : Phase) (call : Call) → IsIn s t phase call → has_inner phase ≡ true → called_lock call ≡ Some l → is_passing (thread_part s t) l ≡ true
inside-its s t l phase call at is about = inside-at (thread_part s t) l l (ap has_inner at.phased ∙ is) (present-at s t phase call (Some l) at about) ∙ number_itself l.0

module _ (s : State) (t : TaskId) (l : LockId) (owners : OwnersLaw s) where
  -- a task in another phase owns a lock exactly where it holds it, and not for reading
  pub outside-owned : (phase : Phase) (call : Call) → IsIn s t phase call → has_inner phase ≡ false → (hold_of (thread_part s t) l).owns ≡ owned_by (owner_part s l).owner t
  outside-owned phase call at is = sym (outside-owns (thread_part s t) l (ap has_inner at.phased ∙ is)) ∙ owners.owned l t

  -- one in such a phase owns the lock that its call is about
  pub inside-owned : (phase : Phase) (call : Call) → IsIn s t phase call → has_inner phase ≡ true → called_lock call ≡ Some l → owned_by (owner_part s l).owner t ≡ true
  inside-owned phase call at is about =
      sym (owners.owned l t) ∙ (ap (λ (b : Bool). (hold_of (thread_part s t) l).owns || b) (inside-its s t l phase call at is about) ∙ or_true (hold_of (thread_part s t) l).owns)

  -- and holds it, not for reading, where it gives it back
  pub inside-gives : (phase : Phase) (call : Call) → IsIn s t phase call → has_inner phase ≡ true → called_lock call ≡ Some l → (hold_of (thread_part s t) l).owns ≡ gives_back phase (Some call)
  inside-gives phase call at is about = owners.inside l t (inside-its s t l phase call at is about) ∙ (λ i. gives_back (at.phased i) (at.calling i))

  -- what nobody owns it doesn't hold, but for reading
  pub unowned-unheld : (owner_part s l).owner ≡ None → (hold_of (thread_part s t) l).owns ≡ false
  unowned-unheld none = (or_parts (hold_of (thread_part s t) l).owns (is_passing (thread_part s t) l) (owners.owned l t ∙ nobodys (owner_part s l).owner t none)).0

  -- one that releases a lock owns it
  pub returns-owned : Returns s t l → owned_by (owner_part s l).owner t ≡ true
  returns-owned is = by_how is.by
    where
      by_how : ReturnsBy s t l is.call → owned_by (owner_part s l).owner t ≡ true
      by_how (from_hold releases at held) = sym (outside-owned phases.Start is.call at refl) ∙ held
      by_how (from_inside ends at) = inside-owned phases.Release is.call at refl (ends-called is.call l ends)

-- one that asks for a lock doesn't own it
pub asks-unowned : (s : State) (made : ℕ) (t : TaskId) (l : LockId) → IsLawful s made → AsksBy s t l → owned_by (owner_part s l).owner t ≡ false
asks-unowned s made t l lawful (from_start asks unheld) = sym (outside-owned s t l lawful.owners phases.Start asks.call asks.at refl) ∙ unheld
asks-unowned s made t l lawful (from_reading asks) =
    subst (λ (lock : Option LockId). IfSome (asked_in phases.Inner lock) (λ k. owned_by (owner_part s k).owner t ≡ false)) (asks-present s t phases.Inner l asks)
    (subst (λ (p : Phase). IfSome (asked_in p (present_lock (thread_part s t))) (λ k. owned_by (owner_part s k).owner t ≡ false)) asks.at.phased (lawful.queued.asking t))
