-- How many readers a thread is, and all of them: no more than their calls.
use Rattle.std.proofs.Common.{◌≡◌, ◌+◌, ◌-◌, ◌<◌, ◌≤◌, Bool, true, false, cond, ◌&&◌, length, map, refl, ap, ◌∙◌, arith, Option, Some, None}
use Rattle.std.specs.Prelude.{sum}
use Rattle.rt_base.specs.declared.call.Call.{Call}
use Rattle.rt_base.specs.declared.id.LockId.{LockId}
use Rattle.rt_base.specs.declared.id.TaskId.{TaskId}
use Rattle.rt_model.specs.declared.phase.Phase.{Phase}
use Rattle.rt_model.specs.declared.phase.Phase.TheVariants as phases
use Rattle.rt_model.specs.Parts.{ThreadPart, call_of, hold_of}
use Rattle.rt_model.specs.Choice.{present_lock, is_on}
use Rattle.rt_model.specs.State.{State, no_thread, reader_part, thread_part}
use Rattle.rt_model.specs.laws.Readers.{has_come, coming, going, readers_by, all_readers}
use Rattle.rt_model.specs.laws.Shape.{calls_of}
use Rattle.rt_model.proofs.Counts.{sum-most}
use Rattle.rt_model.proofs.Calling.{call-within}

module _ (l : LockId) (thread : ThreadPart) (within : thread.answered ≤ length thread.calls) (few : (hold_of thread l).reads ≤ thread.answered) where
  one-most : (b : Bool) → cond b 1 0 ≤ 1
  one-most true = omega arith
  one-most false = omega arith

  no_call : (phase : Phase) → has_come phase None ≡ false
  no_call phases.Release = refl
  no_call _ = refl

  -- where its call isn't one that came
  pub none-comes : has_come thread.phase (call_of thread) ≡ false → coming thread l ≡ 0
  none-comes not_yet = λ i. cond (not_yet i && is_on (present_lock thread) l) 1 0

  -- a thread is one reader for each of its calls at most
  pub readers-most : readers_by thread l ≤ length thread.calls
  readers-most = by_call (call_of thread) refl
    where
      by_call : (call : Option Call) → call_of thread ≡ call → (hold_of thread l).reads + coming thread l - going thread l ≤ length thread.calls
      by_call None none =
          let nobody = none-comes (ap (has_come thread.phase) none ∙ no_call thread.phase) in
          omega (arith, within, few, nobody)
      by_call (Some call) calling =
          let one : coming thread l ≤ 1 = one-most (has_come thread.phase (call_of thread) && is_on (present_lock thread) l) in
          omega (arith, call-within thread call calling, few, one)

  -- and fewer, where the call that it is at isn't one
  pub readers-less : (call : Call) → call_of thread ≡ Some call → coming thread l ≡ 0 → readers_by thread l < length thread.calls
  readers-less call calling nobody =
      let less : (hold_of thread l).reads + coming thread l - going thread l < length thread.calls = omega (arith, call-within thread call calling, few, nobody) in less

-- so a lock has no more readers than there are calls
pub count-most : (s : State) (l : LockId) → (reader_part s l).count ≡ all_readers s.threads l → ((t : TaskId) → (hold_of (thread_part s t) l).reads ≤ (thread_part s t).answered)
    → ((t : TaskId) → (thread_part s t).answered ≤ length (thread_part s t).calls) → (reader_part s l).count ≤ calls_of s.threads
count-most s l count few within =
    let all : sum (map (λ (thread : ThreadPart). readers_by thread l) s.threads) ≤ calls_of s.threads =
    sum-most (λ (thread : ThreadPart). readers_by thread l) (λ (thread : ThreadPart). length thread.calls) no_thread s.threads
    (λ i. readers-most l (thread_part s (record { 0 = i })) (within (record { 0 = i })) (few (record { 0 = i }))) in
    omega (arith, all, count)
