-- A thread can take each answer of a next event: the hold that it gives back it has, and has counted.
use Rattle.std.proofs.Common.{◌≡◌, ℕ, ◌+◌, refl, sym, subst, arith, Option, Some, None, IfSome, IsSome}
use Rattle.rt_base.specs.declared.call.Call.{Call}
use Rattle.rt_base.specs.declared.call.Call.TheVariants as calls
use Rattle.rt_base.specs.declared.reply.Reply.{Reply}
use Rattle.rt_base.specs.declared.reply.Reply.TheVariants as replies
use Rattle.rt_model.specs.declared.event.Event.{Event}
use Rattle.rt_model.specs.declared.phase.Phase.{Phase}
use Rattle.rt_model.specs.Parts.{ThreadPart, call_of}
use Rattle.rt_model.specs.State.{State, shared, thread_part}
use Rattle.rt_model.specs.Effect.{around}
use Rattle.rt_model.specs.Rules.{touched}
use Rattle.rt_model.specs.StateAfter.{shared_after}
use Rattle.rt_model.specs.steps.Thread.{is_start}
use Rattle.rt_model.specs.laws.Lawful.{IsLawful}
use Rattle.rt_model.specs.laws.Migration.{pinned, pins_calling}
use Rattle.rt_model.proofs.Calling.{at_call}
use Rattle.rt_model.proofs.NextEvents.{IsNext}
use Rattle.rt_model.proofs.PartsAfter.{thread-phase}
use Rattle.rt_model.proofs.laws.Migration.{Counted, IsCounted as IsAnswered, its_answer, call-fits, holds-long, left_by_event, left-pinned, calling-most, taken-counted}
use Rattle.rt_parts.specs.Thread.{HasRead, IsCounted, CanAnswer}

-- it has the read hold
has-read : (thread : ThreadPart) (call : Call) (answer : Reply) → Counted thread call answer → HasRead thread (Some call) answer
has-read thread (calls.Unread l) replies.Done counted = counted
has-read thread _ _ counted = tt

-- a call counts one at most
pub law-counted : (thread : ThreadPart) → thread.migration ≡ pinned thread + pins_calling (call_of thread) (is_start thread.phase) → IsCounted thread
law-counted thread law = let most = calling-most (call_of thread) (is_start thread.phase) in omega (arith, law, most)

-- before its answer an event leaves its thread at its call, which can have that answer
module _ (s : State) (made : ℕ) (e : Event) (lawful : IsLawful s made) (next : IsNext s e.task e) where
  abbrev thread : ThreadPart
  thread = thread_part s e.task

  its : IsAnswered s e.task e.reply
  its = its_answer s e.task made e lawful next

  -- in whatever phase, and with whatever count it leaves it
  can : (phase : Phase) (count : ℕ) → count ≡ pinned thread + pins_calling (call_of thread) (is_start phase) → (reply : Option Reply) → IfSome reply (Counted thread its.call)
      → IfSome reply (λ (answer : Reply). CanAnswer (record thread { phase = phase; migration = count }) (call_of thread) answer)
  can phase count law None counted = tt
  can phase count law (Some answer) counted =
      let left : ThreadPart = record thread { phase = phase; migration = count } in
      let long = holds-long s made e.task lawful (at_call s e.task its.call its.calling).1 in
      let here = subst (λ (call : Option Call). count ≡ pinned thread + pins_calling call (is_start phase)) its.calling law in
      subst (λ (call : Option Call). CanAnswer left call answer) (sym its.calling) (record {
        read = has-read left its.call answer counted;
        pins = taken-counted left long its.call answer (call-fits s e.task its.call lawful.calls its.calling) counted here;
        counted = law-counted left law;
      })

  moved : left_by_event s e ≡ record thread { phase = (left_by_event s e).phase; migration = (left_by_event s e).migration }
  moved = thread-phase e.kind e thread (around (shared s) (touched e.kind e)) (around (shared_after (shared s) thread e) (touched e.kind e)) thread

  pub answer-can : IfSome e.reply (λ (answer : Reply). CanAnswer (left_by_event s e) (call_of (left_by_event s e)) answer)
  answer-can =
      let law = subst (λ (th : ThreadPart). th.migration ≡ pinned th + pins_calling (call_of th) (is_start th.phase)) moved (left-pinned s e.task e made lawful next) in
      subst (λ (th : ThreadPart). IfSome e.reply (λ (answer : Reply). CanAnswer th (call_of th) answer)) (sym moved) (can _ _ law e.reply its.counted)

  -- it is at a call, before that and then
  pub answer-calling : IsSome (call_of thread)
  answer-calling = subst IsSome (sym its.calling) refl

  pub answer-call : IfSome e.reply (λ _. IsSome (call_of (left_by_event s e)))
  answer-call = subst (λ (th : ThreadPart). IfSome e.reply (λ _. IsSome (call_of th))) (sym moved) (at e.reply)
    where
      at : (reply : Option Reply) → IfSome reply (λ _. IsSome (call_of thread))
      at None = tt
      at (Some answer) = answer-calling
