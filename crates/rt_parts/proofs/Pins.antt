-- A migration count is small.
use Rattle.std.proofs.Common.{ℕ, ◌+◌, ◌<◌, ◌≤◌, ◌^◌, Bool, true, false, List, arith, Option, Some, None}
use Rattle.std.proofs.lemmas.List.Elements.{All-weaker}
use Rattle.rt_base.specs.declared.call.Call.{Call}
use Rattle.rt_base.specs.declared.call.Call.TheVariants as calls
use Rattle.rt_base.specs.declared.id.Cpu.{Cpu}
use Rattle.rt_base.specs.declared.kind.Kind.{Kind}
use Rattle.rt_base.specs.declared.kind.Kind.TheVariants.{RwLock}
use Rattle.rt_base.specs.declared.limits.TheConstants.{MAX_CALLS}
use Rattle.rt_base.specs.declared.reply.Reply.{Reply}
use Rattle.rt_base.specs.declared.reply.Reply.TheVariants as replies
use Rattle.rt_model.specs.declared.hold.Hold.{Hold}
use Rattle.rt_model.specs.Parts.{count_holds}
use Rattle.rt_model.specs.steps.Thread.{rwlock_pins, pins_added}
use Rattle.rt_model.specs.laws.Migration.{pins}
use Rattle.rt_model.proofs.laws.Migration.{holds-most}
use Rattle.rt_parts.specs.Thread.{IsPrivate}

one-most : (kind : Option Kind) → rwlock_pins kind ≤ 2
one-most (Some RwLock) = omega arith
one-most (Some _) = omega arith
one-most None = omega arith

-- an event adds two at most
added-most : (call : Call) (kind : Option Kind) (first : Bool) (reply : Option Reply) → pins_added call kind first reply ≤ 2
added-most (calls.Spin l) kind first (Some replies.Got) = omega arith
added-most (calls.TrySpin l) kind first (Some replies.Got) = omega arith
added-most (calls.Read l) kind first (Some replies.Got) = one-most kind
added-most (calls.TryRead l) kind first (Some replies.Got) = one-most kind
added-most (calls.Write l) kind first (Some replies.Got) = one-most kind
added-most (calls.TryWrite l) kind first (Some replies.Got) = one-most kind
added-most (calls.Local l) kind true (Some replies.Got) = omega arith
added-most (calls.Local l) kind false (Some replies.Got) = omega arith
added-most (calls.Local l) kind true None = omega arith
added-most (calls.Local l) kind false None = omega arith
added-most _ kind first reply = omega arith

pub pins-room : (kinds : List Kind) (calls : List Call) (answered : ℕ) (held : List Hold) (count : ℕ) (cpu : Cpu) (at : Option Call) → IsPrivate kinds calls answered held count cpu at → (migration : ℕ) → migration ≤ count_holds pins kinds held + 1
    → (call : Call) (kind : Option Kind) (first : Bool) (reply : Option Reply) → migration + pins_added call kind first reply < 2 ^ 32
pins-room kinds calls answered held count cpu at private migration counted call kind first reply =
    let answers : answered ≤ MAX_CALLS = omega (arith, private.thread.within, private.thread.few) in
    let reads = All-weaker (λ (hold : Hold). hold.reads ≤ answered) (λ (hold : Hold). hold.reads ≤ MAX_CALLS) (λ hold few. omega (arith, few, answers)) held private.reads in
    omega (arith, holds-most kinds held reads, added-most call kind first reply, counted, private.few)
