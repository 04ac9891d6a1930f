-- The answers that are to come while a call makes its short walk.
use Rattle.std.proofs.Common.{ℕ, inl, inr, sym, subst, Option, Some, None}
use Rattle.rt_base.specs.declared.call.Call.{Call}
use Rattle.rt_base.specs.declared.call.Call.TheVariants as calls
use Rattle.rt_base.specs.declared.id.LockId.{LockId}
use Rattle.rt_base.specs.declared.id.TaskId.{TaskId}
use Rattle.rt_base.specs.declared.reply.Reply.{Reply}
use Rattle.rt_base.specs.declared.reply.Reply.TheVariants.{Deadlock, Interrupted, Done}
use Rattle.rt_model.specs.declared.phase.Phase.{Phase}
use Rattle.rt_model.specs.declared.phase.Route.TheVariants.{Short}
use Rattle.rt_model.specs.CallKinds.{IsToCome}
use Rattle.rt_model.specs.steps.Chain.{answer_of_walk}

-- what holds of each call with its answers holds of a call and an answer that is to come
pub to_come-holds : (P : Call → Reply → Type 0) (call : Call) (answer : Reply) → IsToCome call answer → ((l : LockId) → P (calls.Lock l) Deadlock) → ((l : LockId) → P (calls.LockInt l) Deadlock)
    → ((l : LockId) → P (calls.LockInt l) Interrupted) → ((l : LockId) → P (calls.Spin l) Deadlock) → ((l : LockId) → P (calls.Local l) Deadlock) → ((l : LockId) → P (calls.Read l) Deadlock) → ((l : LockId) → P (calls.Write l) Deadlock) → ((u : TaskId) (prio : ℕ) → P (calls.SetPrio u prio) Done) → P call answer
to_come-holds P (calls.Lock l) answer is lock cycle signal spin local read write setprio = subst (P (calls.Lock l)) (sym is) (lock l)
to_come-holds P (calls.LockInt l) answer (inl is) lock cycle signal spin local read write setprio = subst (P (calls.LockInt l)) (sym is) (cycle l)
to_come-holds P (calls.LockInt l) answer (inr is) lock cycle signal spin local read write setprio = subst (P (calls.LockInt l)) (sym is) (signal l)
to_come-holds P (calls.Spin l) answer is lock cycle signal spin local read write setprio = subst (P (calls.Spin l)) (sym is) (spin l)
to_come-holds P (calls.Local l) answer is lock cycle signal spin local read write setprio = subst (P (calls.Local l)) (sym is) (local l)
to_come-holds P (calls.Read l) answer is lock cycle signal spin local read write setprio = subst (P (calls.Read l)) (sym is) (read l)
to_come-holds P (calls.Write l) answer is lock cycle signal spin local read write setprio = subst (P (calls.Write l)) (sym is) (write l)
to_come-holds P (calls.SetPrio u prio) answer is lock cycle signal spin local read write setprio = subst (P (calls.SetPrio u prio)) (sym is) (setprio u prio)
to_come-holds P _ answer is lock cycle signal spin local read write setprio = absurd is

-- the event has it where the walk ends, or doesn't begin, and else none
pub answered-holds : (P : Option Reply → Type 0) (answer : Reply) (next : Option Phase) → P (Some answer) → P None → P (answer_of_walk (Short answer) next)
answered-holds P answer None ended goes_on = ended
answered-holds P answer (Some phase) ended goes_on = goes_on
