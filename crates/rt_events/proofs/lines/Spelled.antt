-- What fixed words stand for, both ways, and whom a word names where there may be nobody.
use Rattle.std.proofs.Common.{◌≡◌, ℕ, zero, suc, IfSome, ◌≤◌, Bool, true, false, cond, List, Option, Some, None, refl, sym, subst, arith}
use Rattle.std.specs.Prelude.{bytes_eq, codes, option_map}
use Rattle.rt_base.specs.Script.{Script}
use Rattle.rt_base.specs.declared.id.TaskId.{TaskId}
use Rattle.rt_base.specs.declared.reply.Reply.{Reply}
use Rattle.rt_base.specs.declared.reply.Reply.TheVariants as replies
use Rattle.rt_model.specs.declared.event_kind.EventKind.{EventKind}
use Rattle.rt_model.specs.declared.event_kind.EventKind.TheVariants as kinds
use Rattle.rt_model.specs.steps.Task.{state_numbered}
use Rattle.rt_events.specs.Words.{kind_word, task_or_dash, state_word, reply_word}
use Rattle.rt_events.specs.WellFormed.{IsTaskIn}
use Rattle.rt_events.specs.reading.Spelling.{HasKindValue, kind_in, reply_in, state_in, task_or_dash_in}
use Rattle.rt_script.specs.Names.{task_named}
use Rattle.rt_events.proofs.lines.Chains.{is_word_read, some_is, one_of, none_of}
use Rattle.rt_events.proofs.lines.NameWords.{tasks_said}

abbrev pub IsKindOf : List ℕ → EventKind × ℕ → Type 0
IsKindOf w k = (kind_word k.0 k.1 ≡ w) × HasKindValue k.0 k.1

pub kinds_said : (w : List ℕ) (k : EventKind × ℕ) → kind_in w ≡ Some k → IsKindOf w k
kinds_said w =
    let P : EventKind × ℕ → Type 0 = IsKindOf w in
    one_of P w (codes "fast") _ _ (λ e. (sym e, refl)) (
    one_of P w (codes "free") _ _ (λ e. (sym e, refl)) (
    one_of P w (codes "mark") _ _ (λ e. (sym e, refl)) (
    one_of P w (codes "take") _ _ (λ e. (sym e, refl)) (
    one_of P w (codes "wait") _ _ (λ e. (sym e, refl)) (
    one_of P w (codes "walk") _ _ (λ e. (sym e, refl)) (
    one_of P w (codes "walkend") _ _ (λ e. (sym e, refl)) (
    one_of P w (codes "restart") _ _ (λ e. (sym e, refl)) (
    one_of P w (codes "cycle") _ _ (λ e. (sym e, refl)) (
    one_of P w (codes "again") _ _ (λ e. (sym e, refl)) (
    one_of P w (codes "leave") _ _ (λ e. (sym e, refl)) (
    one_of P w (codes "give") _ _ (λ e. (sym e, refl)) (
    one_of P w (codes "rin") _ _ (λ e. (sym e, refl)) (
    one_of P w (codes "rout") _ _ (λ e. (sym e, refl)) (
    one_of P w (codes "unbias") _ _ (λ e. (sym e, refl)) (
    one_of P w (codes "wtake") _ _ (λ e. (sym e, refl)) (
    one_of P w (codes "wsleep") _ _ (λ e. (sym e, refl)) (
    one_of P w (codes "wopen") _ _ (λ e. (sym e, refl)) (
    one_of P w (codes "wwake") _ _ (λ e. (sym e, refl)) (
    one_of P w (codes "busy") _ _ (λ e. (sym e, refl)) (
    one_of P w (codes "state") _ _ (λ e. (sym e, refl)) (
    one_of P w (codes "sched") _ _ (λ e. (sym e, refl)) (
    one_of P w (codes "wake") _ _ (λ e. (sym e, omega arith)) (
    one_of P w (codes "signal") _ _ (λ e. (sym e, omega arith)) (
    one_of P w (codes "setprio") _ _ (λ e. (sym e, refl)) (
    one_of P w (codes "own") _ _ (λ e. (sym e, refl)) (none_of P))))))))))))))))))))))))))

pub replies_said : (w : List ℕ) (r : Reply) → reply_in w ≡ Some r → reply_word r ≡ w
replies_said w =
    let P : Reply → Type 0 = λ r. reply_word r ≡ w in
    one_of P w (codes "got") _ _ sym (
    one_of P w (codes "busy") _ _ sym (
    one_of P w (codes "deadlock") _ _ sym (
    one_of P w (codes "interrupted") _ _ sym (
    one_of P w (codes "notowner") _ _ sym (
    one_of P w (codes "nesting") _ _ sym (
    one_of P w (codes "pinned") _ _ sym (
    one_of P w (codes "woke") _ _ sym (
    one_of P w (codes "missed") _ _ sym (
    one_of P w (codes "done") _ _ sym (none_of P))))))))))

pub states_said : (w : List ℕ) (v : ℕ) → state_in w ≡ Some v → (state_word (state_numbered v) ≡ w) × (v ≤ 2)
states_said w =
    let P : ℕ → Type 0 = λ v. (state_word (state_numbered v) ≡ w) × (v ≤ 2) in
    one_of P w (codes "R") _ _ (λ e. (sym e, omega arith)) (
    one_of P w (codes "S") _ _ (λ e. (sym e, omega arith)) (
    one_of P w (codes "D") _ _ (λ e. (sym e, omega arith)) (none_of P)))

pub reply_read : (r : Reply) → reply_in (reply_word r) ≡ Some r
reply_read replies.Got = refl
reply_read replies.Busy = refl
reply_read replies.Deadlock = refl
reply_read replies.Interrupted = refl
reply_read replies.NotOwner = refl
reply_read replies.Nesting = refl
reply_read replies.Pinned = refl
reply_read replies.Woke = refl
reply_read replies.Missed = refl
reply_read replies.Done = refl

pub kind_read : (k : EventKind) (v : ℕ) → HasKindValue k v → kind_in (kind_word k v) ≡ Some (k, v)
kind_read kinds.Fast v e = rw e refl
kind_read kinds.Free v e = rw e refl
kind_read kinds.Mark v e = rw e refl
kind_read kinds.Take v e = rw e refl
kind_read kinds.Wait v e = rw e refl
kind_read kinds.Walk v e = rw e refl
kind_read kinds.WalkEnd v e = rw e refl
kind_read kinds.Restart v e = rw e refl
kind_read kinds.Cycle v e = rw e refl
kind_read kinds.Again v e = rw e refl
kind_read kinds.Leave v e = rw e refl
kind_read kinds.Give v e = rw e refl
kind_read kinds.RIn v e = rw e refl
kind_read kinds.ROut v e = rw e refl
kind_read kinds.Unbias v e = rw e refl
kind_read kinds.WTake v e = rw e refl
kind_read kinds.WSleep v e = rw e refl
kind_read kinds.WOpen v e = rw e refl
kind_read kinds.WWake v e = rw e refl
kind_read kinds.Busy v e = rw e refl
kind_read kinds.State v e = rw e refl
kind_read kinds.Sched v e = rw e refl
kind_read kinds.Wake zero e = refl
kind_read kinds.Wake (suc zero) e = refl
kind_read kinds.Wake (suc (suc v)) e = absurd (omega arith)
kind_read kinds.SetPrio v e = rw e refl
kind_read kinds.Own v e = rw e refl

pub state_read : (v : ℕ) → v ≤ 2 → state_in (state_word (state_numbered v)) ≡ Some v
state_read zero le = refl
state_read (suc zero) le = refl
state_read (suc (suc zero)) le = refl
state_read (suc (suc (suc v))) le = absurd (omega arith)

-- ---- a task or nobody

mapped : {A B : Type 0} (f : A → B) (o : Option A) (b : B) → option_map f o ≡ Some b → (a : A) × (o ≡ Some a) × (f a ≡ b)
mapped f None b e = absurd cc
mapped f (Some a) b e = (a, refl, cc)

pub woken_said : (script : Script) (w : List ℕ) (o : Option TaskId) → task_or_dash_in script w ≡ Some o → (task_or_dash script o ≡ w) × IfSome o (IsTaskIn script)
woken_said script w o e = by (bytes_eq w (codes "-")) refl e
  where
    by : (b : Bool) → bytes_eq w (codes "-") ≡ b → cond b (Some None) (option_map Some (task_named script w)) ≡ Some o → (task_or_dash script o ≡ w) × IfSome o (IsTaskIn script)
    by true is e = subst (λ (o : Option TaskId). (task_or_dash script o ≡ w) × IfSome o (IsTaskIn script)) (some_is None o e) (sym (is_word_read w (codes "-") is), tt)
    by false is e =
        let at = mapped Some (task_named script w) o e in
        let said = tasks_said script w at.0 at.1 in
        subst (λ (o : Option TaskId). (task_or_dash script o ≡ w) × IfSome o (IsTaskIn script)) at.2 (said.0, said.1)
