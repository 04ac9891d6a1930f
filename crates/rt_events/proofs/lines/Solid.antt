-- The words of a line have no space, and where the boost and the answer begin is told by a byte of their own.
use Rattle.std.proofs.Common.{◌≡◌, ℕ, ◌<◌, ◌≤◌, Bool, true, false, cond, not, ◌&&◌, List, [], ◌∷◌, ◌++◌, Option, Some, None, All, IfSome, refl, ap, ◌∙◌, arith}
use Rattle.std.specs.Prelude.{codes, decimal, flat_map, bytes_eq, nat_eq, ◌^◌, ◌==◌}
use Rattle.std.specs.List.{list_all}
use Rattle.std.specs.Char.{is_ascii_digit}
use Rattle.std.proofs.lemmas.Bool.Decides.{nat_tests}
use Rattle.std.proofs.lemmas.Fmt.{digits_decimal}
use Rattle.std.proofs.lemmas.List.Folds.{list_all-append}
use Rattle.std.proofs.lemmas.List.Elements.{All-nil, All-cons, All-head, All-tail}
use Rattle.rt_base.specs.Name.{is_name_byte, is_name}
use Rattle.rt_base.specs.Script.{Script, TaskLine, LockLine, task_line, lock_line, IsTaskOf, IsLockWithin, IsScript}
use Rattle.rt_base.specs.declared.id.Cpu.{Cpu}
use Rattle.rt_base.specs.declared.id.LockId.{LockId}
use Rattle.rt_base.specs.declared.id.TaskId.{TaskId}
use Rattle.rt_base.specs.declared.kind.Kind.TheVariants as locks
use Rattle.rt_base.specs.declared.reply.Reply.{Reply}
use Rattle.rt_base.specs.declared.reply.Reply.TheVariants as replies
use Rattle.rt_base.specs.declared.state.TaskState.{TaskState}
use Rattle.rt_base.specs.declared.state.TaskState.TheVariants as states
use Rattle.rt_model.specs.declared.event_kind.EventKind.{EventKind}
use Rattle.rt_model.specs.declared.event_kind.EventKind.TheVariants as kinds
use Rattle.rt_events.specs.declared.entry.Entry.{Entry}
use Rattle.rt_model.specs.steps.Task.{state_numbered}
use Rattle.rt_events.specs.Words.{task_word, lock_word, cell_word, kind_word, task_or_dash, state_word, reply_word}
use Rattle.rt_events.specs.Line.{lock_words, task_words, wakes_words, reader_words, link_words, operands}
use Rattle.rt_events.specs.WellFormed.{IsTaskIn, IsLockIn, IsLinkIn, IsNamedIn}
use Rattle.rt_events.proofs.lines.Numerals.{own}
use Rattle.rt_events.specs.reading.Tail.{is_plain, plain_front, plain_rest}
use Rattle.rt_script.proofs.ScriptParts.{task_fits, lock_fits}

-- ---- bytes

-- neither `=` nor `>`, and neither a space nor a line feed
abbrev pub is_solid_byte : ℕ → Bool
is_solid_byte b = not (b == 61) && not (b == 62) && not (b == 32) && not (b == 10)

abbrev pub is_solid : List ℕ → Bool
is_solid word = list_all is_solid_byte word

pub left : (a b : Bool) → (a && b) ≡ true → a ≡ true
left true b e = refl
left false b e = e

pub right : (a b : Bool) → (a && b) ≡ true → b ≡ true
right true b e = e
right false b e = absurd cc

pub both : (a b : Bool) → a ≡ true → b ≡ true → (a && b) ≡ true
both a b e f = rw (e, f) refl

pub weaker : (p q : ℕ → Bool) → ((b : ℕ) → p b ≡ true → q b ≡ true) → (bs : List ℕ) → list_all p bs ≡ true → list_all q bs ≡ true
weaker p q h [] e = refl
weaker p q h (b ∷ bs) e = both _ _ (h b (left _ _ e)) (weaker p q h bs (right _ _ e))

-- no byte is one that the words have none of
pub without : (p q : ℕ → Bool) → ((b : ℕ) → p b ≡ true → q b ≡ false) → (word : List ℕ) → list_all p word ≡ true → All (λ b. q b ≡ false) word
without p q h [] e = All-nil (λ b. q b ≡ false)
without p q h (b ∷ bs) e = All-cons (λ c. q c ≡ false) b bs (h b (left _ _ e)) (without p q h bs (right _ _ e))

-- ---- names and numbers

name_byte : (b : ℕ) → is_name_byte b ≡ true → is_solid_byte b ≡ true
name_byte b e = grind (arith, nat_tests)

digit_byte : (b : ℕ) → is_ascii_digit b ≡ true → is_solid_byte b ≡ true
digit_byte b e = grind (arith, nat_tests)

pub solid_name : (word : List ℕ) → is_name word ≡ true → is_solid word ≡ true
solid_name word e = weaker is_name_byte is_solid_byte name_byte word (right _ _ e)

pub solid_number : (n : ℕ) → n < 2 ^ 64 → is_solid (decimal n) ≡ true
solid_number n small = weaker is_ascii_digit is_solid_byte digit_byte (decimal n) (digits_decimal own n (omega arith))

pub solid_task : (script : Script) → IsScript script → (t : TaskId) → IsTaskIn script t → is_solid (task_word script t) ≡ true
solid_task script is t within = solid_name (task_word script t) (task_fits script t is within).name

-- a lock's processor is small
abbrev pub HasSmallCell : LockLine → Type 0
HasSmallCell line = IfSome line.cell (λ (cpu : Cpu). cpu.0 < 256)

solid_cell : (cell : Option Cpu) → IfSome cell (λ (cpu : Cpu). cpu.0 < 256) → is_solid (cell_word cell) ≡ true
solid_cell None few = refl
solid_cell (Some cpu) few = solid_number cpu.0 (omega (arith, few))

cell_few : (kind : _) (cell : Option Cpu) (cpus : ℕ) → cpus ≤ 8 → Rattle.rt_base.specs.Script.IsCellOf cpus kind cell → IfSome cell (λ (cpu : Cpu). cpu.0 < 256)
cell_few locks.Local (Some cpu) cpus le is = omega (arith, is)
cell_few locks.Local None cpus le is = absurd is
cell_few locks.Mutex cell cpus le is = rw is tt
cell_few locks.Spin cell cpus le is = rw is tt
cell_few locks.RwLock cell cpus le is = rw is tt
cell_few locks.RwSem cell cpus le is = rw is tt

pub solid_lock : (script : Script) → IsScript script → (l : LockId) → IsLockIn script l → is_solid (lock_word script l) ≡ true
solid_lock script is l within =
    let line = lock_fits script l is within in
    list_all-append is_solid_byte (lock_line script l).name (cell_word (lock_line script l).cell)
    ∙ both _ _ (solid_name (lock_line script l).name line.name) (solid_cell (lock_line script l).cell (cell_few (lock_line script l).kind (lock_line script l).cell script.cpus is.cpus.1 line.cell))

undashed_name : (word : List ℕ) → is_name word ≡ true → bytes_eq word (codes "-") ≡ false
undashed_name [] e = absurd cc
undashed_name (b ∷ []) e = grind (arith, nat_tests)
undashed_name (b ∷ c ∷ bs) e = by (b == 45)
  where
    by : (x : Bool) → (x && false) ≡ false
    by true = refl
    by false = refl

pub undashed : (script : Script) → IsScript script → (t : TaskId) → IsTaskIn script t → bytes_eq (task_word script t) (codes "-") ≡ false
undashed script is t within = undashed_name (task_word script t) (task_fits script t is within).name

-- ---- words of operands

abbrev pub are_solid : List (List ℕ) → Bool
are_solid ws = list_all is_solid ws

pub solid_both : (a b : List (List ℕ)) → are_solid a ≡ true → are_solid b ≡ true → are_solid (a ++ b) ≡ true
solid_both a b e f = list_all-append is_solid a b ∙ both _ _ e f

pub kind_solid : (kind : EventKind) (value : ℕ) → is_solid (kind_word kind value) ≡ true
kind_solid kinds.Wake value = by (nat_eq value 1)
  where
    by : (b : Bool) → is_solid (cond b (codes "signal") (codes "wake")) ≡ true
    by true = refl
    by false = refl
kind_solid _ value = refl

pub reply_solid : (r : Reply) → is_solid (reply_word r) ≡ true
reply_solid replies.Got = refl
reply_solid replies.Busy = refl
reply_solid replies.Deadlock = refl
reply_solid replies.Interrupted = refl
reply_solid replies.NotOwner = refl
reply_solid replies.Nesting = refl
reply_solid replies.Pinned = refl
reply_solid replies.Woke = refl
reply_solid replies.Missed = refl
reply_solid replies.Done = refl

state_solid : (s : TaskState) → is_solid (state_word s) ≡ true
state_solid states.Running = refl
state_solid states.Interruptible = refl
state_solid states.Uninterruptible = refl
state_solid states.LockWait = refl

reader_solid : (v : ℕ) → are_solid (reader_words v) ≡ true
reader_solid v = by (nat_eq v 1)
  where
    by : (b : Bool) → are_solid (cond b (codes "reader" ∷ []) []) ≡ true
    by true = refl
    by false = refl

module _ (script : Script) (is : IsScript script) where
  locks_solid : (o : Option LockId) → IfSome o (IsLockIn script) → are_solid (lock_words script o) ≡ true
  locks_solid None fits = refl
  locks_solid (Some l) fits = both _ _ (solid_lock script is l fits) refl

  tasks_solid : (o : Option TaskId) → IfSome o (IsTaskIn script) → are_solid (task_words script o) ≡ true
  tasks_solid None fits = refl
  tasks_solid (Some t) fits = both _ _ (solid_task script is t fits) refl

  wakes_solid : (o : Option TaskId) → IfSome o (IsTaskIn script) → are_solid (wakes_words script o) ≡ true
  wakes_solid None fits = refl
  wakes_solid (Some t) fits = both _ _ (solid_task script is t fits) refl

  dash_solid : (o : Option TaskId) → IfSome o (IsTaskIn script) → are_solid (task_or_dash script o ∷ []) ≡ true
  dash_solid None fits = refl
  dash_solid (Some t) fits = both _ _ (solid_task script is t fits) refl

  path_solid : (path : List (ℕ × ℕ)) → All (IsLinkIn script) path → are_solid (flat_map (link_words script) path) ≡ true
  path_solid [] all = refl
  path_solid (link ∷ links) all =
      let at = All-head (IsLinkIn script) link links all in
      both _ _ (solid_task script is (record { 0 = link.0 }) at.0) (both _ _ (solid_lock script is (record { 0 = link.1 }) at.1) (path_solid links (All-tail (IsLinkIn script) link links all)))

  abbrev t : Entry → List (List ℕ)
  t n = task_words script n.other

  abbrev l : Entry → List (List ℕ)
  l n = lock_words script n.lock

  pub operands_solid : (kind : EventKind) (n : Entry) → IsNamedIn script n → n.value < 2 ^ 64 → are_solid (operands script kind n) ≡ true
  operands_solid kinds.Walk n has small = solid_both (t n ++ l n) (wakes_words script n.woken) (solid_both (t n) (l n) (tasks_solid n.other has.other) (locks_solid n.lock has.lock)) (wakes_solid n.woken has.woken)
  operands_solid kinds.WalkEnd n has small = tasks_solid n.other has.other
  operands_solid kinds.Restart n has small = solid_both (t n) (l n) (tasks_solid n.other has.other) (locks_solid n.lock has.lock)
  operands_solid kinds.Cycle n has small = path_solid n.path has.path
  operands_solid kinds.Give n has small = solid_both (l n) (task_or_dash script n.woken ∷ []) (locks_solid n.lock has.lock) (dash_solid n.woken has.woken)
  operands_solid kinds.WWake n has small = solid_both (l n) (task_or_dash script n.woken ∷ []) (locks_solid n.lock has.lock) (dash_solid n.woken has.woken)
  operands_solid kinds.Busy n has small = solid_both (l n) (reader_words n.value) (locks_solid n.lock has.lock) (reader_solid n.value)
  operands_solid kinds.WOpen n has small = solid_both (l n) (reader_words n.value) (locks_solid n.lock has.lock) (reader_solid n.value)
  operands_solid kinds.State n has small = both _ _ (state_solid (state_numbered n.value)) refl
  operands_solid kinds.Sched n has small = refl
  operands_solid kinds.Wake n has small = tasks_solid n.other has.other
  operands_solid kinds.SetPrio n has small = solid_both (t n) (decimal n.value ∷ []) (tasks_solid n.other has.other) (both _ _ (solid_number n.value small) refl)
  operands_solid _ n has small = locks_solid n.lock has.lock

-- ---- the plain front

plain_byte : (b : ℕ) → is_solid_byte b ≡ true → (not (b == 61) && not (b == 62)) ≡ true
plain_byte b e = grind (arith, nat_tests)

pub plain_word : (word : List ℕ) → is_solid word ≡ true → is_plain word ≡ true
plain_word word e = weaker is_solid_byte (λ b. not (b == 61) && not (b == 62)) plain_byte word e

-- number_alone stands there, or a word that isn't plain
abbrev pub is_tail : List (List ℕ) → Bool
is_tail [] = true
is_tail (w ∷ ws) = not (is_plain w)

negated : (b : Bool) → not b ≡ true → b ≡ false
negated true e = absurd cc
negated false e = refl

pub front_is : (a b : List (List ℕ)) → are_solid a ≡ true → is_tail b ≡ true → plain_front (a ++ b) ≡ a
front_is [] [] e t = refl
front_is [] (w ∷ ws) e t = rw (negated (is_plain w) t) refl
front_is (w ∷ a) b e t = rw (plain_word w (left _ _ e)) (ap (λ ws. w ∷ ws) (front_is a b (right _ _ e) t))

pub rest_is : (a b : List (List ℕ)) → are_solid a ≡ true → is_tail b ≡ true → plain_rest (a ++ b) ≡ b
rest_is [] [] e t = refl
rest_is [] (w ∷ ws) e t = rw (negated (is_plain w) t) refl
rest_is (w ∷ a) b e t = rw (plain_word w (left _ _ e)) (rest_is a b (right _ _ e) t)

cut : (b : Bool) (w : List ℕ) (ws : List (List ℕ)) → plain_front ws ++ plain_rest ws ≡ ws → cond b (w ∷ plain_front ws) [] ++ cond b (plain_rest ws) (w ∷ ws) ≡ w ∷ ws
cut true w ws e = ap (λ more. w ∷ more) e
cut false w ws e = refl

pub front_rest : (ws : List (List ℕ)) → plain_front ws ++ plain_rest ws ≡ ws
front_rest [] = refl
front_rest (w ∷ ws) = cut (is_plain w) w ws (front_rest ws)
