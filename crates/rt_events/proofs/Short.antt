-- The line of a well formed entry is short.
use Rattle.std.proofs.Common.{◌≡◌, ℕ, ◌+◌, ◌*◌, ◌<◌, ◌≤◌, Bool, true, false, cond, List, [], ◌∷◌, ◌++◌, map, length, sym, subst, ap, ◌∙◌, Option, Some, None, All, IfSome, arith, length-append}
use Rattle.std.specs.Prelude.{codes, decimal, flat_map, nat_eq}
use Rattle.std.proofs.lemmas.Fmt.{length-decimal-le}
use Rattle.std.proofs.lemmas.Grind.{flat_map-append}
use Rattle.std.proofs.lemmas.List.Elements.{All-head, All-tail}
use Rattle.rt_base.specs.Script.{Script, IsScript, IsTaskOf, IsLockWithin, IsCellOf, lock_line}
use Rattle.rt_base.proofs.Names.{name_length}
use Rattle.rt_base.specs.declared.id.Cpu.{Cpu}
use Rattle.rt_base.specs.declared.id.LockId.{LockId}
use Rattle.rt_base.specs.declared.id.TaskId.{TaskId}
use Rattle.rt_base.specs.declared.kind.Kind.{Kind}
use Rattle.rt_base.specs.declared.kind.Kind.TheVariants as locks
use Rattle.rt_base.specs.declared.reply.Reply.{Reply}
use Rattle.rt_base.specs.declared.reply.Reply.TheVariants as replies
use Rattle.rt_base.specs.declared.state.TaskState.{TaskState}
use Rattle.rt_base.specs.declared.state.TaskState.TheVariants as states
use Rattle.rt_model.specs.declared.event_kind.EventKind.{EventKind}
use Rattle.rt_model.specs.declared.event_kind.EventKind.TheVariants as kinds
use Rattle.rt_model.proofs.Lists.{All-default}
use Rattle.rt_model.specs.steps.Task.{state_numbered}
use Rattle.rt_events.specs.declared.entry.Entry.{Entry}
use Rattle.rt_events.specs.Words.{spaced, wake_word, kind_word, state_word, cell_word, task_word, lock_word, task_or_dash}
use Rattle.rt_events.specs.Line.{lock_words, task_words, wakes_words, reader_words, link_words, operands, boost_word, boost_words, reply_words, told_words, line_of}
use Rattle.rt_events.specs.WellFormed.{IsTaskIn, IsLockIn, IsLinkIn, HasValue, HasPath, IsWellFormed}
use Rattle.rt_events.proofs.Named.{named}

-- ---- words

small : (n : ℕ) → n < 256 → length (decimal n) ≤ 3
small n lt = length-decimal-le 3 n (omega arith) (omega arith) (omega arith)

pub task_short : (script : Script) (t : TaskId) → IsScript script → IsTaskIn script t → length (task_word script t) ≤ 16
task_short script t is lt = (name_length (task_word script t) (All-default (IsTaskOf script) script.tasks t.0 _ is.each_task lt).name).1

cell_short : (cpus : ℕ) (kind : Kind) (cell : Option Cpu) → cpus ≤ 8 → IsCellOf cpus kind cell → length (cell_word cell) ≤ 4
cell_short cpus kind None few is = omega arith
cell_short cpus locks.Local (Some cpu) few is = let digits = small cpu.0 (omega (arith, is, few)) in omega (arith, digits)
cell_short cpus locks.Mutex (Some cpu) few is = absurd cc
cell_short cpus locks.Spin (Some cpu) few is = absurd cc
cell_short cpus locks.RwLock (Some cpu) few is = absurd cc
cell_short cpus locks.RwSem (Some cpu) few is = absurd cc

pub lock_short : (script : Script) (l : LockId) → IsScript script → IsLockIn script l → length (lock_word script l) ≤ 20
lock_short script l is lt =
    let line = All-default (IsLockWithin script.cpus) script.locks l.0 _ is.each_lock lt in
    let cell = cell_short script.cpus (lock_line script l).kind (lock_line script l).cell is.cpus.1 line.cell in
    omega (arith, (name_length (lock_line script l).name line.name).1, cell, length-append (lock_line script l).name (cell_word (lock_line script l).cell))

-- ---- words behind spaces

spaced_both : (xs ys : List (List ℕ)) → length (spaced (xs ++ ys)) ≡ length (spaced xs) + length (spaced ys)
spaced_both xs ys = ap length (flat_map-append (λ (w : List ℕ). 32 ∷ w) xs ys) ∙ length-append (spaced xs) (spaced ys)

pub spaced_cons : (x : List ℕ) (xs : List (List ℕ)) → length (spaced (x ∷ xs)) ≡ 1 + length x + length (spaced xs)
spaced_cons x xs = omega (arith, length-append (32 ∷ x) (spaced xs))

pub spaced_one : (x : List ℕ) → length (spaced (x ∷ [])) ≡ 1 + length x
spaced_one x = omega (arith, spaced_cons x [])

pub two_words : (x y : List ℕ) → length (spaced (x ∷ y ∷ [])) ≡ 2 + length x + length y
two_words x y = omega (arith, spaced_cons x (y ∷ []), spaced_one y)

pub three_words : (x y z : List ℕ) → length (spaced (x ∷ y ∷ z ∷ [])) ≡ 3 + length x + length y + length z
three_words x y z = omega (arith, spaced_cons x (y ∷ z ∷ []), two_words y z)

lock_words_short : (script : Script) (lock : Option LockId) → IsScript script → IfSome lock (IsLockIn script) → length (spaced (lock_words script lock)) ≤ 21
lock_words_short script None is there = omega arith
lock_words_short script (Some l) is there = omega (arith, lock_short script l is there, spaced_one (lock_word script l))

task_words_short : (script : Script) (task : Option TaskId) → IsScript script → IfSome task (IsTaskIn script) → length (spaced (task_words script task)) ≤ 17
task_words_short script None is there = omega arith
task_words_short script (Some t) is there = omega (arith, task_short script t is there, spaced_one (task_word script t))

pub dash_short : (script : Script) (task : Option TaskId) → IsScript script → IfSome task (IsTaskIn script) → length (spaced (task_or_dash script task ∷ [])) ≤ 17
dash_short script None is there = omega arith
dash_short script (Some t) is there = omega (arith, task_short script t is there, spaced_one (task_word script t))

wakes_short : (script : Script) (task : Option TaskId) → IsScript script → IfSome task (IsTaskIn script) → length (spaced (wakes_words script task)) ≤ 23
wakes_short script None is there = omega arith
wakes_short script (Some t) is there = omega (arith, task_short script t is there, two_words (codes "wakes") (task_word script t))

reader_short : (value : ℕ) → length (spaced (reader_words value)) ≤ 7
reader_short value = by_test (nat_eq value 1)
  where
    by_test : (b : Bool) → length (spaced (cond b (codes "reader" ∷ []) [])) ≤ 7
    by_test true = omega arith
    by_test false = omega arith

-- words of at most 37 bytes each
pub each_short : {A : Type 0} (word : A → List ℕ) (Is : A → Type 0) (xs : List A) → ((x : A) → Is x → length (word x) ≤ 37) → All Is xs → length (spaced (map word xs)) ≤ 38 * length xs
each_short word Is [] short all = omega arith
each_short word Is (x ∷ xs) short all =
    omega (
      arith,
      short x (All-head Is x xs all),
      spaced_cons (word x) (map word xs),
      each_short word Is xs short (All-tail Is x xs all),
    )

link_short : (script : Script) (link : ℕ × ℕ) → IsScript script → IsLinkIn script link → length (spaced (link_words script link)) ≤ 38
link_short script link is there =
    let t : TaskId = record { 0 = link.0 } in
    let l : LockId = record { 0 = link.1 } in
    omega (arith, task_short script t is there.0, lock_short script l is there.1, two_words (task_word script t) (lock_word script l))

path_short : (script : Script) (path : List (ℕ × ℕ)) → IsScript script → All (IsLinkIn script) path → length (spaced (flat_map (link_words script) path)) ≤ 38 * length path
path_short script [] is all = omega arith
path_short script (link ∷ links) is all =
    omega (
      arith,
      link_short script link is (All-head (IsLinkIn script) link links all),
      spaced_both (link_words script link) (flat_map (link_words script) links),
      path_short script links is (All-tail (IsLinkIn script) link links all),
    )

-- ---- what each kind tells, with at most 64 links

wake_short : (value : ℕ) → length (wake_word value) ≤ 8
wake_short value = by_test (nat_eq value 1)
  where
    by_test : (b : Bool) → length (cond b (codes "signal") (codes "wake")) ≤ 8
    by_test true = omega arith
    by_test false = omega arith

kind_short : (kind : EventKind) (value : ℕ) → length (kind_word kind value) ≤ 8
kind_short kinds.Wake value = wake_short value
kind_short _ value = omega arith

pub state_short : (state : TaskState) → length (spaced (state_word state ∷ [])) ≤ 2
state_short states.Running = omega arith
state_short _ = omega arith

path_few : (kind : EventKind) (script : Script) (path : List (ℕ × ℕ)) → HasPath kind script path → length path ≤ 64
path_few kinds.Cycle script path is = is.1
path_few _ script path is = subst (λ (p : List (ℕ × ℕ)). length p ≤ 64) (sym is) (omega arith)

value_small : (kind : EventKind) (value : ℕ) → HasValue kind value → value ≤ 139
value_small kinds.Busy value is = omega (arith, is)
value_small kinds.WOpen value is = omega (arith, is)
value_small kinds.Wake value is = omega (arith, is)
value_small kinds.State value is = omega (arith, is)
value_small kinds.SetPrio value is = is
value_small _ value is = omega (arith, is)

-- the parts of what a kind tells are short
record ArePartsShort (script : Script) (n : Entry) : Type 0 where
  lock : length (spaced (lock_words script n.lock)) ≤ 21
  other : length (spaced (task_words script n.other)) ≤ 17
  woken : length (spaced (task_or_dash script n.woken ∷ [])) ≤ 17
  wakes : length (spaced (wakes_words script n.woken)) ≤ 23
  reader : length (spaced (reader_words n.value)) ≤ 7
  value : length (spaced (decimal n.value ∷ [])) ≤ 4
  path : length (spaced (flat_map (link_words script) n.path)) ≤ 38 * 64

parts_short : (script : Script) (n : Entry) → IsScript script → IsWellFormed script n → ArePartsShort script n
parts_short script n valid is =
    let names = named script n is in
    let value = value_small n.kind n.value is.value in
    let few = path_few n.kind script n.path is.path in
    record {
      lock = lock_words_short script n.lock valid names.lock;
      other = task_words_short script n.other valid names.other;
      woken = dash_short script n.woken valid names.woken;
      wakes = wakes_short script n.woken valid names.woken;
      reader = reader_short n.value;
      value = omega (arith, small n.value (omega (arith, value)), spaced_one (decimal n.value));
      path = omega (arith, path_short script n.path valid names.path, few);
    }

both_short : (xs ys : List (List ℕ)) (a b c : ℕ) → length (spaced xs) ≤ a → length (spaced ys) ≤ b → a + b ≤ c → length (spaced (xs ++ ys)) ≤ c
both_short xs ys a b c x y fits = omega (arith, spaced_both xs ys, x, y, fits)

lock_first : (script : Script) (n : Entry) (ys : List (List ℕ)) (b : ℕ) → ArePartsShort script n → length (spaced ys) ≤ b → b ≤ 23 → length (spaced (lock_words script n.lock ++ ys)) ≤ 44
lock_first script n ys b is y fits = both_short (lock_words script n.lock) ys 21 b 44 is.lock y (omega (arith, fits))

up : (n a : ℕ) → n ≤ a → a ≤ 38 * 64 → n ≤ 38 * 64
up n a le fits = omega (arith, le, fits)

operands_short : (kind : EventKind) (script : Script) (n : Entry) → ArePartsShort script n → length (spaced (operands script kind n)) ≤ 38 * 64
operands_short kinds.Walk script n is =
    both_short (task_words script n.other ++ lock_words script n.lock) (wakes_words script n.woken) 38 23 _
    (both_short (task_words script n.other) (lock_words script n.lock) 17 21 38 is.other is.lock (omega arith)) is.wakes (omega arith)
operands_short kinds.WalkEnd script n is = up _ 17 is.other (omega arith)
operands_short kinds.Restart script n is = both_short (task_words script n.other) (lock_words script n.lock) 17 21 _ is.other is.lock (omega arith)
operands_short kinds.Cycle script n is = is.path
operands_short kinds.Give script n is = up _ 44 (lock_first script n _ 17 is is.woken (omega arith)) (omega arith)
operands_short kinds.WWake script n is = up _ 44 (lock_first script n _ 17 is is.woken (omega arith)) (omega arith)
operands_short kinds.Busy script n is = up _ 44 (lock_first script n _ 7 is is.reader (omega arith)) (omega arith)
operands_short kinds.WOpen script n is = up _ 44 (lock_first script n _ 7 is is.reader (omega arith)) (omega arith)
operands_short kinds.State script n is = up _ 2 (state_short (state_numbered n.value)) (omega arith)
operands_short kinds.Sched script n is = omega arith
operands_short kinds.Wake script n is = up _ 17 is.other (omega arith)
operands_short kinds.SetPrio script n is = both_short (task_words script n.other) (decimal n.value ∷ []) 17 4 _ is.other is.value (omega arith)
operands_short _ script n is = up _ 21 is.lock (omega arith)

-- ---- the line

boost_short : (script : Script) (boost : Option (TaskId × ℕ)) → IsScript script → IfSome boost (λ boost. IsTaskIn script boost.0 × (boost.1 ≤ 139)) → length (spaced (boost_words script boost)) ≤ 21
boost_short script None valid is = omega arith
boost_short script (Some b) valid is =
    omega (
      arith,
      task_short script b.0 valid is.0,
      small b.1 (omega (arith, is.1)),
      spaced_one (boost_word script b),
      length-append (task_word script b.0) (61 ∷ decimal b.1),
    )

reply_short : (reply : Option Reply) → length (spaced (reply_words reply)) ≤ 15
reply_short None = omega arith
reply_short (Some replies.Got) = omega arith
reply_short (Some _) = omega arith

pub line_length : (a b c d e : List ℕ) → length (a ++ b ++ c ++ d ++ e ++ 10 ∷ []) ≡ length a + length b + length c + length d + length e + 1
line_length a b c d e =
    omega (
      arith,
      length-append a b,
      length-append (a ++ b) c,
      length-append (a ++ b ++ c) d,
      length-append (a ++ b ++ c ++ d) e,
      length-append (a ++ b ++ c ++ d ++ e) (10 ∷ []),
    )

number_short : (number words : List ℕ) (a b : ℕ) → length number ≤ a → length words ≤ b → a + b + 1 < 4096 → length (number ++ words ++ 10 ∷ []) < 4096
number_short number words a b n w fits = omega (arith, n, w, fits, length-append number words, length-append (number ++ words) (10 ∷ []))

head_short : (who did : List ℕ) (others : List (List ℕ)) (a : ℕ) → length who ≤ 16 → length did ≤ 8 → length (spaced others) ≤ a → length (spaced (who ∷ did ∷ others)) ≤ 26 + a
head_short who did others a w d o = omega (arith, w, d, o, spaced_cons who (did ∷ others), spaced_cons did others)

-- a well formed entry's line is shorter than 4,096 bytes
pub line_short : (script : Script) (n : Entry) → IsScript script → IsWellFormed script n → length (line_of script n) < 4096
line_short script n valid is =
    let boost : List (List ℕ) = boost_words script n.boost in
    let reply : List (List ℕ) = reply_words n.reply in
    let tail : length (spaced (boost ++ reply)) ≤ 36 = both_short boost reply 21 15 36 (boost_short script n.boost valid is.boost) (reply_short n.reply) (omega arith) in
    let told : length (spaced (operands script n.kind n ++ (boost ++ reply))) ≤ 2468 =
    both_short (operands script n.kind n) (boost ++ reply) 2432 36 2468 (operands_short n.kind script n (parts_short script n valid is)) tail (omega arith) in
    let words : length (spaced (told_words script n)) ≤ 26 + 2468 =
    head_short (task_word script n.task) (kind_word n.kind n.value) (operands script n.kind n ++ (boost ++ reply)) 2468 (task_short script n.task valid is.task) (kind_short n.kind n.value) told in
    number_short (decimal n.number) (spaced (told_words script n)) 20 (26 + 2468) (length-decimal-le 20 n.number (omega arith) (omega (arith, is.number)) is.number) words (omega arith)
