-- What names stand for, first come, first served; and the names of a script that is built.
use Rattle.std.proofs.Common.{◌≡◌, ℕ, ◌+◌, ◌-◌, ◌<◌, ◌≤◌, Bool, true, false, cond, List, [], ◌∷◌, ◌++◌, length, get_or, take, Option, Some, None, refl, sym, ap, ◌∙◌, arith, ltb, leb}
use Rattle.std.specs.Prelude.{◌≢◌, String, position, bytes_eq, decimal}
use Rattle.std.specs.List.{list_all, position_or_len}
use Rattle.std.specs.Option.{option_or}
use Rattle.std.specs.HashMap.{HashMap, IsEmpty, get_by_text}
use Rattle.std.specs.Map.{update}
use Rattle.std.specs.Char.{is_ascii_digit, is_ascii_lowercase}
use Rattle.std.proofs.lemmas.Bool.{false_from_ne_true, lt-ltb, le-leb}
use Rattle.std.proofs.lemmas.Bool.Decides.{nat_tests}
use Rattle.std.proofs.lemmas.Fmt.{digits_decimal, decimal_injective, length-decimal-le}
use Rattle.std.proofs.lemmas.List.{take_more, length-take-le}
use Rattle.std.proofs.lemmas.List.Sums.{position_or_len_is}
use Rattle.std.proofs.lemmas.Slice.Eq.{bytes_eq-Decides}
use Rattle.rt_base.specs.declared.id.TaskId.{TaskId}
use Rattle.rt_base.specs.declared.id.LockId.{LockId}
use Rattle.rt_base.specs.declared.kind.Kind.{Kind}
use Rattle.rt_base.specs.declared.kind.Kind.TheVariants as kinds
use Rattle.rt_base.specs.declared.limits.TheConstants.{MAX_NAME}
use Rattle.rt_base.specs.Name.{is_name_byte, is_name}
use Rattle.rt_base.specs.Script.{Script, TaskLine, LockLine, task_line, lock_line, task_place, lock_place, is_first_cell, HasOwnNames}
use Rattle.rt_script.specs.declared.named.Named.{Named}
use Rattle.rt_script.specs.declared.named.Named.TheVariants.{Task, Lock}
use Rattle.rt_script.specs.Building.{TaskPlan, Plan, built_task_name, built_lock_name, cell_cpu, built_tasks, built_lock, built_locks, built}
use Rattle.rt_script.specs.Names.{the_task, the_lock, named}
use Rattle.rt_script.specs.ScriptFields.{with_lines, NamesLines, IsNamedToo}
use Rattle.rt_script.proofs.BuiltLines.{length-built_tasks, built_task_at, length-built_locks, built_lock_at}
use Rattle.rt_script.proofs.Naming.{position_push, either, same_test}
use Rattle.rt_script.proofs.Numbers.{decimals}
use Rattle.rt_script.proofs.ScriptParts.{no_task, no_lock, task_line_at, lock_line_at}
use Rattle.rt_script.proofs.Tests.{left, right, both}

-- ---- a name more, unless it stands for something

task_too : (a b : Option ℕ) (n : ℕ) (e : Bool) → b ≡ None → either (option_or a (cond e (Some n) None)) b ≡ option_or (either a b) (cond e (Some (the_task n)) None)
task_too (Some i) b n e none = refl
task_too None b n true none = rw none refl
task_too None b n false none = rw none refl

lock_too : (a b : Option ℕ) (n : ℕ) (e : Bool) → either a (option_or b (cond e (Some n) None)) ≡ option_or (either a b) (cond e (Some (the_lock n)) None)
lock_too (Some i) b n e = refl
lock_too None (Some j) n e = refl
lock_too None None n true = refl
lock_too None None n false = refl

named-task_more : (tasks : List TaskLine) (task : TaskLine) (name : List ℕ)
    → named (with_lines (tasks ++ task ∷ []) []) name ≡ option_or (named (with_lines tasks []) name) (cond (bytes_eq name task.name) (Some (the_task (length tasks))) None)
unfolding named
named-task_more tasks task name =
    let test : TaskLine → Bool = λ t. bytes_eq name t.name in
    ap (λ (o : Option ℕ). either o None) (position_push test tasks task) ∙ task_too (position test tasks) None (length tasks) (bytes_eq name task.name) refl

named-lock_more : (tasks : List TaskLine) (locks : List LockLine) (lock : LockLine) (name : List ℕ)
    → named (with_lines tasks (locks ++ lock ∷ [])) name ≡ option_or (named (with_lines tasks locks) name) (cond (bytes_eq name lock.name) (Some (the_lock (length locks))) None)
unfolding named
named-lock_more tasks locks lock name =
    let tests : TaskLine → Bool = λ t. bytes_eq name t.name in
    let test : LockLine → Bool = λ l. bytes_eq name l.name in
    ap (either (position tests tasks)) (position_push test locks lock) ∙ lock_too (position tests tasks) (position test locks) (length locks) (bytes_eq name lock.name)

-- a loop over the tasks, and one over the locks
pub names_task_more : {Y S : Type 0} (old new : HashMap (String Y) Named S) (tasks : List TaskLine) (i : ℕ) (task : TaskLine) (id : TaskId) → i < length tasks → task ≡ get_or tasks i task → id.0 ≡ i
    → NamesLines (take i tasks) [] old → IsNamedToo old task.name (Task id) new → NamesLines (take (i + 1) tasks) [] new
names_task_more old new tasks i task id lt is id-is before after name =
    let next : take (i + 1) tasks ≡ take i tasks ++ task ∷ [] = take_more tasks i task lt ∙ ap (λ (t : TaskLine). take i tasks ++ t ∷ []) (sym is) in
    let number : id ≡ record { 0 = length (take i tasks) } = ap (λ (n : ℕ). record { 0 = n }) (id-is ∙ sym (length-take-le i tasks (omega arith))) in
    after name
    ∙ (λ k. option_or (before name k) (cond (bytes_eq name task.name) (Some (Task (number k))) None))
    ∙ sym (named-task_more (take i tasks) task name)
    ∙ ap (λ (ts : List TaskLine). named (with_lines ts []) name) (sym next)

pub names_lock_more : {Y S : Type 0} (old new : HashMap (String Y) Named S) (tasks : List TaskLine) (locks : List LockLine) (i : ℕ) (lock : LockLine) (id : LockId) → i < length locks → lock ≡ get_or locks i lock → id.0 ≡ i
    → NamesLines tasks (take i locks) old → IsNamedToo old lock.name (Lock id) new → NamesLines tasks (take (i + 1) locks) new
names_lock_more old new tasks locks i lock id lt is id-is before after name =
    let next : take (i + 1) locks ≡ take i locks ++ lock ∷ [] = take_more locks i lock lt ∙ ap (λ (l : LockLine). take i locks ++ l ∷ []) (sym is) in
    let number : id ≡ record { 0 = length (take i locks) } = ap (λ (n : ℕ). record { 0 = n }) (id-is ∙ sym (length-take-le i locks (omega arith))) in
    after name
    ∙ (λ k. option_or (before name k) (cond (bytes_eq name lock.name) (Some (Lock (number k))) None))
    ∙ sym (named-lock_more tasks (take i locks) lock name)
    ∙ ap (λ (ls : List LockLine). named (with_lines tasks ls) name) (sym next)

pub names_empty : {Y S : Type 0} (m : HashMap (String Y) Named S) → IsEmpty m → NamesLines [] [] m
unfolding named
names_empty m e name = rw e refl

-- what is put in where nothing was
put_in : (o : Option Named) (b : Bool) (meant : Named) → (b ≡ true → o ≡ None) → cond b (Some meant) o ≡ option_or o (cond b (Some meant) None)
put_in (Some n) true meant none = let k = none refl in absurd cc
put_in (Some n) false meant none = refl
put_in None true meant none = refl
put_in None false meant none = refl

pub named_too : {Y S : Type 0} (old new : HashMap (String Y) Named S) (name : List ℕ) (meant : Named) → get_by_text old name ≡ None
    → ((word : List ℕ) → get_by_text new word ≡ update bytes_eq (get_by_text old) name (Some meant) word) → IsNamedToo old name meant new
named_too old new name meant none after word =
    let free : bytes_eq name word ≡ true → get_by_text old word ≡ None = λ e. ap (get_by_text old) (sym ((bytes_eq-Decides name word).0 e)) ∙ none in
    after word ∙ put_in (get_by_text old word) (bytes_eq name word) meant free ∙ ap (λ (b : Bool). option_or (get_by_text old word) (cond b (Some meant) None)) (same_test name word)

-- ---- names that are built

digit_in_name : (b : ℕ) → is_ascii_digit b ≡ true → is_name_byte b ≡ true
digit_in_name b e = grind (arith, nat_tests)

digits_in_name : (bs : List ℕ) → list_all is_ascii_digit bs ≡ true → list_all is_name_byte bs ≡ true
digits_in_name [] e = refl
digits_in_name (b ∷ bs) e = both _ _ (digit_in_name b (left _ _ e)) (digits_in_name bs (right _ _ e))

named_by_number : (letter n : ℕ) → is_ascii_lowercase letter ≡ true → n < 1000 → is_name (letter ∷ decimal n) ≡ true
named_by_number letter n lower small =
    let len : length (decimal n) ≤ 3 = length-decimal-le 3 n (omega arith) (omega arith) (omega arith) in
    let short : leb (length (letter ∷ decimal n)) MAX_NAME ≡ true = le-leb (length (letter ∷ decimal n)) MAX_NAME (omega arith) in
    let some : ltb 0 (length (letter ∷ decimal n)) ≡ true = lt-ltb 0 (length (letter ∷ decimal n)) (omega arith) in
    let first : is_name_byte letter ≡ true = rw lower refl in
    let digits : list_all is_name_byte (decimal n) ≡ true = digits_in_name (decimal n) (digits_decimal decimals n (omega arith)) in
    both _ _ (both _ _ (both _ _ some short) lower) (both _ _ first digits)

pub is_name-task : (n : ℕ) → n < 1000 → is_name (built_task_name n) ≡ true
is_name-task n small = named_by_number 116 n refl small

pub is_name-lock : (n : ℕ) → n < 1000 → is_name (built_lock_name n) ≡ true
is_name-lock n small = named_by_number 107 n refl small

abbrev tail_of : List ℕ → List ℕ
tail_of [] = []
tail_of (b ∷ bs) = bs

differ : (letter m n : ℕ) → m < 1000 → n < 1000 → m ≢ n → bytes_eq (letter ∷ decimal m) (letter ∷ decimal n) ≡ false
differ letter m n small little other =
    false_from_ne_true _ (λ e. other (decimal_injective m n (omega arith) (omega arith) (ap tail_of ((bytes_eq-Decides (letter ∷ decimal m) (letter ∷ decimal n)).0 e))))

equal : (name : List ℕ) → bytes_eq name name ≡ true
equal name = (bytes_eq-Decides name name).1 refl

apart : (m n : ℕ) → bytes_eq (built_lock_name m) (built_task_name n) ≡ false
apart m n = refl

-- the first that passes
first_at : {X : Type 0} (p : X → Bool) (xs : List X) (i : ℕ) (d : X) → i < length xs → ((k : ℕ) → k < i → p (get_or xs k d) ≡ false) → p (get_or xs i d) ≡ true → position p xs ≡ Some i
first_at p xs i d lt before here =
    let at : position_or_len p xs ≡ i = position_or_len_is p xs i d (omega arith) before (λ _. here) in
    rw (at, lt-ltb i (length xs) lt) refl

none_at : {X : Type 0} (p : X → Bool) (xs : List X) (d : X) → ((k : ℕ) → k < length xs → p (get_or xs k d) ≡ false) → position p xs ≡ None
none_at p xs d before =
    let at : position_or_len p xs ≡ length xs = position_or_len_is p xs (length xs) d (omega arith) before (λ lt. absurd (omega arith)) in
    rw at (grind (arith, nat_tests))

-- ---- the names of a script that is built

abbrev pub no_plan : TaskPlan
no_plan = record { own = 0; cpu = record { 0 = 0 }; calls = [] }

task_name_at : (tasks : List TaskPlan) (i : ℕ) (d : TaskLine) → i < length tasks → (get_or (built_tasks tasks) i d).name ≡ built_task_name i
task_name_at tasks i d lt = ap (λ (t : TaskLine). t.name) (built_task_at tasks i d no_plan lt)

-- a lock has its own number, or the lesser one of a cell before it
lock_number : (n cpu : ℕ) (kind : Kind) → (m : ℕ) × (m ≤ n) × ((built_lock n cpu kind).name ≡ built_lock_name m)
lock_number n cpu kinds.Local = (n - cpu, omega arith, refl)
lock_number n cpu kinds.Mutex = (n, omega arith, refl)
lock_number n cpu kinds.Spin = (n, omega arith, refl)
lock_number n cpu kinds.RwLock = (n, omega arith, refl)
lock_number n cpu kinds.RwSem = (n, omega arith, refl)

own_number : (n cpu : ℕ) (kind : Kind) → is_first_cell (built_lock n cpu kind).cell ≡ true → (built_lock n cpu kind).name ≡ built_lock_name n
own_number n cpu kinds.Local first =
    let none : cpu ≡ 0 = grind (arith, nat_tests) in
    let same : n - cpu ≡ n = omega arith in
    ap built_lock_name same
own_number n cpu kinds.Mutex first = refl
own_number n cpu kinds.Spin first = refl
own_number n cpu kinds.RwLock first = refl
own_number n cpu kinds.RwSem first = refl

lock_name_at : (cpus : ℕ) (locks : List Kind) (i : ℕ) (d : LockLine) → i < length locks → (m : ℕ) × (m ≤ i) × ((get_or (built_locks cpus locks) i d).name ≡ built_lock_name m)
lock_name_at cpus locks i d lt =
    let is = built_lock_at cpus locks i d kinds.Mutex lt in
    let n = lock_number i (cell_cpu cpus locks i) (get_or locks i kinds.Mutex) in
    (n.0, n.1, ap (λ (l : LockLine). l.name) is ∙ n.2)

pub HasOwnNames-built : (plan : Plan) → length plan.tasks < 1000 → length plan.locks < 1000 → HasOwnNames (built plan)
HasOwnNames-built plan few little =
    let s : Script = built plan in
    let tasks : length s.tasks ≡ length plan.tasks = length-built_tasks plan.tasks in
    let locks : length s.locks ≡ length plan.locks = length-built_locks plan.cpus plan.locks in
    record {
      task = λ t lt.
          let i : ℕ = t.0 in
          let name : (task_line s t).name ≡ built_task_name i = ap (λ (l : TaskLine). l.name) (task_line_at s t) ∙ task_name_at plan.tasks i no_task (omega arith) in
          let test : TaskLine → Bool = λ l. bytes_eq (built_task_name i) l.name in
          ap (task_place s) name
          ∙ first_at test s.tasks i no_task lt
          (λ k before. ap (bytes_eq (built_task_name i)) (task_name_at plan.tasks k no_task (omega arith)) ∙ differ 116 i k (omega arith) (omega arith) (λ e. omega arith))
          (ap (bytes_eq (built_task_name i)) (task_name_at plan.tasks i no_task (omega arith)) ∙ equal (built_task_name i));
      lock = λ l lt first.
          let i : ℕ = l.0 in
          let is = built_lock_at plan.cpus plan.locks i no_lock kinds.Mutex (omega arith) in
          let line : lock_line s l ≡ built_lock i (cell_cpu plan.cpus plan.locks i) (get_or plan.locks i kinds.Mutex) = lock_line_at s l ∙ is in
          let own = own_number i (cell_cpu plan.cpus plan.locks i) (get_or plan.locks i kinds.Mutex) (ap (λ (x : LockLine). is_first_cell x.cell) (sym line) ∙ first) in
          let name : (lock_line s l).name ≡ built_lock_name i = ap (λ (x : LockLine). x.name) line ∙ own in
          let test : LockLine → Bool = λ x. bytes_eq (built_lock_name i) x.name in
          ap (lock_place s) name
          ∙ first_at test s.locks i no_lock lt
          (λ k before.
          let n = lock_name_at plan.cpus plan.locks k no_lock (omega arith) in
          ap (bytes_eq (built_lock_name i)) n.2 ∙ differ 107 i n.0 (omega arith) (omega (arith, n.1)) (λ e. omega (arith, n.1)))
          (ap (bytes_eq (built_lock_name i)) (ap (λ (x : LockLine). x.name) is ∙ own) ∙ equal (built_lock_name i));
      apart = λ l lt.
          let i : ℕ = l.0 in
          let n = lock_name_at plan.cpus plan.locks i no_lock (omega arith) in
          let name : (lock_line s l).name ≡ built_lock_name n.0 = ap (λ (x : LockLine). x.name) (lock_line_at s l) ∙ n.2 in
          let test : TaskLine → Bool = λ t. bytes_eq (built_lock_name n.0) t.name in
          ap (task_place s) name ∙ none_at test s.tasks no_task (λ k below. ap (bytes_eq (built_lock_name n.0)) (task_name_at plan.tasks k no_task (omega arith)) ∙ apart n.0 k);
    }
