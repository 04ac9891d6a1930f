-- How long a written script is.
use Rattle.std.proofs.Common.{◌≡◌, ℕ, ◌+◌, ◌*◌, ◌<◌, ◌≤◌, Bool, true, ◌&&◌, List, [], ◌∷◌, ◌++◌, length, map, filter, flat_map, leb, All, refl, ◌∙◌, arith, length-append}
use Rattle.std.specs.Prelude.{codes, decimal, sum_by}
use Rattle.std.specs.List.{list_all}
use Rattle.std.proofs.lemmas.Bool.{le-leb, leb-true}
use Rattle.std.proofs.lemmas.List.{length-map}
use Rattle.std.proofs.lemmas.List.Elements.{All-head, All-tail, All-filter}
use Rattle.std.proofs.lemmas.List.Folds.{list_all-append}
use Rattle.std.proofs.lemmas.List.Sums.{sum-map, sum_by-cons, length-filter, count_by-le-length}
use Rattle.rt_base.specs.declared.call.Call.{Call}
use Rattle.rt_base.specs.declared.id.TaskId.{TaskId}
use Rattle.rt_base.specs.Script.{Script, TaskLine, LockLine, task_line, IsScript, IsTaskOf, IsLockWithin, IsCallOf}
use Rattle.rt_script.specs.Canonical.{lock_kind_word, call_words, cpus_line_text, task_line_text, lock_line_text, call_line_text, call_line_texts, pick_line_text, lined_locks, with_line_feed, canonical_lines, canonical}
use Rattle.rt_base.specs.declared.limits.TheConstants.{MAX_CPUS, TEXT_LIMIT}
use Rattle.rt_script.specs.Words.{is_printable}
use Rattle.rt_script.proofs.ScriptParts.{task_fits}
use Rattle.rt_script.proofs.Tests.{left, right, both}
use Rattle.rt_script.proofs.WrittenWords.{is_word, line_from, printable_line, length_line}
use Rattle.rt_script.proofs.WrittenPlain.{cpus_plain, task_plain, lock_plain, call_plain, pick_plain}
use Rattle.rt_script.proofs.WrittenCalls.{Says, call_says}
use Rattle.rt_script.proofs.WrittenLocks.{has_line}

-- ---- lists of lines

-- the most characters of a line, one of six words, and the most lines
abbrev longest_line : ℕ
longest_line = 101

abbrev most_lines : ℕ
most_lines = 82243

-- a line of printable characters, of which there are few enough
abbrev pub is_line : List ℕ → Bool
is_line line = list_all is_printable line && leb (length line) longest_line

every_mapped : {X Y : Type 0} (P : X → Type 0) (p : Y → Bool) (f : X → Y) (xs : List X) → ((x : X) → P x → p (f x) ≡ true) → All P xs → list_all p (map f xs) ≡ true
every_mapped P p f [] h all = refl
every_mapped P p f (x ∷ xs) h all = both _ _ (h x (All-head P x xs all)) (every_mapped P p f xs h (All-tail P x xs all))

every_joined : {X Y : Type 0} (P : X → Type 0) (p : Y → Bool) (f : X → List Y) (xs : List X) → ((x : X) → P x → list_all p (f x) ≡ true) → All P xs → list_all p (flat_map f xs) ≡ true
every_joined P p f [] h all = refl
every_joined P p f (x ∷ xs) h all = list_all-append p (f x) (flat_map f xs) ∙ both _ _ (h x (All-head P x xs all)) (every_joined P p f xs h (All-tail P x xs all))

joined : (p : List ℕ → Bool) (xs ys : List (List ℕ)) → list_all p xs ≡ true → list_all p ys ≡ true → list_all p (xs ++ ys) ≡ true
joined p xs ys e f = list_all-append p xs ys ∙ both _ _ e f

-- ---- each line

of_words : (first : List ℕ) (words : List (List ℕ)) → list_all is_word (first ∷ words) ≡ true → length words ≤ 5 → is_line (line_from first words) ≡ true
of_words first words e few = both _ _ (printable_line first words e) (le-leb (length (line_from first words)) longest_line (omega (arith, length_line first words e)))

cpus_line : (cpus : ℕ) → cpus ≤ MAX_CPUS → is_line (cpus_line_text cpus) ≡ true
cpus_line cpus few = of_words (codes "cpus") (decimal cpus ∷ []) (cpus_plain cpus few) (omega arith)

task_line_fits : (s : Script) → s.cpus ≤ MAX_CPUS → (t : TaskLine) → IsTaskOf s t → is_line (task_line_text t) ≡ true
task_line_fits s few t fits = of_words (codes "task") (t.name ∷ decimal t.own ∷ decimal t.cpu.0 ∷ []) (task_plain s t fits few) (omega arith)

lock_line_fits : (cpus : ℕ) (l : LockLine) → IsLockWithin cpus l → is_line (lock_line_text l) ≡ true
lock_line_fits cpus l fits = of_words (codes "lock") (l.name ∷ lock_kind_word l.kind ∷ []) (lock_plain l.name l.kind fits.name) (omega arith)

call_line_fits : (s : Script) → IsScript s → (t : TaskLine) → IsTaskOf s t → (call : Call) → IsCallOf s call → is_line (call_line_text s t call) ≡ true
call_line_fits s h t fits call is =
    let says : Says s (call_words s call) call = call_says s s h (record { cpus = refl; names = refl; locks = refl }) call is in
    of_words (codes "call") (t.name ∷ call_words s call) (call_plain t.name (call_words s call) fits.name says.plain) (omega (arith, leb-true (length (call_words s call)) 4 says.few))

task_calls_fit : (s : Script) → IsScript s → (t : TaskLine) → IsTaskOf s t → list_all is_line (call_line_texts s t) ≡ true
task_calls_fit s h t fits = every_mapped (IsCallOf s) is_line (call_line_text s t) t.calls (call_line_fits s h t fits) fits.calls

pick_line_fits : (s : Script) → IsScript s → (t : TaskId) → t.0 < length s.tasks → is_line (pick_line_text s t) ≡ true
pick_line_fits s h t in' = of_words (codes "pick") ((task_line s t).name ∷ []) (pick_plain (task_line s t).name (task_fits s t h in').name) (omega arith)

-- ---- all lines

pub lines_fit : (s : Script) → IsScript s → list_all is_line (canonical_lines s) ≡ true
lines_fit s h =
    let tasks : list_all is_line (map task_line_text s.tasks) ≡ true = every_mapped (IsTaskOf s) is_line task_line_text s.tasks (task_line_fits s h.cpus.1) h.each_task in
    let locks : list_all is_line (map lock_line_text (lined_locks s)) ≡ true = every_mapped (IsLockWithin s.cpus) is_line lock_line_text (lined_locks s) (lock_line_fits s.cpus) (All-filter has_line (IsLockWithin s.cpus) s.locks h.each_lock) in
    let calls : list_all is_line (flat_map (call_line_texts s) s.tasks) ≡ true = every_joined (IsTaskOf s) is_line (call_line_texts s) s.tasks (task_calls_fit s h) h.each_task in
    let picks : list_all is_line (map (pick_line_text s) s.picks) ≡ true = every_mapped (λ (t : TaskId). t.0 < length s.tasks) is_line (pick_line_text s) s.picks (pick_line_fits s h) h.each_pick in
    let to_locks = joined is_line (codes "rtscript 1" ∷ cpus_line_text s.cpus ∷ map task_line_text s.tasks) (map lock_line_text (lined_locks s)) (both _ _ refl (both _ _ (cpus_line s.cpus h.cpus.1) tasks)) locks in
    let to_calls = joined is_line ((codes "rtscript 1" ∷ cpus_line_text s.cpus ∷ map task_line_text s.tasks) ++ map lock_line_text (lined_locks s)) (flat_map (call_line_texts s) s.tasks) to_locks calls in
    let to_picks = joined is_line ((codes "rtscript 1" ∷ cpus_line_text s.cpus ∷ map task_line_text s.tasks) ++ map lock_line_text (lined_locks s) ++ flat_map (call_line_texts s) s.tasks) (map (pick_line_text s) s.picks) to_calls picks in
    joined is_line ((codes "rtscript 1" ∷ cpus_line_text s.cpus ∷ map task_line_text s.tasks) ++ map lock_line_text (lined_locks s) ++ flat_map (call_line_texts s) s.tasks ++ map (pick_line_text s) s.picks) (codes "go" ∷ []) to_picks refl

pub printable_lines : (lines : List (List ℕ)) → list_all is_line lines ≡ true → list_all (list_all is_printable) lines ≡ true
printable_lines [] e = refl
printable_lines (l ∷ ls) e = both _ _ (left _ _ (left _ _ e)) (printable_lines ls (right _ _ e))

text_fits : (lines : List (List ℕ)) → list_all is_line lines ≡ true → length (flat_map with_line_feed lines) ≤ (longest_line + 1) * length lines
text_fits [] e = omega arith
text_fits (l ∷ ls) e =
    omega (arith, leb-true (length l) longest_line (right _ _ (left _ _ e)), text_fits ls (right _ _ e), length-append l (10 ∷ []), length-append (with_line_feed l) (flat_map with_line_feed ls))

filtered : {X : Type 0} (p : X → Bool) (xs : List X) → length (filter p xs) ≤ length xs
filtered p xs = omega (arith, length-filter p xs, count_by-le-length p xs)

calls_counted : (s : Script) (ts : List TaskLine) → length (flat_map (call_line_texts s) ts) ≡ sum_by (λ (t : TaskLine). length t.calls) ts
calls_counted s [] = refl
calls_counted s (t ∷ ts) = omega (arith, length-append (call_line_texts s t) (flat_map (call_line_texts s) ts), length-map t.calls (call_line_text s t), calls_counted s ts, sum_by-cons (λ (t : TaskLine). length t.calls) t ts)

few_lines : (s : Script) → IsScript s → length (canonical_lines s) ≤ most_lines
few_lines s h =
    let head : List (List ℕ) = codes "rtscript 1" ∷ cpus_line_text s.cpus ∷ map task_line_text s.tasks in
    let locks : List (List ℕ) = map lock_line_text (lined_locks s) in
    let calls : List (List ℕ) = flat_map (call_line_texts s) s.tasks in
    let picks : List (List ℕ) = map (pick_line_text s) s.picks in
    omega (
      arith,
      length-append (head ++ locks ++ calls ++ picks) (codes "go" ∷ []),
      length-append (head ++ locks ++ calls) picks,
      length-append (head ++ locks) calls,
      length-append head locks,
      length-map s.tasks task_line_text,
      length-map (lined_locks s) lock_line_text,
      length-map s.picks (pick_line_text s),
      filtered has_line s.locks,
      calls_counted s s.tasks,
      sum-map (λ (t : TaskLine). length t.calls) s.tasks,
      h.tasks,
      h.locks,
      h.calls,
      h.picks,
    )

pub short : (s : Script) → IsScript s → length (canonical s) < TEXT_LIMIT
short s h = omega (arith, text_fits (canonical_lines s) (lines_fit s h), few_lines s h)
