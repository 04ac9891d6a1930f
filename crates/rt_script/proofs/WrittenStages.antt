-- The lines of each part of a written script lead to the script with that part.
use Rattle.std.proofs.Common.{◌≡◌, ℕ, ◌+◌, ◌<◌, ◌≤◌, true, false, List, [], ◌∷◌, ◌++◌, length, map, flat_map, ltb, leb, All, Some, None, Ok, refl, sym, ap, subst, ◌∙◌, arith, append-nil, append_assoc, length-append}
use Rattle.std.specs.Prelude.{codes, decimal, sum_by}
use Rattle.std.proofs.lemmas.Bool.{lt-ltb, le-leb}
use Rattle.std.proofs.lemmas.Grind.{flat_map-append}
use Rattle.std.proofs.lemmas.List.{map-append, length-map}
use Rattle.std.proofs.lemmas.List.Sums.{sum-map, sum_by-append, sum_by-cons}
use Rattle.std.proofs.Math.Seq.{set-append_seam, get_or-append_seam}
use Rattle.std.proofs.lemmas.List.Concat.{flat_map_single}
use Rattle.rt_base.specs.Name.{is_name}
use Rattle.rt_base.specs.declared.call.Call.{Call}
use Rattle.rt_base.specs.declared.id.TaskId.{TaskId}
use Rattle.rt_base.specs.declared.kind.Kind.{Kind}
use Rattle.rt_base.specs.declared.kind.Kind.TheVariants as kinds
use Rattle.rt_base.specs.Script.{Script, TaskLine, LockLine, task_line, all_calls, locks_of, locks_of_lines, IsScript, IsTaskOf, IsLockWithin, IsCallOf}
use Rattle.rt_script.specs.Adding.{empty_script, with_task, with_locks, with_call, with_pick}
use Rattle.rt_script.specs.Canonical.{lock_kind_word, call_words, cpus_line_text, task_line_text, call_line_text, pick_line_text, call_line_texts}
use Rattle.rt_base.specs.declared.limits.TheConstants.{MAX_CALLS, MAX_CPUS, MAX_LOCKS, MAX_PICKS, MAX_PRIO, MAX_TASKS}
use Rattle.rt_script.specs.Lines.{SoFar, after_cpus_line, after_task_line, after_lock_line, after_call_line, after_pick_line}
use Rattle.rt_script.specs.Spelling.{cpu_spelled, kind_spelled}
use Rattle.rt_script.specs.Names.{named, task_named}
use Rattle.rt_script.specs.Words.{number_upto}
use Rattle.rt_script.proofs.ScriptParts.{task_fits, lock_fits}
use Rattle.rt_script.proofs.WrittenWords.{number_read}
use Rattle.rt_script.proofs.WrittenPlain.{cpus_plain, task_plain, lock_plain, call_plain, pick_plain}
use Rattle.rt_script.proofs.WrittenLines.{LeadTo, reads_line, reads_each}
use Rattle.rt_script.proofs.WrittenNames.{name_of, uncalled, uncalled-names, length-middle, the_task_line, the_lock_line, task_is_new, lock_is_new, task_is_known}
use Rattle.rt_script.proofs.WrittenCalls.{HasAll, Says, call_says, cpu_read}
use Rattle.rt_script.proofs.WrittenLocks.{line_text, starts}

-- lines have begun, and made this
abbrev pub begun : Script → SoFar
begun script = record { script = script; begun = true }

-- ---- processors

-- nothing but processors
abbrev pub empty : ℕ → Script
empty cpus = record { cpus = cpus; tasks = []; locks = []; picks = [] }

cpus_made : (cpus : ℕ) → 1 ≤ cpus → cpus ≤ MAX_CPUS → after_cpus_line (record { script = empty_script; begun = false }) (decimal cpus ∷ []) ≡ Ok (empty cpus)
unfolding after_cpus_line
cpus_made cpus some few =
    let number : number_upto MAX_CPUS (decimal cpus) ≡ Some cpus = number_read MAX_CPUS cpus few (omega arith) in
    let positive : ltb 0 cpus ≡ true = lt-ltb 0 cpus some in
    rw (number, positive) refl

pub reads_cpus : (s : Script) → IsScript s → LeadTo (record { script = empty_script; begun = false }) (cpus_line_text s.cpus ∷ []) (begun (empty s.cpus))
reads_cpus s h = reads_line (record { script = empty_script; begun = false }) (empty s.cpus) (codes "cpus") (decimal s.cpus ∷ [])
    (record { plain = cpus_plain s.cpus h.cpus.1; kept = refl; not_go = refl; not_end = λ rest. refl })
    (cpus_made s.cpus h.cpus.0 h.cpus.1)

-- ---- tasks

-- these tasks, yet without calls
abbrev pub of_tasks : Script → List TaskLine → Script
of_tasks s front = record { cpus = s.cpus; tasks = map uncalled front; locks = []; picks = [] }

task_made : (p : Script) (x : TaskLine) → is_name x.name ≡ true → x.own ≤ MAX_PRIO → x.cpu.0 < p.cpus → p.cpus ≤ MAX_CPUS → named p x.name ≡ None → length p.tasks < MAX_TASKS
    → after_task_line p (x.name ∷ decimal x.own ∷ decimal x.cpu.0 ∷ []) ≡ Ok (with_task p (uncalled x))
unfolding after_task_line
task_made p x shape small on few new room =
    let number : number_upto MAX_PRIO (decimal x.own) ≡ Some x.own = number_read MAX_PRIO x.own small (omega arith) in
    let cpu : cpu_spelled p (decimal x.cpu.0) ≡ Some x.cpu = cpu_read p x.cpu on few in
    let within : ltb (length p.tasks) MAX_TASKS ≡ true = lt-ltb (length p.tasks) MAX_TASKS room in
    rw (shape, new, number, cpu, within) refl

middle_task : (s : Script) → IsScript s → (front : List TaskLine) (x : TaskLine) (back : List TaskLine) → s.tasks ≡ front ++ x ∷ back → IsTaskOf s x
middle_task s h front x back e =
    let within : length front < length s.tasks = rw e (length-middle front x back) in
    subst (IsTaskOf s) (the_task_line s front x back e) (task_fits s (record { 0 = length front }) h within)

reads_task : (s : Script) → IsScript s → (front : List TaskLine) (x : TaskLine) (back : List TaskLine) → s.tasks ≡ front ++ x ∷ back → LeadTo (begun (of_tasks s front)) (task_line_text x ∷ []) (begun (of_tasks s (front ++ x ∷ [])))
reads_task s h front x back e =
    let p : Script = of_tasks s front in
    let fits : IsTaskOf s x = middle_task s h front x back e in
    let new : named p x.name ≡ None = task_is_new p s h.names front x back e refl refl in
    let room : length (map uncalled front) < MAX_TASKS = omega (arith, length-map front uncalled, length-middle front x back, ap length e, h.tasks) in
    let made : after_task_line p (x.name ∷ decimal x.own ∷ decimal x.cpu.0 ∷ []) ≡ Ok (with_task p (uncalled x)) = task_made p x fits.name fits.own fits.cpu h.cpus.1 new room in
    let next : with_task p (uncalled x) ≡ of_tasks s (front ++ x ∷ []) = ap (λ (ts : List TaskLine). record { cpus = s.cpus; tasks = ts; locks = []; picks = [] }) (sym (map-append uncalled front (x ∷ []))) in
    reads_line (begun p) (of_tasks s (front ++ x ∷ [])) (codes "task") (x.name ∷ decimal x.own ∷ decimal x.cpu.0 ∷ [])
    (record { plain = task_plain s x fits h.cpus.1; kept = refl; not_go = refl; not_end = λ rest. refl })
    (made ∙ ap Ok next)

pub reads_tasks : (s : Script) → IsScript s → LeadTo (begun (empty s.cpus)) (flat_map (λ x. task_line_text x ∷ []) s.tasks) (begun (of_tasks s s.tasks))
reads_tasks s h = reads_each s.tasks (λ front back. begun (of_tasks s front)) (λ x. task_line_text x ∷ []) (reads_task s h)

-- ---- locks

-- all tasks, yet without calls, and the locks of these lines
abbrev pub of_locks : Script → List (List ℕ × Kind) → Script
of_locks s front = record { cpus = s.cpus; tasks = map uncalled s.tasks; locks = locks_of_lines s.cpus front; picks = [] }

lock_made : (p : Script) (name : List ℕ) (kind : Kind) → is_name name ≡ true → named p name ≡ None → length p.locks + length (locks_of p.cpus name kind) ≤ MAX_LOCKS
    → after_lock_line p (name ∷ lock_kind_word kind ∷ []) ≡ Ok (with_locks p (locks_of p.cpus name kind))
unfolding after_lock_line
lock_made p name kind shape new room =
    let within : leb (length p.locks + length (locks_of p.cpus name kind)) MAX_LOCKS ≡ true = le-leb _ MAX_LOCKS room in
    rw (shape, new, kind_read kind, within) refl
  where
    kind_read : (kind : Kind) → kind_spelled (lock_kind_word kind) ≡ Some kind
    kind_read kinds.Mutex = refl
    kind_read kinds.Spin = refl
    kind_read kinds.RwLock = refl
    kind_read kinds.RwSem = refl
    kind_read kinds.Local = refl

-- what is known of the next lock line
record NextLock (s : Script) (front : List (List ℕ × Kind)) (line : List ℕ × Kind) : Type 0 where
  shape : is_name line.0 ≡ true
  new : named (of_locks s front) line.0 ≡ None
  room : length (locks_of_lines s.cpus front) + length (locks_of s.cpus line.0 line.1) ≤ MAX_LOCKS

next_lock : (s : Script) → IsScript s → (lines front : List (List ℕ × Kind)) (line : List ℕ × Kind) (back : List (List ℕ × Kind)) → s.locks ≡ locks_of_lines s.cpus lines → lines ≡ front ++ line ∷ back → NextLock s front line
next_lock s h lines front line back whole e =
    let before : List LockLine = locks_of_lines s.cpus front in
    let here : List LockLine = locks_of s.cpus line.0 line.1 in
    let behind : List LockLine = locks_of_lines s.cpus back in
    let start = starts s.cpus line.0 line.1 h.cpus.0 in
    let parts : s.locks ≡ before ++ (here ++ behind) = whole ∙ ap (locks_of_lines s.cpus) e ∙ flat_map-append (λ line. locks_of s.cpus line.0 line.1) front (line ∷ back) in
    let at : s.locks ≡ before ++ start.first ∷ (start.others ++ behind) = parts ∙ ap (λ (xs : List LockLine). before ++ (xs ++ behind)) start.whole in
    let within : length before < length s.locks = rw at (length-middle before start.first (start.others ++ behind)) in
    let fits : IsLockWithin s.cpus start.first = subst (IsLockWithin s.cpus) (the_lock_line s before start.first (start.others ++ behind) at) (lock_fits s (record { 0 = length before }) h within) in
    let new : named (of_locks s front) start.first.name ≡ None = lock_is_new (of_locks s front) s h.names before start.first (start.others ++ behind) at start.cell (uncalled-names s.tasks) refl in
    record {
      shape = subst (λ (name : List ℕ). is_name name ≡ true) start.name_is fits.name;
      new = subst (λ (name : List ℕ). named (of_locks s front) name ≡ None) start.name_is new;
      room = omega (arith, ap length parts, length-append before (here ++ behind), length-append here behind, h.locks);
    }

reads_lock : (s : Script) → IsScript s → (lines : List (List ℕ × Kind)) → s.locks ≡ locks_of_lines s.cpus lines → (front : List (List ℕ × Kind)) (line : List ℕ × Kind) (back : List (List ℕ × Kind)) → lines ≡ front ++ line ∷ back
    → LeadTo (begun (of_locks s front)) (line_text line ∷ []) (begun (of_locks s (front ++ line ∷ [])))
reads_lock s h lines whole front line back e =
    let p : Script = of_locks s front in
    let next : NextLock s front line = next_lock s h lines front line back whole e in
    let made : after_lock_line p (line.0 ∷ lock_kind_word line.1 ∷ []) ≡ Ok (with_locks p (locks_of p.cpus line.0 line.1)) = lock_made p line.0 line.1 next.shape next.new next.room in
    let more : locks_of_lines s.cpus (front ++ line ∷ []) ≡ locks_of_lines s.cpus front ++ locks_of s.cpus line.0 line.1 =
    flat_map-append (λ line. locks_of s.cpus line.0 line.1) front (line ∷ []) ∙ ap (λ (xs : List LockLine). locks_of_lines s.cpus front ++ xs) (append-nil (locks_of s.cpus line.0 line.1)) in
    let same : with_locks p (locks_of p.cpus line.0 line.1) ≡ of_locks s (front ++ line ∷ []) = ap (λ (ls : List LockLine). record { cpus = s.cpus; tasks = map uncalled s.tasks; locks = ls; picks = [] }) (sym more) in
    reads_line (begun p) (of_locks s (front ++ line ∷ [])) (codes "lock") (line.0 ∷ lock_kind_word line.1 ∷ [])
    (record { plain = lock_plain line.0 line.1 next.shape; kept = refl; not_go = refl; not_end = λ rest. refl })
    (made ∙ ap Ok same)

pub reads_locks : (s : Script) → IsScript s → (lines : List (List ℕ × Kind)) → s.locks ≡ locks_of_lines s.cpus lines → LeadTo (begun (of_tasks s s.tasks)) (flat_map (λ line. line_text line ∷ []) lines) (begun (of_locks s lines))
reads_locks s h lines whole = reads_each lines (λ front back. begun (of_locks s front)) (λ line. line_text line ∷ []) (reads_lock s h lines whole)

-- ---- calls

-- the script so far: these tasks, and all locks
abbrev pub of_calls : Script → List TaskLine → Script
of_calls s ts = record { cpus = s.cpus; tasks = ts; locks = s.locks; picks = [] }

-- a task with the calls that are read so far
abbrev so_far : TaskLine → List Call → TaskLine
so_far x done = record x { calls = done }

-- the tasks before one with all their calls, that one with some, and those after it without
abbrev amid : List TaskLine → TaskLine → List Call → List TaskLine → List TaskLine
amid front x done back = front ++ so_far x done ∷ map uncalled back

amid-names : (front : List TaskLine) (x : TaskLine) (done : List Call) (back : List TaskLine) → map name_of (amid front x done back) ≡ map name_of (front ++ x ∷ back)
amid-names [] x done back = ap (λ (names : List (List ℕ)). x.name ∷ names) (uncalled-names back)
amid-names (t ∷ ts) x done back = ap (λ (names : List (List ℕ)). t.name ∷ names) (amid-names ts x done back)

has_all : (s : Script) (front : List TaskLine) (x : TaskLine) (done : List Call) (back : List TaskLine) → s.tasks ≡ front ++ x ∷ back → HasAll (of_calls s (amid front x done back)) s
has_all s front x done back e = record { cpus = refl; names = amid-names front x done back ∙ ap (map name_of) (sym e); locks = refl }

none_uncalled : (ts : List TaskLine) → sum_by (λ (t : TaskLine). length t.calls) (map uncalled ts) ≡ 0
none_uncalled [] = refl
none_uncalled (t ∷ ts) = none_uncalled ts

still_room : (s : Script) → IsScript s → (front : List TaskLine) (x : TaskLine) (back : List TaskLine) → s.tasks ≡ front ++ x ∷ back → (done : List Call) (c : Call) (rest : List Call) → x.calls ≡ done ++ c ∷ rest
    → all_calls (of_calls s (amid front x done back)) < MAX_CALLS
still_room s h front x back e done c rest calls =
    let f : TaskLine → ℕ = λ t. length t.calls in
    let whole : all_calls s ≡ sum_by f (front ++ x ∷ back) = sum-map f s.tasks ∙ ap (sum_by f) e in
    let part : all_calls (of_calls s (amid front x done back)) ≡ sum_by f (amid front x done back) = sum-map f (amid front x done back) in
    let here : sum_by f (x ∷ back) ≡ length x.calls + sum_by f back = sum_by-cons f x back in
    let some : sum_by f (so_far x done ∷ map uncalled back) ≡ length done + sum_by f (map uncalled back) = sum_by-cons f (so_far x done) (map uncalled back) in
    omega (arith, here, some, whole, part, sum_by-append f front (x ∷ back), sum_by-append f front (so_far x done ∷ map uncalled back), none_uncalled back, ap length calls, length-append done (c ∷ rest), h.calls)

call_made : (p : Script) (task : List ℕ) (words : List (List ℕ)) (t : TaskId) (call : Call) → task_named p task ≡ Some t → Says p words call → all_calls p < MAX_CALLS → after_call_line p (task ∷ words) ≡ Ok (with_call p t call)
unfolding after_call_line
call_made p task words t call known says room =
    let within : ltb (all_calls p) MAX_CALLS ≡ true = lt-ltb (all_calls p) MAX_CALLS room in
    rw (says.formed, known, says.gives, within) refl

-- the call goes to the task that is amid
call_added : (s : Script) (front : List TaskLine) (x : TaskLine) (done : List Call) (back : List TaskLine) (c : Call) → with_call (of_calls s (amid front x done back)) (record { 0 = length front }) c ≡ of_calls s (amid front x (done ++ c ∷ []) back)
call_added s front x done back c =
    let line : TaskLine = so_far x done in
    let is : task_line (of_calls s (amid front x done back)) (record { 0 = length front }) ≡ line = the_task_line (of_calls s (amid front x done back)) front line (map uncalled back) refl in
    rw (is, set-append_seam front line (map uncalled back) (so_far x (done ++ c ∷ []))) refl

reads_call : (s : Script) → IsScript s → (front : List TaskLine) (x : TaskLine) (back : List TaskLine) → s.tasks ≡ front ++ x ∷ back → (done : List Call) (c : Call) (rest : List Call) → x.calls ≡ done ++ c ∷ rest
    → LeadTo (begun (of_calls s (amid front x done back))) (call_line_text s x c ∷ []) (begun (of_calls s (amid front x (done ++ c ∷ []) back)))
reads_call s h front x back e done c rest calls =
    let p : Script = of_calls s (amid front x done back) in
    let t : TaskId = record { 0 = length front } in
    let has : HasAll p s = has_all s front x done back e in
    let fits : IsTaskOf s x = middle_task s h front x back e in
    let in' : length front < length s.tasks = rw e (length-middle front x back) in
    let call : IsCallOf s c = middle (IsCallOf s) done c rest (subst (All (IsCallOf s)) calls fits.calls) in
    let says : Says p (call_words s c) c = call_says p s h has c call in
    let known : task_named p (task_line s t).name ≡ Some t = task_is_known p s h.names t in' has.names in
    let named : task_named p x.name ≡ Some t = subst (λ (line : TaskLine). task_named p line.name ≡ Some t) (the_task_line s front x back e) known in
    let made : after_call_line p (x.name ∷ call_words s c) ≡ Ok (with_call p t c) = call_made p x.name (call_words s c) t c named says (still_room s h front x back e done c rest calls) in
    reads_line (begun p) (of_calls s (amid front x (done ++ c ∷ []) back)) (codes "call") (x.name ∷ call_words s c)
    (record { plain = call_plain x.name (call_words s c) fits.name says.plain; kept = refl; not_go = refl; not_end = λ rest. refl })
    (made ∙ ap Ok (call_added s front x done back c))
  where
    middle : {X : Type 0} (P : X → Type 0) (front : List X) (x : X) (back : List X) → All P (front ++ x ∷ back) → P x
    middle P front x back all = subst P (get_or-append_seam front x back x) (all (length front) x (length-middle front x back))

reads_task_calls : (s : Script) → IsScript s → (front : List TaskLine) (x : TaskLine) (back : List TaskLine) → s.tasks ≡ front ++ x ∷ back
    → LeadTo (begun (of_calls s (front ++ map uncalled (x ∷ back)))) (call_line_texts s x) (begun (of_calls s ((front ++ x ∷ []) ++ map uncalled back)))
reads_task_calls s h front x back e =
    let lines : flat_map (λ c. call_line_text s x c ∷ []) x.calls ≡ call_line_texts s x = flat_map_single (call_line_text s x) x.calls in
    let done : amid front x x.calls back ≡ (front ++ x ∷ []) ++ map uncalled back = sym (append_assoc front (x ∷ []) (map uncalled back)) in
    subst (λ (ts : List TaskLine). LeadTo (begun (of_calls s (amid front x [] back))) (call_line_texts s x) (begun (of_calls s ts))) done
    (subst (λ (ls : List (List ℕ)). LeadTo (begun (of_calls s (amid front x [] back))) ls (begun (of_calls s (amid front x x.calls back)))) lines
    (reads_each x.calls (λ done rest. begun (of_calls s (amid front x done back))) (λ c. call_line_text s x c ∷ []) (reads_call s h front x back e)))

pub reads_calls : (s : Script) → IsScript s → LeadTo (begun (of_calls s (map uncalled s.tasks))) (flat_map (call_line_texts s) s.tasks) (begun (of_calls s (s.tasks ++ [])))
reads_calls s h = reads_each s.tasks (λ front back. begun (of_calls s (front ++ map uncalled back))) (call_line_texts s) (reads_task_calls s h)

-- ---- picks

pick_made : (p : Script) (task : List ℕ) (t : TaskId) → task_named p task ≡ Some t → length p.picks < MAX_PICKS → after_pick_line p (task ∷ []) ≡ Ok (with_pick p t)
unfolding after_pick_line
pick_made p task t known room =
    let within : ltb (length p.picks) MAX_PICKS ≡ true = lt-ltb (length p.picks) MAX_PICKS room in
    rw (known, within) refl

-- the script with these picks alone
abbrev pub of_picks : Script → List TaskId → Script
of_picks s picks = record s { picks = picks }

reads_pick : (s : Script) → IsScript s → (front : List TaskId) (t : TaskId) (back : List TaskId) → s.picks ≡ front ++ t ∷ back → LeadTo (begun (of_picks s front)) (pick_line_text s t ∷ []) (begun (of_picks s (front ++ t ∷ [])))
reads_pick s h front t back e =
    let p : Script = of_picks s front in
    let in' : t.0 < length s.tasks = subst (λ (u : TaskId). u.0 < length s.tasks) (get_or-append_seam front t back t) (subst (All (λ (u : TaskId). u.0 < length s.tasks)) e h.each_pick (length front) t (length-middle front t back)) in
    let known : task_named p (task_line s t).name ≡ Some t = task_is_known p s h.names t in' refl in
    let room : length front < MAX_PICKS = omega (arith, length-middle front t back, ap length e, h.picks) in
    reads_line (begun p) (of_picks s (front ++ t ∷ [])) (codes "pick") ((task_line s t).name ∷ [])
    (record { plain = pick_plain (task_line s t).name (task_fits s t h in').name; kept = refl; not_go = refl; not_end = λ rest. refl })
    (pick_made p (task_line s t).name t known room)

pub reads_picks : (s : Script) → IsScript s → LeadTo (begun (of_picks s [])) (flat_map (λ t. pick_line_text s t ∷ []) s.picks) (begun (of_picks s s.picks))
reads_picks s h = reads_each s.picks (λ front back. begun (of_picks s front)) (λ t. pick_line_text s t ∷ []) (reads_pick s h)
