-- The operands of a well formed entry are read as what they say.
use Rattle.std.proofs.Common.{◌≡◌, ℕ, zero, suc, ◌≤◌, false, List, [], ◌∷◌, ◌++◌, length, Option, Some, None, All, IfSome, refl, arith}
use Rattle.std.specs.Prelude.{codes, decimal, flat_map, bytes_eq, IsSomeAnd}
use Rattle.std.proofs.lemmas.List.Elements.{All-head, All-tail}
use Rattle.rt_base.specs.Script.{Script, IsScript}
use Rattle.rt_base.specs.declared.id.LockId.{LockId}
use Rattle.rt_base.specs.declared.id.TaskId.{TaskId}
use Rattle.rt_model.specs.declared.event_kind.EventKind.{EventKind}
use Rattle.rt_model.specs.declared.event_kind.EventKind.TheVariants as kinds
use Rattle.rt_events.specs.declared.entry.Entry.{Entry}
use Rattle.rt_model.specs.Path.{first_lock}
use Rattle.rt_events.specs.Words.{task_word, kind_word, task_or_dash}
use Rattle.rt_events.specs.Line.{lock_words, task_words, wakes_words, reader_words, link_words, operands}
use Rattle.rt_events.specs.WellFormed.{IsTaskIn, IsLockIn, IsLinkIn, HasLock, HasOther, HasWoken, HasValue, HasPath}
use Rattle.rt_events.specs.reading.Operands.{number_alone, at_end, first, wakes_in, reader_in, links_in, some_links, operands_in}
use Rattle.rt_events.specs.reading.Spelling.{HasKindValue, task_or_dash_in, lock_in}
use Rattle.rt_script.specs.Names.{task_named}
use Rattle.rt_script.specs.Words.{◌>>=◌}
use Rattle.rt_events.proofs.lines.NameWords.{task_read, lock_read}
use Rattle.rt_events.proofs.lines.Numerals.{number_read}
use Rattle.rt_events.proofs.lines.Spelled.{state_read}

-- the number that the word of a kind tells, of an entry that carries value
abbrev pub kind_value : EventKind → ℕ → ℕ
kind_value kinds.Wake value = value
kind_value _ value = 0

pub kind_value_has : (kind : EventKind) (value : ℕ) → HasValue kind value → HasKindValue kind (kind_value kind value)
kind_value_has kinds.Wake value v = v
kind_value_has _ value v = refl

pub kind_value_word : (kind : EventKind) (value : ℕ) → kind_word kind value ≡ kind_word kind (kind_value kind value)
kind_value_word kinds.Wake value = refl
kind_value_word _ value = refl

module _ (script : Script) (is : IsScript script) where
  woken_read : (o : Option TaskId) → IfSome o (IsTaskIn script) → ((t : TaskId) → IsTaskIn script t → bytes_eq (task_word script t) (codes "-") ≡ false) → task_or_dash_in script (task_or_dash script o) ≡ Some o
  woken_read None fits undashed = refl
  woken_read (Some t) fits undashed = rw (undashed t fits, task_read script is t fits) refl

  wakes_read : (o : Option TaskId) → IfSome o (IsTaskIn script) → wakes_in script (wakes_words script o) ≡ Some o
  wakes_read None fits = refl
  wakes_read (Some t) fits = rw (task_read script is t fits) refl

  reader_read : (v : ℕ) → v ≤ 1 → reader_in (reader_words v) ≡ Some v
  reader_read zero le = refl
  reader_read (suc zero) le = refl
  reader_read (suc (suc v)) le = absurd (omega arith)

  links_read : (most : ℕ) (links : List (ℕ × ℕ)) → length links ≤ most → All (IsLinkIn script) links → links_in script most (flat_map (link_words script) links) ≡ Some links
  links_read most [] le all = refl
  links_read zero (link ∷ links) le all = absurd (omega arith)
  links_read (suc most) (link ∷ links) le all =
      let fits = All-head (IsLinkIn script) link links all in
      rw (task_read script is (record { 0 = link.0 }) fits.0, lock_read script is (record { 0 = link.1 }) fits.1, links_read most links (omega arith) (All-tail (IsLinkIn script) link links all)) refl

  path_read : (path : List (ℕ × ℕ)) → 1 ≤ length path → some_links path ≡ Some (record (number_alone 0) { lock = first_lock path; path = path })
  path_read [] le = absurd (omega arith)
  path_read (link ∷ links) le = refl

  abbrev IsRead : EventKind → Option LockId → Option TaskId → Option TaskId → ℕ → List (ℕ × ℕ) → List (List ℕ) → Type 0
  IsRead kind lock other woken value path ws = operands_in kind script (kind_value kind value) ws ≡ Some (record { lock = lock; other = other; woken = woken; value = value; path = path })

  one_lock : (lock : Option LockId) (other woken : Option TaskId) (value : ℕ) (path : List (ℕ × ℕ)) → IsSomeAnd lock (IsLockIn script) → other ≡ None → woken ≡ None → value ≡ 0 → path ≡ []
      → first (lock_in script) (λ l. at_end (record (number_alone 0) { lock = Some l })) (lock_words script lock) ≡ Some (record { lock = lock; other = other; woken = woken; value = value; path = path })
  one_lock None other woken value path l o w v p = absurd l
  one_lock (Some l) other woken value path fits o w v p = rw (lock_read script is l fits, o, w, v, p) refl

  walk : (lock : Option LockId) (other woken : Option TaskId) (value : ℕ) (path : List (ℕ × ℕ)) → IsSomeAnd lock (IsLockIn script) → IsSomeAnd other (IsTaskIn script) → IfSome woken (IsTaskIn script) → value ≡ 0 → path ≡ []
      → IsRead kinds.Walk lock other woken value path (task_words script other ++ lock_words script lock ++ wakes_words script woken)
  walk (Some l) (Some t) woken value path l-fits t-fits w-fits v p = rw (task_read script is t t-fits, lock_read script is l l-fits, wakes_read woken w-fits, v, p) refl
  walk None other woken value path l o w v p = absurd l
  walk (Some l) None woken value path l-fits o w v p = absurd o

  restart : (lock : Option LockId) (other woken : Option TaskId) (value : ℕ) (path : List (ℕ × ℕ)) → IsSomeAnd lock (IsLockIn script) → IsSomeAnd other (IsTaskIn script) → woken ≡ None → value ≡ 0 → path ≡ []
      → IsRead kinds.Restart lock other woken value path (task_words script other ++ lock_words script lock)
  restart (Some l) (Some t) woken value path l-fits t-fits w v p = rw (task_read script is t t-fits, lock_read script is l l-fits, w, v, p) refl
  restart None other woken value path l o w v p = absurd l
  restart (Some l) None woken value path l-fits o w v p = absurd o

  one_task : (lock : Option LockId) (other woken : Option TaskId) (value : ℕ) (path : List (ℕ × ℕ)) → lock ≡ None → IsSomeAnd other (IsTaskIn script) → woken ≡ None → path ≡ []
      → first (task_named script) (λ t. at_end (record (number_alone value) { other = Some t })) (task_words script other) ≡ Some (record { lock = lock; other = other; woken = woken; value = value; path = path })
  one_task lock None woken value path l o w p = absurd o
  one_task lock (Some t) woken value path l fits w p = rw (task_read script is t fits, l, w, p) refl

  prio : (lock : Option LockId) (other woken : Option TaskId) (value : ℕ) (path : List (ℕ × ℕ)) → lock ≡ None → IsSomeAnd other (IsTaskIn script) → woken ≡ None → value ≤ 139 → path ≡ []
      → IsRead kinds.SetPrio lock other woken value path (task_words script other ++ decimal value ∷ [])
  prio lock None woken value path l o w v p = absurd o
  prio lock (Some t) woken value path l fits w v p = rw (task_read script is t fits, number_read 139 value v (omega arith), l, w, p) refl

  handed : (undashed : (t : TaskId) → IsTaskIn script t → bytes_eq (task_word script t) (codes "-") ≡ false) (lock : Option LockId) (other woken : Option TaskId) (value : ℕ) (path : List (ℕ × ℕ))
      → IsSomeAnd lock (IsLockIn script) → other ≡ None → IfSome woken (IsTaskIn script) → value ≡ 0 → path ≡ []
      → first (lock_in script) (λ l. first (task_or_dash_in script) (λ woken. at_end (record (number_alone 0) { lock = Some l; woken = woken }))) (lock_words script lock ++ task_or_dash script woken ∷ [])
      ≡ Some (record { lock = lock; other = other; woken = woken; value = value; path = path })
  handed undashed None other woken value path l o w v p = absurd l
  handed undashed (Some l) other woken value path fits o w v p = rw (lock_read script is l fits, woken_read woken w undashed, o, v, p) refl

  maybe_reader : (lock : Option LockId) (other woken : Option TaskId) (value : ℕ) (path : List (ℕ × ℕ)) → IsSomeAnd lock (IsLockIn script) → other ≡ None → woken ≡ None → value ≤ 1 → path ≡ []
      → first (lock_in script) (λ l rest. reader_in rest >>= λ reader. Some (record (number_alone reader) { lock = Some l })) (lock_words script lock ++ reader_words value) ≡ Some (record { lock = lock; other = other; woken = woken; value = value; path = path })
  maybe_reader None other woken value path l o w v p = absurd l
  maybe_reader (Some l) other woken value path fits o w v p = rw (lock_read script is l fits, reader_read value v, o, w, p) refl

  maybe_lock : (lock : Option LockId) (other woken : Option TaskId) (value : ℕ) (path : List (ℕ × ℕ)) → IfSome lock (IsLockIn script) → other ≡ None → woken ≡ None → value ≡ 0 → path ≡ []
      → IsRead kinds.Own lock other woken value path (lock_words script lock)
  maybe_lock None other woken value path l o w v p = rw (o, w, v, p) refl
  maybe_lock (Some l) other woken value path fits o w v p = rw (lock_read script is l fits, o, w, v, p) refl

  pub reads : (undashed : (t : TaskId) → IsTaskIn script t → bytes_eq (task_word script t) (codes "-") ≡ false) (kind : EventKind) (n : Entry) → HasLock kind script n → HasOther kind script n → HasWoken kind script n → HasValue kind n.value → HasPath kind script n.path
      → IsRead kind n.lock n.other n.woken n.value n.path (operands script kind n)
  reads undashed kinds.Walk n l o w v p = walk n.lock n.other n.woken n.value n.path l o w v p
  reads undashed kinds.WalkEnd n l o w v p = rw v (one_task n.lock n.other n.woken 0 n.path l o w p)
  reads undashed kinds.Restart n l o w v p = restart n.lock n.other n.woken n.value n.path l o w v p
  reads undashed kinds.Cycle n l o w v p = rw (links_read 64 n.path p.1 p.2, path_read n.path p.0, l, o, w, v) refl
  reads undashed kinds.Give n l o w v p = handed undashed n.lock n.other n.woken n.value n.path l o w v p
  reads undashed kinds.WWake n l o w v p = handed undashed n.lock n.other n.woken n.value n.path l o w v p
  reads undashed kinds.Busy n l o w v p = maybe_reader n.lock n.other n.woken n.value n.path l o w v p
  reads undashed kinds.WOpen n l o w v p = maybe_reader n.lock n.other n.woken n.value n.path l o w v p
  reads undashed kinds.State n l o w v p = rw (state_read n.value v, l, o, w, p) refl
  reads undashed kinds.Sched n l o w v p = rw (l, o, w, v, p) refl
  reads undashed kinds.Wake n l o w v p = one_task n.lock n.other n.woken n.value n.path l o w p
  reads undashed kinds.SetPrio n l o w v p = prio n.lock n.other n.woken n.value n.path l o w v p
  reads undashed kinds.Own n l o w v p = maybe_lock n.lock n.other n.woken n.value n.path l o w v p
  reads undashed _ n l o w v p = one_lock n.lock n.other n.woken n.value n.path l o w v p
