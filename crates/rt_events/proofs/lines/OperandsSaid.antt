-- What a kind's operands say, and that they are read as what they say.
use Rattle.std.proofs.Common.{◌≡◌, ℕ, zero, suc, ◌≤◌, List, [], ◌∷◌, length, Option, Some, None, All, IfSome, refl, sym, ap, subst, ◌∙◌, arith}
use Rattle.std.specs.Prelude.{codes, decimal, flat_map, bytes_eq}
use Rattle.std.proofs.lemmas.List.Elements.{All-nil, All-cons}
use Rattle.rt_base.specs.Script.{Script, IsScript}
use Rattle.rt_base.specs.declared.id.LockId.{LockId}
use Rattle.rt_base.specs.declared.id.TaskId.{TaskId}
use Rattle.rt_base.specs.declared.reply.Reply.{Reply}
use Rattle.rt_model.specs.declared.event_kind.EventKind.{EventKind}
use Rattle.rt_model.specs.declared.event_kind.EventKind.TheVariants as kinds
use Rattle.rt_events.specs.declared.entry.Entry.{Entry}
use Rattle.rt_model.specs.steps.Task.{state_numbered}
use Rattle.rt_events.specs.Words.{task_word, lock_word, kind_word, task_or_dash, state_word}
use Rattle.rt_events.specs.Line.{lock_words, wakes_words, reader_words, link_words, operands}
use Rattle.rt_events.specs.WellFormed.{IsTaskIn, IsLockIn, IsLinkIn, HasLock, HasOther, HasWoken, HasValue, HasPath}
use Rattle.rt_events.specs.declared.reading.operands.Operands.{Operands}
use Rattle.rt_events.specs.reading.EntryIn.{entry_told}
use Rattle.rt_events.specs.reading.Operands.{at_end, first, wakes_in, reader_in, lock_or_none_in, links_in, some_links, operands_in}
use Rattle.rt_events.specs.reading.Spelling.{HasKindValue, task_or_dash_in, lock_in, state_in}
use Rattle.rt_script.specs.Names.{task_named}
use Rattle.rt_script.specs.Words.{number_upto}
use Rattle.rt_events.proofs.lines.Chains.{after, passed, is_word_read, some_is, ended, firsts}
use Rattle.rt_events.proofs.lines.NameWords.{tasks_said, locks_said}
use Rattle.rt_events.proofs.lines.Numerals.{numbers_said}
use Rattle.rt_events.proofs.lines.Spelled.{states_said, woken_said}

-- ---- what was read says what its words are

-- the operands of an entry with these fields are these words, and the fields are those of the kind
pub record AreSaid (n : Operands → Entry) (script : Script) (kind : EventKind) (value : ℕ) (o : Operands) (ws : List (List ℕ)) : Type 0 where
  pub words : operands script kind (n o) ≡ ws
  pub kind_is : kind_word kind o.value ≡ kind_word kind value
  pub lock : HasLock kind script (n o)
  pub other : HasOther kind script (n o)
  pub woken : HasWoken kind script (n o)
  pub value_is : HasValue kind o.value
  pub path : HasPath kind script o.path

wakes_said : (script : Script) (ws : List (List ℕ)) (o : Option TaskId) → wakes_in script ws ≡ Some o → (wakes_words script o ≡ ws) × IfSome o (IsTaskIn script)
wakes_said script [] o e = subst (λ (o : Option TaskId). (wakes_words script o ≡ []) × IfSome o (IsTaskIn script)) (some_is None o e) (refl, tt)
wakes_said script (w ∷ ws) o e =
    let p = passed (bytes_eq w (codes "wakes")) _ o e in
    let t = firsts (task_named script) (task_word script) (IsTaskIn script) _ (tasks_said script) ws o p.1 in
    let end = ended (Some t.0) o t.1 t.4 in
    let words : codes "wakes" ∷ task_word script t.0 ∷ [] ≡ w ∷ ws = λ i. sym (is_word_read w (codes "wakes") p.0) i ∷ (ap (λ more. task_word script t.0 ∷ more) (sym end.0) ∙ t.3) i in
    subst (λ (o : Option TaskId). (wakes_words script o ≡ w ∷ ws) × IfSome o (IsTaskIn script)) end.1 (words, t.2)

reader_said : (ws : List (List ℕ)) (v : ℕ) → reader_in ws ≡ Some v → (reader_words v ≡ ws) × (v ≤ 1)
reader_said [] v e = subst (λ v. (reader_words v ≡ []) × (v ≤ 1)) (some_is 0 v e) (refl, omega arith)
reader_said (w ∷ ws) v e =
    let p = passed (bytes_eq w (codes "reader")) _ v e in
    let end = ended 1 v ws p.1 in
    subst (λ v. (reader_words v ≡ w ∷ ws) × (v ≤ 1)) end.1 ((λ i. sym (is_word_read w (codes "reader") p.0) i ∷ sym end.0 i), omega arith)

lock_or_none_said : (script : Script) → IsScript script → (ws : List (List ℕ)) (o : Option LockId) → lock_or_none_in script ws ≡ Some o → (lock_words script o ≡ ws) × IfSome o (IsLockIn script)
lock_or_none_said script is [] o e = subst (λ (o : Option LockId). (lock_words script o ≡ []) × IfSome o (IsLockIn script)) (some_is None o e) (refl, tt)
lock_or_none_said script is (w ∷ ws) o e =
    let l = firsts (lock_in script) (lock_word script) (IsLockIn script) (λ l. at_end (Some l)) (locks_said script is) (w ∷ ws) o e in
    let end = ended (Some l.0) o l.1 l.4 in
    subst (λ (o : Option LockId). (lock_words script o ≡ w ∷ ws) × IfSome o (IsLockIn script)) end.1 (ap (λ more. lock_word script l.0 ∷ more) (sym end.0) ∙ l.3, l.2)

abbrev IsPathTold : Script → ℕ → List (List ℕ) → List (ℕ × ℕ) → Type 0
IsPathTold script most ws links = (flat_map (link_words script) links ≡ ws) × (length links ≤ most) × All (IsLinkIn script) links

links_said : (script : Script) → IsScript script → (most : ℕ) (ws : List (List ℕ)) (links : List (ℕ × ℕ)) → links_in script most ws ≡ Some links → IsPathTold script most ws links
links_said script is most [] links e = subst (IsPathTold script most []) (some_is [] links e) (refl, omega arith, All-nil (IsLinkIn script))
links_said script is most (t ∷ []) links e = absurd cc
links_said script is zero (t ∷ l ∷ ws) links e = absurd cc
links_said script is (suc most) (t ∷ l ∷ ws) links e =
    let task = after (task_named script t) _ links e in
    let lock = after (lock_in script l) _ links task.2 in
    let more = after (links_in script most ws) _ links lock.2 in
    let t-is = tasks_said script t task.0 task.1 in
    let l-is = locks_said script is l lock.0 lock.1 in
    let ih = links_said script is most ws more.0 more.1 in
    let link : ℕ × ℕ = (task.0.0, lock.0.0) in
    subst (IsPathTold script (suc most) (t ∷ l ∷ ws)) (some_is (link ∷ more.0) links more.2)
    ((λ i. t-is.0 i ∷ l-is.0 i ∷ ih.0 i), omega (arith, ih.1), All-cons (IsLinkIn script) link more.0 (t-is.1, l-is.1) ih.2)

-- an entry of given fields and told ones
abbrev pub filled_in : ℕ → TaskId → EventKind → Option (TaskId × ℕ) → Option Reply → Operands → Entry
filled_in number task kind boost reply o = entry_told number task kind o boost reply

module _ (script : Script) (is : IsScript script) (number : ℕ) (task : TaskId) (boost : Option (TaskId × ℕ)) (reply : Option Reply) where
  abbrev Says : EventKind → ℕ → List (List ℕ) → Operands → Type 0
  Says kind value ws o = AreSaid (filled_in number task kind boost reply) script kind value o ws

  path_said : (value : ℕ) (ws : List (List ℕ)) (links : List (ℕ × ℕ)) → IsPathTold script 64 ws links → value ≡ 0 → (o : Operands) → some_links links ≡ Some o → Says kinds.Cycle value ws o
  path_said value ws [] fits v o e = absurd cc
  path_said value ws (link ∷ links) fits v o e =
      subst (Says kinds.Cycle value ws) (some_is _ o e) (record { words = fits.0; kind_is = refl; lock = refl; other = refl; woken = refl; value_is = refl; path = (omega arith, fits.1, fits.2) })

  task_first : {B : Type 0} (rest : TaskId → List (List ℕ) → Option B) (ws : List (List ℕ)) (b : B) → first (task_named script) rest ws ≡ Some b
      → (a : TaskId) × (more : List (List ℕ)) × IsTaskIn script a × (task_word script a ∷ more ≡ ws) × (rest a more ≡ Some b)
  task_first rest ws b e = firsts (task_named script) (task_word script) (IsTaskIn script) rest (tasks_said script) ws b e

  lock_first : {B : Type 0} (rest : LockId → List (List ℕ) → Option B) (ws : List (List ℕ)) (b : B) → first (lock_in script) rest ws ≡ Some b
      → (a : LockId) × (more : List (List ℕ)) × IsLockIn script a × (lock_word script a ∷ more ≡ ws) × (rest a more ≡ Some b)
  lock_first rest ws b e = firsts (lock_in script) (lock_word script) (IsLockIn script) rest (locks_said script is) ws b e

  -- what a kind's operands were read as says what they are
  pub says : (kind : EventKind) (value : ℕ) → HasKindValue kind value → (ws : List (List ℕ)) (o : Operands) → operands_in kind script value ws ≡ Some o → Says kind value ws o
  says kinds.Walk value v ws o e =
      let t = task_first _ ws o e in
      let l = lock_first _ t.1 o t.4 in
      let w = after (wakes_in script l.1) _ o l.4 in
      let woken = wakes_said script l.1 w.0 w.1 in
      subst (Says kinds.Walk value ws) (some_is _ o w.2)
      (record { words = ap (λ more. task_word script t.0 ∷ more) (ap (λ more. lock_word script l.0 ∷ more) woken.0 ∙ l.3) ∙ t.3; kind_is = refl; lock = l.2; other = t.2; woken = woken.1; value_is = v; path = refl })
  says kinds.WalkEnd value v ws o e =
      let t = task_first _ ws o e in
      let end = ended _ o t.1 t.4 in
      subst (Says kinds.WalkEnd value ws) end.1 (record { words = ap (λ more. task_word script t.0 ∷ more) (sym end.0) ∙ t.3; kind_is = refl; lock = refl; other = t.2; woken = refl; value_is = v; path = refl })
  says kinds.Restart value v ws o e =
      let t = task_first _ ws o e in
      let l = lock_first _ t.1 o t.4 in
      let end = ended _ o l.1 l.4 in
      subst (Says kinds.Restart value ws) end.1
      (record { words = ap (λ more. task_word script t.0 ∷ more) (ap (λ more. lock_word script l.0 ∷ more) (sym end.0) ∙ l.3) ∙ t.3; kind_is = refl; lock = l.2; other = t.2; woken = refl; value_is = v; path = refl })
  says kinds.Cycle value v ws o e =
      let p = after (links_in script 64 ws) some_links o e in
      path_said value ws p.0 (links_said script is 64 ws p.0 p.1) v o p.2
  says kinds.Give value v ws o e =
      let l = lock_first _ ws o e in
      let w = firsts (task_or_dash_in script) (task_or_dash script) (λ (o : Option TaskId). IfSome o (IsTaskIn script)) _ (woken_said script) l.1 o l.4 in
      let end = ended _ o w.1 w.4 in
      subst (Says kinds.Give value ws) end.1
      (record { words = ap (λ more. lock_word script l.0 ∷ more) (ap (λ more. task_or_dash script w.0 ∷ more) (sym end.0) ∙ w.3) ∙ l.3; kind_is = refl; lock = l.2; other = refl; woken = w.2; value_is = v; path = refl })
  says kinds.WWake value v ws o e =
      let l = lock_first _ ws o e in
      let w = firsts (task_or_dash_in script) (task_or_dash script) (λ (o : Option TaskId). IfSome o (IsTaskIn script)) _ (woken_said script) l.1 o l.4 in
      let end = ended _ o w.1 w.4 in
      subst (Says kinds.WWake value ws) end.1
      (record { words = ap (λ more. lock_word script l.0 ∷ more) (ap (λ more. task_or_dash script w.0 ∷ more) (sym end.0) ∙ w.3) ∙ l.3; kind_is = refl; lock = l.2; other = refl; woken = w.2; value_is = v; path = refl })
  says kinds.Busy value v ws o e =
      let l = lock_first _ ws o e in
      let r = after (reader_in l.1) _ o l.4 in
      let reader = reader_said l.1 r.0 r.1 in
      subst (Says kinds.Busy value ws) (some_is _ o r.2) (record { words = ap (λ more. lock_word script l.0 ∷ more) reader.0 ∙ l.3; kind_is = refl; lock = l.2; other = refl; woken = refl; value_is = reader.1; path = refl })
  says kinds.WOpen value v ws o e =
      let l = lock_first _ ws o e in
      let r = after (reader_in l.1) _ o l.4 in
      let reader = reader_said l.1 r.0 r.1 in
      subst (Says kinds.WOpen value ws) (some_is _ o r.2) (record { words = ap (λ more. lock_word script l.0 ∷ more) reader.0 ∙ l.3; kind_is = refl; lock = l.2; other = refl; woken = refl; value_is = reader.1; path = refl })
  says kinds.State value v ws o e =
      let s = firsts state_in (λ v. state_word (state_numbered v)) (λ v. v ≤ 2) _ states_said ws o e in
      let end = ended _ o s.1 s.4 in
      subst (Says kinds.State value ws) end.1 (record { words = ap (λ more. state_word (state_numbered s.0) ∷ more) (sym end.0) ∙ s.3; kind_is = refl; lock = refl; other = refl; woken = refl; value_is = s.2; path = refl })
  says kinds.Sched value v ws o e =
      let end = ended _ o ws e in
      subst (Says kinds.Sched value ws) end.1 (record { words = sym end.0; kind_is = refl; lock = refl; other = refl; woken = refl; value_is = v; path = refl })
  says kinds.Wake value v ws o e =
      let t = task_first _ ws o e in
      let end = ended _ o t.1 t.4 in
      subst (Says kinds.Wake value ws) end.1 (record { words = ap (λ more. task_word script t.0 ∷ more) (sym end.0) ∙ t.3; kind_is = refl; lock = refl; other = t.2; woken = refl; value_is = v; path = refl })
  says kinds.SetPrio value v ws o e =
      let t = task_first _ ws o e in
      let p = firsts (number_upto 139) decimal (λ n. n ≤ 139) _ (numbers_said 139) t.1 o t.4 in
      let end = ended _ o p.1 p.4 in
      subst (Says kinds.SetPrio value ws) end.1
      (record { words = ap (λ more. task_word script t.0 ∷ more) (ap (λ more. decimal p.0 ∷ more) (sym end.0) ∙ p.3) ∙ t.3; kind_is = refl; lock = refl; other = t.2; woken = refl; value_is = p.2; path = refl })
  says kinds.Own value v ws o e =
      let l = after (lock_or_none_in script ws) _ o e in
      let lock = lock_or_none_said script is ws l.0 l.1 in
      subst (Says kinds.Own value ws) (some_is _ o l.2) (record { words = lock.0; kind_is = refl; lock = lock.1; other = refl; woken = refl; value_is = v; path = refl })
  says _ value v ws o e =
      let l = lock_first _ ws o e in
      let end = ended _ o l.1 l.4 in
      subst (Says _ value ws) end.1 (record { words = ap (λ more. lock_word script l.0 ∷ more) (sym end.0) ∙ l.3; kind_is = refl; lock = l.2; other = refl; woken = refl; value_is = v; path = refl })
