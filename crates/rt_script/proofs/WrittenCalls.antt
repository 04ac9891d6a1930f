-- The words of a call are read as that call.
use Rattle.std.proofs.Common.{◌≡◌, ◌≢◌, ℕ, ◌<◌, ◌≤◌, true, List, [], ◌∷◌, ◌++◌, length, map, ltb, leb, Option, Some, Ok, refl, sym, ◌∙◌, arith}
use Rattle.std.specs.Prelude.{codes, decimal}
use Rattle.std.specs.List.{list_all}
use Rattle.std.proofs.lemmas.Bool.{lt-ltb}
use Rattle.rt_base.specs.Text.{state_word}
use Rattle.rt_base.specs.declared.call.Call.{Call}
use Rattle.rt_base.specs.declared.call.Call.TheVariants as calls
use Rattle.rt_base.specs.declared.id.Cpu.{Cpu}
use Rattle.rt_base.specs.declared.id.TaskId.{TaskId}
use Rattle.rt_base.specs.declared.id.LockId.{LockId}
use Rattle.rt_base.specs.declared.kind.Kind.{Kind}
use Rattle.rt_base.specs.declared.kind.Kind.TheVariants as kinds
use Rattle.rt_base.specs.declared.state.TaskState.{TaskState}
use Rattle.rt_base.specs.declared.state.TaskState.TheVariants as states
use Rattle.rt_base.specs.Script.{Script, task_line, lock_line, is_first_cell, IsScript, IsCellOf, IsLockOf, IsMutex, IsSpin, IsReaderLock, IsLocal, HasReaders, IsCallOf}
use Rattle.rt_script.specs.declared.call_form.CallForm.{CallForm}
use Rattle.rt_script.specs.declared.call_form.CallForm.TheVariants as forms
use Rattle.rt_script.specs.declared.verb.Verb.TheVariants as verbs
use Rattle.rt_script.specs.declared.verb.LockVerb.{LockVerb}
use Rattle.rt_script.specs.declared.verb.LockVerb.TheVariants as on
use Rattle.rt_script.specs.Canonical.{lock_call_words, task_call_words, call_words}
use Rattle.rt_script.specs.Calls.{call_form, reading_call, call_on, call_in}
use Rattle.rt_script.specs.Spelling.{cpu_spelled, verb_spelled}
use Rattle.rt_base.specs.declared.limits.TheConstants.{MAX_CPU, MAX_CPUS, MAX_PRIO}
use Rattle.rt_script.specs.Names.{task_named, lock_named}
use Rattle.rt_script.specs.Words.{number_upto}
use Rattle.rt_script.proofs.ScriptParts.{task_fits, lock_fits, IsLockOf-to}
use Rattle.rt_script.proofs.Tests.{both}
use Rattle.rt_script.proofs.WrittenWords.{is_word, word_of_name, word_of_number, number_read}
use Rattle.rt_script.proofs.WrittenNames.{name_of, task_is_known, lock_is_known}

-- ---- what is known of a script that is written

-- all tasks, by their names, and all locks are read
pub record HasAll (p s : Script) : Type 0 where
  pub cpus : p.cpus ≡ s.cpus
  pub names : map name_of p.tasks ≡ map name_of s.tasks
  pub locks : p.locks ≡ s.locks

-- ---- what the words of a call say

pub record Says (p : Script) (words : List (List ℕ)) (call : Call) : Type 0 where
  pub plain : list_all is_word words ≡ true
  pub few : leb (length words) 4 ≡ true
  pub form : CallForm (List ℕ)
  pub formed : call_form words ≡ Some form
  pub gives : call_in p form ≡ Ok call

-- a call on a lock: its word, and what the lock's kind makes of it
record IsVerb (word : List ℕ) (verb : LockVerb) : Type 0 where
  plain : is_word word ≡ true
  spelled : verb_spelled word ≡ Some (verbs.OnLock verb)

lock_says : (p s : Script) → IsScript s → HasAll p s → (l : LockId) (word : List ℕ) (verb : LockVerb) (call : Call) → IsVerb word verb → l.0 < length s.locks → is_first_cell (lock_line s l).cell ≡ true
    → call_on (lock_line s l).kind verb l ≡ Some call → Says p (lock_call_words s word l) call
lock_says p s h has l word verb call v within first fits =
    let known : lock_named p (lock_line s l).name ≡ Some l = lock_is_known p s h.names l within first has.names has.locks in
    let same : lock_line p l ≡ lock_line s l = rw has.locks refl in
    let gives : call_on (lock_line p l).kind verb l ≡ Some call = rw same fits in
    record {
      plain = both _ _ v.plain (both _ _ (word_of_name (lock_line s l).name (lock_fits s l h within).name) refl);
      few = refl;
      form = forms.OnLock verb (lock_line s l).name;
      formed = rw v.spelled refl;
      gives = rw (known, gives) refl;
    }

-- a lock that has no cells is named by itself
not_local : (cpus : ℕ) (kind : Kind) (cell : Option Cpu) → IsCellOf cpus kind cell → kind ≢ kinds.Local → is_first_cell cell ≡ true
not_local cpus kinds.Mutex cell h other = rw h refl
not_local cpus kinds.Spin cell h other = rw h refl
not_local cpus kinds.RwLock cell h other = rw h refl
not_local cpus kinds.RwSem cell h other = rw h refl
not_local cpus kinds.Local cell h other = absurd (other refl)

-- a call on a lock of one kind that has no cells
kind_says : (p s : Script) → IsScript s → HasAll p s → (l : LockId) (word : List ℕ) (verb : LockVerb) (call : Call) (kind : Kind) → kind ≢ kinds.Local → IsVerb word verb → call_on kind verb l ≡ Some call
    → IsLockOf s (λ line. line.kind ≡ kind) l → Says p (lock_call_words s word l) call
kind_says p s h has l word verb call kind other v fits there =
    let at = IsLockOf-to s.locks l.0 (λ line. line.kind ≡ kind) there in
    let is : (lock_line s l).kind ≡ kind = at.1 in
    let first : is_first_cell (lock_line s l).cell ≡ true = not_local s.cpus (lock_line s l).kind (lock_line s l).cell (lock_fits s l h at.0).cell (λ e. other (sym is ∙ e)) in
    lock_says p s h has l word verb call v at.0 first (rw is fits)

mutex_says : (p s : Script) → IsScript s → HasAll p s → (l : LockId) (word : List ℕ) (verb : LockVerb) (call : Call) → IsVerb word verb → call_on kinds.Mutex verb l ≡ Some call → IsLockOf s IsMutex l → Says p (lock_call_words s word l) call
mutex_says p s h has l word verb call v fits there = kind_says p s h has l word verb call kinds.Mutex (λ e. absurd cc) v fits there

spin_says : (p s : Script) → IsScript s → HasAll p s → (l : LockId) (word : List ℕ) (verb : LockVerb) (call : Call) → IsVerb word verb → call_on kinds.Spin verb l ≡ Some call → IsLockOf s IsSpin l → Says p (lock_call_words s word l) call
spin_says p s h has l word verb call v fits there = kind_says p s h has l word verb call kinds.Spin (λ e. absurd cc) v fits there

with_readers : (kind : Kind) (verb : LockVerb) (l : LockId) (call : Call) → HasReaders kind → reading_call verb l ≡ Some call → (kind ≢ kinds.Local) × (call_on kind verb l ≡ Some call)
with_readers kinds.RwLock verb l call h e = (λ k. absurd cc, e)
with_readers kinds.RwSem verb l call h e = (λ k. absurd cc, e)
with_readers kinds.Mutex verb l call h e = absurd h
with_readers kinds.Spin verb l call h e = absurd h
with_readers kinds.Local verb l call h e = absurd h

reader_says : (p s : Script) → IsScript s → HasAll p s → (l : LockId) (word : List ℕ) (verb : LockVerb) (call : Call) → IsVerb word verb → reading_call verb l ≡ Some call → IsLockOf s IsReaderLock l → Says p (lock_call_words s word l) call
reader_says p s h has l word verb call v fits there =
    let at = IsLockOf-to s.locks l.0 IsReaderLock there in
    let kind = with_readers (lock_line s l).kind verb l call at.1 fits in
    lock_says p s h has l word verb call v at.0 (not_local s.cpus (lock_line s l).kind (lock_line s l).cell (lock_fits s l h at.0).cell kind.0) kind.1

local_says : (p s : Script) → IsScript s → HasAll p s → (l : LockId) (word : List ℕ) (verb : LockVerb) (call : Call) → IsVerb word verb → call_on kinds.Local verb l ≡ Some call → IsLockOf s IsLocal l → Says p (lock_call_words s word l) call
local_says p s h has l word verb call v fits there =
    let at = IsLockOf-to s.locks l.0 IsLocal there in
    lock_says p s h has l word verb call v at.0 (rw at.1.1 refl) (rw at.1.0 fits)

-- ---- other calls

state_says : (p : Script) (state : TaskState) → state ≢ states.LockWait → Says p (codes "state" ∷ state_word state ∷ []) (calls.State state)
state_says p states.Running h = record { plain = refl; few = refl; form = forms.State states.Running; formed = refl; gives = refl }
state_says p states.Interruptible h = record { plain = refl; few = refl; form = forms.State states.Interruptible; formed = refl; gives = refl }
state_says p states.Uninterruptible h = record { plain = refl; few = refl; form = forms.State states.Uninterruptible; formed = refl; gives = refl }
state_says p states.LockWait h = absurd (h refl)

named_word : (s : Script) (t : TaskId) → IsScript s → t.0 < length s.tasks → is_word (task_line s t).name ≡ true
named_word s t h within = word_of_name (task_line s t).name (task_fits s t h within).name

-- a call that names a task alone
task_says : (p s : Script) → IsScript s → HasAll p s → (t : TaskId) (word : List ℕ) (form : CallForm (List ℕ)) (call : Call) → is_word word ≡ true → t.0 < length s.tasks
    → call_form (task_call_words s word t) ≡ Some form → (task_named p (task_line s t).name ≡ Some t → call_in p form ≡ Ok call) → Says p (task_call_words s word t) call
task_says p s h has t word form call plain within formed gives =
    record { plain = both _ _ plain (both _ _ (named_word s t h within) refl); few = refl; form = form; formed = formed; gives = gives (task_is_known p s h.names t within has.names) }

wake_says : (p s : Script) → IsScript s → HasAll p s → (t : TaskId) → t.0 < length s.tasks → Says p (task_call_words s (codes "wake") t) (calls.Wake t)
wake_says p s h has t within = task_says p s h has t (codes "wake") (forms.Wake (task_line s t).name) (calls.Wake t) refl within refl (λ known. rw known refl)

signal_says : (p s : Script) → IsScript s → HasAll p s → (t : TaskId) → t.0 < length s.tasks → Says p (task_call_words s (codes "signal") t) (calls.Signal t)
signal_says p s h has t within = task_says p s h has t (codes "signal") (forms.Signal (task_line s t).name) (calls.Signal t) refl within refl (λ known. rw known refl)

prio_says : (p s : Script) → IsScript s → HasAll p s → (t : TaskId) (prio : ℕ) → t.0 < length s.tasks → prio ≤ MAX_PRIO → Says p (task_call_words s (codes "setprio") t ++ decimal prio ∷ []) (calls.SetPrio t prio)
prio_says p s h has t prio within small =
    let known : task_named p (task_line s t).name ≡ Some t = task_is_known p s h.names t within has.names in
    let number : number_upto MAX_PRIO (decimal prio) ≡ Some prio = number_read MAX_PRIO prio small (omega arith) in
    record {
      plain = both _ _ refl (both _ _ (named_word s t h within) (both _ _ (word_of_number prio (omega arith)) refl));
      few = refl;
      form = forms.SetPrio (task_line s t).name (decimal prio);
      formed = refl;
      gives = rw (known, number) refl;
    }

pub cpu_read : (p : Script) (cpu : Cpu) → cpu.0 < p.cpus → p.cpus ≤ MAX_CPUS → cpu_spelled p (decimal cpu.0) ≡ Some cpu
cpu_read p cpu within few =
    let number : number_upto MAX_CPU (decimal cpu.0) ≡ Some cpu.0 = number_read MAX_CPU cpu.0 (omega arith) (omega arith) in
    let below : ltb cpu.0 p.cpus ≡ true = lt-ltb cpu.0 p.cpus within in
    rw (number, below) refl

move_says : (p s : Script) → IsScript s → HasAll p s → (cpu : Cpu) → cpu.0 < s.cpus → Says p (codes "move" ∷ decimal cpu.0 ∷ []) (calls.Move cpu)
move_says p s h has cpu within =
    let is : cpu_spelled p (decimal cpu.0) ≡ Some cpu = cpu_read p cpu (rw has.cpus within) (rw has.cpus h.cpus.1) in
    record { plain = both _ _ refl (both _ _ (word_of_number cpu.0 (omega (arith, h.cpus.1))) refl); few = refl; form = forms.Move (decimal cpu.0); formed = refl; gives = rw is refl }

-- ---- each call

pub call_says : (p s : Script) → IsScript s → HasAll p s → (call : Call) → IsCallOf s call → Says p (call_words s call) call
call_says p s h has (calls.Lock l) fits = mutex_says p s h has l (codes "lock") on.Lock (calls.Lock l) (record { plain = refl; spelled = refl }) refl fits
call_says p s h has (calls.LockInt l) fits = mutex_says p s h has l (codes "lockint") on.LockInt (calls.LockInt l) (record { plain = refl; spelled = refl }) refl fits
call_says p s h has (calls.TryLock l) fits = mutex_says p s h has l (codes "trylock") on.TryLock (calls.TryLock l) (record { plain = refl; spelled = refl }) refl fits
call_says p s h has (calls.Unlock l) fits = mutex_says p s h has l (codes "unlock") on.Unlock (calls.Unlock l) (record { plain = refl; spelled = refl }) refl fits
call_says p s h has (calls.Spin l) fits = spin_says p s h has l (codes "spin") on.Spin (calls.Spin l) (record { plain = refl; spelled = refl }) refl fits
call_says p s h has (calls.TrySpin l) fits = spin_says p s h has l (codes "tryspin") on.TrySpin (calls.TrySpin l) (record { plain = refl; spelled = refl }) refl fits
call_says p s h has (calls.Unspin l) fits = spin_says p s h has l (codes "unspin") on.Unspin (calls.Unspin l) (record { plain = refl; spelled = refl }) refl fits
call_says p s h has (calls.Read l) fits = reader_says p s h has l (codes "read") on.Read (calls.Read l) (record { plain = refl; spelled = refl }) refl fits
call_says p s h has (calls.TryRead l) fits = reader_says p s h has l (codes "tryread") on.TryRead (calls.TryRead l) (record { plain = refl; spelled = refl }) refl fits
call_says p s h has (calls.Unread l) fits = reader_says p s h has l (codes "unread") on.Unread (calls.Unread l) (record { plain = refl; spelled = refl }) refl fits
call_says p s h has (calls.Write l) fits = reader_says p s h has l (codes "write") on.Write (calls.Write l) (record { plain = refl; spelled = refl }) refl fits
call_says p s h has (calls.TryWrite l) fits = reader_says p s h has l (codes "trywrite") on.TryWrite (calls.TryWrite l) (record { plain = refl; spelled = refl }) refl fits
call_says p s h has (calls.Unwrite l) fits = reader_says p s h has l (codes "unwrite") on.Unwrite (calls.Unwrite l) (record { plain = refl; spelled = refl }) refl fits
call_says p s h has (calls.Downgrade l) fits = reader_says p s h has l (codes "downgrade") on.Downgrade (calls.Downgrade l) (record { plain = refl; spelled = refl }) refl fits
call_says p s h has (calls.Local l) fits = local_says p s h has l (codes "local") on.Local (calls.Local l) (record { plain = refl; spelled = refl }) refl fits
call_says p s h has (calls.Unlocal l) fits = local_says p s h has l (codes "unlocal") on.Unlocal (calls.Unlocal l) (record { plain = refl; spelled = refl }) refl fits
call_says p s h has (calls.State state) fits = state_says p state fits
call_says p s h has calls.Schedule fits = record { plain = refl; few = refl; form = forms.Schedule; formed = refl; gives = refl }
call_says p s h has (calls.Wake t) fits = wake_says p s h has t fits
call_says p s h has (calls.Signal t) fits = signal_says p s h has t fits
call_says p s h has (calls.SetPrio t prio) fits = prio_says p s h has t prio fits.0 fits.1
call_says p s h has (calls.Move cpu) fits = move_says p s h has cpu fits
