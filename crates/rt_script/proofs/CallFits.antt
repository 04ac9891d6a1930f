-- A call that a line makes fits its lock.
use Rattle.std.proofs.Common.{◌≡◌, ◌<◌, true, length, Option, Some, refl, sym, subst}
use Rattle.std.specs.Prelude.{IfSome}
use Rattle.rt_base.specs.declared.call.Call.{Call}
use Rattle.rt_base.specs.declared.id.LockId.{LockId}
use Rattle.rt_base.specs.declared.kind.Kind.{Kind}
use Rattle.rt_base.specs.declared.kind.Kind.TheVariants as kinds
use Rattle.rt_base.specs.Script.{Script, lock_line, is_first_cell, IsLockOf, IsMutex, IsSpin, HasReaders, IsReaderLock, IsLocal, IsCallOf, IsScript}
use Rattle.rt_script.specs.declared.verb.LockVerb.{LockVerb}
use Rattle.rt_script.specs.declared.verb.LockVerb.TheVariants as on
use Rattle.rt_script.specs.Calls.{call_on, reading_call}
use Rattle.rt_script.proofs.Cells.{first_cell}
use Rattle.rt_script.proofs.ScriptParts.{lock_fits, IsLockOf-from}

-- every call of a reader/writer lock is one of its kind
read_made : (s : Script) (l : LockId) (verb : LockVerb) → IsLockOf s IsReaderLock l → IfSome (reading_call verb l) (IsCallOf s)
read_made s l on.Read there = there
read_made s l on.TryRead there = there
read_made s l on.Unread there = there
read_made s l on.Write there = there
read_made s l on.TryWrite there = there
read_made s l on.Unwrite there = there
read_made s l on.Downgrade there = there
read_made s l _ there = tt

made : (s : Script) (l : LockId) (kind : Kind) (verb : LockVerb) → l.0 < length s.locks → (lock_line s l).kind ≡ kind → (kind ≡ kinds.Local → IsLocal (lock_line s l)) → IfSome (call_on kind verb l) (IsCallOf s)
made s l kinds.Mutex on.Lock lt k local = IsLockOf-from s.locks l.0 IsMutex lt k
made s l kinds.Mutex on.LockInt lt k local = IsLockOf-from s.locks l.0 IsMutex lt k
made s l kinds.Mutex on.TryLock lt k local = IsLockOf-from s.locks l.0 IsMutex lt k
made s l kinds.Mutex on.Unlock lt k local = IsLockOf-from s.locks l.0 IsMutex lt k
made s l kinds.Spin on.Spin lt k local = IsLockOf-from s.locks l.0 IsSpin lt k
made s l kinds.Spin on.TrySpin lt k local = IsLockOf-from s.locks l.0 IsSpin lt k
made s l kinds.Spin on.Unspin lt k local = IsLockOf-from s.locks l.0 IsSpin lt k
made s l kinds.RwLock verb lt k local = read_made s l verb (IsLockOf-from s.locks l.0 IsReaderLock lt (subst HasReaders (sym k) tt))
made s l kinds.RwSem verb lt k local = read_made s l verb (IsLockOf-from s.locks l.0 IsReaderLock lt (subst HasReaders (sym k) tt))
made s l kinds.Local on.Local lt k local = IsLockOf-from s.locks l.0 IsLocal lt (local refl)
made s l kinds.Local on.Unlocal lt k local = IsLockOf-from s.locks l.0 IsLocal lt (local refl)
made s l _ verb lt k local = tt

pub IsCallOf-call_on : (s : Script) (l : LockId) (verb : LockVerb) (call : Call) → IsScript s → l.0 < length s.locks → is_first_cell (lock_line s l).cell ≡ true → call_on (lock_line s l).kind verb l ≡ Some call → IsCallOf s call
IsCallOf-call_on s l verb call h lt first e =
    let local : (lock_line s l).kind ≡ kinds.Local → IsLocal (lock_line s l) = first_cell s.cpus (lock_line s l) (lock_fits s l h lt) first in
    subst (λ (o : Option Call). IfSome o (IsCallOf s)) e (made s l (lock_line s l).kind verb lt refl local)
