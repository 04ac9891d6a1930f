-- What the words of a script spell: numbers of processors, and the words that are fixed.
use Rattle.std.specs.Prelude.{ℕ, List, Option, Some, None, if◌then◌else◌, nat_lt, bytes_eq, codes}
use Rattle.rt_base.specs.declared.id.Cpu.{Cpu}
use Rattle.rt_base.specs.declared.kind.Kind.{Kind}
use Rattle.rt_base.specs.declared.kind.Kind.TheVariants as kinds
use Rattle.rt_base.specs.declared.state.TaskState.{TaskState}
use Rattle.rt_base.specs.declared.state.TaskState.TheVariants as states
use Rattle.rt_base.specs.Script.{Script}
use Rattle.rt_script.specs.declared.keyword.Keyword.{Keyword}
use Rattle.rt_script.specs.declared.keyword.Keyword.TheVariants as keywords
use Rattle.rt_script.specs.declared.verb.Verb.{Verb}
use Rattle.rt_script.specs.declared.verb.Verb.TheVariants as verbs
use Rattle.rt_script.specs.declared.verb.LockVerb.{LockVerb}
use Rattle.rt_script.specs.declared.verb.LockVerb.TheVariants as on
use Rattle.rt_base.specs.declared.limits.TheConstants.{MAX_CPU, MAX_CPUS}
use Rattle.rt_script.specs.Words.{only_if, number_upto}

-- ---- processors

-- the number, where it is above 0
abbrev pub positive : Option ℕ → Option ℕ
positive None = None
positive (Some n) = only_if (nat_lt 0 n) (Some n)

-- how many processors the word says
abbrev pub cpus_spelled : List ℕ → Option ℕ
cpus_spelled word = positive (number_upto MAX_CPUS word)

-- the processor of a number, where it is below that
abbrev pub cpu_below : ℕ → Option ℕ → Option Cpu
cpu_below cpus None = None
cpu_below cpus (Some n) = only_if (nat_lt n cpus) (Some (record { 0 = n }))

-- the processor of the script that the word says
abbrev pub cpu_spelled : Script → List ℕ → Option Cpu
cpu_spelled script word = cpu_below script.cpus (number_upto MAX_CPU word)

-- ---- fixed words

-- the kind of that name
abbrev pub kind_spelled : List ℕ → Option Kind
kind_spelled word = if bytes_eq word (codes "mutex") then Some kinds.Mutex
    else if bytes_eq word (codes "spin") then Some kinds.Spin
    else if bytes_eq word (codes "rwlock") then Some kinds.RwLock
    else if bytes_eq word (codes "rwsem") then Some kinds.RwSem
    else if bytes_eq word (codes "local") then Some kinds.Local
    else None

-- the state that a task can be put into
abbrev pub state_spelled : List ℕ → Option TaskState
state_spelled word = if bytes_eq word (codes "R") then Some states.Running
    else if bytes_eq word (codes "S") then Some states.Interruptible
    else if bytes_eq word (codes "D") then Some states.Uninterruptible
    else None

-- the call on a lock of that name
abbrev pub lock_verb_spelled : List ℕ → Option LockVerb
lock_verb_spelled word = if bytes_eq word (codes "lock") then Some on.Lock
    else if bytes_eq word (codes "lockint") then Some on.LockInt
    else if bytes_eq word (codes "trylock") then Some on.TryLock
    else if bytes_eq word (codes "unlock") then Some on.Unlock
    else if bytes_eq word (codes "spin") then Some on.Spin
    else if bytes_eq word (codes "tryspin") then Some on.TrySpin
    else if bytes_eq word (codes "unspin") then Some on.Unspin
    else if bytes_eq word (codes "read") then Some on.Read
    else if bytes_eq word (codes "tryread") then Some on.TryRead
    else if bytes_eq word (codes "unread") then Some on.Unread
    else if bytes_eq word (codes "write") then Some on.Write
    else if bytes_eq word (codes "trywrite") then Some on.TryWrite
    else if bytes_eq word (codes "unwrite") then Some on.Unwrite
    else if bytes_eq word (codes "downgrade") then Some on.Downgrade
    else if bytes_eq word (codes "local") then Some on.Local
    else if bytes_eq word (codes "unlocal") then Some on.Unlocal
    else None

-- the other calls
abbrev pub other_verb_spelled : List ℕ → Option Verb
other_verb_spelled word = if bytes_eq word (codes "state") then Some verbs.State
    else if bytes_eq word (codes "schedule") then Some verbs.Schedule
    else if bytes_eq word (codes "wake") then Some verbs.Wake
    else if bytes_eq word (codes "signal") then Some verbs.Signal
    else if bytes_eq word (codes "setprio") then Some verbs.SetPrio
    else if bytes_eq word (codes "move") then Some verbs.Move
    else None

-- a call on a lock, or else another
abbrev pub lock_verb_or : Option LockVerb → Option Verb → Option Verb
lock_verb_or None other = other
lock_verb_or (Some verb) other = Some (verbs.OnLock verb)

-- the call of that name
abbrev pub verb_spelled : List ℕ → Option Verb
verb_spelled word = lock_verb_or (lock_verb_spelled word) (other_verb_spelled word)

-- the first word of a line
abbrev pub keyword_spelled : List ℕ → Option Keyword
keyword_spelled word = if bytes_eq word (codes "cpus") then Some keywords.Cpus
    else if bytes_eq word (codes "task") then Some keywords.Task
    else if bytes_eq word (codes "lock") then Some keywords.Lock
    else if bytes_eq word (codes "call") then Some keywords.Call
    else if bytes_eq word (codes "pick") then Some keywords.Pick
    else None
