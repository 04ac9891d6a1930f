-- Large scripts, each of which a number gives.
use Rattle.std.specs.Prelude.{ℕ, zero, suc, ◌+◌, ◌*◌, ◌%◌, List, [], ◌∷◌, ◌++◌, replicate, ◌==◌, if◌then◌else◌}
use Rattle.rt_base.specs.declared.call.Call.{Call}
use Rattle.rt_base.specs.declared.call.Call.TheVariants.{Lock, Unlock, Spin, Unspin, Read, Unread, Write, Unwrite, Local, Unlocal}
use Rattle.rt_base.specs.declared.id.TaskId.{TaskId}
use Rattle.rt_base.specs.declared.id.LockId.{LockId}
use Rattle.rt_base.specs.declared.id.Cpu.{Cpu}
use Rattle.rt_base.specs.declared.kind.Kind.{Kind}
use Rattle.rt_base.specs.declared.kind.Kind.TheVariants as kinds
use Rattle.rt_base.specs.Script.{Script}
use Rattle.rt_script.specs.Building.{Plan, TaskPlan, built}
use Rattle.rt_policy.specs.Draws.{number_after, draw}

-- f of each number below n, in order
unfoldable pub each : {A : Type 0} → ℕ → (ℕ → A) → List A
each zero f = []
each (suc n) f = each n f ++ f n ∷ []

-- the locks: 12 mutexes, 6 spinlocks, 3 of each reader/writer kind, and a local lock of 4 cells
abbrev pub lock_kinds : List Kind
lock_kinds = replicate 12 kinds.Mutex ++ replicate 6 kinds.Spin ++ replicate 3 kinds.RwLock ++ replicate 3 kinds.RwSem ++ replicate 4 kinds.Local

-- the lock of each kind that n stands for: mutexes are locks 0 to 11, spinlocks 12 to 17, rwlocks 18 to 20, rwsems 21 to 23
abbrev pub mutex : ℕ → LockId
mutex n = record { 0 = n }

abbrev pub spin : ℕ → LockId
spin n = record { 0 = 12 + n % 6 }

abbrev pub rwlock : ℕ → LockId
rwlock n = record { 0 = 18 + n % 3 }

abbrev pub rwsem : ℕ → LockId
rwsem n = record { 0 = 21 + n % 3 }

-- the local lock, by its first cell
abbrev pub local : LockId
local = record { 0 = 24 }

-- ---- blocks

-- the calls of a block of kind c, where p and q say which locks
unfoldable pub block_calls : ℕ → ℕ → ℕ → List Call
block_calls c p q =
    if c == 0 then Lock (mutex p) ∷ Lock (mutex q) ∷ Unlock (mutex q) ∷ Unlock (mutex p) ∷ []
    else if c == 1 then Spin (spin p) ∷ Unspin (spin p) ∷ []
    else if c == 2 then Read (rwlock p) ∷ Unread (rwlock p) ∷ []
    else if c == 3 then Write (rwsem p) ∷ Unwrite (rwsem p) ∷ []
    else if c == 4 then Lock (mutex p) ∷ Write (rwlock q) ∷ Unwrite (rwlock q) ∷ Unlock (mutex p) ∷ []
    else Local local ∷ Unlocal local ∷ []

-- three draws from x on make a block
abbrev pub block : ℕ → List Call
block x = block_calls (draw x 6 0) (draw x 12 1) (draw x 12 2)

-- n blocks from x on, one after the other
unfoldable pub blocks : ℕ → ℕ → List Call
blocks x zero = []
blocks x (suc n) = blocks x n ++ block (number_after x (3 * n))

-- ---- the script

-- where task t starts, of the draws from x on: its priority and its processor
abbrev pub start : ℕ → ℕ → ℕ × Cpu
start x t = (draw x 140 (2 * t), record { 0 = draw x 4 (2 * t + 1) })

-- task t, of the draws from x on: first each task draws its start, and then each its 100 blocks
abbrev pub task : ℕ → ℕ → TaskPlan
task x t = record { own = (start x t).0; cpu = (start x t).1; calls = blocks (number_after x (64 + 300 * t)) 100 }

-- pick i, of the draws from x on
abbrev pub pick : ℕ → ℕ → TaskId
pick x i = record { 0 = draw x 32 i }

-- what n gives: 32 tasks on 4 processors, and 20,000 picks, which are drawn last
abbrev pub generated_plan : ℕ → Plan
generated_plan n = record { cpus = 4; tasks = each 32 (task n); locks = lock_kinds; picks = each 20000 (pick (number_after n 9664)) }

-- the script that n gives
abbrev pub generated : ℕ → Script
generated n = built (generated_plan n)
