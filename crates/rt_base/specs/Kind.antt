use Rattle.std.specs.Prelude.{Bool, true, false}
use Rattle.rt_base.specs.declared.kind.Kind.{Kind}
use Rattle.rt_base.specs.declared.kind.Kind.TheVariants.{Mutex, Spin, RwLock, RwSem, Local}

-- the spinning kinds: without PREEMPT_RT such a lock spins
abbrev pub spins : Kind → Bool
spins Spin = true
spins RwLock = true
spins Local = true
spins Mutex = false
spins RwSem = false
