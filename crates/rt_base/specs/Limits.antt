-- The limits by their numbers, which definitions cite by the names that the code has.
use Rattle.std.specs.Prelude.{◌≡◌, refl}
use Rattle.rt_base.specs.declared.limits.TheConstants.{MAX_TASKS, MAX_LOCKS, MAX_CALLS, MAX_PICKS, MAX_LINKS, MAX_PRIO, MAX_REALTIME, MAX_CPUS, MAX_CPU, MAX_NAME, BUDGET_FACTOR, TEXT_LIMIT, LINE_LIMIT}

pub record Limits : Type 0 where
  pub tasks : MAX_TASKS ≡ 64
  pub locks : MAX_LOCKS ≡ 256
  pub calls : MAX_CALLS ≡ 16384
  pub picks : MAX_PICKS ≡ 65536
  pub links : MAX_LINKS ≡ 64
  pub prio : MAX_PRIO ≡ 139
  pub realtime : MAX_REALTIME ≡ 99
  pub cpus : MAX_CPUS ≡ 8
  pub cpu : MAX_CPU ≡ 7
  pub name : MAX_NAME ≡ 16
  pub budget : BUDGET_FACTOR ≡ 16
  pub text : TEXT_LIMIT ≡ 4294967295
  pub line : LINE_LIMIT ≡ 4096

-- so they are
pub limits : Limits
limits = record { tasks = refl; locks = refl; calls = refl; picks = refl; links = refl; prio = refl; realtime = refl; cpus = refl; cpu = refl; name = refl; budget = refl; text = refl; line = refl }
