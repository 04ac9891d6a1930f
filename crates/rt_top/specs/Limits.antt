-- The limits of the top call by their numbers, which definitions cite by the names that the code has.
use Rattle.std.specs.Prelude.{◌≡◌, refl}
use Rattle.rt_top.specs.declared.purpose.TheConstants.{MAX_BYTES, MAX_CHECK_BYTES}
use Rattle.rt_top.specs.declared.options.TheConstants.{MAX_SEED, MAX_TURNS}

pub record Limits : Type 0 where
  pub bytes : MAX_BYTES ≡ 1048576
  pub check_bytes : MAX_CHECK_BYTES ≡ 67108864
  pub turns : MAX_TURNS ≡ 4294967295
  pub seed : MAX_SEED ≡ 4294967295

-- so they are
pub limits : Limits
limits = record { bytes = refl; check_bytes = refl; turns = refl; seed = refl }
