-- The layout of words by its numbers, which definitions cite by the names that the code has.
use Rattle.std.specs.Prelude.{◌≡◌, ◌^◌, refl}
use Rattle.rt_words.specs.declared.layout.TheConstants.{WAITERS_AT, OWNER_AT, OWNER_BITS, BIAS_AT, WRITER_AT, COUNT_AT, COUNT_BITS, STAMP_AT, STAMP_LIMIT}

pub record Layout : Type 0 where
  pub waiters : WAITERS_AT ≡ 0
  pub owner : OWNER_AT ≡ 1
  pub owner_bits : OWNER_BITS ≡ 20
  pub bias : BIAS_AT ≡ 0
  pub writer : WRITER_AT ≡ 1
  pub count : COUNT_AT ≡ 2
  pub count_bits : COUNT_BITS ≡ 19
  pub stamp : STAMP_AT ≡ 21
  pub stamps : STAMP_LIMIT ≡ 2 ^ 40

-- so it is
pub layout : Layout
layout = record { waiters = refl; owner = refl; owner_bits = refl; bias = refl; writer = refl; count = refl; count_bits = refl; stamp = refl; stamps = refl }
