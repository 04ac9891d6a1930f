use Rattle.std.proofs.Common.{◌/◌, ◌^◌, arith}
use Rattle.std.proofs.lemmas.Bool.{true≢false}
use Rattle.rt_words.specs.declared.layout.TheConstants.{STAMP_AT}
use Rattle.rt_words.proofs.owner_word.OwnerWord.unpack.Goals as goal

pub returns-clause-none : goal.returns-clause-none
returns-clause-none c = (
  λ e. absurd (true≢false e),
  λ none. absurd (none (record { stamp = c.args.w / 2 ^ STAMP_AT; owner = c.owner_in.result; waiters = c.flag.result })
      (record { fits = record { stamp = omega arith; owner = omega arith }; packed = omega arith })),
)
