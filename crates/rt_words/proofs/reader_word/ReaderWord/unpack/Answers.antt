use Rattle.std.proofs.Common.{◌/◌, ◌^◌, arith}
use Rattle.std.proofs.lemmas.Bool.{true≢false}
use Rattle.rt_words.specs.declared.layout.TheConstants.{STAMP_AT}
use Rattle.rt_words.proofs.reader_word.ReaderWord.unpack.Goals as goal

pub returns-clause-none : goal.returns-clause-none
returns-clause-none c = (
  λ e. absurd (true≢false e),
  λ none. absurd (none (record { stamp = c.args.w / 2 ^ STAMP_AT; bias = c.flag.result; writer = c.flag-2.result; count = c.field-count.result })
      (record { fits = record { stamp = omega arith; count = omega arith }; packed = omega arith })),
)
