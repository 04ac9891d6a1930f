-- Reader words as numbers.
use Rattle.std.specs.Prelude.{◌≡◌, ℕ, ◌+◌, ◌*◌, ◌/◌, ◌%◌, ◌^◌, ◌<◌, ◌≤◌}
use Rattle.std.specs.Int.{from_bool}
use Rattle.rt_base.specs.declared.limits.TheConstants.{MAX_CALLS}
use Rattle.rt_words.specs.declared.layout.TheConstants.{BIAS_AT, WRITER_AT, COUNT_AT, COUNT_BITS, STAMP_AT, STAMP_LIMIT}
use Rattle.rt_words.specs.declared.reader_word.ReaderWord.{ReaderWord}

-- the fields fit: no more readers are in than there are calls
pub record FitsReaderWord (word : ReaderWord) : Type 0 where
  pub stamp : word.stamp < STAMP_LIMIT
  pub count : word.count ≤ MAX_CALLS

-- the number of a word: each field counts from its first bit on
abbrev pub packed_reader_word : ReaderWord → ℕ
packed_reader_word word = from_bool word.bias * 2 ^ BIAS_AT + from_bool word.writer * 2 ^ WRITER_AT + word.count * 2 ^ COUNT_AT + word.stamp * 2 ^ STAMP_AT

-- the number is this word's: the word's fields fit, and it is packed so
pub record IsReaderPack (number : ℕ) (word : ReaderWord) : Type 0 where
  pub fits : FitsReaderWord word
  pub packed : packed_reader_word word ≡ number

-- the number has the layout of a reader word: nothing stands above a stamp, and there are no more readers than calls
pub record HasReaderLayout (number : ℕ) : Type 0 where
  pub stamp : number / 2 ^ STAMP_AT < STAMP_LIMIT
  pub count : number / 2 ^ COUNT_AT % 2 ^ COUNT_BITS ≤ MAX_CALLS
