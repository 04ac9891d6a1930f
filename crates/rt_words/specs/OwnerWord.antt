-- Owner words as numbers.
use Rattle.std.specs.Prelude.{◌≡◌, ℕ, ◌+◌, ◌*◌, ◌/◌, ◌%◌, ◌^◌, ◌<◌, ◌≤◌, Option, Some, None}
use Rattle.std.specs.Int.{from_bool}
use Rattle.rt_base.specs.declared.id.TaskId.{TaskId}
use Rattle.rt_base.specs.declared.limits.TheConstants.{MAX_TASKS}
use Rattle.rt_words.specs.declared.layout.TheConstants.{WAITERS_AT, OWNER_AT, OWNER_BITS, STAMP_AT, STAMP_LIMIT}
use Rattle.rt_words.specs.declared.owner_word.OwnerWord.{OwnerWord}

-- an owner as a number: its own plus one, and 0 for none
abbrev pub owner_number : Option TaskId → ℕ
owner_number None = 0
owner_number (Some t) = t.0 + 1

-- the fields fit
pub record FitsOwnerWord (word : OwnerWord) : Type 0 where
  pub stamp : word.stamp < STAMP_LIMIT
  pub owner : owner_number word.owner ≤ MAX_TASKS

-- the number of a word: each field counts from its first bit on
abbrev pub packed_owner_word : OwnerWord → ℕ
packed_owner_word word = from_bool word.waiters * 2 ^ WAITERS_AT + owner_number word.owner * 2 ^ OWNER_AT + word.stamp * 2 ^ STAMP_AT

-- the number is this word's: the word's fields fit, and it is packed so
pub record IsOwnerPack (number : ℕ) (word : OwnerWord) : Type 0 where
  pub fits : FitsOwnerWord word
  pub packed : packed_owner_word word ≡ number

-- the number has the layout of an owner word: nothing stands above a stamp, and the owner is none or a task
pub record HasOwnerLayout (number : ℕ) : Type 0 where
  pub stamp : number / 2 ^ STAMP_AT < STAMP_LIMIT
  pub owner : number / 2 ^ OWNER_AT % 2 ^ OWNER_BITS ≤ MAX_TASKS
