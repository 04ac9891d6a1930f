-- What a sink in memory keeps of the bytes that it takes.
use Rattle.std.specs.Prelude.{◌≡◌, ℕ, Bool, if◌then◌else◌, ◌||◌, nat_lt, List, ◌++◌, length, take, Option, Some, None}

-- how many bytes there is room for, those kept, and whether more were taken
pub record Kept : Type 0 where
  pub room : ℕ
  pub bytes : List ℕ
  pub is_over : Bool

-- the bytes are told as long as each byte taken is kept
abbrev pub told : Kept → Option (List ℕ)
told kept = if kept.is_over then None else Some kept.bytes

-- what is kept once the piece is taken too
abbrev pub with_piece : Kept → List ℕ → Kept
with_piece kept piece =
    record {
      room = kept.room;
      bytes = take kept.room (kept.bytes ++ piece);
      is_over = kept.is_over || nat_lt kept.room (length (kept.bytes ++ piece));
    }

-- the first bytes of those taken are kept, as many as there is room for
pub record KeepsFirst (kept : Kept) (taken : List ℕ) : Type 0 where
  pub bytes : kept.bytes ≡ take kept.room taken
  pub is_over : kept.is_over ≡ nat_lt kept.room (length taken)
