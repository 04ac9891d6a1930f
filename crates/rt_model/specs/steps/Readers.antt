-- Steps on the reader part of a reader/writer lock.
use Rattle.std.specs.Prelude.{◌≡◌, ℕ, ◌+◌, ◌-◌, ◌<◌, Bool, true, false, not, ◌&&◌, nat_eq, if◌then◌else◌}
use Rattle.rt_base.specs.declared.limits.TheConstants.{MAX_CALLS}
use Rattle.rt_model.specs.declared.event_kind.EventKind.{EventKind}
use Rattle.rt_model.specs.declared.event_kind.EventKind.TheVariants as kinds
use Rattle.rt_model.specs.declared.reader_cell.ReaderCell.{ReaderCell}

-- ---- readers

-- a reader gets in as long as no writer is in, also where one is on its way
abbrev pub can_read : ReaderCell → Bool
can_read cell = not cell.writer

-- one reader more
abbrev pub with_reader : ReaderCell → ReaderCell
with_reader cell = record cell { count = cell.count + 1 }

-- one reader less
abbrev pub without_reader : ReaderCell → ReaderCell
without_reader cell = record cell { count = cell.count - 1 }

-- no reader is left, and a writer has removed the bias: the reader that left last is to wake it
abbrev pub wakes_writer : ReaderCell → Bool
wakes_writer cell = not cell.bias && nat_eq cell.count 0

-- ---- writers

-- a writer on its way removes the bias
abbrev pub unbiased : ReaderCell → ReaderCell
unbiased cell = record cell { bias = false }

-- it gets in once no reader is left
abbrev pub can_write : ReaderCell → Bool
can_write cell = nat_eq cell.count 0

-- a writer is in
abbrev pub with_writer : ReaderCell → ReaderCell
with_writer cell = record cell { writer = true }

-- the writer leaves, or gives up its way in: the write flag goes and the bias is set, together
abbrev pub opened : ReaderCell → ReaderCell
opened cell = record cell { bias = true; writer = false }

-- and where it downgrades, it stays as a reader
abbrev pub without_writer : Bool → ReaderCell → ReaderCell
without_writer reader cell = if reader then with_reader (opened cell) else opened cell

-- ---- what each step asks of the reader part that it finds

-- a reader comes where no writer is in, and leaves where one is in; a writer on its way removes a bias that is set, comes where none is
-- in and nobody reads, and leaves with the bias off; who stays as a reader was in. The number 1 tells that
abbrev pub CanStep : EventKind → ℕ → ReaderCell → Type 0
CanStep kinds.RIn value cell = (can_read cell ≡ true) × (cell.count < MAX_CALLS)
CanStep kinds.ROut value cell = 0 < cell.count
CanStep kinds.Unbias value cell = cell.bias ≡ true
CanStep kinds.WTake value cell = (cell.bias ≡ false) × (cell.writer ≡ false) × (can_write cell ≡ true)
CanStep kinds.WOpen value cell = (cell.bias ≡ false) × (nat_eq value 1 ≡ true → (cell.writer ≡ true) × (cell.count < MAX_CALLS))
CanStep _ value cell = Unit {0}
