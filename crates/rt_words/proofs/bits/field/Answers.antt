use Rattle.std.proofs.lemmas.Nat.{and_mask, one_shl}
use Rattle.rt_words.proofs.bits.field.Goals as goal

pub returns : goal.returns
returns c = rw (one_shl c.args.bits 64 c.requires.bits, and_mask)
