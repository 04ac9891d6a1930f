use Rattle.std.proofs.Common.{◌≡◌, ◌+◌, ◌-◌, ◌≤◌, vec_len}
use Rattle.rt_base.specs.Outside.{Takes}
use Rattle.rt_base.specs.declared.reading.TheConstants.{PIECE}
use Rattle.rt_base.proofs.reading.read_whole.Given as goal

-- what stands in the buffer is what was taken, without a fault
abbrev pub invariant-loop-buf : goal.invariant-loop-buf
invariant-loop-buf g l =
    record {
      taken : Takes (g.S.Source.left l.fn.src) l.buf.items (g.S.Source.left l.src);
      within : vec_len l.buf ≤ l.limit + 1;
      end : l.end ≡ l.limit + 1;
      piece : vec_len l.piece ≡ PIECE;
      no_fault : g.S.Source.faults l.src ≡ g.S.Source.faults l.fn.src;
    }

abbrev pub decreases-loop-buf : goal.decreases-loop-buf
decreases-loop-buf g l = l.limit + 1 - vec_len l.buf
