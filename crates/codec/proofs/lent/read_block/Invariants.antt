-- `read_block`: the table is filled up to the row at hand.
use Rattle.record.specs.Held.{HeldUpTo}
use Rattle.codec.proofs.lent.read_block.Given as goal

abbrev pub invariant-loop-i : goal.invariant-loop-i
invariant-loop-i l = HeldUpTo l.lent.bytes.now l.t l.l l.i
