-- `read`: the table is filled letter by letter, and then holds the record.
use Rattle.record.specs.Held.{HeldUpTo}
use Rattle.codec.proofs.lent.read.Given as goal

abbrev pub invariant-loop-l : goal.invariant-loop-l
invariant-loop-l l = HeldUpTo l.lent.bytes.now l.t l.l 0
