-- `load_block`: the table is filled up to the row at hand.
use Rattle.record.specs.Held.{HeldUpTo}
use Rattle.catalogue.specs.Entries.{record_of}
use Rattle.catalogue.proofs.load_block.Given as goal

abbrev pub invariant-loop-i : goal.invariant-loop-i
invariant-loop-i l = HeldUpTo (record_of l.j) l.t l.l l.i
