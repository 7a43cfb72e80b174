-- `load`: the table is filled letter by letter, and then holds the entry's record.
use Rattle.record.specs.Held.{HeldUpTo}
use Rattle.catalogue.specs.Entries.{record_of}
use Rattle.catalogue.proofs.load.Given as goal

abbrev pub invariant-loop-l : goal.invariant-loop-l
invariant-loop-l l = HeldUpTo (record_of l.fn.j) l.t l.l 0
