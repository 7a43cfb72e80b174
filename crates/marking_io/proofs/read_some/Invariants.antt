-- `read_some`: a call that a signal interrupts takes nothing from the reader.
use Rattle.std.specs.Io.KnownBytes.{Keeps}
use Rattle.marking_io.proofs.read_some.Given as goal

abbrev pub invariant-loop : goal.invariant-loop
invariant-loop g l = Keeps (g.R.Read.remaining l.initial.reader) (g.R.Read.remaining l.reader)
