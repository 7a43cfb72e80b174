-- `write_some`: a call that a signal interrupts hands nothing to the writer.
use Rattle.std.specs.Io.KnownBytes.{Keeps}
use Rattle.marking_io.proofs.write_some.Given as goal

abbrev pub invariant-loop : goal.invariant-loop
invariant-loop g l = Keeps (g.W.Write.contents l.initial.writer) (g.W.Write.contents l.writer)
