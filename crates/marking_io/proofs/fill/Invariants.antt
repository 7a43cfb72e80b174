-- `fill`: each turn puts one line more behind those that stand.
use Rattle.marking_io.proofs.Lines.{Walked}
use Rattle.marking_io.proofs.fill.Given as goal

abbrev pub invariant-loop-index : goal.invariant-loop-index
invariant-loop-index l = Walked l.script l.out l.n l.index l.at
