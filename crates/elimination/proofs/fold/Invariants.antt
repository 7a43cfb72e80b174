-- `fold`: the rows below j are done, those from j on are as they were.
use Rattle.rows.specs.Row.{mask}
use Rattle.elimination.proofs.FoldLaws.{Folding}
use Rattle.elimination.proofs.fold.Given as goal

abbrev pub invariant-loop-j : goal.invariant-loop-j
invariant-loop-j l = Folding l.stride l.j l.l l.q (mask l.x) l.initial.b l.b
