-- `transpose`: the first l blocks are transposed, the others are as they were.
use Rattle.transpose.proofs.TurnLaws.{Turning}
use Rattle.transpose.proofs.transpose.Given as goal

abbrev pub invariant-loop-l : goal.invariant-loop-l
invariant-loop-l l = Turning l.l l.n l.initial.t l.t
