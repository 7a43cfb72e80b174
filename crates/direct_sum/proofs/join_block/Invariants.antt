-- `join_block`: the first j rows of the second stand after those of the first.
use Rattle.direct_sum.specs.Filled.{Joined}
use Rattle.direct_sum.proofs.join_block.Given as goal

abbrev pub invariant-loop-j : goal.invariant-loop-j
invariant-loop-j l = Joined l.l l.n l.j l.u l.initial.t l.t
