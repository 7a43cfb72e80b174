-- `renew_block`: the first k rows are renewed, the others are as they were; the last row stored is that of the new state.
use Rattle.rows.specs.Row.{mask}
use Rattle.rows.specs.Table.{at}
use Rattle.direct_sum.specs.Filled.{Changed}
use Rattle.star.specs.Renewed.{renewed}
use Rattle.star.proofs.renew_block.Given as goal

abbrev pub invariant-loop-k : goal.invariant-loop-k
invariant-loop-k l = Changed l.l l.k (renewed l.n (mask l.f) (mask l.r) (at l.initial.t l.l)) l.initial.t l.t
