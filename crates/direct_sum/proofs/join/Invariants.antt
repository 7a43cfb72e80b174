-- `join`: the blocks below l have the rows of both.
use Prim.Native.Nat.{◌+◌}
use Rattle.rows.specs.Table.{at}
use Rattle.rows.specs.Beside.{beside}
use Rattle.direct_sum.specs.Filled.{ChangedUpTo}
use Rattle.direct_sum.proofs.join.Given as goal

abbrev pub invariant-loop-l : goal.invariant-loop-l
invariant-loop-l l = ChangedUpTo l.l (l.n + l.k) (beside (at l.initial.t) (at l.u) l.n) l.initial.t l.t
