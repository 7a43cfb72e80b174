-- `renew_rows`: the rows of the letters below l are renewed.
use Prim.Native.Nat.{◌+◌}
use Rattle.rows.specs.Row.{mask}
use Rattle.rows.specs.Table.{at}
use Rattle.direct_sum.specs.Filled.{ChangedUpTo}
use Rattle.star.specs.Renewed.{star_rows}
use Rattle.star.proofs.renew_rows.Given as goal

abbrev pub invariant-loop-l : goal.invariant-loop-l
invariant-loop-l l = ChangedUpTo l.l (l.n + 1) (star_rows (at l.initial.t) l.n (mask l.i) (mask l.f)) l.initial.t l.t
