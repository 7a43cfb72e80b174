-- `open_rows`: the rows of the letters below l are opened.
use Rattle.rows.specs.Row.{mask}
use Rattle.rows.specs.Table.{at}
use Rattle.direct_sum.specs.Filled.{ChangedUpTo}
use Rattle.concatenation.specs.Opened.{opened_rows}
use Rattle.concatenation.proofs.open_rows.Given as goal

abbrev pub invariant-loop-l : goal.invariant-loop-l
invariant-loop-l l = ChangedUpTo l.l l.n (opened_rows l.n (mask l.f) (mask l.start) (at l.initial.t)) l.initial.t l.t
