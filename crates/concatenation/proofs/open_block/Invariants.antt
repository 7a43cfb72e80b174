-- `open_block`: the first k rows are opened, the others are as they were.
use Rattle.rows.specs.Row.{mask}
use Rattle.rows.specs.Table.{at}
use Rattle.direct_sum.specs.Filled.{Changed}
use Rattle.concatenation.specs.Opened.{opened_rows}
use Rattle.concatenation.proofs.open_block.Given as goal

abbrev pub invariant-loop-k : goal.invariant-loop-k
invariant-loop-k l = Changed l.l l.k (opened_rows l.n (mask l.f) (mask l.start) (at l.initial.t) l.l) l.initial.t l.t
