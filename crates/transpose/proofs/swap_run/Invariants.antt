-- `swap_run`: the pairs whose lower row is from q to r - 1 have exchanged bit b.
use Rattle.rows.specs.Row.{width}
use Rattle.rows.specs.Table.{row}
use Rattle.transpose.specs.Exchange.{staged, HasRows, OnlyBlock}
use Rattle.transpose.proofs.swap_run.Given as goal

abbrev pub invariant-loop-r : goal.invariant-loop-r
invariant-loop-r l = OnlyBlock l.l l.initial.t l.t × HasRows l.l width (staged l.b l.q l.r (row l.initial.t l.l)) l.t
