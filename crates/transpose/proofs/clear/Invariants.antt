-- `clear`: the rows from n up to i have no bit, those below n are as they were.
use Rattle.rows.specs.Table.{row}
use Rattle.transpose.specs.Exchange.{padded, HasRows, OnlyBlock}
use Rattle.transpose.proofs.clear.Given as goal

abbrev pub invariant-loop-i : goal.invariant-loop-i
invariant-loop-i l = OnlyBlock l.l l.initial.t l.t × HasRows l.l l.i (padded l.r (row l.initial.t l.l)) l.t
