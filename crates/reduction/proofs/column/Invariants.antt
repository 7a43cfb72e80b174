-- `column`: the first i rows are counted.
use Rattle.rows.specs.Row.{mask}
use Rattle.reduction.proofs.TableSearch.{Counted}
use Rattle.reduction.proofs.column.Given as goal

abbrev pub invariant-loop-i : goal.invariant-loop-i
invariant-loop-i l = Counted l.n l.b l.i (mask l.f) (mask l.y)
