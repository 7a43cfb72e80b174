-- `double`: the first v are done.
use Rattle.rows.specs.Row.{mask}
use Rattle.lookup.specs.Lookup.{Doubled}
use Rattle.lookup.proofs.double.Given as goal

abbrev pub invariant-loop-v : goal.invariant-loop-v
invariant-loop-v l = Doubled l.at l.h l.v (mask l.x) l.initial.tab l.tab
