-- `look_up_rows`: the rows below k are done; the basis stays, so that the table is one of its coefficients.
use Rattle.reduction.specs.Before.{Before, Filled}
use Rattle.reduction.proofs.Reduction.look_up_rows.Given as goal

abbrev pub invariant-loop-k : goal.invariant-loop-k
invariant-loop-k l = Before l.self l.k 0 × Filled l.initial.self l.self
