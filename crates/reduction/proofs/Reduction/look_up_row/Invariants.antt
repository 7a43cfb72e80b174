-- `look_up_row`: the letters below l are done.
use Rattle.reduction.specs.Before.{Before, Filled}
use Rattle.reduction.proofs.Reduction.look_up_row.Given as goal

abbrev pub invariant-loop-l : goal.invariant-loop-l
invariant-loop-l l = Before l.self l.k l.l × Filled l.initial.self l.self
