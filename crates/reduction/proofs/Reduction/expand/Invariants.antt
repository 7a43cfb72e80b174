-- `expand`: the letters below l are done; row k stays, so that the line keeps its products.
use mathlib.Core.Path.{◌≡◌}
use Rattle.rows.specs.Row.{width}
use Rattle.basis.specs.Basis.{cell}
use Rattle.reduction.specs.Before.{Before, Follows}
use Rattle.reduction.proofs.Reduction.expand.Given as goal

abbrev pub invariant-loop-l : goal.invariant-loop-l
invariant-loop-l l = Before l.self l.k l.l × Follows l.initial.self l.self × (cell width l.self.basis.now 1 l.k ≡ cell width l.initial.self.basis.now 1 l.k)
