-- `times_both`: the row in two halves, the products of each, and the entries below l merged.
use Rattle.products.proofs.LineLaws.{Merged}
use Rattle.pair_products.proofs.times_both.Given as goal

abbrev pub invariant-loop-l : goal.invariant-loop-l
invariant-loop-l l = Merged l.l l.n l.initial.s l.t l.s
