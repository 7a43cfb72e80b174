-- `times_each_both`: the products below k stand side by side.
use Rattle.products.proofs.LineLaws.{Joined}
use Rattle.pair_products.proofs.times_each_both.Given as goal

abbrev pub invariant-loop-k : goal.invariant-loop-k
invariant-loop-k g l = Joined l.k l.n l.initial.y l.z l.y
