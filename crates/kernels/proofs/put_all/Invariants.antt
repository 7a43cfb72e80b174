-- `put_all`: the rows passed are written.
use Rattle.kernels.specs.Products.{Put}
use Rattle.kernels.proofs.put_all.Given as goal

abbrev pub invariant-loop-k : goal.invariant-loop-k
invariant-loop-k g l = Put l.l l.k l.x l.initial.s l.s
