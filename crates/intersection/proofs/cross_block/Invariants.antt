-- `cross_block`: the rows below k of block l are filled.
use Prim.Native.Nat.{◌*◌}
use Rattle.direct_sum.proofs.Filling.{Filling}
use Rattle.intersection.specs.Kron.{crossed}
use Rattle.intersection.proofs.cross_block.Given as goal

abbrev pub invariant-loop-k : goal.invariant-loop-k
invariant-loop-k l = Filling l.k l.l (l.n * l.m) (crossed l.t l.u l.n l.m) l.out
