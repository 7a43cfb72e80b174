-- `cross`: the blocks below l are filled.
use Prim.Native.Nat.{◌*◌}
use Rattle.direct_sum.specs.Filled.{Filled}
use Rattle.intersection.specs.Kron.{crossed}
use Rattle.intersection.proofs.cross.Given as goal

abbrev pub invariant-loop-l : goal.invariant-loop-l
invariant-loop-l l = Filled l.l (l.n * l.m) (crossed l.t l.u l.n l.m) l.out
