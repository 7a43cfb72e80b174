-- `kron`: the product over the bits of x below p.
use mathlib.Core.Path.{◌≡◌}
use Rattle.rows.specs.Row.{mask}
use Rattle.intersection.specs.Kron.{kron}
use Rattle.intersection.proofs.kron.Given as goal

abbrev pub invariant-loop-p : goal.invariant-loop-p
invariant-loop-p l = mask l.r ≡ kron l.p l.m (mask l.x) (mask l.y)
