-- `insert`: x is what is left of y, and the basis is as it was. Taking off the row of its highest bit makes x less.
use mathlib.Core.Path.{◌≡◌}
use Prim.Native.Nat.{◌≤◌}
use Rattle.rows.specs.Row.{mask}
use Rattle.triangular.proofs.StepLaws.{Remainder}
use Rattle.triangular.proofs.insert.Given as goal

abbrev pub invariant-loop-x : goal.invariant-loop-x
invariant-loop-x l = (l.e ≡ l.initial.e) × (mask l.x ≤ mask l.initial.x) × Remainder (mask l.p) l.initial.e (mask l.initial.x) (mask l.x)

abbrev pub decreases-loop-x : goal.decreases-loop-x
decreases-loop-x l = mask l.x
