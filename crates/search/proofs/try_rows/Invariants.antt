-- `try_rows`: the rows below k are done, and no row found is accepted; the basis is as long as it was. There are never more rows than bits.
use mathlib.Core.Path.{◌≡◌}
use Prim.Native.Nat.{◌-◌, ◌≤◌}
use lib.ListN.{length}
use Rattle.rows.specs.Row.{width, mask}
use Rattle.hunt.specs.Both.{beside_of}
use Rattle.hunt.specs.Hunt.{Hunting}
use Rattle.search.proofs.try_rows.Given as goal

abbrev pub invariant-loop-k : goal.invariant-loop-k
invariant-loop-k l = (l.k ≤ l.r.count) × Hunting l.stride l.m.letters (beside_of l.first l.second) l.m.states (mask l.m.initial) (mask l.m.finals) l.b l.w l.r.count l.k 0 (mask l.r.pivots) (mask l.r.used) × (length l.b ≡ length l.initial.b)

abbrev pub decreases-loop-k : goal.decreases-loop-k
decreases-loop-k l = width - l.k
