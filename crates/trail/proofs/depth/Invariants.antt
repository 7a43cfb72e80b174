-- `depth`: n letters are counted, and the word of row r has the others.
use mathlib.Core.Path.{◌≡◌}
use Prim.Native.Nat.{◌+◌, ◌≤◌}
use Rattle.trail.proofs.TraceLaws.{depth}
use Rattle.trail.proofs.depth.Given as goal

abbrev pub invariant-loop-r : goal.invariant-loop-r
invariant-loop-r l = (l.n + l.r ≤ l.k) × (l.n + depth l.w l.r ≡ depth l.w l.k)

abbrev pub decreases-loop-r : goal.decreases-loop-r
decreases-loop-r l = l.r
