-- `search`: the rows below k are done by every letter; the rest may be looked up, or left where only their number is of use.
use mathlib.Core.Path.{◌≡◌}
use Prim.Native.Nat.{◌-◌, ◌≤◌}
use Rattle.rows.specs.Row.{width}
use Rattle.reduction.specs.Before.{Before, Follows}
use Rattle.reduction.proofs.Reduction.search.Given as goal

abbrev pub invariant-loop-k : goal.invariant-loop-k
invariant-loop-k l = (l.k ≤ l.self.size.count) × Before l.self l.k 0 × Follows l.initial.self l.self × (l.initial.self.size.count ≡ 0 → l.self.size.count ≡ 0)

abbrev pub decreases-loop-k : goal.decreases-loop-k
decreases-loop-k l = width - l.k
