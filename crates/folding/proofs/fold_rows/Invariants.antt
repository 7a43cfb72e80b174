-- `fold_rows`: the rows of the pivots below k are folded, and z has the pivots ahead. The loop knows the pivots by the bits that it began with.
use mathlib.Core.Path.{◌≡◌}
use Prim.Native.Nat.{ℕ, ◌≤◌}
use Rattle.automata.specs.Mask.{bit_of}
use Rattle.rows.specs.Row.{mask}
use Rattle.observation.specs.Listed.{rank}
use Rattle.observation.proofs.Rising.{Ahead}
use Rattle.folding.specs.Folding.{FoldedTo}
use Rattle.folding.proofs.fold_rows.Given as goal

abbrev pub invariant-loop-z : goal.invariant-loop-z
invariant-loop-z l = (p : ℕ) → Ahead (bit_of p) 0 l.n (mask l.initial.z) → (k : ℕ) × (k ≤ l.n) × Ahead (bit_of p) k l.n (mask l.z) × (l.j ≡ rank (bit_of p) k) × FoldedTo l.l k p l.tab.groups l.tab.entries l.initial.t l.t

abbrev pub decreases-loop-z : goal.decreases-loop-z
decreases-loop-z l = mask l.z
