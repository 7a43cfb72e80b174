-- `lay`: the basis rows of the pivots below k are laid, and z has the pivots ahead. The loop knows the pivots by the bits that it began with.
use Prim.Native.Nat.{ℕ, ◌≤◌}
use Rattle.automata.specs.Mask.{bit_of}
use Rattle.rows.specs.Row.{mask}
use Rattle.columns.specs.Laid.{Laid}
use Rattle.observation.proofs.Rising.{Ahead}
use Rattle.columns.proofs.lay.Given as goal

abbrev pub invariant-loop-z : goal.invariant-loop-z
invariant-loop-z l = (p : ℕ) → Ahead (bit_of p) 0 l.n (mask l.initial.z) → (k : ℕ) × (k ≤ l.n) × Ahead (bit_of p) k l.n (mask l.z) × Laid k p l.b l.r l.c

abbrev pub decreases-loop-z : goal.decreases-loop-z
decreases-loop-z l = mask l.z
