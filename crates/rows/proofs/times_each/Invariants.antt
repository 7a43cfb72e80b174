-- `times_each`: for each matrix, what the bits passed have given, xor what those to come will give, is the product.
use Rattle.std.proofs.Common.{◌≡◌, true, ℕ, ◌<◌, ◌≤◌}
use Rattle.automata.specs.Mask.{bit_of}
use Rattle.rows.specs.Row.{mask, mask_at}
use Rattle.rows.specs.Each.{Reads}
use Rattle.rows.proofs.ProductLaws.{Left}
use Rattle.rows.proofs.times_each.Given as goal

abbrev pub invariant-loop-z : goal.invariant-loop-z
invariant-loop-z g l = (mask l.z ≤ mask l.fn.x) × ((i : ℕ) → bit_of (mask l.z) i ≡ true → bit_of (mask l.fn.x) i ≡ true)
    × ((M : ℕ → ℕ → ℕ) → Reads g.row.N (goal.F-post g l.row) M → (k : ℕ) → k < g.row.N → Left (M k) (mask l.fn.x) (mask l.z) (mask_at l.y k))

abbrev pub decreases-loop-z : goal.decreases-loop-z
decreases-loop-z g l = mask l.z
