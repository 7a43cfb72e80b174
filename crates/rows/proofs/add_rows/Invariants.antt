-- `add_rows`: the sums passed have their row, the others are as they were.
use Rattle.std.proofs.Common.{◌≡◌, ℕ, ◌<◌, ◌≤◌, length}
use Rattle.std.specs.Int.Bits.{bit_xor}
use Rattle.rows.specs.Row.{mask_at}
use Rattle.rows.specs.Each.{Reads}
use Rattle.rows.proofs.add_rows.Given as goal

abbrev pub invariant-loop-k : goal.invariant-loop-k
invariant-loop-k g l = (length l.y ≡ g.row.N) × ((M : ℕ → ℕ → ℕ) → Reads g.row.N (goal.F-post g l.row) M → (k : ℕ) → k < l.k → mask_at l.y k ≡ bit_xor (mask_at l.initial.y k) (M k l.i))
    × ((k : ℕ) → l.k ≤ k → mask_at l.y k ≡ mask_at l.initial.y k)
