-- The columns of the basis rows at the pivots p, in the states below n. Block 0 of the basis b has the basis row of each pivot.
use Rattle.std.specs.Prelude.{◌≡◌, List, ℕ, ◌^◌, ◌<◌}
use Rattle.automata.specs.Mask.{bit_of}
use Rattle.rows.specs.Row.{width}
use Rattle.basis.specs.Basis.{bits}
use Rattle.observation.specs.Listed.{pick}

-- W i names, by their rank, the pivots whose basis rows have bit i; r pivots stand below n.
pub record Columns (n p : ℕ) (b : List ℕ) (r : ℕ) (W : ℕ → ℕ) : Type 0 where
  pub bit : (i j : ℕ) → i < n → j < r → bit_of (W i) j ≡ bits width b 0 (pick (bit_of p) n j) i
  pub low : (i : ℕ) → i < n → W i < 2 ^ r
