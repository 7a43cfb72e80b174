-- Basis rows laid one after another, as they stand in a table before it is transposed.
use Rattle.std.specs.Prelude.{◌≡◌, List, ℕ, ◌<◌, length}
use Rattle.automata.specs.Mask.{bit_of}
use Rattle.rows.specs.Row.{width}
use Rattle.rows.specs.Table.{size, at}
use Rattle.basis.specs.Basis.{cell}
use Rattle.observation.specs.Listed.{rank, pick}

-- The basis rows of the pivots below k, r of them, are the first rows of block 0 of the table c.
pub record Laid (k p : ℕ) (b : List ℕ) (r : ℕ) (c : List ℕ) : Type 0 where
  pub count : r ≡ rank (bit_of p) k
  pub rows : (j : ℕ) → j < r → at c 0 j ≡ cell width b 0 (pick (bit_of p) k j)
  pub size : length c ≡ size
