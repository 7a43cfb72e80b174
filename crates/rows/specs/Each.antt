-- A function that reads rows of N matrices, as the contract of the products with them cites it.
--   Reads N post M    what the function can return at k and i, if `post` says so, is row i of matrix k: M k i as a number
use Rattle.std.specs.Prelude.{◌≡◌, ℕ, ◌<◌}
use Rattle.rows.specs.declared.Row.{Row}
use Rattle.rows.specs.Row.{width, mask}

pub record Reads (N : ℕ) (post : ℕ → ℕ → Row → Type 0) (M : ℕ → ℕ → ℕ) : Type 0 where
  pub row : (k i : ℕ) (r : Row) → k < N → i < width → post k i r → mask r ≡ M k i
