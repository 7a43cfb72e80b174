-- Tables of matrices and their transposes.
--   Transposed a n t s     each of the first a blocks of s holds the transpose of the n by n matrix in that block of t
use Rattle.std.specs.Prelude.{◌≡◌, List, ℕ, ◌^◌, ◌<◌, length}
use Rattle.rows.specs.Table.{size, at, row}

pub record Transposed (a n : ℕ) (t s : List ℕ) : Type 0 where
  pub rows : (l i : ℕ) → l < a → i < n → (j : ℕ) → j < n → row s l i j ≡ row t l j i
  pub low : (l i : ℕ) → l < a → i < n → at s l i < 2 ^ n
  pub size : length s ≡ size
