-- Rows in a line.
--   Products a n x M s    s has the products of x with the first a matrices: M l k is row k of matrix l
--   Put l n x s s'        s' is s with the n rows of x from row l on
use Rattle.std.specs.Prelude.{◌≡◌, List, ℕ, ◌+◌, ◌<◌, length, get_or}
use Rattle.rows.specs.declared.Row.{Row}
use Rattle.rows.specs.Row.{mask_at}
use Rattle.rows.specs.Product.{product}

abbrev pub Products : ℕ → ℕ → ℕ → (ℕ → ℕ → ℕ) → List ℕ → Type 0
Products a n x M s = (l : ℕ) → l < a → get_or s l 0 ≡ product n x (M l)

pub record Put (l n : ℕ) (x : List Row) (s s' : List ℕ) : Type 0 where
  pub rows : (k : ℕ) → k < n → get_or s' (l + k) 0 ≡ mask_at x k
  pub lower : (i : ℕ) → i < l → get_or s' i 0 ≡ get_or s i 0
  pub size : length s' ≡ length s
