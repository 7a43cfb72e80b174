-- Tables filled with the rows of given matrices.
--   Filled a n f s         the first n rows of the first a blocks of s are f
--   Joined l n k u t s     s is t with the k rows of block l of u, moved up by n, after the first n rows of that block
--   Changed l n f t s      s is t but for the first n rows of block l, which are f
--   ChangedUpTo l n f t s  s is t but for the first n rows of the blocks below l, which are f
use Rattle.std.specs.Prelude.{◌≡◌, List, ℕ, ◌+◌, ◌*◌, ◌^◌, ◌<◌, ◌≤◌, length}
use Rattle.rows.specs.Row.{width}
use Rattle.rows.specs.Table.{size, at}

pub record Filled (a n : ℕ) (f : ℕ → ℕ → ℕ) (s : List ℕ) : Type 0 where
  pub rows : (l i : ℕ) → l < a → i < n → at s l i ≡ f l i
  pub size : length s ≡ size

pub record Joined (l n k : ℕ) (u t s : List ℕ) : Type 0 where
  pub others : (x i : ℕ) → i < width → (x ≡ l → ⊥) → at s x i ≡ at t x i
  pub low : (i : ℕ) → i < n → at s l i ≡ at t l i
  pub high : (j : ℕ) → j < k → at s l (n + j) ≡ at u l j * 2 ^ n
  pub size : length s ≡ size

pub record Changed (l n : ℕ) (f : ℕ → ℕ) (t s : List ℕ) : Type 0 where
  pub others : (x i : ℕ) → i < width → (x ≡ l → ⊥) → at s x i ≡ at t x i
  pub rows : (i : ℕ) → i < n → at s l i ≡ f i
  pub rest : (i : ℕ) → n ≤ i → i < width → at s l i ≡ at t l i
  pub size : length s ≡ size

pub record ChangedUpTo (l n : ℕ) (f : ℕ → ℕ → ℕ) (t s : List ℕ) : Type 0 where
  pub rows : (x i : ℕ) → x < l → i < n → at s x i ≡ f x i
  pub rest : (x i : ℕ) → l ≤ x → i < width → at s x i ≡ at t x i
  pub size : length s ≡ size
