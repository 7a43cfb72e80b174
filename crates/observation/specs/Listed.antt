-- The pivots below n, listed in rising order.
--   rank P k         how many pivots stand below k
--   pick P n j       the j-th of the pivots below n
--   Listed           what such a list has: an xor over it is one over the pivots
use Rattle.std.specs.Prelude.{◌≡◌, Bool, true, ◌&&◌, cond, ℕ, zero, suc, ◌<◌, eqb}
use Rattle.automata.specs.Xor.{xor_below}

unfoldable pub rank : (ℕ → Bool) → ℕ → ℕ
rank P zero = 0
rank P (suc k) = cond (P k) (suc (rank P k)) (rank P k)

unfoldable pub pick : (ℕ → Bool) → ℕ → ℕ → ℕ
pick P zero j = 0
pick P (suc k) j = cond (P k && eqb (rank P k) j) k (pick P k j)

pub record Listed (n : ℕ) (P : ℕ → Bool) (r : ℕ) (σ : ℕ → ℕ) : Type 0 where
  pub below : (j : ℕ) → j < r → σ j < n
  pub pivot : (j : ℕ) → j < r → P (σ j) ≡ true
  pub rising : (i j : ℕ) → i < j → j < r → σ i < σ j
  pub total : (g : ℕ → Bool) → xor_below r (λ j. g (σ j)) ≡ xor_below n (λ k. P k && g k)
