-- Kronecker products of rows, in numbers.
--   kron n m x y           bit p * m + q is bit p of x, which has n bits, and bit q of y, which has m
--   crossed t u n m l k    row k of letter l of the product automaton of two tables, with n and m states
use Rattle.std.specs.Prelude.{List, ℕ, ◌*◌, ◌/◌, ◌%◌, ◌^◌}
use Rattle.rows.specs.Table.{at}
use Rattle.rows.specs.Product.{product}

-- The xor of y moved up by p * m over the bits p of x.
unfoldable pub kron : ℕ → ℕ → ℕ → ℕ → ℕ
kron n m x y = product n x (λ p. y * 2 ^ (p * m))

-- State k is the pair of k / m and k % m.
abbrev pub crossed : List ℕ → List ℕ → ℕ → ℕ → ℕ → ℕ → ℕ
crossed t u n m l k = kron n m (at t l (k / m)) (at u l (k % m))
