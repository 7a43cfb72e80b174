-- A row times a matrix over GF(2), in numbers.
--   product n x M    the xor of the rows M i over the bits i of x below n
use Rattle.std.specs.Prelude.{cond, ℕ, zero, suc}
use Rattle.std.specs.Int.Bits.{bit_xor}
use Rattle.automata.specs.Mask.{bit_of}

unfoldable pub product : ℕ → ℕ → (ℕ → ℕ) → ℕ
product zero x M = 0
product (suc n) x M = bit_xor (product n x M) (cond (bit_of x n) (M n) 0)
