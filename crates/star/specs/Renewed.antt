-- The rows of the automaton of a star, in numbers. The automaton has n states, the rows F, the initial row i and the final column f; the new
-- state is n.
--   renewed n f r M k       row k of a letter with the rows M, and where state k is final r as well; r itself is the row of the new state
--   star_rows F n i f l k   the same of letter l, r being the row that the letter reaches from the initial row
use Rattle.std.specs.Prelude.{cond, ℕ, ltb}
use Rattle.std.specs.Int.Bits.{bit_xor}
use Rattle.automata.specs.Mask.{bit_of}
use Rattle.rows.specs.Product.{product}

abbrev pub renewed : ℕ → ℕ → ℕ → (ℕ → ℕ) → ℕ → ℕ
renewed n f r M k = cond (ltb k n) (bit_xor (M k) (cond (bit_of f k) r 0)) r

abbrev pub star_rows : (ℕ → ℕ → ℕ) → ℕ → ℕ → ℕ → ℕ → ℕ → ℕ
star_rows F n i f l k = renewed n f (product n i (F l)) (F l) k
