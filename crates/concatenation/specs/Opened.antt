-- The rows of an automaton, and where a row ends a word another row as well, in numbers. The automaton has n states and the final column f.
--   ends_in n f x                the row x ends a word: it has an odd number of final states
--   opened n f start x           x, and where it ends a word the row start as well
--   opened_rows n f start F l k  the same of the row of letter l and state k
use Rattle.std.specs.Prelude.{Bool, ◌&&◌, cond, ℕ}
use Rattle.std.specs.Int.Bits.{bit_xor}
use Rattle.automata.specs.Xor.{xor_below}
use Rattle.automata.specs.Mask.{bit_of}

abbrev pub ends_in : ℕ → ℕ → ℕ → Bool
ends_in n f x = xor_below n (λ k. bit_of x k && bit_of f k)

abbrev pub opened : ℕ → ℕ → ℕ → ℕ → ℕ
opened n f start x = bit_xor x (cond (ends_in n f x) start 0)

abbrev pub opened_rows : ℕ → ℕ → ℕ → (ℕ → ℕ → ℕ) → ℕ → ℕ → ℕ
opened_rows n f start F l k = opened n f start (F l k)
