-- Tables of rows, by the numbers that stand in them: `blocks` blocks of `width` rows each.
--   at t l i           row i of block l, as a number
--   row t l i          its bits
--   stored t l i v     the table with v as row i of block l
--   size               how many numbers a table holds
use Rattle.std.specs.Prelude.{Bool, List, ℕ, ◌+◌, ◌*◌, get_or, set}
use Rattle.automata.specs.Mask.{bit_of}

-- As many as there can be letters.
abbrev pub blocks : ℕ
blocks = 8

abbrev pub size : ℕ
size = 512

unfoldable pub at : List ℕ → ℕ → ℕ → ℕ
at t l i = get_or t (l * 64 + i) 0

abbrev pub row : List ℕ → ℕ → ℕ → ℕ → Bool
row t l i = bit_of (at t l i)

unfoldable pub stored : List ℕ → ℕ → ℕ → ℕ → List ℕ
stored t l i v = set t (l * 64 + i) v
