-- The table of a search: `parts` blocks of σ rows each, end to end. σ is the stride.
--   cell σ t l i        row i of block l, as a number: it stands at l * σ + i
--   bits σ t l i        its bits
--   written σ t l i v   the table with v as row i of block l
--   Room σ t            t has room for every block
use Rattle.std.specs.Prelude.{Bool, List, ℕ, ◌+◌, ◌*◌, ◌≤◌, length, get_or, set}
use Rattle.automata.specs.Mask.{bit_of}

abbrev pub parts : ℕ
parts = 3

-- How many numbers it holds where the stride is `width`.
abbrev pub basis_size : ℕ
basis_size = 192

unfoldable pub cell : ℕ → List ℕ → ℕ → ℕ → ℕ
cell σ t l i = get_or t (l * σ + i) 0

abbrev pub bits : ℕ → List ℕ → ℕ → ℕ → ℕ → Bool
bits σ t l i = bit_of (cell σ t l i)

unfoldable pub written : ℕ → List ℕ → ℕ → ℕ → ℕ → List ℕ
written σ t l i v = set t (l * σ + i) v

abbrev pub Room : ℕ → List ℕ → Type 0
Room σ t = parts * σ ≤ length t
