-- A line of products: entry l is a row times the matrix of letter l.
--   Upto a M n x s      the first a entries of s are the products of x with the matrices M of n states
--   Letters bs x s      the same of every letter of a record
--   Both bs cs x s      the same of every letter of two records side by side
--   Single x            x has at most one bit
use Rattle.std.specs.Prelude.{◌≡◌, List, ℕ, ◌+◌, ◌-◌, ◌<◌, length, get_or}
use Rattle.std.specs.Int.Bits.{bit_and}
use Rattle.rows.specs.Table.{blocks}
use Rattle.rows.specs.Product.{product}
use Rattle.rows.specs.Beside.{beside}
use Rattle.record.specs.Record.{states_of, letters_of, row_at}

abbrev pub Upto : ℕ → (ℕ → ℕ → ℕ) → ℕ → ℕ → List ℕ → Type 0
Upto a M n x s = (length s ≡ blocks) × ((l : ℕ) → l < a → get_or s l 0 ≡ product n x (M l))

abbrev pub Letters : List ℕ → ℕ → List ℕ → Type 0
Letters bs x s = Upto (letters_of bs) (row_at bs) (states_of bs) x s

abbrev pub Both : List ℕ → List ℕ → ℕ → List ℕ → Type 0
Both bs cs x s = Upto (letters_of bs) (beside (row_at bs) (row_at cs) (states_of bs)) (states_of bs + states_of cs) x s

abbrev pub Single : ℕ → Type 0
Single x = 0 < x → bit_and x (x - 1) ≡ 0
