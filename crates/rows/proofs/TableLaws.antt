-- Reading a table after a store.
use mathlib.Core.Path.{◌≡◌, sym}
use mathlib.Core.List.{List}
use Prim.Native.Nat.{ℕ, ◌+◌, ◌*◌, ◌<◌}
use native.Mathlib.Omega.{arith}
use lib.ListN.{length, length-set}
use lib.Seq.{get_or-set_same, get_or-set_other}
use Rattle.rows.specs.Row.{width}
use Rattle.rows.specs.Table.{blocks, size, at, stored}

pub length_stored : (t : List ℕ) (l i v : ℕ) → length (stored t l i v) ≡ length t
unfolding stored
length_stored t l i v = simp length-set

pub stored_same : (t : List ℕ) (l i v : ℕ) → length t ≡ size → l < blocks → i < width → at (stored t l i v) l i ≡ v
unfolding at stored
stored_same t l i v s h g = get_or-set_same t (l * 64 + i) v 0 (omega arith)

elsewhere : (t : List ℕ) (l i v m j : ℕ) → (l * 64 + i ≡ m * 64 + j → ⊥) → at (stored t l i v) m j ≡ at t m j
unfolding at stored
elsewhere t l i v m j h = get_or-set_other t (l * 64 + i) (m * 64 + j) v 0 (λ e. h (sym e))

-- Any other row stays: one of another block, or another row of the block.
pub stored_other : (t : List ℕ) (l i v m j : ℕ) → i < width → j < width → ((l ≡ m) × (i ≡ j) → ⊥) → at (stored t l i v) m j ≡ at t m j
stored_other t l i v m j h g d = elsewhere t l i v m j (λ e. d (omega arith, omega arith))

pub stored_block : (t : List ℕ) (l i v m j : ℕ) → i < width → j < width → (l ≡ m → ⊥) → at (stored t l i v) m j ≡ at t m j
stored_block t l i v m j h g d = stored_other t l i v m j h g (λ e. d e.0)

pub stored_row : (t : List ℕ) (l i v j : ℕ) → (i ≡ j → ⊥) → at (stored t l i v) l j ≡ at t l j
stored_row t l i v j d = elsewhere t l i v l j (λ e. d (omega arith))
