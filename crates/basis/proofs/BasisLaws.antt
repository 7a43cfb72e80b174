-- Where the rows of a basis stand, and reading it after a store.
use mathlib.Core.Path.{◌≡◌, sym}
use mathlib.Core.List.{List}
use Prim.Native.Nat.{ℕ, ◌+◌, ◌*◌, ◌^◌, ◌<◌, ◌≤◌}
use native.Mathlib.Nat.{lt_of_le_of_lt, mul-le-mul_right, suc-mul}
use native.Mathlib.Decide.{dec_lt}
use native.Mathlib.Omega.{arith}
use lib.ListN.{length, length-set}
use lib.Seq.{get_or-set_same, get_or-set_other}
use lib.Count.{count_trailing_zeros}
use Rattle.rows.proofs.BitLaws.{bit_below}
use Rattle.rows.proofs.LowestBit.{lowest_set}
use Rattle.basis.specs.Basis.{parts, cell, written, Room}

-- A row of one block stands below the block after it.
next_block : (σ l m : ℕ) → l < m → l * σ + σ ≤ m * σ
next_block σ l m h = omega (arith, mul-le-mul_right σ h, suc-mul l σ)

-- Every block has its place, and so has every row of it.
pub block_inside : (σ l : ℕ) (t : List ℕ) → Room σ t → l < parts → l * σ + σ ≤ length t
block_inside σ l t room h = omega (arith, next_block σ l parts h)

pub inside : (σ l i : ℕ) (t : List ℕ) → Room σ t → l < parts → i < σ → l * σ + i < length t
inside σ l i t room h g = omega (arith, block_inside σ l t room h)

-- So has the row at the lowest bit of z, which is at most x; w is any bound on the bits of z.
pub lowest_inside : (σ l x w z : ℕ) (t : List ℕ) → Room σ t → l < parts → x < 2 ^ σ → 0 < z → z ≤ x → z < 2 ^ w → l * σ + count_trailing_zeros w z < length t
lowest_inside σ l x w z t room h low p le f =
    inside σ l (count_trailing_zeros w z) t room h (bit_below σ (lt_of_le_of_lt le low) (count_trailing_zeros w z) (lowest_set w z p f).1)

-- Rows of two blocks have two places.
apart : (σ l i m j : ℕ) → i < σ → j < σ → (l ≡ m → ⊥) → l * σ + i ≡ m * σ + j → ⊥
apart σ l i m j h g d e = go (dec_lt l m)
  where
    go : Dec (l < m) → ⊥
    go (yes p) = omega (arith, next_block σ l m p)
    go (no p) = let q : m < l = omega (arith, d) in omega (arith, next_block σ m l q)

pub written_length : (σ : ℕ) (t : List ℕ) (l i v : ℕ) → length (written σ t l i v) ≡ length t
unfolding written
written_length σ t l i v = simp length-set

pub written_same : (σ : ℕ) (t : List ℕ) (l i v : ℕ) → Room σ t → l < parts → i < σ → cell σ (written σ t l i v) l i ≡ v
unfolding cell written
written_same σ t l i v room h g = get_or-set_same t (l * σ + i) v 0 (inside σ l i t room h g)

elsewhere : (σ : ℕ) (t : List ℕ) (l i v m j : ℕ) → (l * σ + i ≡ m * σ + j → ⊥) → cell σ (written σ t l i v) m j ≡ cell σ t m j
unfolding cell written
elsewhere σ t l i v m j h = get_or-set_other t (l * σ + i) (m * σ + j) v 0 (λ e. h (sym e))

-- Rows of other blocks stay.
pub written_block : (σ : ℕ) (t : List ℕ) (l i v m j : ℕ) → i < σ → j < σ → (l ≡ m → ⊥) → cell σ (written σ t l i v) m j ≡ cell σ t m j
written_block σ t l i v m j h g d = elsewhere σ t l i v m j (apart σ l i m j h g d)

-- So do the other rows of the block.
pub written_row : (σ : ℕ) (t : List ℕ) (l i v j : ℕ) → (i ≡ j → ⊥) → cell σ (written σ t l i v) l j ≡ cell σ t l j
written_row σ t l i v j d = elsewhere σ t l i v l j (λ e. d (omega arith))
