-- Bits of the row's number exchanged with bits of the place. A matrix T has T r k at place k of row r.
--   padded n T         T with no bit in the rows from n on
--   flip b x           x with bit b changed
--   exchanged b T      bit b of the row's number and bit b of the place have traded values, at the places below width
--   lower b r          of the numbers r and flip b r, whose rows trade bits, the one without bit b
--   swapped b q T      that exchange in the rows q and flip b q alone
--   staged b o q T     that exchange in the pairs whose lower row is o or above, and below q
--   HasRows l n T s    the first n rows of block l of s are those of T
--   OnlyBlock l t s    s is a table, and differs from the table t in block l alone
--   Copied a n t s     s is a table, and has the first n rows of each of the first a blocks of t
use Rattle.std.specs.Prelude.{◌≡◌, Bool, ◌&&◌, cond, List, ℕ, ◌^◌, ◌<◌, eqb, leb, ltb, length}
use Rattle.std.specs.Int.Bits.{bit_xor}
use Rattle.automata.specs.Xor.{◌⊕◌}
use Rattle.automata.specs.Mask.{bit_of}
use Rattle.rows.specs.Row.{width}
use Rattle.rows.specs.Table.{size, at, row}

abbrev pub padded : ℕ → (ℕ → ℕ → Bool) → ℕ → ℕ → Bool
padded n T r k = ltb r n && T r k

abbrev pub flip : ℕ → ℕ → ℕ
flip b x = bit_xor x (2 ^ b)

abbrev pub exchanged : ℕ → (ℕ → ℕ → Bool) → ℕ → ℕ → Bool
exchanged b T r k = cond ((bit_of r b ⊕ bit_of k b) && ltb k width) (T (flip b r) (flip b k)) (T r k)

abbrev pub lower : ℕ → ℕ → ℕ
lower b r = cond (bit_of r b) (flip b r) r

abbrev pub swapped : ℕ → ℕ → (ℕ → ℕ → Bool) → ℕ → ℕ → Bool
swapped b q T r k = cond (eqb (lower b r) q) (exchanged b T r k) (T r k)

abbrev pub staged : ℕ → ℕ → ℕ → (ℕ → ℕ → Bool) → ℕ → ℕ → Bool
staged b o q T r k = cond (leb o (lower b r) && ltb (lower b r) q) (exchanged b T r k) (T r k)

unfoldable pub HasRows : ℕ → ℕ → (ℕ → ℕ → Bool) → List ℕ → Type 0
HasRows l n T s = (r k : ℕ) → r < n → row s l r k ≡ T r k

pub record OnlyBlock (l : ℕ) (t s : List ℕ) : Type 0 where
  pub others : (m i : ℕ) → i < width → (m ≡ l → ⊥) → at s m i ≡ at t m i
  pub size : length s ≡ size

pub record Copied (a n : ℕ) (t s : List ℕ) : Type 0 where
  pub rows : (l i : ℕ) → l < a → i < n → at s l i ≡ at t l i
  pub size : length s ≡ size
