-- Tables of the xors of rows: sixteen entries for every four rows of a matrix M, whose row i is M i.
--   groups            how many fours of rows a table has room for
--   chosen p M i      row i of M where p has bit i, else no bits
--   Gives post M      what a function can return at i, if `post` says so, is row i: M i as a number
--   Tabled k M t      in the first k groups of t, entry v is the xor of those of the four rows that the bits of v name
--   Kept k M y        y is its own product with the first k fours of rows
--   Doubled           after h entries from `at` on stand the first m of them, each with x added
--   Grouped           group g is filled
use Rattle.std.specs.Prelude.{◌≡◌, cond, List, ℕ, ◌+◌, ◌*◌, ◌<◌, length, get_or}
use Rattle.std.specs.Int.Bits.{bit_xor}
use Rattle.automata.specs.Mask.{bit_of}
use Rattle.rows.specs.declared.Row.{Row}
use Rattle.rows.specs.Row.{width, mask}
use Rattle.rows.specs.Product.{product}

abbrev pub groups : ℕ
groups = 16

abbrev pub lookup_size : ℕ
lookup_size = 256

abbrev pub chosen : ℕ → (ℕ → ℕ) → ℕ → ℕ
chosen p M i = cond (bit_of p i) (M i) 0

pub record Gives (post : ℕ → Row → Type 0) (M : ℕ → ℕ) : Type 0 where
  pub row : (i : ℕ) (r : Row) → i < width → post i r → mask r ≡ M i

-- Entry v of group g, by the rows that it takes.
abbrev pub entry : (ℕ → ℕ) → ℕ → ℕ → ℕ
entry M g v = product 4 v (λ i. M (g * 4 + i))

unfoldable pub Tabled : ℕ → (ℕ → ℕ) → List ℕ → Type 0
Tabled k M t = (g v : ℕ) → g < k → v < 16 → get_or t (g * 16 + v) 0 ≡ entry M g v

abbrev pub Kept : ℕ → (ℕ → ℕ) → ℕ → Type 0
Kept k M y = y ≡ product (k * 4) y M

pub record Doubled (at h m x : ℕ) (t s : List ℕ) : Type 0 where
  pub upper : (v : ℕ) → v < m → get_or s (at + h + v) 0 ≡ bit_xor (get_or t (at + v) 0) x
  pub lower : (i : ℕ) → i < at + h → get_or s i 0 ≡ get_or t i 0
  pub size : length s ≡ length t

pub record Grouped (g : ℕ) (M : ℕ → ℕ) (t s : List ℕ) : Type 0 where
  pub entries : (v : ℕ) → v < 16 → get_or s (g * 16 + v) 0 ≡ entry M g v
  pub lower : (i : ℕ) → i < g * 16 → get_or s i 0 ≡ get_or t i 0
  pub size : length s ≡ length t
