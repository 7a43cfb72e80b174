-- A triangular basis e with the pivots p, and the rows that it spans. Y are rows as bits; a span is taken of the first d of them, on the
-- first n bits.
--   InSpan n d Y v          v is an xor of some of them
--   Spanned n d Y p e       so is every basis row
--   Triangular p e          the basis row of a pivot has it as its highest bit
--   Inserted p e y r f      e with y is the basis f, with the pivots r
use Rattle.std.specs.Prelude.{◌≡◌, Bool, true, List, ℕ, ◌+◌, ◌^◌, ◌≤◌, ◌<◌, length, get_or}
use Rattle.automata.specs.Xor.{comb}
use Rattle.automata.specs.Mask.{bit_of}

abbrev pub InSpan : ℕ → ℕ → (ℕ → ℕ → Bool) → ℕ → Type 0
InSpan n d Y v = (c : ℕ → Bool) × ((j : ℕ) → j < n → bit_of v j ≡ comb d c Y j)

abbrev pub Spanned : ℕ → ℕ → (ℕ → ℕ → Bool) → ℕ → List ℕ → Type 0
Spanned n d Y p e = (q : ℕ) → bit_of p q ≡ true → InSpan n d Y (get_or e q 0)

abbrev pub Triangular : ℕ → List ℕ → Type 0
Triangular p e = (q : ℕ) → bit_of p q ≡ true → (q < length e) × (2 ^ q ≤ get_or e q 0) × (get_or e q 0 < 2 ^ (q + 1))

pub record Inserted (p : ℕ) (e : List ℕ) (y r : ℕ) (f : List ℕ) : Type 0 where
  pub shape : Triangular r f
  pub size : length f ≡ length e
  -- A span that has the basis rows, and y, has them after it.
  pub span : (n d : ℕ) (Y : ℕ → ℕ → Bool) → Spanned n d Y p e → InSpan n d Y y → Spanned n d Y r f
  -- Where no pivot is new, every span that has the basis rows has y.
  pub old : r ≡ p → (n d : ℕ) (Y : ℕ → ℕ → Bool) → Spanned n d Y p e → InSpan n d Y y
