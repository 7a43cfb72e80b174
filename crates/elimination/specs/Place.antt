-- A table as a reduced basis, and a row placed in it. Block 0 holds the basis rows by pivot, block 1 the rows found. C j names the rows
-- found that make the basis row of the pivot j; it stands in block 2 where coefficients are kept. The stride of the table is σ.
--   BasisIn σ n d p C t    t holds d rows found, of n bits, with the pivots p
--   Covered σ d v t        v has every bit that one of the d rows found has
--   LeftOf σ p y t x       x is what is left of y when the basis rows at its pivots are taken off
--   Placed                 y is an xor of rows found (Old), or one more of them (New)
use Rattle.std.specs.Prelude.{◌≡◌, Bool, true, false, ◌&&◌, List, ◌⊎◌, ℕ, suc, ◌^◌, ◌<◌, ◌≤◌, length, eqb}
use Rattle.std.specs.Int.Bits.{bit_and, bit_xor}
use Rattle.automata.specs.Xor.{◌⊕◌, comb}
use Rattle.automata.specs.Mask.{bit_of}
use Rattle.rows.specs.Product.{product}
use Rattle.basis.specs.Basis.{cell, bits}
use Rattle.elimination.specs.Echelon.{Echelon}

abbrev pub BasisIn : ℕ → ℕ → ℕ → ℕ → (ℕ → ℕ → Bool) → List ℕ → Type 0
BasisIn σ n d p C t = Echelon n d (bit_of p) (bits σ t 1) (bits σ t 0) C

abbrev pub Covered : ℕ → ℕ → ℕ → List ℕ → Type 0
Covered σ d v t = (i k : ℕ) → i < d → bit_of v k ≡ false → bits σ t 1 i k ≡ false

-- However many bits n it has.
abbrev pub LeftOf : ℕ → ℕ → ℕ → List ℕ → ℕ → Type 0
LeftOf σ p y t x = (n : ℕ) → y < 2 ^ n → x ≡ bit_xor y (product n (bit_and y p) (cell σ t 0))

-- Where v lacks bit q, so do the basis rows.
abbrev pub Unused : ℕ → ℕ → ℕ → ℕ → ℕ → List ℕ → Type 0
Unused σ n p v q t = (j : ℕ) → j < n → bit_of p j ≡ true → bit_of v q ≡ false → bits σ t 0 j q ≡ false

-- Among these rows, those of block l whose neighbours in block 0 have bit q gain x; other blocks stay.
pub record Folded (σ : ℕ) (Among : ℕ → Type 0) (l q x : ℕ) (t s : List ℕ) : Type 0 where
  pub rows : (j : ℕ) → Among j → (k : ℕ) → bits σ s l j k ≡ bits σ t l j k ⊕ (bits σ t 0 j q && bit_of x k)
  pub other : (m i : ℕ) → (m ≡ l → ⊥) → i < σ → cell σ s m i ≡ cell σ t m i
  pub size : length s ≡ length t

-- Row y is found next; x, its part outside the basis, goes to the basis rows that have its pivot q, and is the basis row of q.
pub record Added (σ n d p q x y : ℕ) (t s : List ℕ) : Type 0 where
  pub base_old : (j : ℕ) → j < n → bit_of p j ≡ true → (j ≡ q → ⊥) → (k : ℕ) → bits σ s 0 j k ≡ bits σ t 0 j k ⊕ (bits σ t 0 j q && bit_of x k)
  pub base_new : cell σ s 0 q ≡ x
  pub row_old : (i : ℕ) → i < d → cell σ s 1 i ≡ cell σ t 1 i
  pub row_new : cell σ s 1 d ≡ y
  pub other : (l i : ℕ) → 1 < l → i < σ → cell σ s l i ≡ cell σ t l i
  pub size : length s ≡ length t

-- y is the xor of the rows of c, and nothing changes.
pub record Old (σ d p v y : ℕ) (C C' : ℕ → ℕ → Bool) (c : ℕ → Bool) (t s : List ℕ) (d' p' v' : ℕ) : Type 0 where
  pub count : d' ≡ d
  pub pivots : p' ≡ p
  pub used : v' ≡ v
  pub table : s ≡ t
  pub coef : C' ≡ C
  pub sum : (k : ℕ) → bit_of y k ≡ comb d c (bits σ t 1) k
  pub short : (i : ℕ) → d ≤ i → c i ≡ false

-- y is one more row.
pub record New (σ n d y : ℕ) (C' : ℕ → ℕ → Bool) (c : ℕ → Bool) (t s : List ℕ) (d' p' v' : ℕ) : Type 0 where
  pub count : d' ≡ suc d
  pub room : d < n
  pub basis : BasisIn σ n (suc d) p' C' s
  pub cover : Covered σ (suc d) v' s
  pub own : (i : ℕ) → c i ≡ eqb i d
  pub size : length s ≡ length t
  pub row_old : (i : ℕ) → i < d → cell σ s 1 i ≡ cell σ t 1 i
  pub row_new : cell σ s 1 d ≡ y

-- c names the rows found that make y.
abbrev pub Placed : ℕ → ℕ → ℕ → ℕ → ℕ → ℕ → (ℕ → ℕ → Bool) → (ℕ → ℕ → Bool) → (ℕ → Bool) → List ℕ → List ℕ → ℕ → ℕ → ℕ → Type 0
Placed σ n d p v y C C' c t s d' p' v' = Old σ d p v y C C' c t s d' p' v' ⊎ New σ n d y C' c t s d' p' v'
