-- The search for a basis of the rows that words reach, in whatever order the rows found are tried. The automaton has the rows of the table
-- t, n states, initial row i and final column f over a letters; the basis is the table b with d rows found and the pivots p, and v has
-- every bit that a row found has.
--   along A w    the row that A reaches along the word w, read from its end
--   Spanned      y is an xor of the rows found, in its first n bits
--   Tried        so is row k times every letter below a
--   Found        the rows found are independent, words reach them, and the initial row is an xor of them
--   Grown        rows found stay, and what was an xor of them still is one
--   Expanded     what is left once row k is tried
--   Explored     every row is tried, or as many rows are found as there are states
-- FoundBy, ExpandedBy and ExploredBy say the same of the automaton that stands in a lent table, and of the size of the basis.
use Rattle.std.specs.Prelude.{◌≡◌, Bool, false, List, [], ◌∷◌, ◌⊎◌, ℕ, ◌<◌, ◌≤◌, length}
use Rattle.automata.specs.Xor.{comb}
use Rattle.automata.specs.Automaton.{Automaton}
use Rattle.automata.specs.Mask.{bit_of}
use Rattle.automata.specs.Row.{times}
use Rattle.automata.specs.Word.{Over}
use Rattle.rows.specs.declared.source.Source.{Source}
use Rattle.rows.specs.Row.{width, mask}
use Rattle.rows.specs.Table.{at}
use Rattle.rows.specs.Product.{product}
use Rattle.rows.specs.Machine.{auto}
use Rattle.basis.specs.Basis.{basis_size, cell, bits}
use Rattle.elimination.specs.declared.Size.{Size}
use Rattle.elimination.specs.Place.{BasisIn, Covered}

abbrev pub along : Automaton → List ℕ → ℕ → Bool
along A [] = A.initial
along A (l ∷ w) = times A l (along A w)

pub record Spanned (n : ℕ) (b : List ℕ) (d : ℕ) (y : ℕ → Bool) : Type 0 where
  pub coef : ℕ → Bool
  pub short : (r : ℕ) → d ≤ r → coef r ≡ false
  pub sum : (j : ℕ) → j < n → y j ≡ comb d coef (bits width b 1) j

abbrev pub Tried : ℕ → List ℕ → ℕ → List ℕ → ℕ → ℕ → Type 0
Tried a t n b d k = (l : ℕ) → l < a → Spanned n b d (bit_of (product n (cell width b 1 k) (at t l)))

pub record Found (a : ℕ) (t : List ℕ) (n i f : ℕ) (b : List ℕ) (d p v : ℕ) : Type 0 where
  pub coef : ℕ → ℕ → Bool
  pub basis : BasisIn width n d p coef b
  pub word : ℕ → List ℕ
  pub over : (r : ℕ) → r < d → Over a (word r)
  pub reached : (r : ℕ) → r < d → (j : ℕ) → j < n → bits width b 1 r j ≡ along (auto t n i f) (word r) j
  pub start : Spanned n b d (bit_of i)
  pub cover : Covered width d v b
  pub base : length b ≡ basis_size

pub record Grown (n : ℕ) (b : List ℕ) (d : ℕ) (b' : List ℕ) (d' : ℕ) : Type 0 where
  pub more : d ≤ d'
  pub kept : (r : ℕ) → r < d → cell width b' 1 r ≡ cell width b 1 r
  pub spanned : (y : ℕ → Bool) → Spanned n b d y → Spanned n b' d' y

pub record Expanded (a : ℕ) (t : List ℕ) (n i f : ℕ) (b : List ℕ) (d k : ℕ) (b' : List ℕ) (d' p' v' : ℕ) : Type 0 where
  pub found : Found a t n i f b' d' p' v'
  pub grown : Grown n b d b' d'
  pub tried : Tried a t n b' d' k

pub record Explored (a : ℕ) (t : List ℕ) (n i f : ℕ) (b : List ℕ) (d p v : ℕ) : Type 0 where
  pub found : Found a t n i f b d p v
  pub enough : ((k : ℕ) → k < d → Tried a t n b d k) ⊎ (d ≡ n)

abbrev pub FoundBy : Source → List ℕ → Size → Type 0
FoundBy x b s = let m = x.machine in Found m.letters x.table.now m.states (mask m.initial) (mask m.finals) b s.count (mask s.pivots) (mask s.used)

abbrev pub ExpandedBy : Source → List ℕ → ℕ → ℕ → List ℕ → Size → Type 0
ExpandedBy x b d k b' s = let m = x.machine in Expanded m.letters x.table.now m.states (mask m.initial) (mask m.finals) b d k b' s.count (mask s.pivots) (mask s.used)

abbrev pub ExploredBy : Source → List ℕ → Size → Type 0
ExploredBy x b s = let m = x.machine in Explored m.letters x.table.now m.states (mask m.initial) (mask m.finals) b s.count (mask s.pivots) (mask s.used)
