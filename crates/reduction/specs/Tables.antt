-- The search and the reduction as tables hold them. The automaton has the rows M, or those of the table t, n states, initial row i and
-- final column f over a letters; the basis is the table b (blocks: see the crate elimination), whose stride is σ, or `width` where none is
-- given; the products done are the table s.
--   SearchIn     the search before the pair (k, l), with d rows found and the pivots p
--   Searching    the same, the products in a table; v has every bit that a row found has
--   Searched     every pair is done, or as many rows are found as there are states; of no more than `most` rows every pair is done
--   Coefficients a table for products with the coefficients, four bits at a time
--   Counts       a whole search finds d rows
--   Reduces      s is the automaton on the rows that b holds: the list of basis words is their tree
--   ReducesUpTo  a whole search finds d rows, and s is so where these are no more than `most`
use Rattle.std.specs.Prelude.{◌≡◌, Bool, ◌&&◌, List, ◌⊎◌, ℕ, ◌*◌, ◌^◌, ◌<◌, ◌≤◌, length}
use Rattle.automata.specs.Xor.{xor_below}
use Rattle.automata.specs.Mask.{bit_of}
use Rattle.automata.specs.Automaton.{Automaton}
use Rattle.automata.specs.Tree.{Tree}
use Rattle.rows.specs.Row.{width}
use Rattle.rows.specs.Table.{size, at, row}
use Rattle.rows.specs.Machine.{auto_by, auto, Bounded}
use Rattle.basis.specs.Basis.{basis_size, cell, bits}
use Rattle.lookup.specs.Lookup.{groups, chosen, Tabled}
use Rattle.elimination.specs.Place.{Covered}
use Rattle.reduction.specs.Search.{Search}

abbrev pub SearchIn : ℕ → ℕ → (ℕ → ℕ → ℕ) → ℕ → ℕ → ℕ → List ℕ → (ℕ → ℕ → Bool) → (ℕ → ℕ) → (ℕ → ℕ) → (ℕ → ℕ → ℕ → Bool) → ℕ → ℕ → ℕ → ℕ → Type 0
SearchIn σ a M n i f b C from by S d k l p = Search a (auto_by M n i f) d k l (bit_of p) (bits σ b 1) (bits σ b 0) C from by S

-- Row r is row `from r` times letter `by r`: no table keeps them.
pub record Searching (a : ℕ) (t : List ℕ) (n i f : ℕ) (b s : List ℕ) (d k l p v : ℕ) : Type 0 where
  pub from : ℕ → ℕ
  pub by : ℕ → ℕ
  pub search : SearchIn width a (at t) n i f b (bits width b 2) from by (row s) d k l p
  pub cover : Covered width d v b
  pub base : length b ≡ basis_size
  pub out : length s ≡ size

pub record Searched (a : ℕ) (t : List ℕ) (n i f : ℕ) (b s : List ℕ) (most d p v : ℕ) : Type 0 where
  pub upto : ℕ
  pub within : upto ≤ d
  pub searching : Searching a t n i f b s d upto 0 p v
  pub enough : (upto ≡ d) ⊎ (d ≡ n)
  pub whole : d ≤ most → upto ≡ d

-- The first g groups of tab are a table of the coefficients in the basis b, at the pivots p.
pub record Coefficients (g p : ℕ) (b tab : List ℕ) : Type 0 where
  pub few : g ≤ groups
  pub all : p < 2 ^ (g * 4)
  pub tabled : Tabled g (chosen p (cell width b 2)) tab

-- Whether row r of the basis b is accepted: it shares an odd number of bits with f.
abbrev pub accepted : ℕ → ℕ → List ℕ → ℕ → ℕ → Bool
accepted σ n b f r = xor_below n (λ j. bits σ b 1 r j && bit_of f j)

-- c names those of the first d rows of the basis b that are accepted.
abbrev pub Column : ℕ → List ℕ → ℕ → ℕ → ℕ → Type 0
Column n b d f c = (k : ℕ) → k < d → bit_of c k ≡ accepted width n b f k

pub record Counts (a : ℕ) (t : List ℕ) (n i f d : ℕ) : Type 0 where
  pub reduced : Automaton
  pub rows : ℕ → ℕ → Bool
  pub from : ℕ → ℕ
  pub by : ℕ → ℕ
  pub tree : Tree a (auto t n i f) reduced d rows from by

pub record Reduces (a : ℕ) (t : List ℕ) (n i f : ℕ) (b s : List ℕ) (d i' f' : ℕ) : Type 0 where
  pub from : ℕ → ℕ
  pub by : ℕ → ℕ
  pub tree : Tree a (auto t n i f) (auto s d i' f') d (bits width b 1) from by
  pub bounded : Bounded a s d i' f'
  pub base : length b ≡ basis_size

abbrev pub ReducesUpTo : ℕ → List ℕ → ℕ → ℕ → ℕ → List ℕ → List ℕ → ℕ → ℕ → ℕ → ℕ → Type 0
ReducesUpTo a t n i f b s most d i' f' = Counts a t n i f d × (d ≤ most → Reduces a t n i f b s d i' f')
