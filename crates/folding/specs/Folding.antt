-- Rows of n bits folded onto the pivots p of a basis b, whose block 0 has the basis row of each pivot: the j-th pivot becomes state j.
--   UnitAt n p b           among the pivots, a basis row has its own alone
--   LowAt n p b            basis rows have n bits
--   FoldedTo l k .. t s    in block l of s, the rows of the pivots below k stand one after another, each times the matrix that the first g
--                          groups of tab are of; t is what s was
--   FoldedBlocks a ..      so in the first a blocks, up to row n
--   Folds a A p b s ..     the table s with d states holds the automaton A folded
use Rattle.std.specs.Prelude.{◌≡◌, true, List, ℕ, ◌*◌, ◌^◌, ◌<◌, ◌≤◌, eqb, length}
use Rattle.automata.specs.Automaton.{Automaton}
use Rattle.automata.specs.Mask.{bit_of}
use Rattle.automata.specs.Minimal.{SameBits}
use Rattle.rows.specs.Row.{width}
use Rattle.rows.specs.Table.{size, at}
use Rattle.rows.specs.Product.{product}
use Rattle.rows.specs.Machine.{auto, Bounded}
use Rattle.basis.specs.Basis.{cell, bits}
use Rattle.lookup.specs.Lookup.{Tabled}
use Rattle.transpose.specs.Exchange.{OnlyBlock}
use Rattle.observation.specs.Listed.{rank, pick, Listed}
use Rattle.observation.specs.Observed.{folded_of}

abbrev pub UnitAt : ℕ → ℕ → List ℕ → Type 0
UnitAt n p b = (i j : ℕ) → i < n → j < n → bit_of p i ≡ true → bit_of p j ≡ true → bits width b 0 i j ≡ eqb i j

abbrev pub LowAt : ℕ → ℕ → List ℕ → Type 0
LowAt n p b = (k : ℕ) → k < n → bit_of p k ≡ true → cell width b 0 k < 2 ^ n

pub record FoldedTo (l k p g : ℕ) (tab t s : List ℕ) : Type 0 where
  pub rows : (M : ℕ → ℕ) → Tabled g M tab → (j : ℕ) → j < rank (bit_of p) k → at s l j ≡ product (g * 4) (at t l (pick (bit_of p) k j)) M
  pub rest : (i : ℕ) → k ≤ i → i < width → at s l i ≡ at t l i
  pub only : OnlyBlock l t s

pub record FoldedBlocks (a n p g : ℕ) (tab t s : List ℕ) : Type 0 where
  pub rows : (M : ℕ → ℕ) → Tabled g M tab → (l j : ℕ) → l < a → j < rank (bit_of p) n → at s l j ≡ product (g * 4) (at t l (pick (bit_of p) n j)) M
  pub rest : (l i : ℕ) → a ≤ l → i < width → at s l i ≡ at t l i
  pub size : length s ≡ size

pub record Folds (a : ℕ) (A : Automaton) (p : ℕ) (b s : List ℕ) (d i f : ℕ) : Type 0 where
  pub σ : ℕ → ℕ
  pub listed : Listed A.states (bit_of p) d σ
  pub bounded : Bounded a s d i f
  pub same : SameBits a (auto s d i f) (folded_of A (bits width b 0) d σ)
