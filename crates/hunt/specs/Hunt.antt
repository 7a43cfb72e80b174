-- The search for the first accepted row, which stops there. The automaton has the rows M, n states, initial row i and final column f over
-- a letters; the basis is the table b with the stride σ, the trail w.
--   shared      whether two rows of n bits share an odd number of them
--   Hunting     no row found is accepted; the next pair is row k by letter l
--   Stopped     row r, which is x, is the first row found that is accepted
--   Hunted      what a step of the search comes to, from d rows on
--   Started     the initial row i is placed in the empty basis
-- HuntingIn, HuntedIn and EndedIn say Hunting, Hunted and Ended of two records side by side: m has their sizes, initial row and final column.
use Rattle.std.specs.Prelude.{◌≡◌, Bool, true, false, ◌&&◌, List, ℕ, ◌<◌, ◌≤◌, length}
use Rattle.std.specs.declared.ops.ControlFlow.{ControlFlow}
use Rattle.std.specs.declared.ops.ControlFlow.TheVariants.{Continue, Break}
use Rattle.automata.specs.Xor.{xor_below}
use Rattle.automata.specs.Mask.{bit_of}
use Rattle.rows.specs.declared.Machine.{Machine}
use Rattle.rows.specs.Row.{mask}
use Rattle.rows.specs.Machine.{auto_by}
use Rattle.basis.specs.Basis.{Room}
use Rattle.trail.specs.declared.Step.{Step}
use Rattle.trail.specs.Trail.{trail_size, from_in, by_in}
use Rattle.elimination.specs.declared.Size.{Size}
use Rattle.elimination.specs.Place.{Covered, Placed}
use Rattle.reduction.specs.Search.{Search}
use Rattle.reduction.specs.Tables.{SearchIn, accepted}
use Rattle.hunt.specs.Both.{beside_of}
use Rattle.hunt.specs.declared.Found.{Found}

-- What the search comes to: it goes on from the rows found, or breaks off at the first accepted one.
abbrev pub Hunt : Type 0
Hunt = ControlFlow Found Size

abbrev pub shared : ℕ → ℕ → ℕ → Bool
shared n x y = xor_below n (λ j. bit_of x j && bit_of y j)

-- The coefficients and the products done are in no table: `coef` and `made` name them.
pub record Hunting (σ a : ℕ) (M : ℕ → ℕ → ℕ) (n i f : ℕ) (b : List ℕ) (w : List Step) (d k l p v : ℕ) : Type 0 where
  pub coef : ℕ → ℕ → Bool
  pub made : ℕ → ℕ → ℕ → Bool
  pub search : SearchIn σ a M n i f b coef (from_in w) (by_in w) made d k l p
  pub cover : Covered σ d v b
  pub base : Room σ b
  pub fits : n ≤ σ
  pub trail : length w ≡ trail_size
  pub none : (r : ℕ) → r < d → accepted σ n b f r ≡ false

-- The row is not added to b: the rows found, with this one, their basis and the products done are on paper.
pub record Stopped (a : ℕ) (M : ℕ → ℕ → ℕ) (n i f : ℕ) (w : List Step) (r x : ℕ) : Type 0 where
  pub pivots : ℕ → Bool
  pub rows : ℕ → ℕ → Bool
  pub base : ℕ → ℕ → Bool
  pub coef : ℕ → ℕ → Bool
  pub made : ℕ → ℕ → ℕ → Bool
  pub count : ℕ
  pub upto : ℕ
  pub next : ℕ
  pub search : Search a (auto_by M n i f) count upto next pivots rows base coef (from_in w) (by_in w) made
  pub inside : (r < count) × (upto < count) × (next ≤ a)
  pub row : (j : ℕ) → rows r j ≡ bit_of x j
  pub found : shared n x f ≡ true
  pub first : (q : ℕ) → q < r → xor_below n (λ j. rows q j && bit_of f j) ≡ false

abbrev pub Hunted : ℕ → ℕ → (ℕ → ℕ → ℕ) → ℕ → ℕ → ℕ → List ℕ → List Step → ℕ → ℕ → ℕ → Hunt → Type 0
Hunted σ a M n i f b w d k l (Continue s) = Hunting σ a M n i f b w s.count k l (mask s.pivots) (mask s.used) × (d ≤ s.count)
Hunted σ a M n i f b w d k l (Break x) = Stopped a M n i f w x.number (mask x.row)

-- Every pair is done, or the search stopped.
abbrev pub Ended : ℕ → ℕ → (ℕ → ℕ → ℕ) → ℕ → ℕ → ℕ → List ℕ → List Step → Hunt → Type 0
Ended σ a M n i f b w (Continue s) = Hunting σ a M n i f b w s.count s.count 0 (mask s.pivots) (mask s.used)
Ended σ a M n i f b w (Break x) = Stopped a M n i f w x.number (mask x.row)

pub record Started (σ n i : ℕ) (b b' : List ℕ) (d p v : ℕ) : Type 0 where
  pub coef : ℕ → ℕ → Bool
  pub coef' : ℕ → ℕ → Bool
  pub made : ℕ → Bool
  pub placed : Placed σ n 0 0 0 i coef coef' made b b' d p v

abbrev pub HuntingIn : ℕ → List ℕ → List ℕ → Machine → List ℕ → List Step → Size → ℕ → ℕ → Type 0
HuntingIn σ bs cs m b w s k l = Hunting σ m.letters (beside_of bs cs) m.states (mask m.initial) (mask m.finals) b w s.count k l (mask s.pivots) (mask s.used)

abbrev pub HuntedIn : ℕ → List ℕ → List ℕ → Machine → List ℕ → List Step → ℕ → ℕ → ℕ → Hunt → Type 0
HuntedIn σ bs cs m b w d k l r = Hunted σ m.letters (beside_of bs cs) m.states (mask m.initial) (mask m.finals) b w d k l r

abbrev pub EndedIn : ℕ → List ℕ → List ℕ → Machine → List ℕ → List Step → Hunt → Type 0
EndedIn σ bs cs m b w r = Ended σ m.letters (beside_of bs cs) m.states (mask m.initial) (mask m.finals) b w r
