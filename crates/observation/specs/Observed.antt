-- The columns of an automaton that words reach, by a reduced basis, and the automaton folded onto the pivots of that basis.
-- The column of a word names the states that accept it; a row accepts the word if it shares an odd number of bits with the column.
--   Observed       what the search over the mirror finds
--   folded         a row in coordinates of the pivots, such that it accepts the same words
--   folded_of      the automaton on the pivots, with every row folded
use Rattle.std.specs.Prelude.{◌≡◌, Bool, true, false, ◌&&◌, List, ℕ, ◌<◌, eqb}
use Rattle.automata.specs.Xor.{xor_below}
use Rattle.automata.specs.Automaton.{Automaton}
use Rattle.automata.specs.Word.{Over}
use Rattle.automata.specs.Row.{accepts_from, row_accepts}
use Rattle.elimination.specs.Echelon.{onto}

-- What the search over the mirror finds: for the pivots P the basis rows E of the columns that words reach.
pub record Observed (a : ℕ) (A : Automaton) (P : ℕ → Bool) (E : ℕ → ℕ → Bool) : Type 0 where
  -- Among the pivots, a basis row has its own alone.
  pub unit : (i j : ℕ) → i < A.states → j < A.states → P i ≡ true → P j ≡ true → E i j ≡ eqb i j
  -- The column of a word is the xor of the basis rows at its pivots.
  pub span : (v : List ℕ) → Over a v → (i : ℕ) → i < A.states → accepts_from A v i ≡ onto A.states P E (accepts_from A v) i
  -- A row that accepts nothing shares an even number of bits with every basis row.
  pub seen : (r : ℕ → Bool) → ((v : List ℕ) → Over a v → row_accepts A r v ≡ false) → (j : ℕ) → j < A.states → P j ≡ true → xor_below A.states (λ i. r i && E j i) ≡ false

-- Bit j of a folded row: whether the row r shares an odd number of bits with the basis row of the j-th pivot, σ j.
abbrev pub folded : ℕ → (ℕ → ℕ → Bool) → (ℕ → ℕ) → (ℕ → Bool) → ℕ → Bool
folded n E σ r j = xor_below n (λ i. r i && E (σ j) i)

-- The automaton on the d pivots that σ lists, every row folded: it accepts the same words.
abbrev pub folded_of : Automaton → (ℕ → ℕ → Bool) → ℕ → (ℕ → ℕ) → Automaton
folded_of A E d σ = record { states = d; initial = folded A.states E σ A.initial; final = λ j. A.final (σ j); step = λ l j. folded A.states E σ (A.step l (σ j)) }
