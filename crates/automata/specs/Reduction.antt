-- What the reduction of an automaton ends in, for the contracts of inner functions: the automaton in coordinates of the rows that words reach.
use Rattle.std.specs.Prelude.{◌≡◌, Bool, true, false, ◌&&◌, List, [], ◌∷◌, ◌++◌, ℕ, ◌<◌, eqb, length, get_or}
use Rattle.automata.specs.Xor.{xor_below, comb}
use Rattle.automata.specs.Automaton.{Automaton}
use Rattle.automata.specs.Word.{Over, Shortlex, NotAfter}
use Rattle.automata.specs.Dimension.{Independent}
use Rattle.automata.specs.Row.{row_accepts, times, reach}

-- The row that A reaches along the k-th word of ts.
abbrev pub row_of : Automaton → List (List ℕ) → ℕ → ℕ → Bool
row_of A ts k = reach A A.initial (get_or ts k [])

-- An xor of those rows that accepts nothing is zero.
abbrev pub ObservableOn : ℕ → Automaton → List (List ℕ) → Type 0
ObservableOn a A ts = (c : ℕ → Bool) → ((v : List ℕ) → Over a v → row_accepts A (comb (length ts) c (row_of A ts)) v ≡ false) → (j : ℕ) → j < A.states → comb (length ts) c (row_of A ts) j ≡ false

-- B is A on the rows that the words ts reach: they are independent and span every row reached, and B's rows are coordinates in them.
pub record Spanning (a : ℕ) (A B : Automaton) (ts : List (List ℕ)) : Type 0 where
  pub over : (k : ℕ) → k < length ts → Over a (get_or ts k [])
  pub independent : Independent (λ j. j < A.states) (length ts) (row_of A ts)
  pub first : 0 < length ts → get_or ts 0 [] ≡ []
  pub empty : length ts ≡ 0 → (j : ℕ) → j < A.states → A.initial j ≡ false
  pub size : B.states ≡ length ts
  pub starts : (k : ℕ) → k < length ts → B.initial k ≡ eqb k 0
  pub ends : (k : ℕ) → k < length ts → B.final k ≡ xor_below A.states (λ j. row_of A ts k j && A.final j)
  pub rows : (l k : ℕ) → l < a → k < length ts → (j : ℕ) → j < A.states → times A l (row_of A ts k) j ≡ comb (length ts) (B.step l k) (row_of A ts) j

-- The words come in shortlex order, and a row names no word after the one that it stands for: what a first-in first-out queue gives.
pub record Reduced (a : ℕ) (A B : Automaton) (ts : List (List ℕ)) : Type 0 where
  pub spanning : Spanning a A B ts
  pub ordered : (i k : ℕ) → i < k → k < length ts → Shortlex (get_or ts i []) (get_or ts k [])
  pub causal : (l k j : ℕ) → l < a → k < length ts → j < length ts → B.step l k j ≡ true → NotAfter (get_or ts j []) (get_or ts k [] ++ (l ∷ []))
