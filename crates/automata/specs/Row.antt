-- Rows of states, for the contracts of inner functions: what a row accepts, a row times a letter's matrix, the row reached along a word.
use Rattle.std.specs.Prelude.{Bool, ◌&&◌, List, [], ◌∷◌, ℕ}
use Rattle.automata.specs.Xor.{xor_below}
use Rattle.automata.specs.Automaton.{Automaton, paths_from, odd}

-- Whether state i accepts w.
abbrev pub accepts_from : Automaton → List ℕ → ℕ → Bool
accepts_from A w i = odd (paths_from A w i)

-- Whether the row r of states accepts w.
abbrev pub row_accepts : Automaton → (ℕ → Bool) → List ℕ → Bool
row_accepts A r w = xor_below A.states (λ i. r i && accepts_from A w i)

-- The row r times the matrix of letter l.
abbrev pub times : Automaton → ℕ → (ℕ → Bool) → ℕ → Bool
times A l r j = xor_below A.states (λ i. r i && A.step l i j)

-- The row reached from r along a word.
abbrev pub reach : Automaton → (ℕ → Bool) → List ℕ → ℕ → Bool
reach A r [] = r
reach A r (l ∷ w) = reach A (times A l r) w
