-- Xor automata, the paths along a word, and acceptance: an odd number of paths (01: Meaning; the report's definition 11).
--   Automaton      a xor automaton of any number of states, 0 included
--   PathFrom       a path along a word from a given state
--   Path           a path along a word, its first state initial
--   path_count     the number of paths, a whole number
--   accepts        the path count is odd
use Rattle.std.specs.Prelude.{◌≡◌, Bool, true, false, not, cond, List, [], ◌∷◌, ℕ, zero, suc, ◌+◌, ◌<◌}

-- States are the numbers below `states`; nothing else is read. `step l i j`: letter l leads from state i to state j.
-- `initial` is 01's initial row I, `final` its final column F.
pub record Automaton : Type 0 where
  pub states : ℕ
  pub initial : ℕ → Bool
  pub final : ℕ → Bool
  pub step : ℕ → ℕ → ℕ → Bool

-- The states after state i: one for each letter, led to by that letter; the last one is final.
abbrev pub PathFrom : Automaton → List ℕ → ℕ → List ℕ → Type 0
PathFrom A [] i [] = A.final i ≡ true
PathFrom A [] i (j ∷ p) = ⊥
PathFrom A (l ∷ w) i [] = ⊥
PathFrom A (l ∷ w) i (j ∷ p) = (j < A.states) × (A.step l i j ≡ true) × PathFrom A w j p

-- A path along a word, as the list of its states: it starts in an initial state.
abbrev pub Path : Automaton → List ℕ → List ℕ → Type 0
Path A w [] = ⊥
Path A w (i ∷ p) = (i < A.states) × (A.initial i ≡ true) × PathFrom A w i p

-- The sum of f i for i below k.
abbrev pub sum_below : ℕ → (ℕ → ℕ) → ℕ
sum_below zero f = zero
sum_below (suc k) f = sum_below k f + f k

-- The number of paths along a word from state i.
abbrev pub paths_from : Automaton → List ℕ → ℕ → ℕ
paths_from A [] i = cond (A.final i) 1 0
paths_from A (l ∷ w) i = sum_below A.states (λ j. cond (A.step l i j) (paths_from A w j) 0)

-- The number of paths along a word (01: path count).
abbrev pub path_count : Automaton → List ℕ → ℕ
path_count A w = sum_below A.states (λ i. cond (A.initial i) (paths_from A w i) 0)

abbrev pub odd : ℕ → Bool
odd zero = false
odd (suc n) = not (odd n)

abbrev pub accepts : Automaton → List ℕ → Bool
accepts A w = odd (path_count A w)
