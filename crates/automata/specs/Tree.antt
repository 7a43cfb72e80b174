-- The reduction's result as a program holds it: rows, and for each row but the first the row and the letter that it came from.
-- The basis words are read off that tree; none is stored.
use Rattle.std.specs.Prelude.{◌≡◌, Bool, true, ◌&&◌, cond, false, ◌⊎◌, List, [], ◌∷◌, ◌++◌, ℕ, zero, suc, ◌<◌, eqb}
use Rattle.automata.specs.Xor.{xor_below, comb}
use Rattle.automata.specs.Automaton.{Automaton}
use Rattle.automata.specs.Dimension.{Independent}
use Rattle.automata.specs.Row.{times}

-- The word that leads to row r: at most `fuel` letters.
abbrev pub word_up : (ℕ → ℕ) → (ℕ → ℕ) → ℕ → ℕ → List ℕ
word_up from by zero r = []
word_up from by (suc fuel) r = cond (eqb r 0) [] (word_up from by fuel (from r) ++ (by r ∷ []))

abbrev pub word_to : (ℕ → ℕ) → (ℕ → ℕ) → ℕ → List ℕ
word_to from by r = word_up from by r r

-- The words of the first d rows.
abbrev pub words_to : (ℕ → ℕ) → (ℕ → ℕ) → ℕ → List (List ℕ)
words_to from by zero = []
words_to from by (suc d) = words_to from by d ++ (word_to from by d ∷ [])

-- The pair (row i, letter x) is taken before (row k, letter l).
abbrev pub Done : ℕ → ℕ → ℕ → ℕ → Type 0
Done k l i x = (i < k) ⊎ ((i ≡ k) × (x < l))

pub record Tree (a : ℕ) (A B : Automaton) (d : ℕ) (R : ℕ → ℕ → Bool) (from by : ℕ → ℕ) : Type 0 where
  -- Row 0 is the initial row; there is none only if that is zero.
  pub root : 0 < d → (j : ℕ) → j < A.states → R 0 j ≡ A.initial j
  pub empty : d ≡ 0 → (j : ℕ) → j < A.states → A.initial j ≡ false
  -- Row r is row `from r` times letter `by r`; the pairs rise with r.
  pub parent : (r : ℕ) → 0 < r → r < d → from r < r
  pub letter : (r : ℕ) → 0 < r → r < d → by r < a
  pub child : (r : ℕ) → 0 < r → r < d → (j : ℕ) → j < A.states → R r j ≡ times A (by r) (R (from r)) j
  pub order : (i k : ℕ) → 0 < i → i < k → k < d → Done (from k) (by k) (from i) (by i)
  pub independent : Independent (λ j. j < A.states) d R
  -- B is A in these coordinates, and a row names no row that came from a later pair.
  pub size : B.states ≡ d
  pub starts : (k : ℕ) → k < d → B.initial k ≡ eqb k 0
  pub ends : (k : ℕ) → k < d → B.final k ≡ xor_below A.states (λ j. R k j && A.final j)
  pub rows : (l k : ℕ) → l < a → k < d → (j : ℕ) → j < A.states → times A l (R k) j ≡ comb d (B.step l k) R j
  pub early : (l k r : ℕ) → l < a → k < d → r < d → B.step l k r ≡ true → (r ≡ 0) ⊎ Done k (suc l) (from r) (by r)
