-- The minimal automaton of a language (01: Minimal record; the report's definition 10, its union read as xor).
--   AllBasis a L bs      bs lists the basis words of L, each once, in shortlex order
--   Minimal a L A bs     A has one state for each word of bs, in order. For the empty language there is none.
--   SameBits a A B       the same states, and the same bits wherever bits are read
use Rattle.std.specs.Prelude.{◌≡◌, List, [], ◌∷◌, ◌++◌, ℕ, ◌<◌, eqb, length, get_or}
use Rattle.automata.specs.Xor.{comb}
use Rattle.automata.specs.Automaton.{Automaton}
use Rattle.automata.specs.Word.{Shortlex}
use Rattle.automata.specs.Language.{Language, quotient, Same}
use Rattle.automata.specs.Dimension.{Basis, quotients}

pub record AllBasis (a : ℕ) (L : Language) (bs : List (List ℕ)) : Type 0 where
  pub basis : (k : ℕ) → k < length bs → Basis a L (get_or bs k [])
  pub ordered : (i k : ℕ) → i < k → k < length bs → Shortlex (get_or bs i []) (get_or bs k [])
  pub all : (w : List ℕ) → Basis a L w → (k : ℕ) × (k < length bs) × (get_or bs k [] ≡ w)

pub record Minimal (a : ℕ) (L : Language) (A : Automaton) (bs : List (List ℕ)) : Type 0 where
  pub words : AllBasis a L bs
  pub size : A.states ≡ length bs
  -- State 0 alone is initial.
  pub starts : (k : ℕ) → k < length bs → A.initial k ≡ eqb k 0
  -- The final states are those whose basis word is in L.
  pub ends : (k : ℕ) → k < length bs → A.final k ≡ L (get_or bs k [])
  -- The row of letter l and the basis word b names the states whose quotients xor to the quotient by bl.
  pub rows : (l k : ℕ) → l < a → k < length bs
      → Same a (quotient L (get_or bs k [] ++ (l ∷ []))) (comb (length bs) (A.step l k) (quotients L (λ i. get_or bs i [])))

pub record SameBits (a : ℕ) (A B : Automaton) : Type 0 where
  pub states : A.states ≡ B.states
  pub initial : (k : ℕ) → k < A.states → A.initial k ≡ B.initial k
  pub final : (k : ℕ) → k < A.states → A.final k ≡ B.final k
  pub step : (l i j : ℕ) → l < a → i < A.states → j < A.states → A.step l i j ≡ B.step l i j
