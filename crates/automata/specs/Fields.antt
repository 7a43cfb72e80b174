-- The fields of a record of an automaton, as numbers, in record order (01: The record).
use Rattle.std.specs.Prelude.{List, [], ◌∷◌, ℕ}
use Rattle.automata.specs.Automaton.{Automaton}
use Rattle.automata.specs.Mask.{mask_of}
use Rattle.automata.specs.WordList.{join_below}

-- The rows: for letter 0 its states in order, then letter 1, and so on.
abbrev pub rows_of : ℕ → ℕ → (ℕ → ℕ → ℕ) → List ℕ
rows_of a n f = join_below a (λ l. join_below n (λ i. f l i ∷ []))

-- States, initial row, final column, rows.
abbrev pub fields : ℕ → Automaton → List ℕ
fields a A =
    A.states ∷ mask_of A.states A.initial ∷ mask_of A.states A.final
    ∷ rows_of a A.states (λ l i. mask_of A.states (A.step l i))
