-- What a second record stands for (02, Note 1: 0 bytes mean the machine with no states over the first one's letters).
--   blank_of a        the record of the automaton with no states over a letters: 15 bytes
--   meant_over a cs   the record that cs stands for beside one over a letters: itself, or for 0 bytes that one
--   as_meant f bs cs  f of two records, each as it is meant; every outcome and every claim of a service on two records is stated so
use Rattle.std.specs.Prelude.{List, [], ◌∷◌, ℕ}
use Rattle.automata.specs.Operations.{stateless}
use Rattle.record.specs.Record.{letters_of, encode}

abbrev pub blank_of : ℕ → List ℕ
blank_of a = encode a stateless

abbrev pub meant_over : ℕ → List ℕ → List ℕ
meant_over a [] = blank_of a
meant_over a (c ∷ cs) = c ∷ cs

-- The first record stands for itself.
abbrev pub as_meant {ℓ} : {X : Type ℓ} → (List ℕ → List ℕ → X) → List ℕ → List ℕ → X
as_meant f bs cs = f bs (meant_over (letters_of bs) cs)
