-- Automata for the operations on languages (01: sum, meet, complement, mirror; 02, Note 2: product, star), and over more letters (Note 5).
--   sum_of A B            the two side by side, the direct sum: accepts the symmetric difference
--   meet_of A B           the product automaton on pairs of states: accepts the intersection
--   complement_of A       A beside one state that accepts every word
--   mirror_of A           the transpose, initial and final states exchanged: accepts the reversal
--   concatenation_of A B  A, and B wherever A ends a word: accepts the concatenation
--   star_of A             A and one state more: accepts the star
--   stateless             the automaton with no states: accepts no word
--   widened a A           A, which is over a letters, over any more of them: a letter that it lacks leads nowhere
use Rattle.std.specs.Prelude.{Bool, true, false, ◌&&◌, cond, ℕ, ◌+◌, ◌-◌, ◌*◌, ◌/◌, ◌%◌, ltb}
use Rattle.automata.specs.Xor.{◌⊕◌, xor_below}
use Rattle.automata.specs.Automaton.{Automaton}
use Rattle.automata.specs.Row.{times}

-- f below n, and g from n on.
abbrev pub joined : {X : Type 0} → ℕ → (ℕ → X) → (ℕ → X) → ℕ → X
joined n f g i = cond (ltb i n) (f i) (g (i - n))

abbrev pub sum_of : Automaton → Automaton → Automaton
sum_of A B = record {
  states = A.states + B.states;
  initial = joined A.states A.initial B.initial;
  final = joined A.states A.final B.final;
  step = λ l. joined A.states (λ i. joined A.states (A.step l i) (λ j. false)) (λ i. joined A.states (λ j. false) (B.step l i));
}

abbrev pub stateless : Automaton
stateless = record { states = 0; initial = λ i. false; final = λ i. false; step = λ l i j. false }

abbrev pub widened : ℕ → Automaton → Automaton
widened a A = record { states = A.states; initial = A.initial; final = A.final; step = λ l i j. ltb l a && A.step l i j }

-- One state that accepts every word.
abbrev pub all_words : Automaton
all_words = record { states = 1; initial = λ i. true; final = λ i. true; step = λ l i j. true }

abbrev pub complement_of : Automaton → Automaton
complement_of A = sum_of A all_words

abbrev pub mirror_of : Automaton → Automaton
mirror_of A = record { states = A.states; initial = A.final; final = A.initial; step = λ l i j. A.step l j i }

-- A pair of states (i, j) is the state i * m + j, with m the second automaton's states.
abbrev pub meet_of : Automaton → Automaton → Automaton
meet_of A B = record {
  states = A.states * B.states;
  initial = λ k. A.initial (k / B.states) && B.initial (k % B.states);
  final = λ k. A.final (k / B.states) && B.final (k % B.states);
  step = λ l k h. A.step l (k / B.states) (h / B.states) && B.step l (k % B.states) (h % B.states);
}

-- Whether a row of states of A ends a word: it has an odd number of final states.
abbrev pub ends : Automaton → (ℕ → Bool) → Bool
ends A r = xor_below A.states (λ k. r k && A.final k)

-- A, and wherever a row of A ends a word, B's initial row beside it.
abbrev pub concatenation_of : Automaton → Automaton → Automaton
concatenation_of A B = record {
  states = A.states + B.states;
  initial = joined A.states A.initial (λ j. ends A A.initial && B.initial j);
  final = joined A.states (λ i. false) B.final;
  step = λ l. joined A.states (λ i. joined A.states (A.step l i) (λ j. ends A (A.step l i) && B.initial j)) (λ i. joined A.states (λ j. false) (B.step l i));
}

-- A, and one more state, the only initial one, and final. From it a letter leads where it leads from A's initial row; from a final
-- state of A it leads there as well.
abbrev pub star_of : Automaton → Automaton
star_of A = record {
  states = A.states + 1;
  initial = joined A.states (λ i. false) (λ i. true);
  final = joined A.states A.final (λ i. true);
  step = λ l. joined A.states
      (λ i. joined A.states (λ j. A.step l i j ⊕ (A.final i && times A l A.initial j)) (λ j. false))
      (λ i. joined A.states (times A l A.initial) (λ j. false));
}
