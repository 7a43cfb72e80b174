-- Two records side by side, and the rows that words lead to in them.
--   both_of bs cs        the automaton of both: a word is accepted by it where just one record accepts it
--   RowOf bs cs u x      x is the row that the word u leads to
use Rattle.std.specs.Prelude.{◌≡◌, List, ℕ, ◌+◌, ◌^◌, ◌<◌}
use Rattle.automata.specs.Automaton.{Automaton}
use Rattle.automata.specs.Mask.{bit_of}
use Rattle.automata.specs.Row.{reach}
use Rattle.automata.specs.Operations.{sum_of}
use Rattle.record.specs.Record.{states_of, automaton_of}

abbrev pub both_of : List ℕ → List ℕ → Automaton
both_of bs cs = sum_of (automaton_of bs) (automaton_of cs)

pub record RowOf (bs cs u : List ℕ) (x : ℕ) : Type 0 where
  pub bits : (j : ℕ) → j < states_of bs + states_of cs → bit_of x j ≡ reach (both_of bs cs) (both_of bs cs).initial u j
  pub below : x < 2 ^ (states_of bs + states_of cs)
