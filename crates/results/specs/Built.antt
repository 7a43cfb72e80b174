-- An automaton built in a table, for the contracts of inner functions.
--   held_words t m    the words that machine m and table t accept
--   Built a L t m     the machine m, over a letters, and the table t are within bounds and accept the words of L
use Rattle.std.specs.Prelude.{◌≡◌, List, ℕ}
use Rattle.automata.specs.Automaton.{accepts}
use Rattle.automata.specs.Language.{Language, Same}
use Rattle.rows.specs.declared.Machine.{Machine}
use Rattle.rows.specs.Machine.{automaton_in, Valid}

abbrev pub held_words : List ℕ → Machine → Language
held_words t m = accepts (automaton_in t m)

pub record Built (a : ℕ) (L : Language) (t : List ℕ) (m : Machine) : Type 0 where
  pub letters : m.letters ≡ a
  pub valid : Valid t m
  pub words : Same a L (held_words t m)
