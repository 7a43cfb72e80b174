-- The minimal automaton as a table holds it.
--   Minimises a A s d i f             the table s with d states, initial row i and final column f is the minimal automaton of A
--   MinimisesUpTo a A s most d i f    d is the dimension, and s is that automaton where it has at most `most` states
use Rattle.std.specs.Prelude.{◌≡◌, List, ℕ, ◌≤◌}
use Rattle.automata.specs.Automaton.{Automaton}
use Rattle.automata.specs.MinimalOf.{minimal_of, dimension_of}
use Rattle.automata.specs.Fields.{fields}
use Rattle.rows.specs.Machine.{auto, Bounded}

pub record Minimises (a : ℕ) (A : Automaton) (s : List ℕ) (d i f : ℕ) : Type 0 where
  pub bounded : Bounded a s d i f
  pub same_fields : fields a (auto s d i f) ≡ fields a (minimal_of a A)
  pub dimension : d ≡ dimension_of a A

abbrev pub MinimisesUpTo : ℕ → Automaton → List ℕ → ℕ → ℕ → ℕ → ℕ → Type 0
MinimisesUpTo a A s most d i f = (d ≡ dimension_of a A) × (d ≤ most → Minimises a A s d i f)
