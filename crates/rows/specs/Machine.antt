-- The automaton that a machine and its table hold.
--   automaton_in t m    its states and bits: row i of block l is the row of letter l and state i
--   Valid t m           sizes are within bounds, and no bit stands at `states` or above
-- Both are stated on numbers first: n states, initial row i, final column f, a letters.
use Rattle.std.specs.Prelude.{◌≡◌, List, ℕ, ◌^◌, ◌<◌, ◌≤◌, length}
use Rattle.automata.specs.Automaton.{Automaton}
use Rattle.automata.specs.Mask.{bit_of}
use Rattle.rows.specs.declared.Machine.{Machine}
use Rattle.rows.specs.Row.{width, mask}
use Rattle.rows.specs.Table.{blocks, size, at}

-- M l k is the row of letter l and state k.
abbrev pub auto_by : (ℕ → ℕ → ℕ) → ℕ → ℕ → ℕ → Automaton
auto_by M n i f = record { states = n; initial = bit_of i; final = bit_of f; step = λ l k. bit_of (M l k) }

abbrev pub auto : List ℕ → ℕ → ℕ → ℕ → Automaton
auto t n i f = auto_by (at t) n i f

pub record Bounded (a : ℕ) (t : List ℕ) (n i f : ℕ) : Type 0 where
  pub states : n ≤ width
  pub letters : a ≤ blocks
  pub size : length t ≡ size
  pub initial : i < 2 ^ n
  pub finals : f < 2 ^ n
  pub rows : (l k : ℕ) → l < a → k < n → at t l k < 2 ^ n

abbrev pub automaton_in : List ℕ → Machine → Automaton
automaton_in t m = auto t m.states (mask m.initial) (mask m.finals)

abbrev pub Valid : List ℕ → Machine → Type 0
Valid t m = Bounded m.letters t m.states (mask m.initial) (mask m.finals)
