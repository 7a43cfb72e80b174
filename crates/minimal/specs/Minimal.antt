-- The minimal service (01: give the minimal record; rows 1 to 7, then 12).
--   minimal_bytes bs         the minimal record of a record, in version 1
--   minimal_outcome bs room  what the service does with a buffer of so many bytes
--   minimised n d            n bytes written, of dimension d
--   minimised_as d           its answer carries the dimension besides
--   minimal_answer bs room   that answer
--   MinimalIn bs t m         for the contract of an inner function: machine m and table t hold the minimal automaton of the record
--   GivesMinimal bs exit r   what is claimed of the answer r and the buffer at exit, over all words and all automata
use Rattle.std.specs.Prelude.{◌≡◌, List, ℕ, take, Result, Ok, Err}
use Rattle.automata.specs.MinimalOf.{minimal_of, dimension_of}
use Rattle.rows.specs.declared.Machine.{Machine}
use Rattle.rows.specs.Row.{mask}
use Rattle.minimisation.specs.Minimises.{Minimises}
use Rattle.record.specs.Record.{states_of, letters_of, check_of, automaton_of, language_of, encode}
use Rattle.record.specs.Outcome.{Outcome, answer_of, checked, fit}
use Rattle.record.specs.Claims.{MinimalRecord}
use Rattle.record.specs.declared.Refusal.{Refusal}
use Rattle.minimal.specs.declared.Minimised.{Minimised}

unfoldable pub minimal_bytes : List ℕ → List ℕ
minimal_bytes bs = encode (letters_of bs) (minimal_of (letters_of bs) (automaton_of bs))

unfoldable pub minimal_outcome : List ℕ → ℕ → Outcome
minimal_outcome bs room = checked (check_of bs) 1 (fit room (minimal_bytes bs))

abbrev pub minimised : ℕ → ℕ → Minimised
minimised n d = record { length = n; dimension = d }

abbrev pub minimised_as : ℕ → Result ℕ Refusal → Result Minimised Refusal
minimised_as d (Ok length) = Ok (minimised length d)
minimised_as d (Err r) = Err r

abbrev pub MinimalIn : List ℕ → List ℕ → Machine → Type 0
MinimalIn bs t m = (m.letters ≡ letters_of bs) × Minimises (letters_of bs) (automaton_of bs) t m.states (mask m.initial) (mask m.finals)

abbrev pub minimal_answer : List ℕ → ℕ → Result Minimised Refusal
minimal_answer bs room = minimised_as (dimension_of (letters_of bs) (automaton_of bs)) (answer_of (minimal_outcome bs room))

-- Where the answer grants n bytes and the dimension d, these bytes are the minimal record of the record's words, and it has d states.
abbrev pub GivesMinimal : List ℕ → List ℕ → Result Minimised Refusal → Type 0
GivesMinimal bs exit r = (n d : ℕ) → r ≡ Ok (minimised n d) → MinimalRecord (letters_of bs) (language_of bs) (take n exit) × (states_of (take n exit) ≡ d)
