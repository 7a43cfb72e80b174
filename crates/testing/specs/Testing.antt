-- Testing a word (01: test a word; Refusals, rows 1 to 7; 02, Note 3: a word with a letter outside the alphabet is not accepted).
--   Tested           an answer: whether the word is accepted, or the refusal
--   test_of bs w     what the test of the word w on the record bs answers
--   Tests bs w r     what is claimed of the answer r
--   Reached t m w x  x is the row that the machine reaches along w, for the contracts of inner functions
use Rattle.std.specs.Prelude.{◌≡◌, Bool, true, false, ◌&&◌, Result, Ok, Err, List, ◌∷◌, ◌++◌, ℕ, ◌^◌, ◌≤◌, ◌<◌}
use Rattle.automata.specs.Word.{Over, is_over}
use Rattle.automata.specs.Mask.{bit_of}
use Rattle.automata.specs.Row.{reach}
use Rattle.rows.specs.declared.Machine.{Machine}
use Rattle.rows.specs.declared.Row.{Row}
use Rattle.rows.specs.Row.{mask}
use Rattle.rows.specs.Machine.{automaton_in}
use Rattle.record.specs.declared.Refusal.{Refusal}
use Rattle.record.specs.Record.{letters_of, check_of, WellFormed, language_of, record_accepts}
use Rattle.record.specs.Rules.{Check, refusal}

abbrev pub Tested : Type 0
Tested = Result Bool Refusal

-- What the check found, and whether the word is accepted, as an answer. A refusal names record 1.
abbrev pub tested_of : Check → Bool → Tested
tested_of (Ok u) accepted = Ok accepted
tested_of (Err f) accepted = Err (refusal f.rule 1 f.place)

unfoldable pub test_of : List ℕ → List ℕ → Tested
test_of bs w = tested_of (check_of bs) (record_accepts bs w)

-- ---- what is claimed

pub record Tests (bs w : List ℕ) (r : Tested) : Type 0 where
  -- Accepted exactly where the record is well formed, every letter of the word is below a, and the path count is odd.
  pub accepts : WellFormed bs → Over (letters_of bs) w → language_of bs w ≡ true → r ≡ Ok true
  pub accepted : r ≡ Ok true → WellFormed bs × Over (letters_of bs) w × (language_of bs w ≡ true)
  -- A letter outside the alphabet, whatever comes before it and after it: not accepted.
  pub foreign : WellFormed bs → (u : List ℕ) (l : ℕ) (v : List ℕ) → w ≡ u ++ (l ∷ v) → letters_of bs ≤ l → r ≡ Ok false

-- ---- for the contracts of inner functions

-- No state is reached along a word with a letter that the machine has not got.
pub record Reached (t : List ℕ) (m : Machine) (w : List ℕ) (x : Row) : Type 0 where
  pub below : mask x < 2 ^ m.states
  pub bits : (j : ℕ) → j < m.states → bit_of (mask x) j ≡ is_over m.letters w && reach (automaton_in t m) (automaton_in t m).initial w j
