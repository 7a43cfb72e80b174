-- What is claimed of the words of records, over all words of any length and all automata of any size (01: Meaning; demand 3).
--   HasDimension bs d      d is the record's dimension
--   Operands bs cs         two records that a service may work on: well formed, over the same letters
--   SameWords bs cs        no word over the letters, of any length, is accepted by just one of them
--   FirstWord bs cs w      w is the first word, in shortlex order, that just one of them accepts
--   MinimalForm a L bs     bs are the bytes of a record over a letters that has, for the language L, the form of 01's minimal record
--   MinimalRecord a L bs   that, and what the form amounts to: the words, the dimension, the fewest states, the only such bytes
use Rattle.std.specs.Prelude.{◌≡◌, false, List, ℕ, ◌≤◌}
use Rattle.automata.specs.Automaton.{Automaton, accepts}
use Rattle.automata.specs.Language.{Language, Same}
use Rattle.automata.specs.Dimension.{IsDimension}
use Rattle.automata.specs.Minimal.{Minimal}
use Rattle.automata.specs.FirstDifference.{FirstDifference}
use Rattle.record.specs.Bytes.{number, AllBelow}
use Rattle.record.specs.Record.{row_bytes, initial_at, final_at, states_of, letters_of, WellFormed, automaton_of, language_of}

abbrev pub HasDimension : List ℕ → ℕ → Type 0
HasDimension bs d = IsDimension (letters_of bs) (language_of bs) d

-- ---- two records

abbrev pub Operands : List ℕ → List ℕ → Type 0
Operands bs cs = WellFormed bs × WellFormed cs × (letters_of bs ≡ letters_of cs)

abbrev pub SameWords : List ℕ → List ℕ → Type 0
SameWords bs cs = Same (letters_of bs) (language_of bs) (language_of cs)

abbrev pub FirstWord : List ℕ → List ℕ → List ℕ → Type 0
FirstWord bs cs w = FirstDifference (letters_of bs) (language_of bs) (language_of cs) w

-- ---- the minimal record

-- One state for each basis word of L, in order, with the I, F and rows that 01 states.
pub record MinimalForm (a : ℕ) (L : Language) (bs : List ℕ) : Type 0 where
  pub bytes : AllBelow 256 bs
  pub formed : WellFormed bs
  pub letters : letters_of bs ≡ a
  pub basis : List (List ℕ)
  pub minimal : Minimal a L (automaton_of bs) basis

pub record MinimalRecord (a : ℕ) (L : Language) (bs : List ℕ) : Type 0 where
  pub form : MinimalForm a L bs
  -- It accepts exactly the words of L.
  pub words : Same a L (language_of bs)
  -- It has as many states as the dimension of L.
  pub dimension : IsDimension a L (states_of bs)
  -- Every xor automaton for those words, of any size, has at least as many.
  pub least : (B : Automaton) → Same a L (accepts B) → states_of bs ≤ B.states
  -- For no word n, I and F are 0.
  pub empty : Same a L (λ w. false) → (states_of bs ≡ 0) × (number row_bytes bs initial_at ≡ 0) × (number row_bytes bs final_at ≡ 0)
  -- Minimal records are byte-equal exactly when the words are the same.
  pub unique : (K : Language) (cs : List ℕ) → MinimalForm a K cs → (bs ≡ cs → Same a L K) × (Same a L K → bs ≡ cs)
