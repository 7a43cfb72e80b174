-- The catalogue's minimal records by number (01: Catalogue), and the service that gives them out.
--   last                 the last number
--   letters_at j         how many letters entry j has
--   entry_of j           its automaton
--   basis_at j           its basis words
--   record_of j          its record
--   catalogue_of j room  what the service does with a buffer of so many bytes: row 13, then 12, else the record
--   GivesEntry j exit r  what is claimed of the answer r and the buffer at exit, over all words and all automata
use Rattle.std.specs.Prelude.{◌≡◌, cond, List, [], ◌∷◌, ℕ, ◌+◌, ◌*◌, ltb, get_or, take, Result, Ok}
use Rattle.automata.specs.Automaton.{Automaton}
use Rattle.automata.specs.Mask.{bit_of}
use Rattle.record.specs.Record.{encode}
use Rattle.record.specs.Claims.{MinimalRecord}
use Rattle.record.specs.declared.Rule.TheVariants.{NoEntry}
use Rattle.record.specs.declared.Refusal.{Refusal}
use Rattle.record.specs.Outcome.{Outcome, refused, fit}
use Rattle.catalogue.specs.Words.{entry_words}

abbrev pub last : ℕ
last = 5

-- By the number of states, which is the dimension, initial row, final column, and rows: for letter 0 its states in order, then letter 1.
abbrev pub automaton : ℕ → ℕ → ℕ → List ℕ → Automaton
automaton n i f rows = record {
  states = n;
  initial = bit_of i;
  final = bit_of f;
  step = λ l k. bit_of (get_or rows (l * n + k) 0);
}

-- 0 no word, 1 all words, 2 the empty word only, 3 words ending in 1, 4 language X, 5 lengths that leave 0, 1, 2 or 4 on division by 7.
abbrev pub entries : List Automaton
entries =
    automaton 0 0 0 []
    ∷ automaton 1 1 1 (1 ∷ 1 ∷ [])
    ∷ automaton 1 1 1 (0 ∷ 0 ∷ [])
    ∷ automaton 2 1 2 (1 ∷ 1 ∷ 2 ∷ 2 ∷ [])
    ∷ automaton 2 1 3 (2 ∷ 3 ∷ 1 ∷ 1 ∷ [])
    ∷ automaton 3 1 7 (2 ∷ 4 ∷ 5 ∷ [])
    ∷ []

unfoldable pub entry_of : ℕ → Automaton
entry_of j = get_or entries j (automaton 0 0 0 [])

unfoldable pub letters_at : ℕ → ℕ
letters_at j = get_or (2 ∷ 2 ∷ 2 ∷ 2 ∷ 2 ∷ 1 ∷ []) j 2

unfoldable pub basis_at : ℕ → List (List ℕ)
basis_at j =
    get_or
    ([]
    ∷ ([] ∷ [])
    ∷ ([] ∷ [])
    ∷ ([] ∷ (1 ∷ []) ∷ [])
    ∷ ([] ∷ (0 ∷ []) ∷ [])
    ∷ ([] ∷ (0 ∷ []) ∷ (0 ∷ 0 ∷ []) ∷ [])
    ∷ [])
    j []

unfoldable pub record_of : ℕ → List ℕ
record_of j = encode (letters_at j) (entry_of j)

unfoldable pub catalogue_of : ℕ → ℕ → Outcome
catalogue_of number room = cond (ltb last number) (refused NoEntry 0 number) (fit room (record_of number))

-- Where the answer grants, the bytes written are the minimal record of the entry's words.
abbrev pub GivesEntry : ℕ → List ℕ → Result ℕ Refusal → Type 0
GivesEntry j exit r = (n : ℕ) → r ≡ Ok n → MinimalRecord (letters_at j) (entry_words j) (take n exit)
