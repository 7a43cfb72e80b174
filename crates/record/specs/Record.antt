-- The record, version 1: its check, its machine, and the record of an automaton (01: The record; Refusals, rows 1 to 7).
--   states_of bs       n, as the record's bytes name it
--   letters_of bs      a, as the record's bytes name it
--   length_of n a      the length that n states and a letters need
--   row_at bs l i      the row of letter l and state i
--   front_of bs        rows 1 to 5 of the refusal table: all that can be asked before the length is known
--   check_of bs        rows 1 to 7: the record check
--   WellFormed bs      the record meets none of their conditions
--   automaton_of bs    the machine of a well-formed record
--   language_of bs     the words that the record accepts
--   record_accepts bs  whether the record accepts a word that is tested, which may have letters outside the alphabet
--   machine_of bs      the record's machine over any more letters
--   encode a A         the record of an automaton over a letters
use Rattle.std.specs.Prelude.{◌≡◌, Bool, true, false, not, ◌||◌, List, [], ◌∷◌, ◌++◌, ℕ, zero, suc, ◌+◌, ◌*◌, ◌^◌, length, get_or, drop, ltb, leb, eqb, Ok, Err}
use Rattle.automata.specs.Automaton.{Automaton, accepts}
use Rattle.automata.specs.Language.{Language, restriction}
use Rattle.automata.specs.Operations.{widened}
use Rattle.automata.specs.Mask.{bit_of}
use Rattle.automata.specs.Fields.{fields}
use Rattle.record.specs.Bytes.{number, all_bytes}
use Rattle.record.specs.Rules.{Check, fault}
use Rattle.record.specs.declared.Rule.{Rule}
use Rattle.record.specs.declared.Rule.TheVariants.{TooShort, WrongMark, WrongVersion, States, Letters, WrongLength, StrayBit}

-- ---- sizes and offsets

abbrev pub version : ℕ
version = 1

abbrev pub max_states : ℕ
max_states = 32

abbrev pub max_letters : ℕ
max_letters = 8

-- The bytes of a row; I and F are rows too.
abbrev pub row_bytes : ℕ
row_bytes = 4

-- The bytes of mark, version, n and a, before the first row.
abbrev pub header : ℕ
header = 7

-- Where I, F and the rows start: offsets 7, 11 and 15.
abbrev pub initial_at : ℕ
initial_at = header

abbrev pub final_at : ℕ
final_at = header + row_bytes

abbrev pub rows_at : ℕ
rows_at = header + 2 * row_bytes

abbrev pub states_of : List ℕ → ℕ
states_of bs = get_or bs 5 0

abbrev pub letters_of : List ℕ → ℕ
letters_of bs = get_or bs 6 0

-- 15 + 4·a·n.
abbrev pub length_of : ℕ → ℕ → ℕ
length_of n a = rows_at + row_bytes * (a * n)

-- The length that the record's own sizes need.
abbrev pub need_of : List ℕ → ℕ
need_of bs = length_of (states_of bs) (letters_of bs)

-- For letter 0 its n states in order, then letter 1, and so on.
abbrev pub row_at : List ℕ → ℕ → ℕ → ℕ
row_at bs l i = number row_bytes bs (rows_at + row_bytes * (l * states_of bs + i))

-- ---- the record check

-- A row of the refusal table: where its condition is met, the row and the place; else what the rows after it say.
abbrev pub row : Bool → Rule → ℕ → Check → Check
row true rule place rest = Err (fault rule place)
row false rule place rest = rest

-- Checks run in the row order: a refusal is the whole answer.
abbrev pub and_then : Check → Check → Check
and_then (Ok u) rest = rest
and_then (Err f) rest = Err f

-- Row 7 over k fields of w bytes from offset p: the first that has a bit at n or above, that is, is 2 ^ n or more.
unfoldable pub stray_from : ℕ → ℕ → List ℕ → ℕ → ℕ → Check
stray_from w n bs zero p = Ok tt
stray_from w n bs (suc k) p = row (leb (2 ^ n) (number w bs p)) StrayBit p (stray_from w n bs k (p + w))

-- Condition, row and place of rows 1 to 5. Row 2 has a line for each byte of the mark.
unfoldable pub front_of : List ℕ → Check
front_of bs =
    row (ltb (length bs) header) TooShort (length bs)
    (row (not (eqb (get_or bs 0 0) 0x4E)) WrongMark 0
    (row (not (eqb (get_or bs 1 0) 0x58)) WrongMark 1
    (row (not (eqb (get_or bs 2 0) 0x41)) WrongMark 2
    (row (not (eqb (number 2 bs 3) version)) WrongVersion 3
    (row (ltb max_states (states_of bs)) States 5
    (row (eqb (letters_of bs) 0 || ltb max_letters (letters_of bs)) Letters 6
    (Ok tt)))))))

-- Rows 1 to 5, then 6, then 7 over I, F and the a·n rows, which are 2 + a·n fields from offset 7.
unfoldable pub check_of : List ℕ → Check
check_of bs =
    and_then (front_of bs)
    (row (not (eqb (length bs) (need_of bs))) WrongLength (need_of bs)
    (stray_from row_bytes (states_of bs) bs (2 + letters_of bs * states_of bs) initial_at))

abbrev pub WellFormed : List ℕ → Type 0
WellFormed bs = check_of bs ≡ Ok tt

-- ---- records and automata

-- The xor automaton of the record's n, I, F and rows (01: its machine).
abbrev pub automaton_of : List ℕ → Automaton
automaton_of bs = record {
  states = states_of bs;
  initial = bit_of (number row_bytes bs initial_at);
  final = bit_of (number row_bytes bs final_at);
  step = λ l i. bit_of (row_at bs l i);
}

-- The words that the record accepts are those that its machine accepts (01: its language).
abbrev pub language_of : List ℕ → Language
language_of bs = accepts (automaton_of bs)

-- Every letter of the word is one of the record's, and its path count is odd. A word with any other letter, wherever it comes, is not
-- accepted (02, Note 3: letters nobody declared). Every service that tests words goes by this.
abbrev pub record_accepts : List ℕ → Language
record_accepts bs = restriction (letters_of bs) (language_of bs)

-- Over more letters than the record has: a letter that it lacks leads nowhere (02, Note 5). That this machine accepts the words of
-- `record_accepts`, and no other, is a theorem (`accepts_widened`, automata/proofs/Letters).
abbrev pub machine_of : List ℕ → Automaton
machine_of bs = widened (letters_of bs) (automaton_of bs)

-- The bytes before the first row: mark, version, n, a.
abbrev pub head_of : ℕ → ℕ → List ℕ
head_of n a = 0x4E ∷ 0x58 ∷ 0x41 ∷ version ∷ 0 ∷ n ∷ a ∷ []

-- The head, then the bytes of each field after the number of states: I, F and the rows.
unfoldable pub encode : ℕ → Automaton → List ℕ
encode a A = head_of A.states a ++ all_bytes row_bytes (drop 1 (fields a A))
