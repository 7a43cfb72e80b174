-- The comparison service (01: compare two records; rows 1 to 7 of the first, of the second, 8, then 12 only when the languages differ). The
-- service's contract puts its records in as they are meant (`as_meant`, operands/specs/Meant).
--   difference_of bs cs         the first word that just one accepts, if there is one
--   compare_outcome bs cs room  what is written, or the refusal: the word, or nothing where the languages are the same
--   Compared                    an answer: None where the words are the same, else the first word's length and the side that accepts it; or the
--                               refusal
--   differs n s                 a word of n letters, accepted by the side s
--   compared_as                 the answer to an outcome
--   compare_answer bs cs room   that answer
--   acceptor_of s bs cs         the record that the side names
--   Differ bs cs w s            w is the first word that just one of the two accepts, and the side s accepts it
--   ShortWord bs cs n           n letters are at most 63, and fewer than the two dimensions added
--   Withheld bs cs buf k        a first word of k letters that was not written, since the buffer is shorter
--   Compares bs cs buf exit r   what is claimed of the answer r and the buffer at exit, over all words
use Rattle.std.specs.Prelude.{◌≡◌, true, List, [], ℕ, ◌+◌, ◌<◌, ◌≤◌, length, take, Result, Ok, Err, Option, None, Some}
use Rattle.std.proofs.Math.Option.{Option as Found, none, some}
use Rattle.automata.specs.Automaton.{Automaton, accepts}
use Rattle.automata.specs.FirstDifference.{first_difference}
use Rattle.record.specs.Record.{letters_of, automaton_of, language_of}
use Rattle.record.specs.Claims.{HasDimension, Operands, SameWords, FirstWord}
use Rattle.record.specs.Rules.{refusal}
use Rattle.record.specs.Outcome.{Outcome, refused, wrote, fit}
use Rattle.record.specs.declared.Refusal.{Refusal}
use Rattle.record.specs.declared.Rule.TheVariants.{NoRoom}
use Rattle.operands.specs.Operands.{pair_of, after_pair}
use Rattle.verdict.specs.Side.{side_of}
use Rattle.verdict.specs.declared.Side.{Side}
use Rattle.verdict.specs.declared.Side.TheVariants.{First, Second}
use Rattle.compare.specs.declared.Difference.{Difference}

unfoldable pub difference_of : List ℕ → List ℕ → Found (List ℕ)
difference_of bs cs = first_difference (letters_of bs) (automaton_of bs) (automaton_of cs)

-- Row 12 is met only when the languages differ.
abbrev pub word_outcome : ℕ → Found (List ℕ) → Outcome
word_outcome room none = wrote []
word_outcome room (some w) = fit room w

unfoldable pub compare_outcome : List ℕ → List ℕ → ℕ → Outcome
compare_outcome bs cs room = after_pair (pair_of bs cs) (word_outcome room (difference_of bs cs))

abbrev pub acceptor_of : Side → List ℕ → List ℕ → List ℕ
acceptor_of First bs cs = bs
acceptor_of Second bs cs = cs

abbrev pub Compared : Type 0
Compared = Result (Option Difference) Refusal

abbrev pub differs : ℕ → Side → Difference
differs n s = record { length = n; side = s }

-- The first difference, the first record's automaton, and what the service did.
abbrev pub compared_as : Found (List ℕ) → Automaton → Outcome → Compared
compared_as d A (refused rule which place) = Err (refusal rule which place)
compared_as none A (wrote out) = Ok None
compared_as (some w) A (wrote out) = Ok (Some (differs (length w) (side_of (accepts A w))))

abbrev pub compare_answer : List ℕ → List ℕ → ℕ → Compared
compare_answer bs cs room = compared_as (difference_of bs cs) (automaton_of bs) (compare_outcome bs cs room)

-- ---- what is claimed

abbrev pub Differ : List ℕ → List ℕ → List ℕ → Side → Type 0
Differ bs cs w s = FirstWord bs cs w × (language_of (acceptor_of s bs cs) w ≡ true)

-- The most letters of a word that is named.
abbrev pub max_word : ℕ
max_word = 63

abbrev pub ShortWord : List ℕ → List ℕ → ℕ → Type 0
ShortWord bs cs n = (n ≤ max_word) × ((d e : ℕ) → HasDimension bs d → HasDimension cs e → n < d + e)

-- A word that was not written: it is the first that just one accepts, and the buffer is too short for its k letters.
pub record Withheld (bs cs buf : List ℕ) (k : ℕ) : Type 0 where
  pub word : List ℕ
  pub first : FirstWord bs cs word
  pub letters : length word ≡ k
  pub room : length buf < k
  pub short : ShortWord bs cs k

pub record Compares (bs cs buf exit : List ℕ) (r : Compared) : Type 0 where
  -- None comes exactly when no word of any length is accepted by just one.
  pub same : Operands bs cs → (r ≡ Ok None → SameWords bs cs) × (SameWords bs cs → r ≡ Ok None)
  -- Otherwise the first such word is named and who accepts it, where the buffer has room for it; and what is named is that word.
  pub names : Operands bs cs → (w : List ℕ) (s : Side) → Differ bs cs w s → length w ≤ length buf → r ≡ Ok (Some (differs (length w) s))
  pub named : (n : ℕ) (s : Side) → r ≡ Ok (Some (differs n s)) → Operands bs cs × Differ bs cs (take n exit) s × ShortWord bs cs n
  -- It is withheld exactly where the buffer is too short, its length as place.
  pub withholds : Operands bs cs → (w : List ℕ) → FirstWord bs cs w → length buf < length w → r ≡ Err (refusal NoRoom 0 (length w))
  pub withheld : (k : ℕ) → r ≡ Err (refusal NoRoom 0 k) → Operands bs cs × Withheld bs cs buf k
