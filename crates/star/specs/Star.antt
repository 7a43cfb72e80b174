-- The star service (02, Note 2: repetition; rows 1 to 7, then 14, 11 and 12).
--   refusing_empty b rest   row 14: where b says that the record accepts the empty word it is refused, else the rest decides
--   star_outcome bs room    what the service does with a buffer of so many bytes
--   star_words bs           the words with an odd number of cuts into words of the record
--   LacksEmpty bs           the record is well formed and does not accept the empty word
--   GivesStar bs exit r     what is claimed of the answer r and the buffer at exit, over all words and all automata
use Rattle.std.specs.Prelude.{◌≡◌, Bool, true, false, cond, List, [], ℕ, Result, Err}
use Rattle.automata.specs.Language.{Language}
use Rattle.automata.specs.Cuts.{star}
use Rattle.automata.specs.Operations.{star_of}
use Rattle.record.specs.Record.{letters_of, check_of, WellFormed, automaton_of, language_of}
use Rattle.record.specs.Outcome.{Outcome, refused, checked}
use Rattle.record.specs.Rules.{refusal}
use Rattle.record.specs.declared.Rule.TheVariants.{EmptyWord}
use Rattle.record.specs.declared.Refusal.{Refusal}
use Rattle.results.specs.Results.{result_of, Gives}

abbrev pub refusing_empty : Bool → Outcome → Outcome
refusing_empty b rest = cond b (refused EmptyWord 1 0) rest

unfoldable pub star_outcome : List ℕ → ℕ → Outcome
star_outcome bs room = checked (check_of bs) 1 (refusing_empty (language_of bs []) (result_of (letters_of bs) (star_of (automaton_of bs)) room))

-- ---- what is claimed

abbrev pub star_words : List ℕ → Language
star_words bs = star (language_of bs)

abbrev pub LacksEmpty : List ℕ → Type 0
LacksEmpty bs = WellFormed bs × (language_of bs [] ≡ false)

-- Row 14 comes exactly where a well-formed record accepts the empty word, and names record 1 and place 0. Where it does not accept it, the
-- minimal record of the star is given, or row 11.
pub record GivesStar (bs exit : List ℕ) (r : Result ℕ Refusal) : Type 0 where
  pub refuses : WellFormed bs → language_of bs [] ≡ true → r ≡ Err (refusal EmptyWord 1 0)
  pub only : (which place : ℕ) → r ≡ Err (refusal EmptyWord which place) → WellFormed bs × (language_of bs [] ≡ true)
  pub gives : Gives (letters_of bs) (star_words bs) (LacksEmpty bs) exit r
