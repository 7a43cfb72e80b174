-- The claims of the samples as data, and what each of them means over all words.
--   Task             what a service that writes a record is asked for
--   letters_for t    how many letters its result has
--   language_for t   the language of its result
--   Result t r n d   the record r, of n bytes, is the minimal record of that language, and d its dimension
--   Claim            what a sample says
--   Means c          what that means, over all words
use Rattle.std.specs.Prelude.{◌≡◌, true, false, List, ℕ, length}
use Rattle.automata.specs.Automaton.{path_count}
use Rattle.automata.specs.Word.{Over}
use Rattle.automata.specs.Language.{Language, Same, symmetric_difference, intersection, complement, reversal}
use Rattle.automata.specs.Cuts.{star}
use Rattle.record.specs.Record.{states_of, letters_of, automaton_of, language_of}
use Rattle.record.specs.Claims.{MinimalRecord}
use Rattle.compare.specs.Compare.{Differ}
use Rattle.verdict.specs.declared.Side.{Side}
use Rattle.samples.specs.Languages.{Named, words_in}

pub data Task : Type 0 where
  minimal : List ℕ → Task
  sum : List ℕ → List ℕ → Task
  meet : List ℕ → List ℕ → Task
  -- 01: complement.
  inverse : List ℕ → Task
  mirror : List ℕ → Task
  -- 02: star.
  repetition : List ℕ → Task

abbrev pub letters_for : Task → ℕ
letters_for (minimal bs) = letters_of bs
letters_for (sum bs cs) = letters_of bs
letters_for (meet bs cs) = letters_of bs
letters_for (inverse bs) = letters_of bs
letters_for (mirror bs) = letters_of bs
letters_for (repetition bs) = letters_of bs

abbrev pub language_for : Task → Language
language_for (minimal bs) = language_of bs
language_for (sum bs cs) = symmetric_difference (language_of bs) (language_of cs)
language_for (meet bs cs) = intersection (language_of bs) (language_of cs)
language_for (inverse bs) = complement (language_of bs)
language_for (mirror bs) = reversal (language_of bs)
language_for (repetition bs) = star (language_of bs)

pub record Result (t : Task) (r : List ℕ) (n d : ℕ) : Type 0 where
  pub size : length r ≡ n
  pub minimal : MinimalRecord (letters_for t) (language_for t) r
  pub dimension : states_of r ≡ d

pub data Claim : Type 0 where
  -- The record accepts the word, or rejects it.
  accepted : List ℕ → List ℕ → Claim
  rejected : List ℕ → List ℕ → Claim
  -- Along every word the record has so many paths.
  paths : List ℕ → ℕ → Claim
  -- The record accepts exactly the words of the language.
  speaks : List ℕ → Named → Claim
  -- The minimal record of the result, its length and its dimension.
  gives : Task → List ℕ → ℕ → ℕ → Claim
  -- The first word that just one of two records accepts, and the side that does.
  differ : List ℕ → List ℕ → List ℕ → Side → Claim

abbrev pub Means : Claim → Type 0
Means (accepted bs w) = language_of bs w ≡ true
Means (rejected bs w) = language_of bs w ≡ false
Means (paths bs k) = (w : List ℕ) → Over (letters_of bs) w → path_count (automaton_of bs) w ≡ k
Means (speaks bs s) = Same (letters_of bs) (words_in s) (language_of bs)
Means (gives t r n d) = Result t r n d
Means (differ bs cs w s) = Differ bs cs w s
