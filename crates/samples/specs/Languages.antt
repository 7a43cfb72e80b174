-- The languages that the samples name (01: Samples; 02: Note 2).
--   begins_with_one  the words whose first letter is 1
--   repeats k        k*: the words that have no letter but k
--   nonempty         all words but the empty word
--   empty_or_zero    the empty word and the word 0, and no other
--   Named            a language of the catalogue by its number, or one of these
--   words_in         its words
use Rattle.std.specs.Prelude.{true, false, ◌&&◌, [], ◌∷◌, ℕ, eqb}
use Rattle.automata.specs.Language.{Language}
use Rattle.catalogue.specs.Words.{entry_words}

abbrev pub begins_with_one : Language
begins_with_one [] = false
begins_with_one (l ∷ w) = eqb l 1

abbrev pub repeats : ℕ → Language
repeats k [] = true
repeats k (l ∷ w) = eqb l k && repeats k w

abbrev pub nonempty : Language
nonempty [] = false
nonempty (l ∷ w) = true

abbrev pub empty_or_zero : Language
empty_or_zero [] = true
empty_or_zero (l ∷ []) = eqb l 0
empty_or_zero (l ∷ k ∷ w) = false

pub data Named : Type 0 where
  entry : ℕ → Named
  beginning : Named
  star : ℕ → Named
  some : Named
  at_most_zero : Named

abbrev pub words_in : Named → Language
words_in (entry j) = entry_words j
words_in beginning = begins_with_one
words_in (star k) = repeats k
words_in some = nonempty
words_in at_most_zero = empty_or_zero
