-- Sum, complement and mirror (01: every language operation writes the minimal record of its result; rows 1 to 8, then 11, then 12), and the
-- product (02, Note 2: chaining; the same rows). The field's word for the product of languages is concatenation (automata/specs/Cuts). The
-- contracts of sum and product put their records in as they are meant (`as_meant`, operands/specs/Meant).
--   sum_outcome bs cs room       what each service does with a buffer of so many bytes
--   product_outcome bs cs room
--   binary_outcome make bs cs room  an operation on two records, by the automaton that it makes of theirs
--   unary_outcome make bs room      an operation on one record, by the automaton that it makes of the record's
--   complement_outcome bs room
--   mirror_outcome bs room
--   sum_words bs cs              the words that just one of two records accepts
--   product_words bs cs          the words with an odd number of cuts into a word of the first record and then a word of the second
--   Sums bs cs exit r            what is claimed of the answer r and the buffer at exit, over all words and all automata
--   GivesProduct bs cs exit r
--   Combines op bs cs exit r     the same of an operation on two languages
--   Complements bs exit r
--   Mirrors bs exit r
--   Operates op bs exit r        the same of an operation on one language
use Rattle.std.specs.Prelude.{List, ℕ, Result}
use Rattle.automata.specs.Automaton.{Automaton}
use Rattle.automata.specs.Language.{Language, symmetric_difference, complement, reversal}
use Rattle.automata.specs.Cuts.{concatenation}
use Rattle.automata.specs.Operations.{sum_of, complement_of, mirror_of, concatenation_of}
use Rattle.record.specs.Record.{letters_of, check_of, WellFormed, automaton_of, language_of}
use Rattle.record.specs.Outcome.{Outcome, checked}
use Rattle.record.specs.declared.Refusal.{Refusal}
use Rattle.record.specs.Claims.{Operands}
use Rattle.operands.specs.Operands.{pair_of, after_pair}
use Rattle.results.specs.Results.{result_of, Gives}

-- Sum and product have the same checks, limit and writing; only the automaton differs.
abbrev pub binary_outcome : (Automaton → Automaton → Automaton) → List ℕ → List ℕ → ℕ → Outcome
binary_outcome make bs cs room = after_pair (pair_of bs cs) (result_of (letters_of bs) (make (automaton_of bs) (automaton_of cs)) room)

unfoldable pub sum_outcome : List ℕ → List ℕ → ℕ → Outcome
sum_outcome = binary_outcome sum_of

unfoldable pub product_outcome : List ℕ → List ℕ → ℕ → Outcome
product_outcome = binary_outcome concatenation_of

-- So have complement and mirror.
unfoldable pub unary_outcome : (Automaton → Automaton) → List ℕ → ℕ → Outcome
unary_outcome make bs room = checked (check_of bs) 1 (result_of (letters_of bs) (make (automaton_of bs)) room)

abbrev pub complement_outcome : List ℕ → ℕ → Outcome
complement_outcome = unary_outcome complement_of

abbrev pub mirror_outcome : List ℕ → ℕ → Outcome
mirror_outcome = unary_outcome mirror_of

-- ---- what is claimed

abbrev pub sum_words : List ℕ → List ℕ → Language
sum_words bs cs = symmetric_difference (language_of bs) (language_of cs)

-- The minimal record of the words that just one of the two accepts.
abbrev pub Sums : List ℕ → List ℕ → List ℕ → Result ℕ Refusal → Type 0
Sums bs cs exit r = Gives (letters_of bs) (sum_words bs cs) (Operands bs cs) exit r

abbrev pub product_words : List ℕ → List ℕ → Language
product_words bs cs = concatenation (language_of bs) (language_of cs)

-- The minimal record of the words with an odd number of cuts into a word of the first and then a word of the second.
abbrev pub GivesProduct : List ℕ → List ℕ → List ℕ → Result ℕ Refusal → Type 0
GivesProduct bs cs exit r = Gives (letters_of bs) (product_words bs cs) (Operands bs cs) exit r

-- The same of any operation on two languages, for the functions that sum and product share.
abbrev pub Combines : (Language → Language → Language) → List ℕ → List ℕ → List ℕ → Result ℕ Refusal → Type 0
Combines op bs cs exit r = Gives (letters_of bs) (op (language_of bs) (language_of cs)) (Operands bs cs) exit r

-- The minimal record of the words over the letters that the record does not accept.
abbrev pub Complements : List ℕ → List ℕ → Result ℕ Refusal → Type 0
Complements bs exit r = Gives (letters_of bs) (complement (language_of bs)) (WellFormed bs) exit r

-- The minimal record of the reversed words.
abbrev pub Mirrors : List ℕ → List ℕ → Result ℕ Refusal → Type 0
Mirrors bs exit r = Gives (letters_of bs) (reversal (language_of bs)) (WellFormed bs) exit r

-- The same of any operation on a language, for the function that complement and mirror share.
abbrev pub Operates : (Language → Language) → List ℕ → List ℕ → Result ℕ Refusal → Type 0
Operates op bs exit r = Gives (letters_of bs) (op (language_of bs)) (WellFormed bs) exit r
