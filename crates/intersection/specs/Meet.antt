-- The meet service (01: meet; rows 1 to 8, then 10, 11 and 12). Its contract puts the records in as they are meant (`as_meant`,
-- operands/specs/Meant).
--   max_product                 the largest product of the dimensions that is taken
--   crossing d rest             row 10: a product over that is refused, else the rest decides
--   meet_outcome bs cs room     what the service does with a buffer of so many bytes
--   DimensionProduct bs cs p    p is the product of the dimensions of two records
--   Small bs cs                 that product is not over the limit
--   Meets bs cs exit r          what is claimed of the answer r and the buffer at exit, over all words and all automata
use Rattle.std.specs.Prelude.{◌≡◌, cond, List, ℕ, ◌*◌, ◌≤◌, ltb, Result}
use Rattle.automata.specs.Language.{intersection}
use Rattle.automata.specs.MinimalOf.{dimension_of}
use Rattle.automata.specs.Operations.{meet_of}
use Rattle.record.specs.Record.{letters_of, automaton_of, language_of}
use Rattle.record.specs.Claims.{HasDimension, Operands}
use Rattle.record.specs.Outcome.{Outcome, refused}
use Rattle.record.specs.declared.Rule.TheVariants.{Product}
use Rattle.record.specs.declared.Refusal.{Refusal}
use Rattle.operands.specs.Operands.{pair_of, after_pair}
use Rattle.results.specs.Results.{result_of, Limits, Gives}

abbrev pub max_product : ℕ
max_product = 64

abbrev pub crossing : ℕ → Outcome → Outcome
crossing d rest = cond (ltb max_product d) (refused Product 0 d) rest

-- Row 10 asks for the dimensions of the languages, whatever the states of the records.
unfoldable pub meet_outcome : List ℕ → List ℕ → ℕ → Outcome
meet_outcome bs cs room =
    after_pair (pair_of bs cs)
    (crossing (dimension_of (letters_of bs) (automaton_of bs) * dimension_of (letters_of bs) (automaton_of cs))
    (result_of (letters_of bs) (meet_of (automaton_of bs) (automaton_of cs)) room))

-- ---- what is claimed

pub record DimensionProduct (bs cs : List ℕ) (p : ℕ) : Type 0 where
  pub first : ℕ
  pub second : ℕ
  pub one : HasDimension bs first
  pub two : HasDimension cs second
  pub product : p ≡ first * second

abbrev pub Small : List ℕ → List ℕ → Type 0
Small bs cs = (p : ℕ) → DimensionProduct bs cs p → p ≤ max_product

-- Row 10 comes exactly where the records pass and the product of their dimensions is over 64. Where it is not, the minimal record of the
-- words that both accept is given, or row 11.
pub record Meets (bs cs exit : List ℕ) (r : Result ℕ Refusal) : Type 0 where
  pub products : Limits Product max_product (Operands bs cs) (DimensionProduct bs cs) r
  pub gives : Gives (letters_of bs) (intersection (language_of bs) (language_of cs)) (Operands bs cs × Small bs cs) exit r
