-- The result of an operation (01: every language operation writes the minimal record of its result; row 11, then 12).
--   limited d rest       row 11: a dimension over 32 is refused, else the rest decides
--   result_of a A room   the minimal record of A's language over a letters, in a buffer of so many bytes: rows 11 and 12
--   Limits rule limit    exactly when a limit refuses, and with which place
--   Gives a L Passed     what an operation is claimed to give once its records pass: the minimal record of L over a letters, or row 11
use Rattle.std.specs.Prelude.{◌≡◌, cond, List, ℕ, ◌<◌, ltb, take, Result, Ok, Err}
use Rattle.automata.specs.Automaton.{Automaton}
use Rattle.automata.specs.Language.{Language}
use Rattle.automata.specs.Dimension.{IsDimension}
use Rattle.automata.specs.MinimalOf.{minimal_of, dimension_of}
use Rattle.record.specs.Record.{max_states, encode}
use Rattle.record.specs.Claims.{MinimalRecord}
use Rattle.record.specs.Outcome.{Outcome, refused, fit}
use Rattle.record.specs.Rules.{refusal}
use Rattle.record.specs.declared.Rule.{Rule}
use Rattle.record.specs.declared.Rule.TheVariants.{Dimension}
use Rattle.record.specs.declared.Refusal.{Refusal}

-- ---- what an operation does

abbrev pub limited : ℕ → Outcome → Outcome
limited d rest = cond (ltb max_states d) (refused Dimension 0 d) rest

unfoldable pub result_of : ℕ → Automaton → ℕ → Outcome
result_of a A room = limited (dimension_of a A) (fit room (encode a (minimal_of a A)))

-- ---- what is claimed over all words

-- The answer r is that refusal exactly where the earlier checks pass and what is measured is over the limit; its place is the measure.
pub record Limits (rule : Rule) (limit : ℕ) (Passed : Type 0) (Measures : ℕ → Type 0) (r : Result ℕ Refusal) : Type 0 where
  pub refuses : Passed → (d : ℕ) → Measures d → limit < d → r ≡ Err (refusal rule 0 d)
  pub only : (d : ℕ) → r ≡ Err (refusal rule 0 d) → Passed × Measures d × (limit < d)

-- Where the answer r grants, the bytes written are the minimal record of L; it refuses with 11 exactly where the dimension of L is over 32.
pub record Gives (a : ℕ) (L : Language) (Passed : Type 0) (exit : List ℕ) (r : Result ℕ Refusal) : Type 0 where
  pub form : (n : ℕ) → r ≡ Ok n → MinimalRecord a L (take n exit)
  pub limits : Limits Dimension max_states Passed (IsDimension a L) r
