-- The reply that the C host gets for each case of an answer (01: Refusals; What the desk does).
--   reply          its five numbers in order; number 0 grants, and a field that a case has no use for is 0
--   of_refusal     a refusal of a service
--   of_checked     the record check
--   of_written     a service that writes: the bytes written
--   of_tested      the test of a word: value 1 where it is accepted
--   of_minimised   the minimal service: the bytes written, and the dimension as value
--   of_compared    a comparison: value 0 where the languages are the same, else the record that accepts the word; its letters as length
--   NumberIn ns r  the number of the reply r is one of ns: what a host must be ready for
--   rule_of        the row of the refusal table by its number
--   told_in x    the answer that grants x, or the refusal
--   written_in     the answer that a host reads off a reply: the inverse of of_written, of of_tested, of of_minimised and of of_compared on the
--   tested_in      answers that come
--   minimised_in
--   compared_in
use Rattle.std.specs.Prelude.{Bool, true, false, cond, List, ℕ, zero, suc, eqb, Result, Ok, Err, Option, None, Some}
use Rattle.automata.specs.Count.{Member}
use Rattle.replies.specs.declared.Reply.{Reply}
use Rattle.record.specs.Rules.{number_of, Check, refusal}
use Rattle.record.specs.declared.Refusal.{Refusal}
use Rattle.record.specs.declared.Rule.{Rule}
use Rattle.record.specs.declared.Rule.TheVariants.{TooShort, WrongMark, WrongVersion, States, Letters, WrongLength, StrayBit, UnlikeLetters, Product, Dimension, NoRoom, NoEntry, EmptyWord}
use Rattle.testing.specs.Testing.{Tested}
use Rattle.minimal.specs.Minimal.{minimised}
use Rattle.minimal.specs.declared.Minimised.{Minimised}
use Rattle.verdict.specs.declared.Side.{Side}
use Rattle.verdict.specs.declared.Side.TheVariants.{First, Second}
use Rattle.compare.specs.Compare.{Compared, differs}
use Rattle.compare.specs.declared.Difference.{Difference}

abbrev pub reply : ℕ → ℕ → ℕ → ℕ → ℕ → Reply
reply number which place length value = record {
  number = number;
  «record» = which;
  place = place;
  length = length;
  value = value;
}

abbrev pub of_refusal : Refusal → Reply
of_refusal r = reply (number_of r.rule) r.«record» r.place 0 0

-- The check has one record, so a refusal names record 1.
abbrev pub of_checked : Check → Reply
of_checked (Ok u) = reply 0 0 0 0 0
of_checked (Err f) = of_refusal (refusal f.rule 1 f.place)

abbrev pub of_written : Result ℕ Refusal → Reply
of_written (Ok length) = reply 0 0 0 length 0
of_written (Err r) = of_refusal r

abbrev pub of_tested : Tested → Reply
of_tested (Ok true) = reply 0 0 0 0 1
of_tested (Ok false) = reply 0 0 0 0 0
of_tested (Err r) = of_refusal r

abbrev pub of_minimised : Result Minimised Refusal → Reply
of_minimised (Ok m) = reply 0 0 0 m.length m.dimension
of_minimised (Err r) = of_refusal r

abbrev pub side_number : Side → ℕ
side_number First = 1
side_number Second = 2

abbrev pub of_compared : Compared → Reply
of_compared (Ok None) = reply 0 0 0 0 0
of_compared (Ok (Some d)) = reply 0 0 0 d.length (side_number d.side)
of_compared (Err r) = of_refusal r

-- The numbers that a service's reply can have stand in its contract, 0 first, then those of its refusals in the order of the checks.
abbrev pub NumberIn : List ℕ → Reply → Type 0
NumberIn ns r = Member r.number ns

-- ---- the answer behind a reply

-- The rule of a number. No other numbers come (`NumberIn`): of those it says the last rule.
abbrev pub rule_of : ℕ → Rule
rule_of n =
    cond (eqb n 1) TooShort
    (cond (eqb n 2) WrongMark
    (cond (eqb n 3) WrongVersion
    (cond (eqb n 4) States
    (cond (eqb n 5) Letters
    (cond (eqb n 6) WrongLength
    (cond (eqb n 7) StrayBit
    (cond (eqb n 8) UnlikeLetters
    (cond (eqb n 10) Product
    (cond (eqb n 11) Dimension
    (cond (eqb n 12) NoRoom
    (cond (eqb n 13) NoEntry EmptyWord)))))))))))

-- Number 0 grants.
abbrev pub told_in : {X : Type 0} → X → Reply → Result X Refusal
told_in x r = cond (eqb r.number 0) (Ok x) (Err (refusal (rule_of r.number) r.«record» r.place))

abbrev pub written_in : Reply → Result ℕ Refusal
written_in r = told_in r.length r

-- Value 1 says that the word is accepted.
abbrev pub tested_in : Reply → Tested
tested_in r = told_in (eqb r.value 1) r

abbrev pub minimised_in : Reply → Result Minimised Refusal
minimised_in r = told_in (minimised r.length r.value) r

-- The value names the record that accepts the word, 0 none.
abbrev pub verdict_in : ℕ → ℕ → Option Difference
verdict_in zero length = None
verdict_in (suc zero) length = Some (differs length First)
verdict_in (suc (suc k)) length = Some (differs length Second)

abbrev pub compared_in : Reply → Compared
compared_in r = told_in (verdict_in r.value r.length) r
