-- What a check finds and what a service answers: a refusal names a row of the refusal table, and where its condition was met.
--   number_of r              the published number of a row
--   Check                    what the check of one record finds: it passes, or a fault
--   fault r place            row r, met at a place of the record
--   Checks                   what the checks of a service's records find: they pass, or a refusal
--   refusal r which place    row r, met by record `which` (1 or 2; 0: by none) at a place
--   refusal_of c which       what the check of record `which` found, as a service tells it
use Rattle.std.specs.Prelude.{ℕ, Result, Ok, Err}
use Rattle.record.specs.declared.Rule.{Rule}
use Rattle.record.specs.declared.Rule.TheVariants.{TooShort, WrongMark, WrongVersion, States, Letters, WrongLength, StrayBit, UnlikeLetters, Product, Dimension, NoRoom, NoEntry, EmptyWord}
use Rattle.record.specs.declared.Fault.{Fault}
use Rattle.record.specs.declared.Refusal.{Refusal}

-- 9 has no row.
abbrev pub number_of : Rule → ℕ
number_of TooShort = 1
number_of WrongMark = 2
number_of WrongVersion = 3
number_of States = 4
number_of Letters = 5
number_of WrongLength = 6
number_of StrayBit = 7
number_of UnlikeLetters = 8
number_of Product = 10
number_of Dimension = 11
number_of NoRoom = 12
number_of NoEntry = 13
number_of EmptyWord = 14

abbrev pub fault : Rule → ℕ → Fault
fault rule place = record { rule = rule; place = place }

abbrev pub refusal : Rule → ℕ → ℕ → Refusal
refusal rule which place = record { rule = rule; «record» = which; place = place }

abbrev pub Check : Type 0
Check = Result (Unit {0}) Fault

abbrev pub Checks : Type 0
Checks = Result (Unit {0}) Refusal

abbrev pub refusal_of : Check → ℕ → Checks
refusal_of (Ok u) which = Ok u
refusal_of (Err f) which = Err (refusal f.rule which f.place)
