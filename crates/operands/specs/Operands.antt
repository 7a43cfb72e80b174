-- The checks of two records (01: "The first record runs 1 to 7, then the second", then row 8).
--   named c which rest  a refusal of record `which` is the whole answer; else the rest decides
--   pair_of bs cs       what the checks of both find
--   after_pair          what follows them in a service that writes
use Rattle.std.specs.Prelude.{cond, List, ℕ, eqb, Ok, Err}
use Rattle.record.specs.Record.{letters_of, check_of}
use Rattle.record.specs.Rules.{Check, Checks, refusal}
use Rattle.record.specs.Outcome.{Outcome, refused}
use Rattle.record.specs.declared.Rule.TheVariants.{UnlikeLetters}

abbrev pub named : Check → ℕ → Checks → Checks
named (Ok u) which rest = rest
named (Err f) which rest = Err (refusal f.rule which f.place)

-- Row 8 is told of the second record, at its offset 6.
unfoldable pub pair_of : List ℕ → List ℕ → Checks
pair_of bs cs = named (check_of bs) 1 (named (check_of cs) 2 (cond (eqb (letters_of bs) (letters_of cs)) (Ok tt) (Err (refusal UnlikeLetters 2 6))))

abbrev pub after_pair : Checks → Outcome → Outcome
after_pair (Ok u) rest = rest
after_pair (Err r) rest = refused r.rule r.record r.place
