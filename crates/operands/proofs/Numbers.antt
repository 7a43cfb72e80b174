-- The numbers that the checks of two records refuse with: 1 to 8.
use mathlib.Core.Path.{refl}
use mathlib.Core.Bool.{Bool, true, false, cond}
use mathlib.Core.List.{List, [], ◌∷◌, ◌++◌}
use Prim.Native.Nat.{ℕ}
use lib.Dec.{eqb}
use Rattle.automata.specs.Count.{Member}
use Rattle.automata.proofs.Count.{mem_left, mem_right}
use Rattle.record.specs.Record.{letters_of, check_of}
use Rattle.record.specs.Outcome.{Outcome, refused, wrote}
use Rattle.std.specs.Prelude.{Ok, Err}
use Rattle.record.specs.Rules.{number_of, Check, Checks, refusal}
use Rattle.record.specs.declared.Rule.TheVariants.{UnlikeLetters}
use Rattle.record.proofs.Numbers.{is_member, CheckAmong, check_numbers, check_numbers_lem, Among}
use Rattle.operands.specs.Operands.{named, pair_of, after_pair}

abbrev pub pair_numbers : List ℕ
pair_numbers = check_numbers ++ (8 ∷ [])

abbrev pub PairAmong : List ℕ → Checks → Type 0
PairAmong ns (Ok u) = Unit {0}
PairAmong ns (Err r) = Member (number_of r.rule) ns

named_among : (c : Check) (which : ℕ) (rest : Checks) → CheckAmong check_numbers c → PairAmong pair_numbers rest → PairAmong pair_numbers (named c which rest)
named_among (Ok u) which rest n r = r
named_among (Err f) which rest n r = mem_left (number_of f.rule) check_numbers (8 ∷ []) (n f refl)

pub pair_numbers_lem : (bs cs : List ℕ) → PairAmong pair_numbers (pair_of bs cs)
unfolding pair_of
pair_numbers_lem bs cs =
    named_among (check_of bs) 1 _ (check_numbers_lem bs)
    (named_among (check_of cs) 2 _ (check_numbers_lem cs) (go (eqb (letters_of bs) (letters_of cs))))
  where
    go : (b : Bool) → PairAmong pair_numbers (cond b (Ok tt) (Err (refusal UnlikeLetters 2 6)))
    go true = tt
    go false = is_member pair_numbers 8 refl

-- The checks of two records, then what follows.
pub pair_among : (bs cs : List ℕ) (rest : Outcome) (ns : List ℕ) → Among ns rest → Among (pair_numbers ++ ns) (after_pair (pair_of bs cs) rest)
pair_among bs cs rest ns h = go (pair_of bs cs) (pair_numbers_lem bs cs) rest h
  where
    go : (p : Checks) → PairAmong pair_numbers p → (rest : Outcome) → Among ns rest → Among (pair_numbers ++ ns) (after_pair p rest)
    go (Err r) m rest h = mem_left (number_of r.rule) pair_numbers ns m
    go (Ok u) m (refused rule which place) h = mem_right (number_of rule) pair_numbers ns h
    go (Ok u) m (wrote out) h = tt
