-- The numbers of the operations' refusals.
use mathlib.Core.Path.{refl}
use mathlib.Core.List.{List, [], ◌∷◌, ◌++◌}
use Prim.Native.Nat.{ℕ, ◌*◌}
use native.Mathlib.Omega.{arith}
use lib.Dec.{ltb}
use Rattle.automata.specs.MinimalOf.{dimension_of}
use Rattle.automata.specs.Operations.{sum_of, meet_of, complement_of, mirror_of, concatenation_of, star_of}
use Rattle.automata.proofs.Dimension.{dimension_least}
use Rattle.record.specs.Record.{letters_of, automaton_of, language_of}
use Rattle.record.specs.declared.Rule.TheVariants.{Product, EmptyWord}
use Rattle.record.proofs.Refusals.{good_check}
use Rattle.record.proofs.Numbers.{check_numbers, Among, row_among, checked_among}
use Rattle.operands.proofs.Numbers.{pair_numbers, pair_among}
use Rattle.results.proofs.ResultLaws.{result_among, result_fits}
use Rattle.operations.specs.Operations.{sum_outcome, product_outcome, unary_outcome, complement_outcome, mirror_outcome}
use Rattle.intersection.specs.Meet.{max_product, meet_outcome}
use Rattle.star.specs.Star.{star_outcome}

-- Rows 11 and 12.
abbrev result_numbers : List ℕ
result_numbers = 11 ∷ 12 ∷ []

abbrev pub sum_numbers : List ℕ
sum_numbers = pair_numbers ++ result_numbers

pub sum_among : (bs cs : List ℕ) (room : ℕ) → Among sum_numbers (sum_outcome bs cs room)
unfolding sum_outcome
sum_among bs cs room = pair_among bs cs _ result_numbers (result_among (letters_of bs) (sum_of (automaton_of bs) (automaton_of cs)) room)

abbrev pub product_numbers : List ℕ
product_numbers = pair_numbers ++ result_numbers

pub product_among : (bs cs : List ℕ) (room : ℕ) → Among product_numbers (product_outcome bs cs room)
unfolding product_outcome
product_among bs cs room = pair_among bs cs _ result_numbers (result_among (letters_of bs) (concatenation_of (automaton_of bs) (automaton_of cs)) room)

abbrev pub meet_numbers : List ℕ
meet_numbers = pair_numbers ++ (10 ∷ result_numbers)

pub meet_among : (bs cs : List ℕ) (room : ℕ) → Among meet_numbers (meet_outcome bs cs room)
unfolding meet_outcome
meet_among bs cs room =
    let d = dimension_of (letters_of bs) (automaton_of bs) * dimension_of (letters_of bs) (automaton_of cs) in
    pair_among bs cs _ (10 ∷ result_numbers)
    (row_among (ltb max_product d) Product 0 d _ result_numbers (result_among (letters_of bs) (meet_of (automaton_of bs) (automaton_of cs)) room))

abbrev pub complement_numbers : List ℕ
complement_numbers = check_numbers ++ result_numbers

pub complement_among : (bs : List ℕ) (room : ℕ) → Among complement_numbers (complement_outcome bs room)
unfolding unary_outcome
complement_among bs room = checked_among bs 1 _ result_numbers (λ good. result_among (letters_of bs) (complement_of (automaton_of bs)) room)

-- The mirror of a record has as many states as the record, and so no dimension over 32: no row 11.
abbrev pub mirror_numbers : List ℕ
mirror_numbers = check_numbers ++ (12 ∷ [])

pub mirror_among : (bs : List ℕ) (room : ℕ) → Among mirror_numbers (mirror_outcome bs room)
unfolding unary_outcome
mirror_among bs room =
    checked_among bs 1 _ (12 ∷ [])
    (λ good.
    let m = mirror_of (automaton_of bs) in
    result_fits (letters_of bs) m room (omega (arith, dimension_least (letters_of bs) m m (λ w ow. refl), (good_check bs good).front.states)))

abbrev pub star_numbers : List ℕ
star_numbers = check_numbers ++ (14 ∷ result_numbers)

pub star_among : (bs : List ℕ) (room : ℕ) → Among star_numbers (star_outcome bs room)
unfolding star_outcome
star_among bs room =
    checked_among bs 1 _ (14 ∷ result_numbers)
    (λ good. row_among (language_of bs []) EmptyWord 1 0 _ result_numbers (result_among (letters_of bs) (star_of (automaton_of bs)) room))
