-- The computed test of a claim, and the table's: each entry of it passes.
use mathlib.Core.Path.{◌≡◌, refl}
use mathlib.Core.Bool.{Bool, true, not, ◌&&◌, cond}
use mathlib.Core.List.{List, [], ◌∷◌}
use Prim.Native.Nat.{ℕ, ◌*◌}
use lib.Dec.{eqb, leb}
use lib.ListN.{length}
use Rattle.automata.specs.Automaton.{Automaton, accepts, sum_below}
use Rattle.automata.specs.Word.{is_over}
use Rattle.automata.specs.MinimalOf.{minimal_of, basis_words, dimension_of}
use Rattle.automata.specs.FirstDifference.{first_difference}
use Rattle.record.specs.Bytes.{number, bytes_of, all_bytes}
use Rattle.record.specs.Record.{states_of, letters_of, stray_from, front_of, check_of, automaton_of, encode}
use Rattle.operands.specs.Operands.{pair_of}
use Rattle.minimal.specs.Minimal.{minimal_bytes}
use Rattle.compare.specs.Compare.{acceptor_of}
use Rattle.intersection.specs.Meet.{max_product}
use Rattle.catalogue.specs.Entries.{entry_of, letters_at, record_of}
use Rattle.samples.specs.Claims.{Task, minimal, sum, meet, inverse, mirror, repetition, letters_for, Claim, accepted, rejected, paths, speaks, gives, differ}
use Rattle.samples.specs.Table.{x12, x, no_states, one_state, two_paths, zero_star, one_star, cycle, star_sum, first_one, nonempty, empty_or_zero, samples, Every}
use Rattle.samples.specs.Answers.{automaton_for}
use Rattle.samples.proofs.Data.{every, passed, same_list, no_word, is_word, all_below}
use Rattle.samples.proofs.Names.{machine, letters_in, known}

-- ---- the test of a claim

-- How many paths there are along no letter from state i.
abbrev pub at_end : Automaton → ℕ → ℕ
at_end A i = cond (A.final i) 1 0

-- Each state has as many paths along any one letter as along none.
abbrev pub steady : ℕ → Automaton → Bool
steady a A = all_below a (λ l. all_below A.states (λ i. eqb (sum_below A.states (λ j. cond (A.step l i j) (at_end A j) 0)) (at_end A i)))

-- What the service checks, rows 10 and 14 included.
abbrev pub passes : Task → Bool
passes (minimal bs) = passed (check_of bs)
passes (sum bs cs) = passed (pair_of bs cs)
passes (meet bs cs) = passed (pair_of bs cs) && leb (dimension_of (letters_of bs) (automaton_of bs) * dimension_of (letters_of bs) (automaton_of cs)) max_product
passes (inverse bs) = passed (check_of bs)
passes (mirror bs) = passed (check_of bs)
passes (repetition bs) = passed (check_of bs) && not (accepts (automaton_of bs) [])

-- Each claim's tests. Of a result: the record r is its own minimal record, with d states, and accepts the words of the result; that is
-- less to compute than the minimal record of the result.
abbrev pub tests : Claim → List Bool
tests (accepted bs w) = passed (check_of bs) ∷ is_over (letters_of bs) w ∷ accepts (automaton_of bs) w ∷ []
tests (rejected bs w) = passed (check_of bs) ∷ is_over (letters_of bs) w ∷ not (accepts (automaton_of bs) w) ∷ []
tests (paths bs k) =
    passed (check_of bs)
    ∷ steady (letters_of bs) (automaton_of bs)
    ∷ eqb (sum_below (states_of bs) (λ i. cond ((automaton_of bs).initial i) (at_end (automaton_of bs) i) 0)) k
    ∷ []
tests (speaks bs s) =
    passed (check_of bs)
    ∷ known s
    ∷ leb (letters_of bs) (letters_in s)
    ∷ no_word (first_difference (letters_of bs) (machine s) (automaton_of bs))
    ∷ []
tests (gives t r n d) =
    passes t
    ∷ passed (check_of r)
    ∷ eqb (letters_of r) (letters_for t)
    ∷ eqb (states_of r) d
    ∷ same_list (minimal_bytes r) r
    ∷ no_word (first_difference (letters_for t) (automaton_for t) (automaton_of r))
    ∷ eqb (length r) n
    ∷ []
tests (differ bs cs w s) =
    passed (pair_of bs cs)
    ∷ is_word w (first_difference (letters_of bs) (automaton_of bs) (automaton_of cs))
    ∷ accepts (automaton_of (acceptor_of s bs cs)) w
    ∷ []

-- ---- the table

abbrev pub passing : List Claim → Bool
passing [] = true
passing (c ∷ cs) = every (tests c) && passing cs

-- One computation for each sample.
pub table_passes : Every (λ s. passing s ≡ true) samples
unfolding samples x12 x no_states one_state two_paths zero_star one_star cycle star_sum first_one nonempty empty_or_zero record_of entry_of letters_at front_of check_of stray_from pair_of number bytes_of all_bytes encode minimal_of minimal_bytes basis_words dimension_of first_difference
table_passes = (refl, (refl, (refl, (refl, (refl, (refl, (refl, (refl, (refl, tt)))))))))
