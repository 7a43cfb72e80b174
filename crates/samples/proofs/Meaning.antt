-- A claim that passes its tests holds over all words.
use mathlib.Core.Path.{◌≡◌, refl, sym, ap, subst, ◌∙◌}
use mathlib.Core.Bool.{true, cond}
use mathlib.Core.List.{List, [], ◌∷◌}
use Prim.Native.Nat.{ℕ, ◌<◌}
use lib.Dec.{eqb}
use lib.ListN.{length}
use borrow.Author.Tests.{eqb-true, leb-true, not-true}
use Rattle.automata.specs.Automaton.{Automaton, accepts, sum_below, paths_from}
use Rattle.automata.specs.Word.{Over}
use Rattle.automata.specs.Language.{Same}
use Rattle.automata.specs.FirstDifference.{first_difference}
use Rattle.automata.proofs.Minimal.{sum_cong}
use Rattle.automata.proofs.Operations.{accepts_sum, accepts_meet, accepts_complement, accepts_mirror}
use Rattle.automata.proofs.StarOf.{accepts_star}
use Rattle.automata.proofs.FirstDifference.{difference_none, difference_some}
use Rattle.record.specs.Record.{states_of, letters_of, check_of, WellFormed, automaton_of, language_of}
use Rattle.record.specs.Claims.{MinimalForm}
use Rattle.record.proofs.Claims.{form_same, minimal_record}
use Rattle.minimal.specs.Minimal.{minimal_bytes}
use Rattle.minimal.proofs.MinimalLaws.{minimal_bytes_lem}
use Rattle.samples.specs.Claims.{Task, minimal, sum, meet, inverse, mirror, repetition, letters_for, language_for, Result, Claim, accepted, rejected, paths, speaks, gives, differ, Means}
use Rattle.samples.specs.Answers.{automaton_for}
use Rattle.samples.proofs.Data.{Passed, passed_true, same_true, none_true, word_true, all_below, below_true}
use Rattle.samples.proofs.Names.{machine, letters_in, machine_words}
use Rattle.samples.proofs.Test.{at_end, steady, tests}

-- ---- paths

module _ (a : ℕ) (A : Automaton) (e : steady a A ≡ true) where
  -- How many paths lead from state i by one letter and end there.
  abbrev by_one_lem : ℕ → ℕ → ℕ
  by_one_lem l i = sum_below A.states (λ j. cond (A.step l i j) (at_end A j) 0)

  steady_at : (l i : ℕ) → l < a → i < A.states → by_one_lem l i ≡ at_end A i
  steady_at l i hl hi =
      eqb-true (by_one_lem l i) (at_end A i)
      (below_true A.states (λ i. eqb (by_one_lem l i) (at_end A i)) (below_true a (λ l. all_below A.states (λ i. eqb (by_one_lem l i) (at_end A i))) e l hl) i hi)

  -- As many along every word as along none.
  steady_paths : (w : List ℕ) → Over a w → (i : ℕ) → i < A.states → paths_from A w i ≡ at_end A i
  steady_paths [] ow i h = refl
  steady_paths (l ∷ w) ow i h =
      sum_cong A.states (λ j p. ap (λ n. cond (A.step l i j) n 0) (steady_paths w ow.1 j p)) ∙ steady_at l i ow.0 h

-- ---- results

-- The automaton that the outcome speaks of accepts the result.
task_words : (t : Task) (a : ℕ) → Same a (language_for t) (accepts (automaton_for t))
task_words (minimal bs) a w ow = refl
task_words (sum bs cs) a w ow = sym (accepts_sum (automaton_of bs) (automaton_of cs) w)
task_words (meet bs cs) a w ow = sym (accepts_meet (automaton_of bs) (automaton_of cs) w)
task_words (inverse bs) a w ow = sym (accepts_complement (automaton_of bs) w)
task_words (mirror bs) a w ow = sym (accepts_mirror (automaton_of bs) w)
task_words (repetition bs) a w ow = sym (accepts_star (automaton_of bs) w)

module _ (t : Task) (r : List ℕ) (n d : ℕ) (p : Passed (tests (gives t r n d))) where
  pub formed : WellFormed r
  formed = passed_true (check_of r) p.1.0

  pub over : letters_of r ≡ letters_for t
  over = eqb-true (letters_of r) (letters_for t) p.1.1.0

  pub states : states_of r ≡ d
  states = eqb-true (states_of r) d p.1.1.1.0

  pub own : minimal_bytes r ≡ r
  own = same_true (minimal_bytes r) r p.1.1.1.1.0

  pub same : Same (letters_for t) (accepts (automaton_for t)) (language_of r)
  same = difference_none (letters_for t) (automaton_for t) (automaton_of r) (none_true (first_difference (letters_for t) (automaton_for t) (automaton_of r)) p.1.1.1.1.1.0)

  result : Same (letters_for t) (language_for t) (language_of r)
  result w ow = task_words t (letters_for t) w ow ∙ same w ow

  -- The record is its own minimal record, so it is one for the language of the result.
  result_form : MinimalForm (letters_for t) (language_for t) r
  result_form =
      let m = subst (MinimalForm (letters_of r) (language_of r)) own (minimal_bytes_lem r formed).0.form in
      form_same (letters_for t) (language_of r) (language_for t) r (λ w ow. sym (result w ow)) (subst (λ a. MinimalForm a (language_of r) r) over m)

  gives_holds : Result t r n d
  gives_holds = record {
    size = eqb-true (length r) n p.1.1.1.1.1.1.0;
    minimal = minimal_record (letters_for t) (language_for t) r result_form;
    dimension = states;
  }

-- ---- each claim

pub holds : (c : Claim) → Passed (tests c) → Means c
holds (accepted bs w) p = p.1.1.0
holds (rejected bs w) p = not-true (accepts (automaton_of bs) w) p.1.1.0
holds (paths bs k) p = λ w ow.
    sum_cong (states_of bs) (λ i h. ap (λ n. cond ((automaton_of bs).initial i) n 0) (steady_paths (letters_of bs) (automaton_of bs) p.1.0 w ow i h))
    ∙ eqb-true (sum_below (states_of bs) (λ i. cond ((automaton_of bs).initial i) (at_end (automaton_of bs) i) 0)) k p.1.1.0
holds (speaks bs s) p = λ w ow.
    machine_words s (letters_of bs) p.1.0 (leb-true (letters_of bs) (letters_in s) p.1.1.0) w ow
    ∙ difference_none (letters_of bs) (machine s) (automaton_of bs) (none_true (first_difference (letters_of bs) (machine s) (automaton_of bs)) p.1.1.1.0) w ow
holds (gives t r n d) p = gives_holds t r n d p
holds (differ bs cs w s) p = (
  difference_some (letters_of bs) (automaton_of bs) (automaton_of cs) w (word_true w (first_difference (letters_of bs) (automaton_of bs) (automaton_of cs)) p.1.0),
  p.1.1.0,
)
