-- What the tree of a reduction, as a program holds it, shows: the minimal automaton's fields, its dimension, and the first difference.
use mathlib.Core.Path.{◌≡◌, sym, ap, subst, ◌∙◌}
use mathlib.Core.Bool.{Bool, true, false}
use mathlib.Core.List.{List, []}
use mathlib.Core.Option.{none, some}
use Prim.Native.Nat.{ℕ, ◌<◌}
use native.Mathlib.Omega.{arith}
use lib.ListN.{length, get_or}
use Rattle.automata.specs.Automaton.{Automaton, accepts}
use Rattle.automata.specs.Language.{Same}
use Rattle.automata.specs.Minimal.{Minimal, SameBits}
use Rattle.automata.specs.Operations.{sum_of}
use Rattle.automata.specs.MinimalOf.{minimal_of, dimension_of}
use Rattle.automata.specs.FirstDifference.{first_difference}
use Rattle.automata.specs.Fields.{fields}
use Rattle.automata.specs.Reduction.{ObservableOn, Reduced}
use Rattle.automata.specs.Tree.{Tree, word_to, words_to}
use Rattle.automata.proofs.Xor.{xor_zero}
use Rattle.automata.proofs.Operations.{accepts_sum}
use Rattle.automata.proofs.Reduction.{none_accepted, first_accepted_lem, tableau, reduced_minimal}
use Rattle.automata.proofs.Minimal.{minimal_same}
use Rattle.automata.proofs.Tree.{words_length, words_at, tree_reduced}
use Rattle.automata.proofs.Dimension.{minimal_is}
use Rattle.automata.proofs.Fields.{bits_fields}
use Rattle.automata.proofs.FirstDifference.{first_difference_lem, difference_unique}

-- ---- comparison

module _ (a : ℕ) (A B C : Automaton) (ts : List (List ℕ)) (R : Reduced a (sum_of A B) C ts) where
  -- The search over the sum found no accepted word: the languages are the same.
  compare_same : ((k : ℕ) → k < length ts → accepts (sum_of A B) (get_or ts k []) ≡ false) → first_difference a A B ≡ none
  compare_same h = difference_unique a (accepts A) (accepts B) (first_difference a A B) none (first_difference_lem a A B)
      (λ w ow. xor_zero (sym (accepts_sum A B w) ∙ none_accepted a (sum_of A B) C ts R h w ow))

  -- The first accepted word that it found is the first difference.
  compare_differs : (k : ℕ) → k < length ts → accepts (sum_of A B) (get_or ts k []) ≡ true → ((i : ℕ) → i < k → accepts (sum_of A B) (get_or ts i []) ≡ false)
      → first_difference a A B ≡ some (get_or ts k [])
  compare_differs k hk e h = difference_unique a (accepts A) (accepts B) (first_difference a A B) (some (get_or ts k [])) (first_difference_lem a A B)
      (record {
        over = R.spanning.over k hk;
        differs = sym (accepts_sum A B (get_or ts k [])) ∙ e;
        first = λ u ou p. xor_zero (sym (accepts_sum A B u) ∙ first_accepted_lem a (sum_of A B) C ts R k hk h u ou p);
      })

-- ---- from the tree that a program holds

-- One search over an automaton B with A's language, observable on the rows found.
module _ (a : ℕ) (A B C : Automaton) (same : Same a (accepts B) (accepts A)) (d : ℕ) (R : ℕ → ℕ → Bool) (from by : ℕ → ℕ) (T : Tree a B C d R from by) (O : ObservableOn a B (words_to from by d)) where
  -- It gives the minimal automaton, whose basis words are those of the tree.
  pub tree_minimal : Minimal a (accepts A) C (words_to from by d)
  tree_minimal = minimal_same a (accepts B) (accepts A) C (words_to from by d) same (reduced_minimal a B C (words_to from by d) O (tree_reduced a B C d R from by T))

  same_bits : SameBits a C (minimal_of a A)
  same_bits = minimal_is a A C (words_to from by d) tree_minimal

  -- It has the fields of minimal_of, and its size is the dimension.
  pub tree_fields : fields a C ≡ fields a (minimal_of a A)
  tree_fields = bits_fields a C (minimal_of a A) same_bits

  pub tree_dimension : d ≡ dimension_of a A
  unfolding minimal_of dimension_of
  tree_dimension = sym T.size ∙ same_bits.states

module _ (a : ℕ) (A B C : Automaton) (d : ℕ) (R : ℕ → ℕ → Bool) (from by : ℕ → ℕ) (T : Tree a (sum_of A B) C d R from by) where
  -- C's final column says which of the words found the sum accepts.
  tree_final : (k : ℕ) → k < d → accepts (sum_of A B) (get_or (words_to from by d) k []) ≡ C.final k
  tree_final k h = sym ((tableau a (sum_of A B) C (words_to from by d) (tree_reduced a (sum_of A B) C d R from by T)).ends k (subst (λ n. k < n) (sym (words_length from by d)) h))

  pub tree_same : ((k : ℕ) → k < d → C.final k ≡ false) → first_difference a A B ≡ none
  tree_same h = compare_same a A B C (words_to from by d) (tree_reduced a (sum_of A B) C d R from by T) (λ k p. tree_final k (subst (λ n. k < n) (words_length from by d) p) ∙ h k (subst (λ n. k < n) (words_length from by d) p))

  pub tree_differs : (k : ℕ) → k < d → C.final k ≡ true → ((i : ℕ) → i < k → C.final i ≡ false) → first_difference a A B ≡ some (word_to from by k)
  tree_differs k h e z =
      compare_differs a A B C (words_to from by d) (tree_reduced a (sum_of A B) C d R from by T) k (subst (λ n. k < n) (sym (words_length from by d)) h) (tree_final k h ∙ e) (λ i p. tree_final i (omega arith) ∙ z i p)
      ∙ ap some (words_at from by d k h)
