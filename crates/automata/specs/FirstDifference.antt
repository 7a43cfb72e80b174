-- The first difference of two languages: the first word, in shortlex order, that just one of them has.
--   FirstDifference a L K w    w is the first difference, over all words over a letters
--   IsDifference a L K x       what a comparison may answer: nothing when the languages are the same, else their first difference
--   first_difference a A B     that answer as a function, by a search bounded by the states of A and B together
use Rattle.std.specs.Prelude.{◌≡◌, true, List, ℕ, ◌+◌}
use Rattle.std.proofs.Math.Option.{Option, none, some}
use Rattle.automata.specs.Xor.{◌⊕◌}
use Rattle.automata.specs.Automaton.{Automaton, accepts}
use Rattle.automata.specs.Word.{Over, Shortlex}
use Rattle.automata.specs.Language.{Language, Same}
use Rattle.automata.specs.WordList.{words_below, first_of}

pub record FirstDifference (a : ℕ) (L K : Language) (w : List ℕ) : Type 0 where
  pub over : Over a w
  pub differs : L w ⊕ K w ≡ true
  pub first : (u : List ℕ) → Over a u → Shortlex u w → L u ≡ K u

abbrev pub IsDifference : ℕ → Language → Language → Option (List ℕ) → Type 0
IsDifference a L K none = Same a L K
IsDifference a L K (some w) = FirstDifference a L K w

unfoldable pub first_difference : ℕ → Automaton → Automaton → Option (List ℕ)
first_difference a A B = first_of (λ w. accepts A w ⊕ accepts B w) (words_below a (A.states + B.states))
