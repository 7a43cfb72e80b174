-- The minimal automaton and the dimension as functions, by a search that is bounded by the number of states.
-- They are `Minimal` and `IsDimension`, over all words (proofs/MinimalOf, proofs/Results).
--   minimal_of a A      the minimal automaton of A's language over a letters
--   dimension_of a A    the dimension of A's language
use Rattle.std.specs.Prelude.{Bool, true, false, not, cond, List, [], ◌∷◌, ◌++◌, ℕ, zero, suc, eqb, length, get_or}
use Rattle.automata.specs.Xor.{◌⊕◌, comb}
use Rattle.automata.specs.Automaton.{Automaton, accepts}
use Rattle.automata.specs.Language.{Language}
use Rattle.automata.specs.Dimension.{quotients}
use Rattle.automata.specs.WordList.{words_below, all_of}

-- c with b as coefficient k.
abbrev pub with_bit : ℕ → Bool → (ℕ → Bool) → ℕ → Bool
with_bit k b c i = cond (eqb i k) b (c i)

-- Coefficients below k at which P holds, if there are any.
abbrev pub choose : ℕ → ((ℕ → Bool) → Bool) → ℕ → Bool
choose zero P = λ i. false
choose (suc k) P =
    let c = with_bit k false (choose k (λ c. P (with_bit k false c))) in
    let e = with_bit k true (choose k (λ c. P (with_bit k true c))) in
    cond (P c) c e

-- Whether the quotient by w is, on the words shorter than n, the xor of the quotients by those of bs that c takes.
abbrev pub fits : ℕ → ℕ → Language → List (List ℕ) → List ℕ → (ℕ → Bool) → Bool
fits a n L bs w c = all_of (λ v. not (L (w ++ v) ⊕ comb (length bs) c (quotients L (λ i. get_or bs i [])) v)) (words_below a n)

abbrev pub coefs : ℕ → ℕ → Language → List (List ℕ) → List ℕ → ℕ → Bool
coefs a n L bs w = choose (length bs) (fits a n L bs w)

abbrev pub spans : ℕ → ℕ → Language → List (List ℕ) → List ℕ → Bool
spans a n L bs w = fits a n L bs w (coefs a n L bs w)

-- Each word of a list in turn joins bs, unless bs spans its quotient.
abbrev pub greedy : ℕ → ℕ → Language → List (List ℕ) → List (List ℕ) → List (List ℕ)
greedy a n L bs [] = bs
greedy a n L bs (w ∷ ws) = greedy a n L (cond (spans a n L bs w) bs (bs ++ (w ∷ []))) ws

-- The basis words of a language that some automaton with at most n states accepts.
unfoldable pub basis_words : ℕ → ℕ → Language → List (List ℕ)
basis_words a n L = greedy a n L [] (words_below a (suc n))

-- The automaton on the words bs: one state for each.
abbrev pub automaton_on : ℕ → ℕ → Language → List (List ℕ) → Automaton
automaton_on a n L bs = record {
  states = length bs;
  initial = λ k. eqb k 0;
  final = λ k. L (get_or bs k []);
  step = λ l k. coefs a n L bs (get_or bs k [] ++ (l ∷ []));
}

unfoldable pub minimal_of : ℕ → Automaton → Automaton
minimal_of a A = automaton_on a A.states (accepts A) (basis_words a A.states (accepts A))

unfoldable pub dimension_of : ℕ → Automaton → ℕ
dimension_of a A = length (basis_words a A.states (accepts A))
