-- The dimension and the minimal automaton as functions: they have their meaning over all words, and no automaton has fewer states.
use mathlib.Core.Path.{◌≡◌, refl, sym, ap, ap₂, subst, ◌∙◌}
use mathlib.Core.Bool.{not, ◌&&◌}
use mathlib.Core.List.{List, reverse}
use Prim.Native.Nat.{ℕ, ◌+◌, ◌*◌, ◌≤◌}
use native.Mathlib.Nat.{le_antisymm}
use native.Mathlib.Omega.{arith}
use lib.ListN.{length}
use Rattle.automata.specs.Xor.{◌⊕◌}
use Rattle.automata.specs.Automaton.{Automaton, accepts}
use Rattle.automata.specs.Language.{Language, Same}
use Rattle.automata.specs.Dimension.{IsDimension}
use Rattle.automata.specs.Minimal.{AllBasis, Minimal, SameBits}
use Rattle.automata.specs.Operations.{sum_of, meet_of, mirror_of, complement_of, concatenation_of, star_of}
use Rattle.automata.specs.MinimalOf.{basis_words, minimal_of, dimension_of}
use Rattle.automata.proofs.Shortlex.{over_reverse}
use Rattle.automata.proofs.Acceptance.{states_bound}
use Rattle.automata.proofs.Minimal.{minimal_accepts, minimal_dimension, minimal_same, same_basis, same_sym, minimal_unique, bits_language}
use Rattle.automata.proofs.Operations.{accepts_sum, accepts_meet, accepts_complement, accepts_mirror}
use Rattle.automata.proofs.Concatenation.{concatenation_same}
use Rattle.automata.proofs.Star.{star_same}
use Rattle.automata.proofs.ConcatenationOf.{accepts_concatenation}
use Rattle.automata.proofs.StarOf.{accepts_star}
use Rattle.automata.proofs.MinimalOf.{minimal_of_lem}

-- ---- the dimension

pub dimension_unique : (a : ℕ) (L : Language) (d e : ℕ) → IsDimension a L d → IsDimension a L e → d ≡ e
dimension_unique a L d e p q = le_antisymm (q.largest d p.reached) (p.largest e q.reached)

-- The dimension of the words that A accepts.
pub dimension_accepted : (a : ℕ) (L : Language) (A : Automaton) → Same a L (accepts A) → IsDimension a L (dimension_of a A)
unfolding dimension_of
dimension_accepted a L A same =
    minimal_dimension a L (minimal_of a A) (basis_words a A.states (accepts A))
    (minimal_same a (accepts A) L (minimal_of a A) (basis_words a A.states (accepts A)) (same_sym a L (accepts A) same) (minimal_of_lem a A))

pub dimension_of_lem : (a : ℕ) (A : Automaton) → IsDimension a (accepts A) (dimension_of a A)
dimension_of_lem a A = dimension_accepted a (accepts A) A (λ w ow. refl)

-- The number of basis words is the dimension.
pub basis_dimension : (a : ℕ) (A : Automaton) (bs : List (List ℕ)) → AllBasis a (accepts A) bs → IsDimension a (accepts A) (length bs)
basis_dimension a A bs all =
    subst (λ cs. IsDimension a (accepts A) (length cs)) (same_basis a (accepts A) (basis_words a A.states (accepts A)) bs (minimal_of_lem a A).words all)
    (minimal_dimension a (accepts A) (minimal_of a A) (basis_words a A.states (accepts A)) (minimal_of_lem a A))

-- No automaton for the language has fewer states.
pub dimension_least : (a : ℕ) (A B : Automaton) → Same a (accepts A) (accepts B) → dimension_of a A ≤ B.states
dimension_least a A B same = states_bound B (accepts A) a (dimension_of a A) same (dimension_of_lem a A).reached

-- The minimal automaton accepts the language, and has as many states as the dimension.
pub minimal_language : (a : ℕ) (A : Automaton) → Same a (accepts A) (accepts (minimal_of a A))
minimal_language a A = minimal_accepts a (accepts A) (minimal_of a A) (basis_words a A.states (accepts A)) (minimal_of_lem a A)

pub minimal_states : (a : ℕ) (A : Automaton) → (minimal_of a A).states ≡ dimension_of a A
unfolding minimal_of dimension_of
minimal_states a A = refl

-- The dimension is one of the language, not of the automaton.
pub dimension_same : (a : ℕ) (A B : Automaton) → Same a (accepts A) (accepts B) → dimension_of a A ≡ dimension_of a B
dimension_same a A B same = le_antisymm (bound a A B same) (bound a B A (λ w ow. sym (same w ow)))
  where
    bound : (a : ℕ) (A B : Automaton) → Same a (accepts A) (accepts B) → dimension_of a A ≤ dimension_of a B
    bound a A B same = subst (λ n. dimension_of a A ≤ n) (minimal_states a B) (dimension_least a A (minimal_of a B) (λ w ow. same w ow ∙ minimal_language a B w ow))

-- ---- the minimal automaton

-- Whatever is minimal for A's language is minimal_of A, bit for bit.
pub minimal_is : (a : ℕ) (A C : Automaton) (bs : List (List ℕ)) → Minimal a (accepts A) C bs → SameBits a C (minimal_of a A)
minimal_is a A C bs M = minimal_unique a (accepts A) (accepts A) C (minimal_of a A) bs (basis_words a A.states (accepts A)) (λ w ow. refl) M (minimal_of_lem a A)

-- The same minimal automaton means the same words, and the other way round.
pub same_minimal : (a : ℕ) (A B : Automaton) → SameBits a (minimal_of a A) (minimal_of a B) → Same a (accepts A) (accepts B)
same_minimal a A B s w ow = minimal_language a A w ow ∙ bits_language a (minimal_of a A) (minimal_of a B) s w ow ∙ sym (minimal_language a B w ow)

pub same_language : (a : ℕ) (A B : Automaton) → Same a (accepts A) (accepts B) → SameBits a (minimal_of a A) (minimal_of a B)
same_language a A B same = minimal_unique a (accepts A) (accepts B) (minimal_of a A) (minimal_of a B) (basis_words a A.states (accepts A)) (basis_words a B.states (accepts B)) same (minimal_of_lem a A) (minimal_of_lem a B)

-- ---- dimensions of results

pub sum_dimension : (a : ℕ) (A B : Automaton) → dimension_of a (sum_of A B) ≤ dimension_of a A + dimension_of a B
sum_dimension a A B = omega (
  arith,
  minimal_states a A,
  minimal_states a B,
  dimension_least a (sum_of A B) (sum_of (minimal_of a A) (minimal_of a B))
      (λ w ow. accepts_sum A B w ∙ ap₂ ◌⊕◌ (minimal_language a A w ow) (minimal_language a B w ow) ∙ sym (accepts_sum (minimal_of a A) (minimal_of a B) w)),
)

pub meet_dimension : (a : ℕ) (A B : Automaton) → dimension_of a (meet_of A B) ≤ dimension_of a A * dimension_of a B
meet_dimension a A B = subst (λ n. dimension_of a (meet_of A B) ≤ n) (ap₂ ◌*◌ (minimal_states a A) (minimal_states a B)) (dimension_least a (meet_of A B) (meet_of (minimal_of a A) (minimal_of a B))
    (λ w ow. accepts_meet A B w ∙ ap₂ ◌&&◌ (minimal_language a A w ow) (minimal_language a B w ow) ∙ sym (accepts_meet (minimal_of a A) (minimal_of a B) w)))

pub complement_dimension : (a : ℕ) (A : Automaton) → dimension_of a (complement_of A) ≤ dimension_of a A + 1
complement_dimension a A = omega (
  arith,
  minimal_states a A,
  dimension_least a (complement_of A) (complement_of (minimal_of a A))
      (λ w ow. accepts_complement A w ∙ ap not (minimal_language a A w ow) ∙ sym (accepts_complement (minimal_of a A) w)),
)

mirror_least : (a : ℕ) (A : Automaton) → dimension_of a (mirror_of A) ≤ dimension_of a A
mirror_least a A = omega (
  arith,
  minimal_states a A,
  dimension_least a (mirror_of A) (mirror_of (minimal_of a A))
      (λ w ow. accepts_mirror A w ∙ minimal_language a A (reverse w) (over_reverse a w ow) ∙ sym (accepts_mirror (minimal_of a A) w)),
)

-- The mirror has the same dimension.
pub mirror_dimension : (a : ℕ) (A : Automaton) → dimension_of a (mirror_of A) ≡ dimension_of a A
mirror_dimension a A = le_antisymm (mirror_least a A) (mirror_least a (mirror_of A))

pub concatenation_dimension : (a : ℕ) (A B : Automaton) → dimension_of a (concatenation_of A B) ≤ dimension_of a A + dimension_of a B
concatenation_dimension a A B = omega (
  arith,
  minimal_states a A,
  minimal_states a B,
  dimension_least a (concatenation_of A B) (concatenation_of (minimal_of a A) (minimal_of a B))
      (λ w ow. accepts_concatenation A B w
      ∙ concatenation_same a (accepts A) (accepts (minimal_of a A)) (accepts B) (accepts (minimal_of a B)) (minimal_language a A) (minimal_language a B) w ow
      ∙ sym (accepts_concatenation (minimal_of a A) (minimal_of a B) w)),
)

pub star_dimension : (a : ℕ) (A : Automaton) → dimension_of a (star_of A) ≤ dimension_of a A + 1
star_dimension a A = omega (
  arith,
  minimal_states a A,
  dimension_least a (star_of A) (star_of (minimal_of a A))
      (λ w ow. accepts_star A w ∙ star_same a (accepts A) (accepts (minimal_of a A)) (minimal_language a A) w ow ∙ sym (accepts_star (minimal_of a A) w)),
)
