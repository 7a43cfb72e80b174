-- The automaton folded onto the pivots of its columns: it accepts the same words, and one reduction of it is minimal.
use mathlib.Core.Path.{◌≡◌, sym, ap, ◌∙◌}
use mathlib.Core.Bool.{Bool, true, false, ◌&&◌, and_comm}
use mathlib.Core.List.{List, [], ◌∷◌}
use Prim.Native.Nat.{ℕ, ◌<◌}
use lib.Dec.{eqb}
use lib.ListN.{length}
use Rattle.automata.specs.Xor.{xor_below, comb}
use Rattle.automata.specs.Automaton.{Automaton, accepts}
use Rattle.automata.specs.Word.{Over}
use Rattle.automata.specs.Language.{Same}
use Rattle.automata.specs.MinimalOf.{minimal_of, dimension_of}
use Rattle.automata.specs.Fields.{fields}
use Rattle.automata.specs.Row.{accepts_from, row_accepts}
use Rattle.automata.specs.Reduction.{row_of, ObservableOn}
use Rattle.automata.specs.Tree.{Tree, words_to}
use Rattle.automata.proofs.Xor.{xor_cong, xor_pick, xor_matrix, and_swap, eqb_sym}
use Rattle.automata.proofs.Acceptance.{from_nil, from_cons, accepts_row}
use Rattle.automata.proofs.Results.{tree_fields, tree_dimension}
use Rattle.observation.specs.Listed.{Listed}
use Rattle.observation.specs.Observed.{Observed, folded, folded_of}
use Rattle.observation.proofs.ListedLaws.{listed_eqb}

-- Every state is a pivot: nothing is folded.
pub folded_none : (n : ℕ) (P : ℕ → Bool) (E : ℕ → ℕ → Bool) → ((i j : ℕ) → i < n → j < n → P i ≡ true → P j ≡ true → E i j ≡ eqb i j)
    → ((k : ℕ) → k < n → P k ≡ true) → (r : ℕ → Bool) (k : ℕ) → k < n → folded n E (λ j. j) r k ≡ r k
folded_none n P E unit all r k h = xor_cong n (λ i p. ap (λ b. r i && b) (unit k i h p (all k h) (all i p) ∙ eqb_sym k i) ∙ and_comm (r i) (eqb i k)) ∙ xor_pick n k h r

module _ (a : ℕ) (A : Automaton) (P : ℕ → Bool) (E : ℕ → ℕ → Bool) (O : Observed a A P E) (r : ℕ) (σ : ℕ → ℕ) (L : Listed A.states P r σ) where
  abbrev n : ℕ
  n = A.states

  abbrev F : Automaton
  F = folded_of A E r σ

  -- ---- the same words

  -- A folded row accepts the same words: a column is the xor of the basis rows at its pivots.
  folded_accepts : (x : ℕ → Bool) (v : List ℕ) → Over a v → xor_below r (λ j. folded n E σ x j && accepts_from A v (σ j)) ≡ row_accepts A x v
  folded_accepts x v ov =
      L.total (λ k. xor_below n (λ i. x i && E k i) && accepts_from A v k)
      ∙ sym
      (xor_cong n (λ i p. ap (λ b. x i && b) (O.span v ov i p ∙ xor_cong n (λ k q. and_comm (accepts_from A v k && P k) (E k i))))
      ∙ xor_matrix n n x (λ i k. E k i) (λ k. accepts_from A v k && P k)
      ∙ xor_cong n (λ k p. turn (xor_below n (λ i. x i && E k i)) (accepts_from A v k) (P k)))
    where
      turn : (b c p : Bool) → b && (c && p) ≡ p && (b && c)
      turn b c p = ap (λ y. b && y) (and_comm c p) ∙ and_swap b p c

  -- A state of it accepts what its pivot accepts.
  folded_from : (w : List ℕ) → Over a w → (j : ℕ) → j < r → accepts_from F w j ≡ accepts_from A w (σ j)
  folded_from [] ow j h = from_nil F j ∙ sym (from_nil A (σ j))
  folded_from (l ∷ w) ow j h =
      from_cons F l w j
      ∙ xor_cong r (λ i p. ap (λ b. F.step l j i && b) (folded_from w ow.1 i p))
      ∙ folded_accepts (A.step l (σ j)) w ow.1
      ∙ sym (from_cons A l w (σ j))

  same_words : Same a (accepts F) (accepts A)
  same_words w ow =
      accepts_row F w
      ∙ xor_cong r (λ j p. ap (λ b. F.initial j && b) (folded_from w ow j p))
      ∙ folded_accepts A.initial w ow
      ∙ sym (accepts_row A w)

  -- ---- a row that accepts nothing is zero

  -- The row of A that has the bits of c at the pivots and no other.
  spread : (ℕ → Bool) → ℕ → Bool
  spread c = comb r c (λ j k. eqb k (σ j))

  spread_sum : (c f : ℕ → Bool) → xor_below n (λ k. spread c k && f k) ≡ xor_below r (λ j. c j && f (σ j))
  unfolding spread
  spread_sum c f = sym (xor_matrix r n c (λ j k. eqb k (σ j)) f) ∙ xor_cong r (λ j p. ap (λ b. c j && b) (xor_pick n (σ j) (L.below j p) f))

  -- It shares with the basis row of a pivot at most the bit at that pivot.
  own_bit : (c : ℕ → Bool) (j : ℕ) → j < r → xor_below n (λ k. spread c k && E (σ j) k) ≡ c j
  own_bit c j h =
      spread_sum c (E (σ j))
      ∙ xor_cong r (λ i p. ap (λ b. c i && b) (O.unit (σ j) (σ i) (L.below j h) (L.below i p) (L.pivot j h) (L.pivot i p) ∙ eqb_sym (σ j) (σ i) ∙ listed_eqb n P r σ L i j p h) ∙ and_comm (c i) (eqb i j))
      ∙ xor_pick r j h c

  nothing_zero : (c : ℕ → Bool) → ((v : List ℕ) → Over a v → row_accepts F c v ≡ false) → (j : ℕ) → j < r → c j ≡ false
  nothing_zero c z j h = sym (own_bit c j h) ∙ O.seen (spread c) (λ v ov. spread_sum c (accepts_from A v) ∙ xor_cong r (λ i p. ap (λ b. c i && b) (sym (folded_from v ov i p))) ∙ z v ov) (σ j) (L.below j h) (L.pivot j h)

  folded_observable : (ts : List (List ℕ)) → ObservableOn a F ts
  folded_observable ts c = nothing_zero (comb (length ts) c (row_of F ts))

-- One reduction of the folded automaton is the minimal automaton.
pub folded_minimal : (a : ℕ) (A B : Automaton) (P : ℕ → Bool) (E : ℕ → ℕ → Bool) → Observed a A P E → (r : ℕ) (σ : ℕ → ℕ) → Listed A.states P r σ
    → (d : ℕ) (R : ℕ → ℕ → Bool) (from by : ℕ → ℕ) → Tree a (folded_of A E r σ) B d R from by → (fields a B ≡ fields a (minimal_of a A)) × (d ≡ dimension_of a A)
folded_minimal a A B P E O r σ L d R from by T = (
  tree_fields a A (folded_of A E r σ) B (same_words a A P E O r σ L) d R from by T (folded_observable a A P E O r σ L (words_to from by d)),
  tree_dimension a A (folded_of A E r σ) B (same_words a A P E O r σ L) d R from by T (folded_observable a A P E O r σ L (words_to from by d)),
)
