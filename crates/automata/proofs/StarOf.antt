-- The automaton of the star accepts the star.
use mathlib.Core.Path.{◌≡◌, sym, ap, ap₂, ◌∙◌}
use mathlib.Core.Bool.{Bool, true, false, ◌&&◌, and-true, and_assoc}
use mathlib.Core.List.{List, [], ◌∷◌}
use Prim.Native.Nat.{ℕ, ◌+◌, ◌<◌}
use Rattle.automata.specs.Xor.{◌⊕◌}
use Rattle.automata.specs.Automaton.{Automaton, accepts}
use Rattle.automata.specs.Row.{accepts_from, row_accepts, times}
use Rattle.automata.specs.Operations.{joined}
use Rattle.automata.specs.Cuts.{after, concatenation, star}
use Rattle.automata.specs.Operations.{star_of}
use Rattle.automata.proofs.Xor.{xor_cong, xor_none, xor_false, xor_comm, xor_append, xor_coef, xor_scale}
use Rattle.automata.proofs.Acceptance.{from_nil, from_cons, accepts_row, accepts_append}
use Rattle.automata.proofs.Operations.{joined_low, joined_high}
use Rattle.automata.proofs.Concatenation.{concatenation_nil, concatenation_cons, concatenation_left, concatenation_linear, concatenation_scale, concatenation_sum_left}
use Rattle.automata.proofs.Star.{star_cons}

module _ (A : Automaton) where
  -- Where a letter leads from A's initial row, and from state i in the automaton, on the states of A.
  begin : ℕ → ℕ → Bool
  begin l = times A l A.initial

  renewed : ℕ → ℕ → ℕ → Bool
  renewed l i j = A.step l i j ⊕ (A.final i && begin l j)

  -- A row of A in the automaton.
  alone : (ℕ → Bool) → ℕ → Bool
  alone r = joined A.states r (λ j. false)

  step_low : (l i : ℕ) → i < A.states → (star_of A).step l i ≡ alone (renewed l i)
  unfolding begin renewed alone
  step_low l i h = joined_low A.states (λ i. alone (renewed l i)) (λ i. alone (begin l)) i h

  step_new : (l : ℕ) → (star_of A).step l (A.states + 0) ≡ alone (begin l)
  unfolding begin renewed alone
  step_new l = joined_high A.states (λ i. alone (renewed l i)) (λ i. alone (begin l)) 0

  -- From state i of A it accepts a word that A accepts from there, followed by a word of the star.
  FromLow : List ℕ → Type 0
  FromLow w = (i : ℕ) → i < A.states → accepts_from (star_of A) w i ≡ concatenation (λ u. accepts_from A u i) (star (accepts A)) w

  -- And so from a row of A.
  from_row : (r : ℕ → Bool) (w : List ℕ) → FromLow w → row_accepts (star_of A) (alone r) w ≡ concatenation (row_accepts A r) (star (accepts A)) w
  unfolding alone FromLow
  from_row r w low =
      xor_append A.states 1 (λ j. alone r j && accepts_from (star_of A) w j)
      ∙ ap₂ ◌⊕◌
      (xor_cong A.states (λ j p. ap₂ ◌&&◌ (joined_low A.states r (λ j. false) j p) (low j p)) ∙ sym (concatenation_linear A.states r (λ k u. accepts_from A u k) (star (accepts A)) w))
      (xor_none 1 (λ j p. ap (λ b. b && accepts_from (star_of A) w (A.states + j)) (joined_high A.states r (λ j. false) j)))
      ∙ xor_false (concatenation (row_accepts A r) (star (accepts A)) w)

  -- The row of a letter accepts what A accepts after the letter, and where the state is final what A accepts after it from the start.
  renewed_row : (l i : ℕ) (u : List ℕ) → row_accepts A (renewed l i) u ≡ accepts_from A (l ∷ u) i ⊕ (accepts_from A [] i && accepts A (l ∷ u))
  unfolding begin renewed
  renewed_row l i u =
      xor_coef A.states (A.step l i) (λ j. A.final i && begin l j) (accepts_from A u)
      ∙ ap₂ ◌⊕◌ (sym (from_cons A l u i))
      (xor_cong A.states (λ j p. and_assoc (A.final i) (begin l j) (accepts_from A u j))
      ∙ xor_scale A.states (A.final i) (λ j. begin l j && accepts_from A u j)
      ∙ ap₂ ◌&&◌ (sym (from_nil A i)) (sym (accepts_append A (l ∷ []) u)))

  from_low : (w : List ℕ) → FromLow w
  unfolding FromLow
  from_low [] i h = from_nil (star_of A) i ∙ joined_low A.states A.final (λ i. true) i h ∙ sym (concatenation_nil (λ u. accepts_from A u i) (star (accepts A)) ∙ and-true (accepts_from A [] i) ∙ from_nil A i)
  from_low (l ∷ w) i h =
      from_cons (star_of A) l w i
      ∙ ap (λ r. row_accepts (star_of A) r w) (step_low l i h)
      ∙ from_row (renewed l i) w (from_low w)
      ∙ concatenation_left (row_accepts A (renewed l i)) (λ u. accepts_from A (l ∷ u) i ⊕ (accepts_from A [] i && accepts A (l ∷ u))) (star (accepts A)) w (renewed_row l i)
      ∙ concatenation_sum_left (λ u. accepts_from A (l ∷ u) i) (λ u. accepts_from A [] i && accepts A (l ∷ u)) (star (accepts A)) w
      ∙ ap (λ b. concatenation (λ u. accepts_from A (l ∷ u) i) (star (accepts A)) w ⊕ b)
      (concatenation_scale (accepts_from A [] i) (after l (accepts A)) (star (accepts A)) w ∙ ap (λ b. accepts_from A [] i && b) (sym (star_cons (accepts A) l w)))
      ∙ xor_comm (concatenation (λ u. accepts_from A (l ∷ u) i) (star (accepts A)) w) (accepts_from A [] i && star (accepts A) (l ∷ w))
      ∙ sym (concatenation_cons (λ u. accepts_from A u i) (star (accepts A)) l w)

  -- From the new state it accepts the star.
  from_new : (w : List ℕ) → accepts_from (star_of A) w (A.states + 0) ≡ star (accepts A) w
  unfolding begin
  from_new [] = from_nil (star_of A) (A.states + 0) ∙ joined_high A.states A.final (λ i. true) 0
  from_new (l ∷ w) =
      from_cons (star_of A) l w (A.states + 0)
      ∙ ap (λ r. row_accepts (star_of A) r w) (step_new l)
      ∙ from_row (begin l) w (from_low w)
      ∙ concatenation_left (row_accepts A (begin l)) (after l (accepts A)) (star (accepts A)) w (λ u. sym (accepts_append A (l ∷ []) u))
      ∙ sym (star_cons (accepts A) l w)

  -- The automaton accepts the star.
  pub accepts_star : (w : List ℕ) → accepts (star_of A) w ≡ star (accepts A) w
  accepts_star w =
      accepts_row (star_of A) w
      ∙ xor_append A.states 1 (λ i. (star_of A).initial i && accepts_from (star_of A) w i)
      ∙ ap₂ ◌⊕◌ (xor_none A.states (λ i p. ap (λ b. b && accepts_from (star_of A) w i) (joined_low A.states (λ i. false) (λ i. true) i p)))
      (ap (λ b. b && accepts_from (star_of A) w (A.states + 0)) (joined_high A.states (λ i. false) (λ i. true) 0) ∙ from_new w)
