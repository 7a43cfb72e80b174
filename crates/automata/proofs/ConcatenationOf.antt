-- The automaton of the concatenation accepts the concatenation.
use mathlib.Core.Path.{◌≡◌, sym, ap, ap₂, ◌∙◌}
use mathlib.Core.Bool.{Bool, false, ◌&&◌, and-false, and_assoc}
use mathlib.Core.List.{List, [], ◌∷◌}
use Prim.Native.Nat.{ℕ, ◌+◌, ◌<◌}
use Rattle.automata.specs.Xor.{◌⊕◌, xor_below}
use Rattle.automata.specs.Automaton.{Automaton, accepts}
use Rattle.automata.specs.Language.{Language}
use Rattle.automata.specs.Row.{accepts_from, row_accepts}
use Rattle.automata.specs.Operations.{joined}
use Rattle.automata.specs.Cuts.{after, concatenation}
use Rattle.automata.specs.Operations.{ends, concatenation_of}
use Rattle.automata.proofs.Xor.{xor_cong, xor_none, xor_false, xor_comm, xor_append, xor_scale}
use Rattle.automata.proofs.Acceptance.{from_nil, from_cons, accepts_row}
use Rattle.automata.proofs.Operations.{joined_low, joined_high}
use Rattle.automata.proofs.Concatenation.{concatenation_nil, concatenation_cons, concatenation_left, concatenation_linear}

-- A row ends a word exactly if it accepts the empty word.
ends_row : (A : Automaton) (r : ℕ → Bool) → ends A r ≡ row_accepts A r []
ends_row A r = xor_cong A.states (λ k p. ap (λ b. r k && b) (sym (from_nil A k)))

-- ---- the cuts after the first letter

abbrev later : Language → Language → Language
later K L [] = false
later K L (l ∷ w) = concatenation (after l K) L w

concatenation_later : (K L : Language) (w : List ℕ) → concatenation K L w ≡ (K [] && L w) ⊕ later K L w
concatenation_later K L [] = concatenation_nil K L ∙ sym (xor_false (K [] && L []))
concatenation_later K L (l ∷ w) = concatenation_cons K L l w

later_linear : (n : ℕ) (c : ℕ → Bool) (K : ℕ → Language) (L : Language) (w : List ℕ) → later (λ u. xor_below n (λ k. c k && K k u)) L w ≡ xor_below n (λ k. c k && later (K k) L w)
later_linear n c K L [] = sym (xor_none n (λ k p. and-false (c k)))
later_linear n c K L (l ∷ w) = concatenation_linear n c (λ k u. K k (l ∷ u)) L w

-- ---- the automaton

module _ (A B : Automaton) where
  -- The row r of A in the automaton: where r ends a word, B's initial row beside it.
  opened : (ℕ → Bool) → ℕ → Bool
  opened r = joined A.states r (λ j. ends A r && B.initial j)

  step_low : (l i : ℕ) → i < A.states → (concatenation_of A B).step l i ≡ opened (A.step l i)
  unfolding opened
  step_low l i h = joined_low A.states (λ i. opened (A.step l i)) (λ i. joined A.states (λ j. false) (B.step l i)) i h

  step_high : (l i : ℕ) → (concatenation_of A B).step l (A.states + i) ≡ joined A.states (λ j. false) (B.step l i)
  unfolding opened
  step_high l i = joined_high A.states (λ i. opened (A.step l i)) (λ i. joined A.states (λ j. false) (B.step l i)) i

  -- From B's states it accepts what B accepts.
  from_high : (w : List ℕ) (i : ℕ) → accepts_from (concatenation_of A B) w (A.states + i) ≡ accepts_from B w i
  from_high [] i = from_nil (concatenation_of A B) (A.states + i) ∙ joined_high A.states (λ i. false) B.final i ∙ sym (from_nil B i)
  from_high (l ∷ w) i =
      from_cons (concatenation_of A B) l w (A.states + i)
      ∙ xor_append A.states B.states (λ j. (concatenation_of A B).step l (A.states + i) j && accepts_from (concatenation_of A B) w j)
      ∙ ap₂ ◌⊕◌
      (xor_none A.states (λ j p. ap (λ b. b && accepts_from (concatenation_of A B) w j) (ap (λ r. r j) (step_high l i) ∙ joined_low A.states (λ j. false) (B.step l i) j p)))
      (xor_cong B.states (λ j p. ap₂ ◌&&◌ (ap (λ r. r (A.states + j)) (step_high l i) ∙ joined_high A.states (λ j. false) (B.step l i) j) (from_high w j)))
      ∙ sym (from_cons B l w i)

  -- What B's initial row adds, where it is taken.
  from_start : (b : Bool) (w : List ℕ) → xor_below B.states (λ j. (b && B.initial j) && accepts_from (concatenation_of A B) w (A.states + j)) ≡ b && accepts B w
  from_start b w =
      xor_cong B.states (λ j p. and_assoc b (B.initial j) (accepts_from (concatenation_of A B) w (A.states + j)) ∙ ap (λ x. b && (B.initial j && x)) (from_high w j))
      ∙ xor_scale B.states b (λ j. B.initial j && accepts_from B w j) ∙ ap (λ x. b && x) (sym (accepts_row B w))

  -- From state i of A it accepts the cuts after the first letter.
  FromLow : List ℕ → Type 0
  FromLow w = (i : ℕ) → i < A.states → accepts_from (concatenation_of A B) w i ≡ later (λ u. accepts_from A u i) (accepts B) w

  -- From a row of A it accepts every cut.
  from_row : (r : ℕ → Bool) (w : List ℕ) → FromLow w → row_accepts (concatenation_of A B) (opened r) w ≡ concatenation (row_accepts A r) (accepts B) w
  unfolding opened FromLow
  from_row r w low =
      xor_append A.states B.states (λ j. opened r j && accepts_from (concatenation_of A B) w j)
      ∙ ap₂ ◌⊕◌
      (xor_cong A.states (λ j p. ap₂ ◌&&◌ (joined_low A.states r (λ j. ends A r && B.initial j) j p) (low j p)) ∙ sym (later_linear A.states r (λ k u. accepts_from A u k) (accepts B) w))
      (xor_cong B.states (λ j p. ap (λ b. b && accepts_from (concatenation_of A B) w (A.states + j)) (joined_high A.states r (λ j. ends A r && B.initial j) j))
      ∙ from_start (ends A r) w ∙ ap (λ b. b && accepts B w) (ends_row A r))
      ∙ xor_comm (later (row_accepts A r) (accepts B) w) (row_accepts A r [] && accepts B w)
      ∙ sym (concatenation_later (row_accepts A r) (accepts B) w)

  from_low : (w : List ℕ) → FromLow w
  unfolding FromLow
  from_low [] i h = from_nil (concatenation_of A B) i ∙ joined_low A.states (λ i. false) B.final i h
  from_low (l ∷ w) i h =
      from_cons (concatenation_of A B) l w i
      ∙ ap (λ r. row_accepts (concatenation_of A B) r w) (step_low l i h)
      ∙ from_row (A.step l i) w (from_low w)
      ∙ concatenation_left (row_accepts A (A.step l i)) (λ u. accepts_from A (l ∷ u) i) (accepts B) w (λ u. sym (from_cons A l u i))

  -- The automaton accepts the concatenation.
  pub accepts_concatenation : (w : List ℕ) → accepts (concatenation_of A B) w ≡ concatenation (accepts A) (accepts B) w
  unfolding opened
  accepts_concatenation w =
      accepts_row (concatenation_of A B) w
      ∙ from_row A.initial w (from_low w)
      ∙ concatenation_left (row_accepts A A.initial) (accepts A) (accepts B) w (λ u. sym (accepts_row A u))
