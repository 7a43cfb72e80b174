-- Automata for the sum, the meet, the complement and the mirror of languages.
use mathlib.Core.Path.{◌≡◌, refl, sym, ap, ap₂, ◌∙◌}
use mathlib.Core.Bool.{Bool, true, false, not, ◌&&◌, cond, and_comm, and-false}
use mathlib.Core.List.{List, [], ◌∷◌, append-nil, reverse, reverse-cons}
use Prim.Native.Nat.{ℕ, zero, suc, ◌+◌, ◌-◌, ◌*◌, ◌/◌, ◌%◌, ◌<◌}
use native.Mathlib.Nat.{zero-mul, suc-mul}
use native.Mathlib.Omega.{arith}
use lib.Dec.{T, ltb, lt→ltb}
use lib.Arith.{le→nltb, digits_div, digits_mod}
use Rattle.automata.specs.Xor.{◌⊕◌, xor_below}
use Rattle.automata.specs.Automaton.{Automaton, accepts}
use Rattle.automata.specs.Language.{symmetric_difference, intersection, complement, reversal}
use Rattle.automata.specs.Row.{accepts_from, times, reach}
use Rattle.automata.specs.Operations.{joined, sum_of, all_words, complement_of, mirror_of, meet_of}
use Rattle.automata.proofs.Xor.{xor_cong, xor_none, xor_false, xor_append, xor_comm, xor_scale, xor_scale_right, and_swap}
use Rattle.automata.proofs.Acceptance.{from_nil, from_cons, accepts_row, accepts_append, reach_append, reach_cong}

-- ---- two families end to end

pub joined_low : {X : Type 0} (n : ℕ) (f g : ℕ → X) (i : ℕ) → i < n → joined n f g i ≡ f i
joined_low n f g i h = go (ltb i n) (lt→ltb i n h)
  where
    go : (b : Bool) → T b → cond b (f i) (g (i - n)) ≡ f i
    go true t = refl
    go false t = absurd t

pub joined_high : {X : Type 0} (n : ℕ) (f g : ℕ → X) (i : ℕ) → joined n f g (n + i) ≡ g i
joined_high n f g i = go (ltb (n + i) n) (le→nltb (n + i) n (omega arith))
  where
    go : (b : Bool) → T (not b) → cond b (f (n + i)) (g (n + i - n)) ≡ g i
    go true t = absurd t
    go false t = ap g (omega arith)

-- ---- sum

module _ (A B : Automaton) where
  step_low : (l i : ℕ) → i < A.states → (sum_of A B).step l i ≡ joined A.states (A.step l i) (λ j. false)
  step_low l i h = joined_low A.states (λ i. joined A.states (A.step l i) (λ j. false)) (λ i. joined A.states (λ j. false) (B.step l i)) i h

  step_high : (l i : ℕ) → (sum_of A B).step l (A.states + i) ≡ joined A.states (λ j. false) (B.step l i)
  step_high l i = joined_high A.states (λ i. joined A.states (A.step l i) (λ j. false)) (λ i. joined A.states (λ j. false) (B.step l i)) i

  pub sum_low : (w : List ℕ) (i : ℕ) → i < A.states → accepts_from (sum_of A B) w i ≡ accepts_from A w i
  sum_low [] i h = from_nil (sum_of A B) i ∙ joined_low A.states A.final B.final i h ∙ sym (from_nil A i)
  sum_low (l ∷ w) i h =
      from_cons (sum_of A B) l w i
      ∙ xor_append A.states B.states (λ j. (sum_of A B).step l i j && accepts_from (sum_of A B) w j)
      ∙ ap₂ ◌⊕◌
      (xor_cong A.states (λ j p. ap₂ ◌&&◌ (ap (λ r. r j) (step_low l i h) ∙ joined_low A.states (A.step l i) (λ j. false) j p) (sum_low w j p)))
      (xor_none B.states (λ j p. ap (λ b. b && accepts_from (sum_of A B) w (A.states + j)) (ap (λ r. r (A.states + j)) (step_low l i h) ∙ joined_high A.states (A.step l i) (λ j. false) j)))
      ∙ xor_false (xor_below A.states (λ j. A.step l i j && accepts_from A w j))
      ∙ sym (from_cons A l w i)

  pub sum_high : (w : List ℕ) (i : ℕ) → accepts_from (sum_of A B) w (A.states + i) ≡ accepts_from B w i
  sum_high [] i = from_nil (sum_of A B) (A.states + i) ∙ joined_high A.states A.final B.final i ∙ sym (from_nil B i)
  sum_high (l ∷ w) i =
      from_cons (sum_of A B) l w (A.states + i)
      ∙ xor_append A.states B.states (λ j. (sum_of A B).step l (A.states + i) j && accepts_from (sum_of A B) w j)
      ∙ ap₂ ◌⊕◌
      (xor_none A.states (λ j p. ap (λ b. b && accepts_from (sum_of A B) w j) (ap (λ r. r j) (step_high l i) ∙ joined_low A.states (λ j. false) (B.step l i) j p)))
      (xor_cong B.states (λ j p. ap₂ ◌&&◌ (ap (λ r. r (A.states + j)) (step_high l i) ∙ joined_high A.states (λ j. false) (B.step l i) j) (sum_high w j)))
      ∙ sym (from_cons B l w i)

  times_low : (l : ℕ) (r : ℕ → Bool) (j : ℕ) → j < A.states → times (sum_of A B) l r j ≡ times A l r j
  times_low l r j h =
      xor_append A.states B.states (λ i. r i && (sum_of A B).step l i j)
      ∙ ap₂ ◌⊕◌
      (xor_cong A.states (λ i p. ap (λ b. r i && b) (ap (λ q. q j) (step_low l i p) ∙ joined_low A.states (A.step l i) (λ j. false) j h)))
      (xor_none B.states (λ i p. ap (λ b. r (A.states + i) && b) (ap (λ q. q j) (step_high l i) ∙ joined_low A.states (λ j. false) (B.step l i) j h) ∙ and-false (r (A.states + i))))
      ∙ xor_false (times A l r j)

  -- On A's states the sum reaches what A reaches.
  pub reach_low : (r : ℕ → Bool) (w : List ℕ) (j : ℕ) → j < A.states → reach (sum_of A B) r w j ≡ reach A r w j
  reach_low r [] j h = refl
  reach_low r (l ∷ w) j h = reach_low (times (sum_of A B) l r) w j h ∙ reach_cong A (times (sum_of A B) l r) (times A l r) (λ i p. times_low l r i p) w j h

  pub initial_low : (i : ℕ) → i < A.states → (sum_of A B).initial i ≡ A.initial i
  initial_low i h = joined_low A.states A.initial B.initial i h

  -- The sum accepts what just one of the two accepts.
  pub accepts_sum : (w : List ℕ) → accepts (sum_of A B) w ≡ symmetric_difference (accepts A) (accepts B) w
  accepts_sum w =
      accepts_row (sum_of A B) w
      ∙ xor_append A.states B.states (λ i. (sum_of A B).initial i && accepts_from (sum_of A B) w i)
      ∙ ap₂ ◌⊕◌
      (xor_cong A.states (λ i p. ap₂ ◌&&◌ (joined_low A.states A.initial B.initial i p) (sum_low w i p)) ∙ sym (accepts_row A w))
      (xor_cong B.states (λ i p. ap₂ ◌&&◌ (joined_high A.states A.initial B.initial i) (sum_high w i)) ∙ sym (accepts_row B w))

-- ---- complement

accepts_all_from : (w : List ℕ) (i : ℕ) → accepts_from all_words w i ≡ true
accepts_all_from [] i = refl
accepts_all_from (l ∷ w) i = from_cons all_words l w i ∙ accepts_all_from w 0

accepts_all : (w : List ℕ) → accepts all_words w ≡ true
accepts_all w = accepts_row all_words w ∙ accepts_all_from w 0

-- The complement accepts what A does not.
pub accepts_complement : (A : Automaton) (w : List ℕ) → accepts (complement_of A) w ≡ complement (accepts A) w
accepts_complement A w = accepts_sum A all_words w ∙ ap (λ b. accepts A w ⊕ b) (accepts_all w) ∙ xor_comm (accepts A w) true

-- ---- mirror

pub mirror_from : (A : Automaton) (w : List ℕ) (i : ℕ) → accepts_from (mirror_of A) w i ≡ reach A A.initial (reverse w) i
mirror_from A [] i = from_nil (mirror_of A) i
mirror_from A (l ∷ w) i =
    from_cons (mirror_of A) l w i
    ∙ xor_cong A.states (λ j p. and_comm (A.step l j i) (accepts_from (mirror_of A) w j) ∙ ap (λ b. b && A.step l j i) (mirror_from A w j))
    ∙ ap (λ r. r i) (sym (reach_append A A.initial (reverse w) (l ∷ [])))
    ∙ ap (λ u. reach A A.initial u i) (sym (reverse-cons l w))

-- The mirror accepts the reversed words.
pub accepts_mirror : (A : Automaton) (w : List ℕ) → accepts (mirror_of A) w ≡ reversal (accepts A) w
accepts_mirror A w =
    accepts_row (mirror_of A) w
    ∙ xor_cong A.states (λ i p. and_comm (A.final i) (accepts_from (mirror_of A) w i) ∙ ap₂ ◌&&◌ (mirror_from A w i) (sym (from_nil A i)))
    ∙ sym (accepts_append A (reverse w) [])
    ∙ ap (accepts A) (append-nil (reverse w))

-- ---- meet

-- A family of n * m members, m at a time.
pub xor_grid : (n m : ℕ) (f : ℕ → Bool) → xor_below (n * m) f ≡ xor_below n (λ i. xor_below m (λ j. f (i * m + j)))
xor_grid zero m f = rw zero-mul
xor_grid (suc n) m f = rw suc-mul (xor_append (n * m) m f ∙ ap (λ b. b ⊕ xor_below m (λ j. f (n * m + j))) (xor_grid n m f))

-- The xor over pairs of a product is the product of the xors.
pub xor_product : (n m : ℕ) (f g : ℕ → Bool) → xor_below n (λ i. xor_below m (λ j. f i && g j)) ≡ xor_below n f && xor_below m g
xor_product n m f g = xor_cong n (λ i p. xor_scale m (f i) g) ∙ xor_scale_right n f (xor_below m g)

pub and_cross : (a b c d : Bool) → (a && b) && (c && d) ≡ (a && c) && (b && d)
and_cross true b c d = and_swap b c d
and_cross false b c d = refl

module _ (A B : Automaton) where
  -- What a function of a pair's parts is at the pair.
  at_pair : (f g : ℕ → Bool) (i j : ℕ) → j < B.states → f ((i * B.states + j) / B.states) && g ((i * B.states + j) % B.states) ≡ f i && g j
  at_pair f g i j h = ap₂ (λ x y. f x && g y) (digits_div i h) (digits_mod i h)

  pub meet_from : (w : List ℕ) (i j : ℕ) → j < B.states → accepts_from (meet_of A B) w (i * B.states + j) ≡ accepts_from A w i && accepts_from B w j
  meet_from [] i j h = from_nil (meet_of A B) (i * B.states + j) ∙ at_pair A.final B.final i j h ∙ ap₂ ◌&&◌ (sym (from_nil A i)) (sym (from_nil B j))
  meet_from (l ∷ w) i j h =
      from_cons (meet_of A B) l w (i * B.states + j)
      ∙ xor_grid A.states B.states (λ k. (meet_of A B).step l (i * B.states + j) k && accepts_from (meet_of A B) w k)
      ∙ xor_cong A.states (λ x p. xor_cong B.states (λ y q.
      ap₂ ◌&&◌ (ap₂ (λ c d. A.step l c ((x * B.states + y) / B.states) && B.step l d ((x * B.states + y) % B.states)) (digits_div i h) (digits_mod i h) ∙ at_pair (A.step l i) (B.step l j) x y q) (meet_from w x y q)
      ∙ and_cross (A.step l i x) (B.step l j y) (accepts_from A w x) (accepts_from B w y)))
      ∙ xor_product A.states B.states (λ x. A.step l i x && accepts_from A w x) (λ y. B.step l j y && accepts_from B w y)
      ∙ ap₂ ◌&&◌ (sym (from_cons A l w i)) (sym (from_cons B l w j))

  -- The meet accepts what both accept.
  pub accepts_meet : (w : List ℕ) → accepts (meet_of A B) w ≡ intersection (accepts A) (accepts B) w
  accepts_meet w =
      accepts_row (meet_of A B) w
      ∙ xor_grid A.states B.states (λ k. (meet_of A B).initial k && accepts_from (meet_of A B) w k)
      ∙ xor_cong A.states (λ x p. xor_cong B.states (λ y q.
      ap₂ ◌&&◌ (at_pair A.initial B.initial x y q) (meet_from w x y q)
      ∙ and_cross (A.initial x) (B.initial y) (accepts_from A w x) (accepts_from B w y)))
      ∙ xor_product A.states B.states (λ x. A.initial x && accepts_from A w x) (λ y. B.initial y && accepts_from B w y)
      ∙ ap₂ ◌&&◌ (sym (accepts_row A w)) (sym (accepts_row B w))
