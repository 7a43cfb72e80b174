-- Letters that a language or an automaton lacks (02, Note 5): a letter that leads nowhere is in no word, the dimension over more letters is the
-- same, and when two languages over unlike letters have the same words.
use mathlib.Core.Path.{◌≡◌, refl, sym, ap, ◌∙◌}
use mathlib.Core.Bool.{Bool, true, false, ◌&&◌, and-false, false≢true}
use mathlib.Core.Logic.{◌⊎◌, inl, inr}
use mathlib.Core.List.{List, [], ◌∷◌, ◌++◌}
use Prim.Native.Nat.{ℕ, ◌<◌, ◌≤◌, max}
use native.Mathlib.Omega.{arith}
use borrow.Author.Tests.{ltb-false}
use lib.Dec.{ltb, eqb}
use Rattle.automata.specs.Xor.{xor_below, comb}
use Rattle.automata.specs.Automaton.{Automaton, accepts}
use Rattle.automata.specs.Word.{Over, is_over}
use Rattle.automata.specs.Language.{Language, quotient, Same, restriction}
use Rattle.automata.specs.Dimension.{Free, IsDimension, quotients}
use Rattle.automata.specs.Row.{accepts_from}
use Rattle.automata.specs.Operations.{widened}
use Rattle.automata.proofs.Xor.{bool_cases, xor_cong, xor_none, xor_pick, eqb_same}
use Rattle.automata.proofs.Shortlex.{over_more, over_append}
use Rattle.automata.proofs.Acceptance.{from_cons, accepts_row}
use Rattle.automata.proofs.Restriction.{over_is, is_over_append, restriction_over, restriction_parts}

-- ---- automata

-- Letters from a on lead nowhere in A.
abbrev pub Lacks : ℕ → Automaton → Type 0
Lacks a A = (l i j : ℕ) → a ≤ l → i < A.states → j < A.states → A.step l i j ≡ false

module _ (a : ℕ) (A : Automaton) where
  widened_from : (w : List ℕ) (i : ℕ) → accepts_from (widened a A) w i ≡ is_over a w && accepts_from A w i
  widened_from [] i = refl
  widened_from (l ∷ w) i =
      from_cons (widened a A) l w i
      ∙ xor_cong A.states (λ j p. ap (λ x. (ltb l a && A.step l i j) && x) (widened_from w j))
      ∙ go (ltb l a) (is_over a w)
      ∙ sym (ap (λ x. (ltb l a && is_over a w) && x) (from_cons A l w i))
    where
      go : (b c : Bool) → xor_below A.states (λ j. (b && A.step l i j) && (c && accepts_from A w j)) ≡ (b && c) && xor_below A.states (λ j. A.step l i j && accepts_from A w j)
      go true true = refl
      go true false = xor_none A.states (λ j p. and-false (A.step l i j))
      go false c = xor_none A.states (λ j p. refl)

  -- Where a letter leads nowhere, exactly the words over the others are accepted as before.
  pub accepts_widened : (w : List ℕ) → accepts (widened a A) w ≡ restriction a (accepts A) w
  accepts_widened w =
      accepts_row (widened a A) w
      ∙ xor_cong A.states (λ i p. ap (λ x. A.initial i && x) (widened_from w i))
      ∙ go (is_over a w)
      ∙ sym (ap (λ x. is_over a w && x) (accepts_row A w))
    where
      go : (b : Bool) → xor_below A.states (λ i. A.initial i && (b && accepts_from A w i)) ≡ b && xor_below A.states (λ i. A.initial i && accepts_from A w i)
      go true = refl
      go false = xor_none A.states (λ i p. and-false (A.initial i))

  -- An automaton in which they lead nowhere already is the same over more letters.
  module _ (lacks : Lacks a A) where
    step_widened : (l i j : ℕ) → i < A.states → j < A.states → A.step l i j ≡ ltb l a && A.step l i j
    step_widened l i j p q = go (bool_cases (ltb l a))
      where
        go : (ltb l a ≡ true) ⊎ (ltb l a ≡ false) → A.step l i j ≡ ltb l a && A.step l i j
        go (inl e) = sym (ap (λ b. b && A.step l i j) e)
        go (inr e) = lacks l i j (ltb-false l a e) p q ∙ sym (ap (λ b. b && A.step l i j) e)

    from_widened : (w : List ℕ) (i : ℕ) → i < A.states → accepts_from A w i ≡ accepts_from (widened a A) w i
    from_widened [] i p = refl
    from_widened (l ∷ w) i p =
        from_cons A l w i
        ∙ xor_cong A.states (λ j q. ap (λ b. b && accepts_from A w j) (step_widened l i j p q) ∙ ap (λ x. (ltb l a && A.step l i j) && x) (from_widened w j q))
        ∙ sym (from_cons (widened a A) l w i)

    pub lacks_restriction : (w : List ℕ) → accepts A w ≡ restriction a (accepts A) w
    lacks_restriction w =
        accepts_row A w
        ∙ xor_cong A.states (λ i p. ap (λ x. A.initial i && x) (from_widened w i p))
        ∙ sym (accepts_row (widened a A) w)
        ∙ accepts_widened w

-- ---- the dimension

module _ (a b : ℕ) (h : a ≤ b) (L : Language) where
  abbrev R : Language
  R = restriction a L

  -- A word with a letter that is lacked has the empty quotient, and no quotient has a word with such a letter.
  quotient_beyond : (u v : List ℕ) → is_over a u ≡ false → quotient R u v ≡ false
  quotient_beyond u v e = ap (λ x. x && L (u ++ v)) (is_over_append a u v ∙ ap (λ x. x && is_over a v) e)

  beyond_quotient : (u v : List ℕ) → is_over a v ≡ false → quotient R u v ≡ false
  beyond_quotient u v e = ap (λ x. x && L (u ++ v)) (is_over_append a u v ∙ ap (λ x. is_over a u && x) e ∙ and-false (is_over a u))

  -- At words over the smaller alphabet the quotients are those of L.
  quotients_over : (m : ℕ) (c : ℕ → Bool) (u : ℕ → List ℕ) → ((i : ℕ) → i < m → Over a (u i)) → (v : List ℕ) → Over a v → comb m c (quotients L u) v ≡ comb m c (quotients R u) v
  quotients_over m c u ou v ov = xor_cong m (λ i p. ap (λ x. c i && x) (sym (restriction_over a L (u i ++ v) (over_append a (u i) v (ou i p) ov))))

  free_more : (m : ℕ) → Free a L m → Free b R m
  free_more m r = record {
    word = r.word;
    over = λ i p. over_more h (r.word i) (r.over i p);
    independent = λ c z. r.independent c (λ v ov. quotients_over m c r.word r.over v ov ∙ z v (over_more h v ov));
  }

  -- A member of an independent family is not empty.
  free_over : (m : ℕ) (r : Free b R m) (i : ℕ) → i < m → Over a (r.word i)
  free_over m r i p = go (bool_cases (is_over a (r.word i)))
    where
      go : (is_over a (r.word i) ≡ true) ⊎ (is_over a (r.word i) ≡ false) → Over a (r.word i)
      go (inl e) = over_is a (r.word i) e
      go (inr e) =
          let none = r.independent (λ k. eqb k i) (λ v ov. xor_pick m i p (λ k. quotients R r.word k v) ∙ quotient_beyond (r.word i) v e) i p in
          absurd (false≢true (sym none ∙ eqb_same i))

  free_fewer : (m : ℕ) → Free b R m → Free a L m
  free_fewer m r = record {
    word = r.word;
    over = free_over m r;
    independent = λ c z. r.independent c (λ v ov. go c z v (bool_cases (is_over a v)));
  }
    where
      go : (c : ℕ → Bool) → ((v : List ℕ) → Over a v → comb m c (quotients L r.word) v ≡ false) → (v : List ℕ) → (is_over a v ≡ true) ⊎ (is_over a v ≡ false) → comb m c (quotients R r.word) v ≡ false
      go c z v (inl e) = let o = over_is a v e in sym (quotients_over m c r.word (free_over m r) v o) ∙ z v o
      go c z v (inr e) = xor_none m (λ i p. ap (λ x. c i && x) (beyond_quotient (r.word i) v e) ∙ and-false (c i))

  -- The dimension over more letters is the same.
  pub dimension_more : (d : ℕ) → IsDimension a L d → IsDimension b R d
  dimension_more d D = record { reached = free_more d D.reached; largest = λ m r. D.largest m (free_fewer m r) }

-- ---- the same words over unlike letters

-- L is over a letters, K over b.
module _ (a b : ℕ) (L K : Language) where
  -- Every word of a language over a letters, if it is in one over b, is over b as well.
  pub same_over : Same (max a b) (restriction a L) (restriction b K) → (w : List ℕ) → restriction a L w ≡ true → Over b w
  same_over same w e =
      let o = (restriction_parts a L w e).0 in
      (restriction_parts b K w (sym (same w (over_more (omega arith) w o)) ∙ e)).0

  pub same_both : Same (max a b) (restriction a L) (restriction b K) → (w : List ℕ) → Over a w → Over b w → L w ≡ K w
  same_both same w o p = sym (restriction_over a L w o) ∙ same w (over_more (omega arith) w o) ∙ restriction_over b K w p

  -- Where neither has a word with a letter that the other lacks, and they agree on the letters of both, they have the same words.
  pub both_same : ((w : List ℕ) → restriction a L w ≡ true → Over b w) → ((w : List ℕ) → restriction b K w ≡ true → Over a w) → ((w : List ℕ) → Over a w → Over b w → L w ≡ K w)
      → (w : List ℕ) → restriction a L w ≡ restriction b K w
  both_same first second agree w = go (bool_cases (restriction a L w)) (bool_cases (restriction b K w))
    where
      shared : Over a w → Over b w → restriction a L w ≡ restriction b K w
      shared o p = restriction_over a L w o ∙ agree w o p ∙ sym (restriction_over b K w p)

      go : (restriction a L w ≡ true) ⊎ (restriction a L w ≡ false) → (restriction b K w ≡ true) ⊎ (restriction b K w ≡ false) → restriction a L w ≡ restriction b K w
      go (inl e) q = shared (restriction_parts a L w e).0 (first w e)
      go (inr e) (inl q) = shared (second w q) (restriction_parts b K w q).0
      go (inr e) (inr q) = e ∙ sym q
