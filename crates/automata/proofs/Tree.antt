-- The search's result as a program holds it: rows, and for each row but the first the row and the letter that it came from.
-- The words are read off that tree, and the result is Reduced.
use mathlib.Core.Path.{◌≡◌, refl, sym, ap, ap₂, subst, ◌∙◌}
use mathlib.Core.Bool.{Bool, ◌&&◌, cond}
use mathlib.Core.Logic.{◌⊎◌, inl, inr}
use mathlib.Core.List.{[], ◌∷◌, ◌++◌}
use Prim.Native.Nat.{ℕ, zero, suc, ◌<◌, ◌≤◌}
use native.Mathlib.Nat.{not-suc-le-zero}
use native.Mathlib.Decide.{ℕ_discrete}
use native.Mathlib.Omega.{arith}
use lib.Dec.{eqb}
use lib.ListN.{length, get_or}
use Rattle.automata.specs.Xor.{xor_below, comb}
use Rattle.automata.specs.Automaton.{Automaton}
use Rattle.automata.specs.Word.{Over, Shortlex, NotAfter}
use Rattle.automata.specs.Minimal.{SameBits}
use Rattle.automata.specs.Row.{times, reach}
use Rattle.automata.specs.Reduction.{row_of, Reduced}
use Rattle.automata.specs.Tree.{Done, word_up, word_to, words_to, Tree}
use Rattle.automata.proofs.Xor.{xor_cong, eqb_differ}
use Rattle.automata.proofs.Shortlex.{over_append, shortlex_snoc, shortlex_last, nil_shortlex_snoc}
use Rattle.automata.proofs.Snoc.{length_snoc, at_new, at_old}
use Rattle.automata.proofs.Acceptance.{reach_append}
use Rattle.automata.proofs.Below.{up_to}

pub words_length : (from by : ℕ → ℕ) (d : ℕ) → length (words_to from by d) ≡ d
words_length from by zero = refl
words_length from by (suc d) = length_snoc (words_to from by d) (word_to from by d) ∙ ap suc (words_length from by d)

pub words_at : (from by : ℕ → ℕ) (d r : ℕ) → r < d → get_or (words_to from by d) r [] ≡ word_to from by r
words_at from by zero r h = absurd (not-suc-le-zero h)
words_at from by (suc d) r h = up_to {Q = λ r. get_or (words_to from by (suc d)) r [] ≡ word_to from by r} d
    (λ i p. at_old (words_to from by d) (word_to from by d) i (subst (λ n. i < n) (sym (words_length from by d)) p) ∙ words_at from by d i p)
    (ap (λ i. get_or (words_to from by (suc d)) i []) (sym (words_length from by d)) ∙ at_new (words_to from by d) (word_to from by d)) r h

module _ (a : ℕ) (A B : Automaton) (d : ℕ) (R : ℕ → ℕ → Bool) (from by : ℕ → ℕ) (T : Tree a A B d R from by) where
  -- More letters allowed change nothing.
  enough : (f g r : ℕ) → r ≤ f → r ≤ g → r < d → word_up from by f r ≡ word_up from by g r
  enough zero zero r p q h = refl
  enough zero (suc g) r p q h = ap (λ b. cond b [] (word_up from by g (from r) ++ (by r ∷ []))) (sym (ap (λ x. eqb x 0) {x = r} {y = 0} (omega arith)))
  enough (suc f) zero r p q h = ap (λ b. cond b [] (word_up from by f (from r) ++ (by r ∷ []))) (ap (λ x. eqb x 0) {x = r} {y = 0} (omega arith))
  enough (suc f) (suc g) r p q h = go (ℕ_discrete r 0) (λ u v w. enough f g (from r) u v w)
    where
      go : Dec (r ≡ 0) → (from r ≤ f → from r ≤ g → from r < d → word_up from by f (from r) ≡ word_up from by g (from r)) → word_up from by (suc f) r ≡ word_up from by (suc g) r
      go (yes e) ih = ap (λ b. cond b [] (word_up from by f (from r) ++ (by r ∷ []))) (ap (λ x. eqb x 0) e) ∙ sym (ap (λ b. cond b [] (word_up from by g (from r) ++ (by r ∷ []))) (ap (λ x. eqb x 0) e))
      go (no e) ih = ap (λ u. cond (eqb r 0) [] (u ++ (by r ∷ []))) (ih (omega (arith, par)) (omega (arith, par)) (omega (arith, par)))
        where
          par : from r < r
          par = T.parent r (omega arith) h

  -- The word of a row is that of the row it came from, and the letter.
  pub word_child : (r : ℕ) → 0 < r → r < d → word_to from by r ≡ word_to from by (from r) ++ (by r ∷ [])
  word_child zero p h = absurd (omega arith)
  word_child (suc r) p h =
      ap (λ b. cond b [] (word_up from by r (from (suc r)) ++ (by (suc r) ∷ []))) (eqb_differ {m = suc r} {n = 0} (omega arith))
      ∙ ap (λ u. u ++ (by (suc r) ∷ [])) (enough r (from (suc r)) (from (suc r)) (omega (arith, T.parent (suc r) p h)) (omega arith) (omega (arith, T.parent (suc r) p h)))

  word_over : (f r : ℕ) → r < f → r < d → Over a (word_to from by r)
  word_over zero r p h = absurd (not-suc-le-zero p)
  word_over (suc f) r p h = go (ℕ_discrete r 0) (λ u v. word_over f (from r) u v)
    where
      go : Dec (r ≡ 0) → (from r < f → from r < d → Over a (word_to from by (from r))) → Over a (word_to from by r)
      go (yes e) ih = subst (λ x. Over a (word_to from by x)) (sym e) tt
      go (no e) ih = subst (Over a) (sym (word_child r (omega arith) h)) (over_append a (word_to from by (from r)) (by r ∷ []) (ih (omega (arith, T.parent r (omega arith) h)) (omega (arith, T.parent r (omega arith) h))) (T.letter r (omega arith) h, tt))

  tree_over : (r : ℕ) → r < d → Over a (word_to from by r)
  tree_over r h = word_over (suc r) r (omega arith) h

  word_row : (f r : ℕ) → r < f → r < d → (j : ℕ) → j < A.states → reach A A.initial (word_to from by r) j ≡ R r j
  word_row zero r p h j hj = absurd (not-suc-le-zero p)
  word_row (suc f) r p h j hj = go (ℕ_discrete r 0) (λ u v i hi. word_row f (from r) u v i hi)
    where
      go : Dec (r ≡ 0) → (from r < f → from r < d → (i : ℕ) → i < A.states → reach A A.initial (word_to from by (from r)) i ≡ R (from r) i) → reach A A.initial (word_to from by r) j ≡ R r j
      go (yes e) ih = subst (λ x. reach A A.initial (word_to from by x) j ≡ R x j) (sym e) (sym (T.root (omega arith) j hj))
      go (no e) ih =
          ap (λ u. reach A A.initial u j) (word_child r (omega arith) h)
          ∙ ap (λ q. q j) (reach_append A A.initial (word_to from by (from r)) (by r ∷ []))
          ∙ xor_cong A.states (λ i hi. ap (λ b. b && A.step (by r) i j) (ih (omega (arith, T.parent r (omega arith) h)) (omega (arith, T.parent r (omega arith) h)) i hi))
          ∙ sym (T.child r (omega arith) h j hj)

  -- The word of a row reaches the row.
  pub tree_row : (r : ℕ) → r < d → (j : ℕ) → j < A.states → reach A A.initial (word_to from by r) j ≡ R r j
  tree_row r h = word_row (suc r) r (omega arith) h

  -- A pair that comes first has the earlier word.
  pair_earlier : (k l i x : ℕ) → ((i < k) → Shortlex (word_to from by i) (word_to from by k)) → Done k l i x → Shortlex (word_to from by i ++ (x ∷ [])) (word_to from by k ++ (l ∷ []))
  pair_earlier k l i x h (inl p) = shortlex_snoc (word_to from by i) (word_to from by k) x l (h p)
  pair_earlier k l i x h (inr p) = subst (λ y. Shortlex (word_to from by y ++ (x ∷ [])) (word_to from by k ++ (l ∷ []))) (sym p.0) (shortlex_last (word_to from by k) x l p.1)

  word_order : (f i k : ℕ) → k < f → i < k → k < d → Shortlex (word_to from by i) (word_to from by k)
  word_order zero i k p h hk = absurd (not-suc-le-zero p)
  word_order (suc f) i k p h hk =
      subst (Shortlex (word_to from by i)) (sym (word_child k (omega arith) hk)) (go (ℕ_discrete i 0) (λ u v w. word_order f (from i) (from k) u v w))
    where
      go : Dec (i ≡ 0) → (from k < f → from i < from k → from k < d → Shortlex (word_to from by (from i)) (word_to from by (from k))) → Shortlex (word_to from by i) (word_to from by (from k) ++ (by k ∷ []))
      go (yes e) ih = subst (λ x. Shortlex (word_to from by x) (word_to from by (from k) ++ (by k ∷ []))) (sym e) (nil_shortlex_snoc (word_to from by (from k)) (by k))
      go (no e) ih =
          subst (λ u. Shortlex u (word_to from by (from k) ++ (by k ∷ []))) (sym (word_child i (omega arith) (omega arith)))
          (pair_earlier (from k) (by k) (from i) (by i) (λ q. ih (omega (arith, T.parent k (omega arith) hk)) q (omega (arith, T.parent k (omega arith) hk))) (T.order i k (omega arith) h hk))

  row_same : (k : ℕ) → k < d → (j : ℕ) → j < A.states → row_of A (words_to from by d) k j ≡ R k j
  row_same k h j hj = ap (λ u. reach A A.initial u j) (words_at from by d k h) ∙ tree_row k h j hj

  not_after : (l k r : ℕ) → k < d → r < d → (r ≡ 0) ⊎ Done k (suc l) (from r) (by r) → Dec (r ≡ 0) → Dec (by r ≡ l) → NotAfter (word_to from by r) (word_to from by k ++ (l ∷ []))
  not_after l k r hk hr s (yes e) m = inr (subst (λ x. Shortlex (word_to from by x) (word_to from by k ++ (l ∷ []))) (sym e) (nil_shortlex_snoc (word_to from by k) l))
  not_after l k r hk hr (inl e) (no n) m = absurd (n e)
  not_after l k r hk hr (inr (inl p)) (no n) m =
      inr (subst (λ u. Shortlex u (word_to from by k ++ (l ∷ []))) (sym (word_child r (omega arith) hr)) (shortlex_snoc (word_to from by (from r)) (word_to from by k) (by r) l (word_order (suc k) (from r) k (omega arith) p hk)))
  not_after l k r hk hr (inr (inr p)) (no n) (yes m) = inl (word_child r (omega arith) hr ∙ ap₂ (λ i x. word_to from by i ++ (x ∷ [])) p.0 m)
  not_after l k r hk hr (inr (inr p)) (no n) (no m) =
      inr (subst (λ u. Shortlex u (word_to from by k ++ (l ∷ []))) (sym (word_child r (omega arith) hr ∙ ap (λ i. word_to from by i ++ (by r ∷ [])) p.0)) (shortlex_last (word_to from by k) (by r) l (omega (arith, p.1, m))))

  below : (k : ℕ) → k < length (words_to from by d) → k < d
  below k h = subst (λ n. k < n) (words_length from by d) h

  -- An xor of the rows that the words reach is one of the rows of the tree.
  pub comb_same : (c : ℕ → Bool) (j : ℕ) → j < A.states → comb (length (words_to from by d)) c (row_of A (words_to from by d)) j ≡ comb d c R j
  comb_same c j hj = ap (λ n. comb n c (row_of A (words_to from by d)) j) (words_length from by d) ∙ xor_cong d (λ k p. ap (λ b. c k && b) (row_same k p j hj))

  times_same : (l k : ℕ) → k < d → (j : ℕ) → times A l (row_of A (words_to from by d) k) j ≡ times A l (R k) j
  times_same l k h j = xor_cong A.states (λ i p. ap (λ b. b && A.step l i j) (row_same k h i p))

  -- The result of the search, with the words of its tree, is the reduction.
  pub tree_reduced : Reduced a A B (words_to from by d)
  tree_reduced = record {
    spanning = record {
      over = λ k h. subst (Over a) (sym (words_at from by d k (below k h))) (tree_over k (below k h));
      independent = λ c z i h. T.independent c (λ j hj. sym (comb_same c j hj) ∙ z j hj) i (below i h);
      first = λ h. words_at from by d 0 (below 0 h);
      empty = λ e. T.empty (sym (words_length from by d) ∙ e);
      size = T.size ∙ sym (words_length from by d);
      starts = λ k h. T.starts k (below k h);
      ends = λ k h. T.ends k (below k h) ∙ sym (xor_cong A.states (λ j p. ap (λ b. b && A.final j) (row_same k (below k h) j p)));
      rows = λ l k hl h j hj. times_same l k (below k h) j ∙ T.rows l k hl (below k h) j hj ∙ sym (comb_same (B.step l k) j hj);
    };
    ordered = λ i k p h. subst (Shortlex (get_or (words_to from by d) i [])) (sym (words_at from by d k (below k h)))
        (subst (λ u. Shortlex u (word_to from by k)) (sym (words_at from by d i (omega (arith, below k h)))) (word_order (suc k) i k (omega arith) p (below k h)));
    causal = λ l k r hl hk hr e. subst (λ u. NotAfter u (get_or (words_to from by d) k [] ++ (l ∷ []))) (sym (words_at from by d r (below r hr)))
        (subst (λ u. NotAfter (word_to from by r) (u ++ (l ∷ []))) (sym (words_at from by d k (below k hk)))
        (not_after l k r (below k hk) (below r hr) (T.early l k r hl (below k hk) (below r hr) e) (ℕ_discrete r 0) (ℕ_discrete (by r) l)));
  }

-- The same bits where bits are read: a tree over one automaton is one over the other.
pub tree_bits : (a : ℕ) (A A' B : Automaton) (d : ℕ) (R : ℕ → ℕ → Bool) (from by : ℕ → ℕ) → SameBits a A' A → Tree a A' B d R from by → Tree a A B d R from by
tree_bits a A A' B d R from by e T = record {
  root = λ h j g. T.root h j (back j g) ∙ e.initial j (back j g);
  empty = λ z j g. sym (e.initial j (back j g)) ∙ T.empty z j (back j g);
  parent = T.parent;
  letter = T.letter;
  child = λ r p h j g. T.child r p h j (back j g) ∙ same (by r) (T.letter r p h) (R (from r)) j (back j g);
  order = T.order;
  independent = λ c z. T.independent c (λ j g. z j (subst (λ n. j < n) e.states g));
  size = T.size;
  starts = T.starts;
  ends = λ k h. T.ends k h ∙ xor_cong A'.states (λ j g. ap (λ b. R k j && b) (e.final j g)) ∙ ap (λ n. xor_below n (λ j. R k j && A.final j)) e.states;
  rows = λ l k hl hk j g. sym (same l hl (R k) j (back j g)) ∙ T.rows l k hl hk j (back j g);
  early = T.early;
}
  where
    back : (j : ℕ) → j < A.states → j < A'.states
    back j g = subst (λ n. j < n) (sym e.states) g

    same : (l : ℕ) → l < a → (r : ℕ → Bool) (j : ℕ) → j < A'.states → times A' l r j ≡ times A l r j
    same l h r j g = xor_cong A'.states (λ x p. ap (λ b. r x && b) (e.step l x j h p g)) ∙ ap (λ n. xor_below n (λ x. r x && A.step l x j)) e.states
