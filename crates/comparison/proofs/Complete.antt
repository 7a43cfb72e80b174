-- What the rows found by a search over two automata side by side show: the first accepted row, the word of a row, no row accepted.
use mathlib.Core.Path.{◌≡◌, refl, sym, ap, ap₂, subst, ◌∙◌}
use mathlib.Core.Bool.{Bool, true, false, ◌&&◌, cond}
use mathlib.Core.List.{[], ◌∷◌, ◌++◌}
use Prim.Native.Nat.{ℕ, zero, suc, ◌<◌, ◌≤◌}
use mathlib.Core.Option.{none, some}
use native.Mathlib.Decide.{ℕ_discrete}
use native.Mathlib.Omega.{arith}
use lib.Dec.{eqb}
use Rattle.automata.specs.Xor.{xor_below}
use Rattle.automata.specs.Automaton.{Automaton, accepts}
use Rattle.automata.specs.Minimal.{SameBits}
use Rattle.automata.specs.Row.{reach}
use Rattle.automata.specs.Tree.{Tree, word_up, word_to}
use Rattle.automata.specs.Operations.{sum_of}
use Rattle.automata.specs.FirstDifference.{first_difference}
use Rattle.automata.proofs.Xor.{xor_cong}
use Rattle.automata.proofs.Acceptance.{accepts_reach, reach_cong}
use Rattle.automata.proofs.Operations.{reach_low, initial_low}
use Rattle.automata.proofs.Tree.{word_child, tree_row, tree_bits}
use Rattle.automata.proofs.Results.{tree_same, tree_differs}
use Rattle.reduction.specs.Search.{Search}
use Rattle.reduction.proofs.Complete.{Completed, finish, finish_count, complete}

-- ---- words

-- Words go by the rows up to theirs.
word_same : (from by from' by' : ℕ → ℕ) (d : ℕ) → ((r : ℕ) → r < d → from' r ≡ from r) → ((r : ℕ) → r < d → by' r ≡ by r) → ((r : ℕ) → 0 < r → r < d → from r < r) → (f r : ℕ) → r < d → word_up from' by' f r ≡ word_up from by f r
word_same from by from' by' d hf hb up zero r h = refl
word_same from by from' by' d hf hb up (suc f) r h = go (ℕ_discrete r 0) (λ p. word_same from by from' by' d hf hb up f (from r) p)
  where
    go : Dec (r ≡ 0) → (from r < d → word_up from' by' f (from r) ≡ word_up from by f (from r)) → cond (eqb r 0) [] (word_up from' by' f (from' r) ++ (by' r ∷ [])) ≡ cond (eqb r 0) [] (word_up from by f (from r) ++ (by r ∷ []))
    go (yes e) ih = ap (λ b. cond b [] (word_up from' by' f (from' r) ++ (by' r ∷ []))) (ap (λ x. eqb x 0) e) ∙ sym (ap (λ b. cond b [] (word_up from by f (from r) ++ (by r ∷ []))) (ap (λ x. eqb x 0) e))
    go (no e) ih = ap₂ (λ w x. cond (eqb r 0) [] (w ++ (x ∷ []))) (ap (word_up from' by' f) (hf r h) ∙ ih (omega (arith, up r (omega (arith, e)) h))) (hb r h)

-- ---- what the first accepted row shows

-- The search is over A, whose bits are those of the direct sum of B and C.
module _ (a : ℕ) (A B C : Automaton) (thin : (l i j : ℕ) → l < a → i < A.states → A.states ≤ j → A.step l i j ≡ false) (sum : SameBits a A (sum_of B C))
    (d k l : ℕ) (P : ℕ → Bool) (R E F : ℕ → ℕ → Bool) (from by : ℕ → ℕ) (S : ℕ → ℕ → ℕ → Bool) where
  final_row : (K : Completed a A d R from by) (r : ℕ) → r < d → K.reduced.final r ≡ xor_below A.states (λ j. R r j && A.final j)
  final_row K r p = K.tree.ends r (omega (arith, K.more)) ∙ xor_cong A.states (λ j g. ap (λ b. b && A.final j) (K.same r p j))

  sum_tree : (K : Completed a A d R from by) → Tree a (sum_of B C) K.reduced K.count K.all K.from_all K.by_all
  sum_tree K = tree_bits a (sum_of B C) A K.reduced K.count K.all K.from_all K.by_all sum K.tree

  -- A search may stop at the first row that the final column accepts: its word is the first difference.
  pub first_row_lem : l ≤ a → k < d → Search a A d k l P R E F from by S
      → (r : ℕ) → r < d → xor_below A.states (λ j. R r j && A.final j) ≡ true → ((i : ℕ) → i < r → xor_below A.states (λ j. R i j && A.final j) ≡ false)
      → first_difference a B C ≡ some (word_to from by r)
  first_row_lem hl hk G r h t z = go (complete a A thin d k l P R E F from by S hl hk G)
    where
      go : Completed a A d R from by → first_difference a B C ≡ some (word_to from by r)
      go K =
          tree_differs a B C K.reduced K.count K.all K.from_all K.by_all (sum_tree K) r (omega (arith, K.more)) (final_row K r h ∙ t) (λ i p. final_row K i (omega arith) ∙ z i p)
          ∙ ap some (word_same from by K.from_all K.by_all d K.same_from K.same_by G.parent r r h)

  module _ (hl : l ≤ a) (hk : k < d) (G : Search a A d k l P R E F from by S) where
    whole : Completed a A d R from by
    whole = complete a A thin d k l P R E F from by S hl hk G

    same_word : (r : ℕ) → r < d → word_to whole.from_all whole.by_all r ≡ word_to from by r
    same_word r h = word_same from by whole.from_all whole.by_all d whole.same_from whole.same_by G.parent r r h

    -- The word of a row is that of the row it came from, and the letter.
    pub row_word : (r : ℕ) → 0 < r → r < d → word_to from by r ≡ word_to from by (from r) ++ (by r ∷ [])
    row_word r p h =
        sym (same_word r h) ∙ word_child a A whole.reduced whole.count whole.all whole.from_all whole.by_all whole.tree r p (omega (arith, whole.more))
        ∙ ap₂ (λ u x. u ++ (x ∷ [])) (ap (word_to whole.from_all whole.by_all) (whole.same_from r h) ∙ same_word (from r) (omega (arith, G.parent r p h))) (whole.same_by r h)

    -- The first automaton accepts the word of a row by the row's bits on its own states.
    pub row_side : (r : ℕ) → r < d → accepts B (word_to from by r) ≡ xor_below B.states (λ j. R r j && B.final j)
    row_side r h =
        accepts_reach B (word_to from by r)
        ∙ xor_cong B.states (λ j g. ap (λ b. b && B.final j) (low j g))
      where
        low : (j : ℕ) → j < B.states → reach B B.initial (word_to from by r) j ≡ R r j
        low j g =
            reach_cong B B.initial (sum_of B C).initial (λ i q. sym (initial_low B C i q)) (word_to from by r) j g
            ∙ sym (reach_low B C (sum_of B C).initial (word_to from by r) j g)
            ∙ ap (λ w. reach (sum_of B C) (sum_of B C).initial w j) (sym (same_word r h))
            ∙ tree_row a (sum_of B C) whole.reduced whole.count whole.all whole.from_all whole.by_all (sum_tree whole) r (omega (arith, whole.more)) j (omega arith)
            ∙ whole.same r h j

  -- Every pair is done and no row is accepted: the languages are the same.
  pub no_row : Search a A d d 0 P R E F from by S → ((r : ℕ) → r < d → xor_below A.states (λ j. R r j && A.final j) ≡ false) → first_difference a B C ≡ none
  no_row G z = go (finish a A thin d P R E F from by S G) (finish_count a A thin d P R E F from by S G)
    where
      go : (K : Completed a A d R from by) → K.count ≡ d → first_difference a B C ≡ none
      go K e = tree_same a B C K.reduced K.count K.all K.from_all K.by_all (sum_tree K) (λ r h. final_row K r (subst (λ n. r < n) e h) ∙ z r (subst (λ n. r < n) e h))
