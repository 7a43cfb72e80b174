-- The path count is the number of paths along a word.
use mathlib.Core.Path.{◌≡◌, refl, sym, subst, ◌∙◌}
use mathlib.Core.Bool.{Bool, true, cond}
use mathlib.Core.List.{List, [], ◌∷◌}
use Prim.Native.Nat.{ℕ, ◌<◌}
use Rattle.automata.specs.Automaton.{Automaton, PathFrom, Path, sum_below, paths_from, path_count}
use Rattle.automata.specs.Count.{Count}
use Rattle.automata.proofs.Count.{count_same, count_one, count_when, count_image, count_below}

-- The lists of states that begin with i, where b holds, and go on with a list at which P holds.
abbrev Behind : Bool → ℕ → (List ℕ → Type 0) → List ℕ → Type 0
Behind b i P p = (b ≡ true) × ((q : List ℕ) × (p ≡ i ∷ q) × P q)

head_same : (i j : ℕ) (p q : List ℕ) → i ∷ p ≡ j ∷ q → i ≡ j
head_same i j p q e = cc

tail_same : (i : ℕ) (p q : List ℕ) → i ∷ p ≡ i ∷ q → p ≡ q
tail_same i p q e = cc

-- There are as many lists that begin with one of k states as there are ways to go on from each.
starts_count : (k : ℕ) (b : ℕ → Bool) (P : ℕ → List ℕ → Type 0) (n : ℕ → ℕ) → ((i : ℕ) → Count (P i) (n i)) → Count (λ p. (i : ℕ) × (i < k) × Behind (b i) i (P i) p) (sum_below k (λ i. cond (b i) (n i) 0))
starts_count k b P n c = count_below k (λ i. Behind (b i) i (P i)) (λ i. cond (b i) (n i) 0)
    (λ i j p s t. head_same i j s.1.0 t.1.0 (sym s.1.1 ∙ t.1.1))
    (λ i. count_when (b i) (count_image (λ q. i ∷ q) (tail_same i) (λ q h. (q, refl, h)) (λ p h. h) (c i)))

module _ (A : Automaton) where
  from_count : (w : List ℕ) (i : ℕ) → Count (PathFrom A w i) (paths_from A w i)
  from_count [] i = count_same {P = λ p. (A.final i ≡ true) × (p ≡ [])} (λ p h. subst (PathFrom A [] i) (sym h.1) h.0) ended (count_when (A.final i) (count_one [] refl (λ p e. e)))
    where
      ended : (p : List ℕ) → PathFrom A [] i p → (A.final i ≡ true) × (p ≡ [])
      ended [] h = (h, refl)
      ended (j ∷ p) h = absurd h
  from_count (l ∷ w) i = count_same (λ p h. subst (PathFrom A (l ∷ w) i) (sym h.2.1.1) (h.1, h.2.0, h.2.1.2)) goes_on (starts_count A.states (A.step l i) (PathFrom A w) (paths_from A w) (from_count w))
    where
      goes_on : (p : List ℕ) → PathFrom A (l ∷ w) i p → (j : ℕ) × (j < A.states) × Behind (A.step l i j) j (PathFrom A w j) p
      goes_on [] h = absurd h
      goes_on (j ∷ p) h = (j, h.0, (h.1, (p, refl, h.2)))

  -- The path count counts the paths.
  pub path_count_lem : (w : List ℕ) → Count (Path A w) (path_count A w)
  path_count_lem w = count_same (λ p h. subst (Path A w) (sym h.2.1.1) (h.1, h.2.0, h.2.1.2)) begins (starts_count A.states A.initial (PathFrom A w) (paths_from A w) (from_count w))
    where
      begins : (p : List ℕ) → Path A w p → (i : ℕ) × (i < A.states) × Behind (A.initial i) i (PathFrom A w i) p
      begins [] h = absurd h
      begins (i ∷ p) h = (i, h.0, (h.1, (p, refl, h.2)))
