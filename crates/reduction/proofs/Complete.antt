-- A search that stops early can be completed: what it found are the first rows of a whole search.
use mathlib.Core.Path.{◌≡◌, refl, ap, ap₂, subst, ◌∙◌}
use mathlib.Core.Bool.{Bool, true, false, ◌&&◌, cond, and-false}
use mathlib.Core.Logic.{◌⊎◌, inl, inr}
use Prim.Native.Nat.{ℕ, zero, suc, ◌+◌, ◌-◌, ◌<◌, ◌≤◌}
use native.Mathlib.Decide.{ℕ_discrete, dec_lt}
use native.Mathlib.Omega.{arith}
use lib.Dec.{eqb}
use Rattle.automata.specs.Xor.{◌⊕◌, xor_below}
use Rattle.automata.specs.Automaton.{Automaton}
use Rattle.automata.specs.Row.{times}
use Rattle.automata.specs.Tree.{Tree}
use Rattle.automata.proofs.Xor.{xor_none, eqb_same}
use Rattle.automata.proofs.Below.{find}
use Rattle.automata.proofs.Dependence.{independent_bound}
use Rattle.elimination.specs.Echelon.{onto, rest, Extended}
use Rattle.elimination.proofs.EchelonLaws.{coordinates, coef_short, onto_thin, echelon_add}
use Rattle.elimination.proofs.PlaceLaws.{if_same, if_other, own_of, coef_of}
use Rattle.reduction.specs.Search.{Search}
use Rattle.reduction.proofs.SearchLaws.{search_next, search_old, search_new, search_tree}

-- ---- one more product

-- S with v for row k by letter l.
abbrev pub with_row : (ℕ → ℕ → ℕ → Bool) → ℕ → ℕ → (ℕ → Bool) → ℕ → ℕ → ℕ → Bool
with_row S k l v x i = cond (eqb x l) (cond (eqb i k) v (S x i)) (S x i)

pub with_kept : (S : ℕ → ℕ → ℕ → Bool) (k l : ℕ) (v : ℕ → Bool) (x i : ℕ) → ((i ≡ k) × (x ≡ l) → ⊥) → with_row S k l v x i ≡ S x i
with_kept S k l v x i z = go (ℕ_discrete x l) (ℕ_discrete i k)
  where
    go : Dec (x ≡ l) → Dec (i ≡ k) → cond (eqb x l) (cond (eqb i k) v (S x i)) (S x i) ≡ S x i
    go (no e) f = if_other x l (cond (eqb i k) v (S x i)) (S x i) e
    go (yes e) (no f) = ap (λ b. cond b (cond (eqb i k) v (S x i)) (S x i)) (ap (λ w. eqb w l) e ∙ eqb_same l) ∙ if_other i k v (S x i) f
    go (yes e) (yes f) = absurd (z (f, e))

pub with_new : (S : ℕ → ℕ → ℕ → Bool) (k l : ℕ) (v : ℕ → Bool) → with_row S k l v l k ≡ v
with_new S k l v = if_same l (cond (eqb k k) v (S l k)) (S l k) ∙ if_same k v (S l k)

-- ---- one more row

-- R with y for row d, and the pivots and basis rows with the pivot q of what is left of y.
abbrev pub rows_with : ℕ → (ℕ → ℕ → Bool) → (ℕ → Bool) → ℕ → ℕ → Bool
rows_with d R y i = cond (eqb i d) y (R i)

abbrev pub pivots_with : (ℕ → Bool) → ℕ → ℕ → Bool
pivots_with P q j = P j ⊕ eqb j q

abbrev pub base_with : ℕ → (ℕ → Bool) → (ℕ → ℕ → Bool) → (ℕ → Bool) → ℕ → ℕ → ℕ → Bool
base_with n P E y q j k = cond (eqb j q) (rest n P E y k) (E j k ⊕ (E j q && rest n P E y k))

-- The coefficients of the basis rows, and of the new row: itself alone.
abbrev pub coef_with : ℕ → ℕ → (ℕ → Bool) → (ℕ → ℕ → Bool) → (ℕ → ℕ → Bool) → (ℕ → Bool) → ℕ → ℕ → ℕ → Bool
coef_with n d P E C y q = coef_of E C (own_of n d P C y) q

abbrev pub alone : ℕ → ℕ → Bool
alone d r = eqb r d

pub old_row : (d : ℕ) (R : ℕ → ℕ → Bool) (y : ℕ → Bool) (r : ℕ) → r < d → rows_with d R y r ≡ R r
old_row d R y r h = if_other r d y (R r) (omega arith)

pub new_row : (d : ℕ) (R : ℕ → ℕ → Bool) (y : ℕ → Bool) → rows_with d R y d ≡ y
new_row d R y = if_same d y (R d)

-- The product y of row k by letter l, of which bit q is left, is one more row of the search.
pub grown : (a : ℕ) (A : Automaton) (d k l : ℕ) (P : ℕ → Bool) (R E C : ℕ → ℕ → Bool) (from by : ℕ → ℕ) (S : ℕ → ℕ → ℕ → Bool) → k < d → l < a → Search a A d k l P R E C from by S
    → (y : ℕ → Bool) → ((j : ℕ) → y j ≡ times A l (R k) j) → ((j : ℕ) → A.states ≤ j → y j ≡ false) → (q : ℕ) → rest A.states P E y q ≡ true
    → (from' by' : ℕ → ℕ) → ((r : ℕ) → r < d → from' r ≡ from r) → from' d ≡ k → ((r : ℕ) → r < d → by' r ≡ by r) → by' d ≡ l
    → Search a A (suc d) k (suc l) (pivots_with P q) (rows_with d R y) (base_with A.states P E y q) (coef_with A.states d P E C y q) from' by' (with_row S k l (alone d))
grown a A d k l P R E C from by S hk hl G y hy thin q t from' by' old_from new-from old_by new_by =
    search_new a A d k l P R E C from by S G hk hl (with_row S k l (alone d)) (λ x i p h. with_kept S k l (alone d) x i) (pivots_with P q) (rows_with d R y) (base_with n P E y q) (coef_with n d P E C y q) from' by'
    (echelon_add n d P R E C G.basis y q thin t (pivots_with P q) (rows_with d R y) (base_with n P E y q) (coef_with n d P E C y q) extended)
    (λ r h j. ap (λ w. w j) (old_row d R y r h)) (λ j. ap (λ w. w j) (new_row d R y) ∙ hy j) old_from new-from old_by new_by (λ r. ap (λ w. w r) (with_new S k l (alone d)))
  where
    n : ℕ
    n = A.states

    own : ℕ → Bool
    own = own_of n d P C y

    extended : Extended n d P R E C y q (pivots_with P q) (rows_with d R y) (base_with n P E y q) (coef_with n d P E C y q)
    extended = record {
      row_old = λ i j h. ap (λ w. w j) (old_row d R y i h);
      row_new = λ j. ap (λ w. w j) (new_row d R y);
      base_old = λ j i h p z. if_other j q (rest n P E y i) (E j i ⊕ (E j q && rest n P E y i)) z;
      base_new = λ i. if_same q (rest n P E y i) (E q i ⊕ (E q q && rest n P E y i));
      coef_old = λ j i h p z. if_other j q (own i) (C j i ⊕ (E j q && own i)) z;
      coef_new = λ i. if_same q (own i) (C q i ⊕ (E q q && own i));
      pivots = λ j. refl;
    }

-- ---- a whole search

-- A whole search whose first d rows are these.
pub record Completed (a : ℕ) (A : Automaton) (d : ℕ) (R : ℕ → ℕ → Bool) (from by : ℕ → ℕ) : Type 0 where
  pub count : ℕ
  pub all : ℕ → ℕ → Bool
  pub from_all : ℕ → ℕ
  pub by_all : ℕ → ℕ
  pub reduced : Automaton
  pub more : d ≤ count
  pub tree : Tree a A reduced count all from_all by_all
  pub same : (r : ℕ) → r < d → (j : ℕ) → all r j ≡ R r j
  pub same_from : (r : ℕ) → r < d → from_all r ≡ from r
  pub same_by : (r : ℕ) → r < d → by_all r ≡ by r

module _ (a : ℕ) (A : Automaton) (thin : (l i j : ℕ) → l < a → i < A.states → A.states ≤ j → A.step l i j ≡ false) where
  -- Every pair is done.
  pub finish : (d : ℕ) (P : ℕ → Bool) (R E C : ℕ → ℕ → Bool) (from by : ℕ → ℕ) (S : ℕ → ℕ → ℕ → Bool) → Search a A d d 0 P R E C from by S → Completed a A d R from by
  finish d P R E C from by S G = record {
    count = d;
    all = R;
    from_all = from;
    by_all = by;
    reduced = record { states = d; initial = λ k. eqb k 0; final = λ k. xor_below A.states (λ j. R k j && A.final j); step = S };
    more = omega arith;
    tree = search_tree a A (record { states = d; initial = λ k. eqb k 0; final = λ k. xor_below A.states (λ j. R k j && A.final j); step = S }) d P R E C from by G refl (λ k h. refl) (λ k h. refl);
    same = λ r h j. refl;
    same_from = λ r h. refl;
    same_by = λ r h. refl;
  }

  pub finish_count : (d : ℕ) (P : ℕ → Bool) (R E C : ℕ → ℕ → Bool) (from by : ℕ → ℕ) (S : ℕ → ℕ → ℕ → Bool) (G : Search a A d d 0 P R E C from by S) → (finish d P R E C from by S G).count ≡ d
  unfolding finish
  finish_count d P R E C from by S G = refl

  -- What completes a longer search completes this one.
  shorter : (d d' : ℕ) (R R' : ℕ → ℕ → Bool) (from by from' by' : ℕ → ℕ) → d ≤ d' → ((r : ℕ) → r < d → (j : ℕ) → R' r j ≡ R r j) → ((r : ℕ) → r < d → from' r ≡ from r) → ((r : ℕ) → r < d → by' r ≡ by r)
      → Completed a A d' R' from' by' → Completed a A d R from by
  shorter d d' R R' from by from' by' h x y z K = record {
    count = K.count;
    all = K.all;
    from_all = K.from_all;
    by_all = K.by_all;
    reduced = K.reduced;
    more = omega (arith, K.more);
    tree = K.tree;
    same = λ r p j. K.same r (omega arith) j ∙ x r p j;
    same_from = λ r p. K.same_from r (omega arith) ∙ y r p;
    same_by = λ r p. K.same_by r (omega arith) ∙ z r p;
  }

  -- One pair, whatever follows it.
  module _ (d k l : ℕ) (P : ℕ → Bool) (R E C : ℕ → ℕ → Bool) (from by : ℕ → ℕ) (S : ℕ → ℕ → ℕ → Bool) (hk : k < d) (hl : l < a) (G : Search a A d k l P R E C from by S)
      (rest_of : (d' : ℕ) (P' : ℕ → Bool) (R' E' C' : ℕ → ℕ → Bool) (from' by' : ℕ → ℕ) (S' : ℕ → ℕ → ℕ → Bool) → d ≤ d' → Search a A d' k (suc l) P' R' E' C' from' by' S' → Completed a A d' R' from' by') where
    abbrev n : ℕ
    n = A.states

    abbrev y : ℕ → Bool
    y = times A l (R k)

    y_thin : (j : ℕ) → n ≤ j → y j ≡ false
    y_thin j h = xor_none n (λ i p. ap (λ b. R k i && b) (thin l i j hl p h) ∙ and-false (R k i))

    pair : ((p : ℕ) × (p < n) × (rest n P E y p ≡ true)) ⊎ ((i : ℕ) → i < n → rest n P E y i ≡ false) → Completed a A d R from by
    pair (inr z) = rest_of d P R E C from by (with_row S k l c) (omega arith)
        (search_old a A d k l P R E C from by S G hk hl (with_row S k l c) (λ x i p h. with_kept S k l c x i) c (coordinates n d P R E C G.basis y (λ j. nothing j (dec_lt j n))) (λ r h. coef_short n d P R E C G.basis y r h) (with_new S k l c))
      where
        c : ℕ → Bool
        c = onto n P C y

        nothing : (j : ℕ) → Dec (j < n) → rest n P E y j ≡ false
        nothing j (yes h) = z j h
        nothing j (no h) = ap₂ ◌⊕◌ (y_thin j (omega arith)) (onto_thin n d P R E C G.basis y j (omega arith))
    pair (inl (q, hq, t)) = shorter d (suc d) R (rows_with d R y) from by from' by' (omega arith) (λ r h j. ap (λ w. w j) (old_row d R y r h)) old_from old_by
        (rest_of (suc d) (pivots_with P q) (rows_with d R y) (base_with n P E y q) (coef_with n d P E C y q) from' by' (with_row S k l (alone d)) (omega arith)
        (grown a A d k l P R E C from by S hk hl G y (λ j. refl) y_thin q t from' by' old_from (if_same d k (from d)) old_by (if_same d l (by d))))
      where
        from' : ℕ → ℕ
        from' r = cond (eqb r d) k (from r)

        by' : ℕ → ℕ
        by' r = cond (eqb r d) l (by r)

        old_from : (r : ℕ) → r < d → from' r ≡ from r
        old_from r h = if_other r d k (from r) (omega arith)

        old_by : (r : ℕ) → r < d → by' r ≡ by r
        old_by r h = if_other r d l (by r) (omega arith)

  -- The g letters to come of row k, and what follows them.
  letters : (g d k l : ℕ) (P : ℕ → Bool) (R E C : ℕ → ℕ → Bool) (from by : ℕ → ℕ) (S : ℕ → ℕ → ℕ → Bool) → l + g ≡ a → k < d → Search a A d k l P R E C from by S
      → ((d' : ℕ) (P' : ℕ → Bool) (R' E' C' : ℕ → ℕ → Bool) (from' by' : ℕ → ℕ) (S' : ℕ → ℕ → ℕ → Bool) → k < d' → Search a A d' k a P' R' E' C' from' by' S' → Completed a A d' R' from' by') → Completed a A d R from by
  letters zero d k l P R E C from by S e hk G more = let q : l ≡ a = omega arith in more d P R E C from by S hk (subst (λ x. Search a A d k x P R E C from by S) q G)
  letters (suc g) d k l P R E C from by S e hk G more =
      pair d k l P R E C from by S hk (omega arith) G (λ d' P' R' E' C' from' by' S' h H. letters g d' k (suc l) P' R' E' C' from' by' S' (omega arith) (omega arith) H more) (find A.states (rest A.states P E (times A l (R k))))

  -- Row k is done; f bounds the rows to come.
  rows : (f d k : ℕ) (P : ℕ → Bool) (R E C : ℕ → ℕ → Bool) (from by : ℕ → ℕ) (S : ℕ → ℕ → ℕ → Bool) → k < d → A.states ≤ suc k + f → Search a A d k a P R E C from by S → Completed a A d R from by
  rows zero d k P R E C from by S hk hf G =
      let b = independent_bound A.states d R G.basis.free in
      let w : suc k ≡ d = omega arith in
      finish d P R E C from by S (subst (λ x. Search a A d x 0 P R E C from by S) w (search_next a A P R E C from by S d k G))
  rows (suc f) d k P R E C from by S hk hf G =
      next (search_next a A P R E C from by S d k G)
      (λ h H. letters a d (suc k) 0 P R E C from by S (omega arith) h H (λ d' P' R' E' C' from' by' S' z K. rows f d' (suc k) P' R' E' C' from' by' S' z (omega arith) K)) (dec_lt (suc k) d)
    where
      next : Search a A d (suc k) 0 P R E C from by S → (suc k < d → Search a A d (suc k) 0 P R E C from by S → Completed a A d R from by) → Dec (suc k < d) → Completed a A d R from by
      next H more (yes h) = more h H
      next H more (no h) = let w : suc k ≡ d = omega arith in finish d P R E C from by S (subst (λ x. Search a A d x 0 P R E C from by S) w H)

  -- A search before the pair (k, l) can be completed.
  pub complete : (d k l : ℕ) (P : ℕ → Bool) (R E C : ℕ → ℕ → Bool) (from by : ℕ → ℕ) (S : ℕ → ℕ → ℕ → Bool) → l ≤ a → k < d → Search a A d k l P R E C from by S → Completed a A d R from by
  complete d k l P R E C from by S hl hk G = letters (a - l) d k l P R E C from by S (omega arith) hk G (λ d' P' R' E' C' from' by' S' z K. rows A.states d' k P' R' E' C' from' by' S' z (omega arith) K)

  -- A search that has done every row, or has as many rows as there are states, has found all.
  pub found_all : (d k : ℕ) (P : ℕ → Bool) (R E C : ℕ → ℕ → Bool) (from by : ℕ → ℕ) (S : ℕ → ℕ → ℕ → Bool) → Search a A d k 0 P R E C from by S → k ≤ d → (k ≡ d) ⊎ (d ≡ A.states)
      → (K : Completed a A d R from by) × (K.count ≡ d)
  found_all d k P R E C from by S G hk stop = go stop (dec_lt k d)
    where
      ended : k ≡ d → (K : Completed a A d R from by) × (K.count ≡ d)
      ended e = let H = subst (λ x. Search a A d x 0 P R E C from by S) e G in (finish d P R E C from by S H, finish_count d P R E C from by S H)

      go : (k ≡ d) ⊎ (d ≡ A.states) → Dec (k < d) → (K : Completed a A d R from by) × (K.count ≡ d)
      go (inl e) h = ended e
      go (inr e) (no h) = ended (omega arith)
      go (inr e) (yes h) =
          let K = complete d k 0 P R E C from by S (omega arith) h G in
          (K, omega (arith, K.more, independent_bound A.states K.count K.all K.tree.independent))
