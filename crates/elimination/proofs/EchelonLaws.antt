-- A reduced basis: coordinates of a row, and one more row.
use mathlib.Core.Path.{◌≡◌, refl, sym, ap, ap₂, subst, ◌∙◌}
use mathlib.Core.Bool.{Bool, true, false, ◌&&◌, cond, true≢false, and-false, and_comm, and_assoc}
use mathlib.Core.Logic.{◌⊎◌, inl, inr}
use Prim.Native.Nat.{ℕ, suc, ◌<◌, ◌≤◌}
use native.Mathlib.Nat.{not-suc-le-zero, lt_of_not-le}
use native.Mathlib.Decide.{ℕ_discrete}
use native.Mathlib.Omega.{arith}
use lib.Dec.{eqb}
use Rattle.automata.specs.Xor.{◌⊕◌, comb}
use Rattle.automata.proofs.Xor.{bool_cases, xor_false, xor_self, xor_comm, xor_assoc, xor_and, xor_zero, xor_cong, xor_none, xor_split, xor_scale, xor_scale_right, xor_pick, xor_coef, xor_matrix, eqb_same, eqb_differ}
use Rattle.automata.proofs.Below.{up_to}
use Rattle.automata.proofs.Dependence.{independent_add, independent_bound}
use Rattle.elimination.specs.Echelon.{onto, rest, Echelon, Extended}

pub no_echelon : (n : ℕ) (P : ℕ → Bool) (R E C : ℕ → ℕ → Bool) → ((j : ℕ) → P j ≡ false) → Echelon n 0 P R E C
no_echelon n P R E C none = record {
  thin = λ i h. absurd (not-suc-le-zero h);
  sum = λ j h e. absurd (true≢false (sym e ∙ none j));
  unit = λ i j h g e. absurd (true≢false (sym e ∙ none i));
  span = λ i h. absurd (not-suc-le-zero h);
  short = λ j i h e. absurd (true≢false (sym e ∙ none j));
  free = λ c z i h. absurd (not-suc-le-zero h);
}

lt_differ : (i m : ℕ) → i < m → eqb i m ≡ false
lt_differ i m h = eqb_differ {m = i} {n = m} (omega arith)

pub gt_differ : (i m : ℕ) → m < i → eqb i m ≡ false
gt_differ i m h = eqb_differ {m = i} {n = m} (omega arith)

gate : (v p e f : Bool) → (p ≡ true → e ≡ f) → (v && p) && e ≡ (v && p) && f
gate true true e f h = h refl
gate true false e f h = refl
gate false p e f h = refl

module _ (n m : ℕ) (P : ℕ → Bool) (R E C : ℕ → ℕ → Bool) (F : Echelon n m P R E C) where
  -- The part of y on the pivots, in rows of R.
  pub onto_coef : (y : ℕ → Bool) (k : ℕ) → onto n P E y k ≡ comb m (onto n P C y) R k
  onto_coef y k =
      xor_cong n (λ j h. gate (y j) (P j) (E j k) (comb m (C j) R k) (λ e. F.sum j h e k))
      ∙ xor_matrix n m (λ j. y j && P j) C (λ i. R i k)

  pub coef_short : (y : ℕ → Bool) (i : ℕ) → m ≤ i → onto n P C y i ≡ false
  coef_short y i h = xor_none n (λ j g. gate (y j) (P j) (C j i) false (λ e. F.short j i g e h) ∙ and-false (y j && P j))

  -- Nothing is left: the row is the xor of the rows that the coefficients name.
  pub coordinates : (y : ℕ → Bool) → ((k : ℕ) → rest n P E y k ≡ false) → (k : ℕ) → y k ≡ comb m (onto n P C y) R k
  coordinates y z k = xor_zero (z k) ∙ onto_coef y k

  pub onto_thin : (y : ℕ → Bool) (k : ℕ) → n ≤ k → onto n P E y k ≡ false
  onto_thin y k h = onto_coef y k ∙ xor_none m (λ i g. ap (λ b. onto n P C y i && b) (F.thin i g k h) ∙ and-false (onto n P C y i))

  -- A bit of what is left stands below n.
  pub rest_below : (y : ℕ → Bool) → ((k : ℕ) → n ≤ k → y k ≡ false) → (q : ℕ) → rest n P E y q ≡ true → q < n
  rest_below y t q e = lt_of_not-le (λ h. true≢false (sym e ∙ ap₂ ◌⊕◌ (t q h) (onto_thin y q h)))

  -- What is left has no bit at a pivot.
  pub rest_clear : (y : ℕ → Bool) (j : ℕ) → j < n → P j ≡ true → rest n P E y j ≡ false
  rest_clear y j h e =
      ap (λ b. y j ⊕ b)
      (xor_cong n (λ i g. gate (y i) (P i) (E i j) (eqb i j) (λ f. F.unit i j g h f e) ∙ and_comm (y i && P i) (eqb i j))
      ∙ xor_pick n j h (λ i. y i && P i) ∙ ap (λ b. y j && b) e)
      ∙ last (y j)
    where
      last : (b : Bool) → b ⊕ (b && true) ≡ false
      last true = refl
      last false = refl

  -- Only the bits below n are read.
  pub onto_same : (x y : ℕ → Bool) → ((j : ℕ) → j < n → x j ≡ y j) → (k : ℕ) → onto n P E x k ≡ onto n P E y k
  onto_same x y h k = xor_cong n (λ j g. ap (λ b. (b && P j) && E j k) (h j g))

  -- An xor of rows of R is its own part on the pivots.
  pub onto_fixed : (d : ℕ → Bool) (k : ℕ) → onto n P E (comb m d R) k ≡ comb m d R k
  onto_fixed d k =
      xor_cong n (λ j h. and_assoc (comb m d R j) (P j) (E j k))
      ∙ sym (xor_matrix m n d R (λ j. P j && E j k))
      ∙ xor_cong m (λ i h. ap (λ b. d i && b) (xor_cong n (λ j g. sym (and_assoc (R i j) (P j) (E j k))) ∙ sym (F.span i h k)))

  -- Something is left: the row is no xor of rows of R.
  pub absent : (y : ℕ → Bool) (q : ℕ) → q < n → rest n P E y q ≡ true → (d : ℕ → Bool) → ((k : ℕ) → k < n → y k ≡ comb m d R k) → ⊥
  absent y q h e d z = true≢false (sym e ∙ ap₂ ◌⊕◌ (z q h) (onto_same y (comb m d R) z q ∙ onto_fixed d q) ∙ xor_self (comb m d R q))

  -- There is room for it.
  pub room : (y : ℕ → Bool) (q : ℕ) → q < n → rest n P E y q ≡ true → m < n
  room y q h e = independent_bound n (suc m) G (independent_add m G
      (λ c z. F.free c (λ k g. xor_cong m (λ i l. ap (λ b. c i && b) (sym (old i l k))) ∙ z k g))
      (λ d z. absent y q h e d (λ k g. sym (new k) ∙ z k g ∙ xor_cong m (λ i l. ap (λ b. d i && b) (old i l k)))))
    where
      G : ℕ → ℕ → Bool
      G i k = cond (eqb i m) (y k) (R i k)

      old : (i : ℕ) → i < m → (k : ℕ) → G i k ≡ R i k
      old i l k = ap (λ b. cond b (y k) (R i k)) (lt_differ i m l)

      new : (k : ℕ) → G m k ≡ y k
      new k = ap (λ b. cond b (y k) (R m k)) (eqb_same m)

module _ (n m : ℕ) (P : ℕ → Bool) (R E C : ℕ → ℕ → Bool) (F : Echelon n m P R E C) (y : ℕ → Bool) (q : ℕ) (t : (k : ℕ) → n ≤ k → y k ≡ false) (e : rest n P E y q ≡ true)
    (P' : ℕ → Bool) (R' E' C' : ℕ → ℕ → Bool) (X : Extended n m P R E C y q P' R' E' C') where
  hq : q < n
  hq = rest_below n m P R E C F y t q e

  abbrev own : ℕ → Bool
  own i = onto n P C y i ⊕ eqb i m

  not_pivot : P q ≡ false
  not_pivot = go (bool_cases (P q))
    where
      go : (P q ≡ true) ⊎ (P q ≡ false) → P q ≡ false
      go (inl p) = absurd (true≢false (sym e ∙ rest_clear n m P R E C F y q hq p))
      go (inr p) = p

  -- A pivot of the new basis is the new one or an old one.
  which : (j : ℕ) → P' j ≡ true → (j ≡ q) ⊎ ((j ≡ q → ⊥) × (P j ≡ true))
  which j p = go (ℕ_discrete j q)
    where
      go : Dec (j ≡ q) → (j ≡ q) ⊎ ((j ≡ q → ⊥) × (P j ≡ true))
      go (yes d) = inl d
      go (no d) = inr (d, sym (xor_false (P j)) ∙ ap (λ b. P j ⊕ b) (sym (eqb_differ d)) ∙ sym (X.pivots j) ∙ p)

  same_comb : (d : ℕ → Bool) (k : ℕ) → comb m d R' k ≡ comb m d R k
  same_comb d k = xor_cong m (λ i h. ap (λ b. d i && b) (X.row_old i k h))

  own_sum : (k : ℕ) → comb (suc m) own R' k ≡ rest n P E y k
  own_sum k =
      ap₂ ◌⊕◌
      (same_comb own k ∙ xor_cong m (λ i h. ap (λ b. b && R i k) (ap (λ b. onto n P C y i ⊕ b) (lt_differ i m h) ∙ xor_false (onto n P C y i))) ∙ sym (onto_coef n m P R E C F y k))
      (ap₂ ◌&&◌ (ap₂ ◌⊕◌ (coef_short n m P R E C F y m (omega arith)) (eqb_same m)) (X.row_new k))
      ∙ xor_comm (onto n P E y k) (y k)

  old_sum : (j : ℕ) → j < n → P j ≡ true → (k : ℕ) → comb (suc m) (C j) R' k ≡ E j k
  old_sum j h p k = ap₂ ◌⊕◌ (same_comb (C j) k ∙ sym (F.sum j h p k)) (ap (λ b. b && R' m k) (F.short j m h p (omega arith))) ∙ xor_false (E j k)

  -- The part on the new pivots.
  onto_new : (v : ℕ → Bool) (k : ℕ) → onto n P' E' v k ≡ onto n P E v k ⊕ (rest n P E v q && rest n P E y k)
  onto_new v k =
      xor_cong n term
      ∙ xor_split n (λ j. ((v j && P j) && E j k) ⊕ (((v j && P j) && E j q) && r)) (λ j. eqb j q && (v j && r))
      ∙ ap₂ ◌⊕◌
      (xor_split n (λ j. (v j && P j) && E j k) (λ j. ((v j && P j) && E j q) && r) ∙ ap (λ b. onto n P E v k ⊕ b) (xor_scale_right n (λ j. (v j && P j) && E j q) r))
      (xor_pick n q hq (λ j. v j && r))
      ∙ xor_assoc (onto n P E v k) (onto n P E v q && r) (v q && r)
      ∙ ap (λ b. onto n P E v k ⊕ b) (xor_comm (onto n P E v q && r) (v q && r) ∙ sym (xor_and (v q) (onto n P E v q) r))
    where
      r : Bool
      r = rest n P E y k

      at_new : (a b c d : Bool) → (a && true) && c ≡ (((a && false) && b) ⊕ (((a && false) && d) && c)) ⊕ (a && c)
      at_new true b c d = refl
      at_new false b c d = refl

      at_old : (a p b c d : Bool) → (a && p) && (b ⊕ (d && c)) ≡ (((a && p) && b) ⊕ (((a && p) && d) && c)) ⊕ false
      at_old true true b c d = sym (xor_false (b ⊕ (d && c)))
      at_old true false b c d = refl
      at_old false p b c d = refl

      term : (j : ℕ) → j < n → (v j && P' j) && E' j k ≡ (((v j && P j) && E j k) ⊕ (((v j && P j) && E j q) && r)) ⊕ (eqb j q && (v j && r))
      term j h = go (ℕ_discrete j q)
        where
          go : Dec (j ≡ q) → (v j && P' j) && E' j k ≡ (((v j && P j) && E j k) ⊕ (((v j && P j) && E j q) && r)) ⊕ (eqb j q && (v j && r))
          go (yes d) = subst (λ j. (v j && P' j) && E' j k ≡ (((v j && P j) && E j k) ⊕ (((v j && P j) && E j q) && r)) ⊕ (eqb j q && (v j && r))) (sym d)
              (ap₂ (λ p x. (v q && p) && x) (X.pivots q ∙ ap₂ ◌⊕◌ not_pivot (eqb_same q)) (X.base_new k)
              ∙ at_new (v q) (E q k) r (E q q)
              ∙ ap₂ (λ p x. (((v q && p) && E q k) ⊕ (((v q && p) && E q q) && r)) ⊕ (x && (v q && r))) (sym not_pivot) (sym (eqb_same q)))
          go (no d) =
              ap (λ p. (v j && p) && E' j k) (X.pivots j ∙ ap (λ b. P j ⊕ b) (eqb_differ d) ∙ xor_false (P j))
              ∙ gate (v j) (P j) (E' j k) (E j k ⊕ (E j q && r)) (λ p. X.base_old j k h p d)
              ∙ at_old (v j) (P j) (E j k) r (E j q)
              ∙ ap (λ x. (((v j && P j) && E j k) ⊕ (((v j && P j) && E j q) && r)) ⊕ (x && (v j && r))) (sym (eqb_differ d))

  span_old : (i : ℕ) → i < m → (k : ℕ) → R' i k ≡ onto n P' E' (R' i) k
  span_old i h k =
      X.row_old i k h ∙ F.span i h k ∙ sym (xor_false (onto n P E (R i) k))
      ∙ ap (λ b. onto n P E (R i) k ⊕ (b && rest n P E y k)) (sym (ap (λ b. b ⊕ onto n P E (R i) q) (F.span i h q) ∙ xor_self (onto n P E (R i) q)))
      ∙ sym (onto_new (R i) k) ∙ xor_cong n (λ j g. ap (λ b. (b && P' j) && E' j k) (sym (X.row_old i j h)))

  span_new : (k : ℕ) → R' m k ≡ onto n P' E' (R' m) k
  span_new k =
      X.row_new k ∙ sym (swap (onto n P E y k) (y k))
      ∙ ap (λ b. onto n P E y k ⊕ (b && rest n P E y k)) (sym e)
      ∙ sym (onto_new y k) ∙ xor_cong n (λ j g. ap (λ b. (b && P' j) && E' j k) (sym (X.row_new j)))
    where
      swap : (a b : Bool) → a ⊕ (b ⊕ a) ≡ b
      swap true true = refl
      swap true false = refl
      swap false b = xor_false b

  pub echelon_add : Echelon n (suc m) P' R' E' C'
  echelon_add = record {
    thin = up_to m (λ i h k g. X.row_old i k h ∙ F.thin i h k g) (λ k g. X.row_new k ∙ t k g);
    sum = λ j h p k. sum' j h k (which j p);
    unit = λ i j h g p r. unit' i j h g (which i p) (which j r);
    span = up_to m span_old span_new;
    short = λ j i h p g. short' j i h g (which j p);
    free = independent_add m R'
        (λ c z. F.free c (λ k g. sym (same_comb c k) ∙ z k g))
        (λ d z. absent n m P R E C F y q hq e d (λ k g. sym (X.row_new k) ∙ z k g ∙ same_comb d k));
  }
    where
      sum' : (j : ℕ) → j < n → (k : ℕ) → (j ≡ q) ⊎ ((j ≡ q → ⊥) × (P j ≡ true)) → E' j k ≡ comb (suc m) (C' j) R' k
      sum' j h k (inl d) = subst (λ j. E' j k ≡ comb (suc m) (C' j) R' k) (sym d)
          (X.base_new k ∙ sym (own_sum k) ∙ xor_cong (suc m) (λ i g. ap (λ b. b && R' i k) (sym (X.coef_new i))))
      sum' j h k (inr (d, p)) =
          X.base_old j k h p d
          ∙ ap₂ ◌⊕◌ (sym (old_sum j h p k)) (ap (λ b. E j q && b) (sym (own_sum k)) ∙ sym (xor_scale (suc m) (E j q) (λ i. own i && R' i k)) ∙ xor_cong (suc m) (λ i g. sym (and_assoc (E j q) (own i) (R' i k))))
          ∙ sym (xor_coef (suc m) (C j) (λ i. E j q && own i) (λ i. R' i k))
          ∙ xor_cong (suc m) (λ i g. ap (λ b. b && R' i k) (sym (X.coef_old j i h p d)))

      unit' : (i j : ℕ) → i < n → j < n → (i ≡ q) ⊎ ((i ≡ q → ⊥) × (P i ≡ true)) → (j ≡ q) ⊎ ((j ≡ q → ⊥) × (P j ≡ true)) → E' i j ≡ eqb i j
      unit' i j h g (inl d) (inl f) = ap₂ E' d f ∙ X.base_new q ∙ e ∙ sym (ap₂ eqb d f ∙ eqb_same q)
      unit' i j h g (inl d) (inr (f, p)) = ap (λ x. E' x j) d ∙ X.base_new j ∙ rest_clear n m P R E C F y j g p ∙ sym (ap (λ x. eqb x j) d ∙ eqb_differ (λ z. f (sym z)))
      unit' i j h g (inr (d, p)) (inl f) =
          X.base_old i j h p d ∙ ap₂ (λ x z. x ⊕ (E i q && z)) (ap (E i) f) (ap (rest n P E y) f ∙ e) ∙ cancel (E i q)
          ∙ sym (ap (eqb i) f ∙ eqb_differ d)
        where
          cancel : (b : Bool) → b ⊕ (b && true) ≡ false
          cancel true = refl
          cancel false = refl
      unit' i j h g (inr (d, p)) (inr (f, r)) =
          X.base_old i j h p d ∙ ap₂ (λ x z. x ⊕ (E i q && z)) (F.unit i j h g p r) (rest_clear n m P R E C F y j g r)
          ∙ ap (λ b. eqb i j ⊕ b) (and-false (E i q)) ∙ xor_false (eqb i j)

      short' : (j i : ℕ) → j < n → suc m ≤ i → (j ≡ q) ⊎ ((j ≡ q → ⊥) × (P j ≡ true)) → C' j i ≡ false
      short' j i h g (inl d) = ap (λ x. C' x i) d ∙ X.coef_new i ∙ none i g
        where
          none : (i : ℕ) → suc m ≤ i → own i ≡ false
          none i g = ap₂ ◌⊕◌ (coef_short n m P R E C F y i (omega arith)) (gt_differ i m g)
      short' j i h g (inr (d, p)) = X.coef_old j i h p d
          ∙ ap₂ (λ x z. x ⊕ (E j q && z)) (F.short j i h p (omega arith)) (ap₂ ◌⊕◌ (coef_short n m P R E C F y i (omega arith)) (gt_differ i m g))
          ∙ and-false (E j q)
