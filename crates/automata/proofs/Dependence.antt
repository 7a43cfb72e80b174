-- Dependence and independence under xor: more than k rows of width k are dependent.
use mathlib.Core.Path.{◌≡◌, refl, sym, ap, ap₂, ◌∙◌}
use mathlib.Core.Bool.{Bool, true, false, ◌&&◌, cond, and-false, and-true, and_assoc, true≢false}
use mathlib.Core.Logic.{◌⊎◌, inl, inr}
use Prim.Native.Nat.{ℕ, zero, suc, ◌<◌, ◌≤◌}
use native.Mathlib.Nat.{not-suc-le-zero}
use native.Mathlib.Decide.{dec_le}
use native.Mathlib.Omega.{arith}
use lib.Dec.{eqb}
use lib.Arith.{lt_of_le-ne}
use Rattle.automata.specs.Xor.{◌⊕◌, xor_below, comb}
use Rattle.automata.specs.Dimension.{Dependent, Independent}
use Rattle.automata.proofs.Below.{up_to, find}
use Rattle.automata.proofs.Xor.{xor_false, xor_self, xor_zero, bool_cases, xor_cong, xor_none, xor_scale_right, xor_coef, xor_family, xor_pick_coef, xor_pick_family, eqb_same, eqb_differ}

-- Adding member p to the last one keeps dependence.
module _ {X : Type 0} {P : X → Type 0} (m p : ℕ) (h : p < m) (f : ℕ → X → Bool) (d : Dependent P (suc m) (λ i x. f i x ⊕ (eqb i m && f p x))) where
  new_coef : ℕ → Bool
  new_coef i = d.coef i ⊕ (eqb i p && d.coef m)

  new_comb : (x : X) → comb (suc m) new_coef f x ≡ comb (suc m) d.coef (λ i x. f i x ⊕ (eqb i m && f p x)) x
  unfolding new_coef
  new_comb x =
      xor_coef (suc m) d.coef (λ i. eqb i p && d.coef m) (λ i. f i x)
      ∙ ap (λ y. comb (suc m) d.coef f x ⊕ y) (xor_pick_coef (suc m) p (omega arith) (d.coef m) (λ i. f i x) ∙ sym (xor_pick_family (suc m) m (omega arith) d.coef (f p x)))
      ∙ sym (xor_family (suc m) d.coef (λ i. f i x) (λ i. eqb i m && f p x))

  new_used : (b : Bool) → d.coef m ≡ b → (i : ℕ) × (i < suc m) × (new_coef i ≡ true)
  unfolding new_coef
  new_used true e = (m, omega arith, rw (e, eqb_differ {m = m} {n = p} (omega arith)))
  new_used false e = (d.place, d.below, rw (e, and-false (eqb d.place p), xor_false) d.used)

  add_to_last : Dependent P (suc m) f
  add_to_last =
      let u = new_used (d.coef m) refl in
      record { coef = new_coef; place = u.0; below = u.1; used = u.2; cancels = λ x px. new_comb x ∙ d.cancels x px }

-- A last row with bit k set clears bit k of the others: dependent without that bit, dependent with it.
module _ (k m : ℕ) (f : ℕ → ℕ → Bool) (e : f m k ≡ true) (d : Dependent (λ j. j < k) m (λ i j. f i j ⊕ (f i k && f m j))) where
  last_bit : Bool
  last_bit = xor_below m (λ i. d.coef i && f i k)

  last_coef : ℕ → Bool
  last_coef i = cond (eqb i m) last_bit (d.coef i)

  last_old : (i : ℕ) → i < m → last_coef i ≡ d.coef i
  unfolding last_coef
  last_old i h = rw (eqb_differ {m = i} {n = m} (omega arith))

  last_new : last_coef m ≡ last_bit
  unfolding last_coef
  last_new = rw eqb_same

  last_comb : (j : ℕ) → comb (suc m) last_coef f j ≡ xor_below m (λ i. d.coef i && f i j) ⊕ (last_bit && f m j)
  last_comb j = ap₂ ◌⊕◌ (xor_cong m (λ i h. ap (λ b. b && f i j) (last_old i h))) (ap (λ b. b && f m j) last_new)

  below_bit : (j : ℕ) → j < k → comb (suc m) last_coef f j ≡ false
  unfolding last_bit
  below_bit j h =
      last_comb j
      ∙ ap (λ y. xor_below m (λ i. d.coef i && f i j) ⊕ y) (sym (xor_scale_right m (λ i. d.coef i && f i k) (f m j)) ∙ xor_cong m (λ i p. and_assoc (d.coef i) (f i k) (f m j)))
      ∙ sym (xor_family m d.coef (λ i. f i j) (λ i. f i k && f m j))
      ∙ d.cancels j h

  at_bit : comb (suc m) last_coef f k ≡ false
  unfolding last_bit
  at_bit = last_comb k ∙ rw (e, and-true (xor_below m (λ i. d.coef i && f i k))) (xor_self (xor_below m (λ i. d.coef i && f i k)))

  clear_bit : Dependent (λ j. j < suc k) (suc m) f
  clear_bit = record { coef = last_coef; place = d.place; below = omega (arith, d.below); used = last_old d.place d.below ∙ d.used; cancels = up_to k below_bit at_bit }

-- A bit that no row has adds nothing.
free_bit : (k m : ℕ) (f : ℕ → ℕ → Bool) → ((i : ℕ) → i < m → f i k ≡ false) → Dependent (λ j. j < k) m f → Dependent (λ j. j < suc k) m f
free_bit k m f none d = record {
  coef = d.coef;
  place = d.place;
  below = d.below;
  used = d.used;
  cancels = up_to k d.cancels (xor_none m (λ i p. ap (λ b. d.coef i && b) (none i p) ∙ and-false (d.coef i)));
}

-- More than k rows of width k are dependent.
pub dependent : (k m : ℕ) → k < m → (f : ℕ → ℕ → Bool) → Dependent (λ j. j < k) m f
dependent zero m h f = record { coef = λ i. true; place = 0; below = h; used = refl; cancels = λ j p. absurd (not-suc-le-zero p) }
dependent (suc k) zero h f = absurd (not-suc-le-zero h)
dependent (suc k) (suc m) h f = go (find (suc m) (λ i. f i k)) (bool_cases (f m k)) (λ n q g. dependent k n q g)
  where
    go : ((p : ℕ) × (p < suc m) × (f p k ≡ true)) ⊎ ((i : ℕ) → i < suc m → f i k ≡ false) → (f m k ≡ true) ⊎ (f m k ≡ false)
        → ((n : ℕ) → k < n → (g : ℕ → ℕ → Bool) → Dependent (λ j. j < k) n g) → Dependent (λ j. j < suc k) (suc m) f
    go (inr none) b ih = free_bit k (suc m) f none (ih (suc m) (omega arith) f)
    go (inl t) (inl e) ih = clear_bit k m f e (ih m (omega arith) _)
    go (inl t) (inr e) ih =
        add_to_last m t.0 (lt_of_le-ne (omega (arith, t.1)) (λ q. true≢false (sym t.2 ∙ ap (λ i. f i k) q ∙ e))) f
        (clear_bit k m (λ i j. f i j ⊕ (eqb i m && f t.0 j)) (rw (e, eqb_same) t.2) (ih m (omega arith) _))

-- ---- independence

pub not_both : {X : Type 0} {P : X → Type 0} {m : ℕ} {f : ℕ → X → Bool} → Dependent P m f → Independent P m f → ⊥
not_both d e = true≢false (sym d.used ∙ e d.coef d.cancels d.place d.below)

-- Independent rows of width n are at most n.
pub independent_bound : (n m : ℕ) (f : ℕ → ℕ → Bool) → Independent (λ j. j < n) m f → m ≤ n
independent_bound n m f ind = go (dec_le m n)
  where
    go : Dec (m ≤ n) → m ≤ n
    go (yes h) = h
    go (no h) = absurd (not_both (dependent n m (omega arith) f) ind)

-- A family with one more member that is no xor of the others stays independent.
pub independent_add : {X : Type 0} {P : X → Type 0} (m : ℕ) (f : ℕ → X → Bool) → Independent P m f → ((d : ℕ → Bool) → ((x : X) → P x → f m x ≡ comb m d f x) → ⊥) → Independent P (suc m) f
independent_add {X} {P} m f ind no-sum c z = go (bool_cases (c m))
  where
    go : (c m ≡ true) ⊎ (c m ≡ false) → (i : ℕ) → i < suc m → c i ≡ false
    go (inl e) = λ i h. absurd (no-sum c (λ x px. sym (xor_zero (ap (λ b. comb m c f x ⊕ (b && f m x)) (sym e) ∙ z x px))))
    go (inr e) = up_to m (ind c (λ x px. sym (xor_false (comb m c f x)) ∙ ap (λ b. comb m c f x ⊕ (b && f m x)) (sym e) ∙ z x px)) e
