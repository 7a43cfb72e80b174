-- The pivots below a bound, counted and listed in rising order.
use mathlib.Core.Path.{◌≡◌, refl, sym, ap, ap₂, subst, ◌∙◌}
use mathlib.Core.Bool.{Bool, true, false, ◌&&◌, cond, and-false}
use mathlib.Core.Logic.{◌⊎◌, inl, inr}
use Prim.Native.Nat.{ℕ, zero, suc, ◌+◌, ◌<◌, ◌≤◌}
use native.Mathlib.Nat.{not-suc-le-zero}
use native.Mathlib.Numerals.{add-one}
use native.Mathlib.Decide.{ℕ_discrete, dec_lt}
use native.Mathlib.Omega.{arith}
use lib.Dec.{eqb}
use Rattle.automata.specs.Xor.{◌⊕◌, xor_below}
use Rattle.automata.proofs.Xor.{bool_cases, xor_false, xor_cong, eqb_same, eqb_differ}
use Rattle.automata.proofs.Below.{up_to}
use Rattle.observation.specs.Listed.{rank, pick, Listed}

-- ---- how many

pub rank_start : (P : ℕ → Bool) → 0 ≡ rank P 0
unfolding rank
rank_start P = refl

rank_new : (P : ℕ → Bool) (k : ℕ) → P k ≡ true → rank P (suc k) ≡ suc (rank P k)
unfolding rank
rank_new P k e = ap (λ b. cond b (suc (rank P k)) (rank P k)) e

rank_old : (P : ℕ → Bool) (k : ℕ) → P k ≡ false → rank P (suc k) ≡ rank P k
unfolding rank
rank_old P k e = ap (λ b. cond b (suc (rank P k)) (rank P k)) e

pub rank_step_pivot : (P : ℕ → Bool) (k : ℕ) → P k ≡ true → rank P (k + 1) ≡ rank P k + 1
rank_step_pivot P k e = ap (rank P) (add-one k) ∙ rank_new P k e ∙ sym (add-one (rank P k))

pub rank_step_other : (P : ℕ → Bool) (k : ℕ) → P k ≡ false → rank P (k + 1) ≡ rank P k
rank_step_other P k e = ap (rank P) (add-one k) ∙ rank_old P k e

-- One place more counts at most one pivot more.
rank_grows : (P : ℕ → Bool) (k : ℕ) → (rank P k ≤ rank P (suc k)) × (rank P (suc k) ≤ suc (rank P k))
rank_grows P k = go (bool_cases (P k))
  where
    go : (P k ≡ true) ⊎ (P k ≡ false) → (rank P k ≤ rank P (suc k)) × (rank P (suc k) ≤ suc (rank P k))
    go (inl e) = let f : rank P (suc k) ≡ suc (rank P k) = rank_new P k e in (omega arith, omega arith)
    go (inr e) = let f : rank P (suc k) ≡ rank P k = rank_old P k e in (omega arith, omega arith)

pub rank_le : (P : ℕ → Bool) (k : ℕ) → rank P k ≤ k
unfolding rank
rank_le P zero = omega arith
rank_le P (suc k) = omega (arith, rank_le P k, (rank_grows P k).1)

pub rank_mono : (P : ℕ → Bool) (k n : ℕ) → k ≤ n → rank P k ≤ rank P n
rank_mono P k zero h = let e : k ≡ 0 = omega arith in omega (arith, ap (rank P) e)
rank_mono P k (suc m) h = go (ℕ_discrete k (suc m)) (rank_mono P k m)
  where
    go : Dec (k ≡ suc m) → (k ≤ m → rank P k ≤ rank P m) → rank P k ≤ rank P (suc m)
    go (yes e) ih = omega (arith, ap (rank P) e)
    go (no e) ih = let p : k ≤ m = omega (arith, e) in omega (arith, ih p, (rank_grows P m).0)

-- Every place below n is a pivot.
pub rank_all : (P : ℕ → Bool) (n : ℕ) → ((k : ℕ) → k < n → P k ≡ true) → rank P n ≡ n
unfolding rank
rank_all P zero all = refl
rank_all P (suc m) all = rank_new P m (all m (omega arith)) ∙ ap suc (rank_all P m (λ k h. all k (omega arith)))

-- ---- which one

pick_here : (P : ℕ → Bool) (m : ℕ) → P m ≡ true → pick P (suc m) (rank P m) ≡ m
unfolding pick
pick_here P m e = ap (λ b. cond b m (pick P m (rank P m))) (ap₂ ◌&&◌ e (eqb_same (rank P m)))

pick_before : (P : ℕ → Bool) (m j : ℕ) → j < rank P m → pick P (suc m) j ≡ pick P m j
unfolding pick
pick_before P m j h = ap (λ b. cond b m (pick P m j)) (ap (λ b. P m && b) (eqb_differ {m = rank P m} {n = j} (λ e. omega arith)) ∙ and-false (P m))

pub pick_new : (P : ℕ → Bool) (k : ℕ) → P k ≡ true → pick P (k + 1) (rank P k) ≡ k
pick_new P k e = ap (λ m. pick P m (rank P k)) (add-one k) ∙ pick_here P k e

pub pick_old : (P : ℕ → Bool) (k j : ℕ) → j < rank P k → pick P (k + 1) j ≡ pick P k j
pick_old P k j h = ap (λ m. pick P m j) (add-one k) ∙ pick_before P k j h

-- The pivot k is the one that as many stand before as below k.
pub pick_at : (P : ℕ → Bool) (n k : ℕ) → k < n → P k ≡ true → pick P n (rank P k) ≡ k
pick_at P zero k h e = absurd (not-suc-le-zero h)
pick_at P (suc m) k h e = go (ℕ_discrete k m) (λ p. pick_at P m k p e)
  where
    go : Dec (k ≡ m) → (k < m → pick P m (rank P k) ≡ k) → pick P (suc m) (rank P k) ≡ k
    go (yes f) ih = ap (λ i. pick P (suc m) (rank P i)) f ∙ pick_here P m (ap P (sym f) ∙ e) ∙ sym f
    go (no f) ih = let p : k < m = omega (arith, f) in pick_before P m (rank P k) (omega (arith, rank_new P k e, rank_mono P (suc k) m p)) ∙ ih p

-- ---- the list

-- A list of the pivots below m, and a list σ' that goes on as it does.
module _ (m : ℕ) (P : ℕ → Bool) (r : ℕ) (σ σ' : ℕ → ℕ) (L : Listed m P r σ) (same : (j : ℕ) → j < r → σ' j ≡ σ j) where
  -- The next place is a pivot, and is listed last.
  listed_new : P m ≡ true → σ' r ≡ m → Listed (suc m) P (suc r) σ'
  listed_new e last = record {
    below = up_to {Q = λ j. σ' j < suc m} r (λ j h. omega (arith, same j h, L.below j h)) (omega arith);
    pivot = up_to {Q = λ j. P (σ' j) ≡ true} r (λ j h. ap P (same j h) ∙ L.pivot j h) (ap P last ∙ e);
    rising = λ i j h p. go i j h p (ℕ_discrete j r);
    total = λ g. ap₂ ◌⊕◌ (xor_cong r (λ j h. ap g (same j h)) ∙ L.total g) (ap g last ∙ sym (ap (λ b. b && g m) e));
  }
    where
      go : (i j : ℕ) → i < j → j < suc r → Dec (j ≡ r) → σ' i < σ' j
      go i j h p (yes f) = let q : i < r = omega arith in omega (arith, same i q, L.below i q, ap σ' f)
      go i j h p (no f) =
          let q : j < r = omega (arith, f) in
          let s : i < r = omega arith in
          omega (arith, same i s, same j q, L.rising i j h q)

  -- The next place is none.
  listed_old : P m ≡ false → Listed (suc m) P r σ'
  listed_old e = record {
    below = λ j h. omega (arith, same j h, L.below j h);
    pivot = λ j h. ap P (same j h) ∙ L.pivot j h;
    rising = λ i j h p.
        let s : i < r = omega arith in
        omega (arith, same i s, same j p, L.rising i j h p);
    total = λ g. xor_cong r (λ j h. ap g (same j h)) ∙ L.total g ∙ sym (ap (λ b. xor_below m (λ k. P k && g k) ⊕ (b && g m)) e ∙ xor_false (xor_below m (λ k. P k && g k)));
  }

-- No pivot stands below 0.
listed_none : (P : ℕ → Bool) (σ : ℕ → ℕ) → Listed 0 P 0 σ
listed_none P σ = record {
  below = λ j h. absurd (not-suc-le-zero h);
  pivot = λ j h. absurd (not-suc-le-zero h);
  rising = λ i j h p. absurd (not-suc-le-zero p);
  total = λ g. refl;
}

pub listed : (P : ℕ → Bool) (n : ℕ) → Listed n P (rank P n) (pick P n)
unfolding rank
listed P zero = listed_none P (pick P 0)
listed P (suc m) = go (bool_cases (P m)) (listed P m)
  where
    go : (P m ≡ true) ⊎ (P m ≡ false) → Listed m P (rank P m) (pick P m) → Listed (suc m) P (rank P (suc m)) (pick P (suc m))
    go (inl e) L = subst (λ r. Listed (suc m) P r (pick P (suc m))) (sym (rank_new P m e)) (listed_new m P (rank P m) (pick P m) (pick P (suc m)) L (pick_before P m) e (pick_here P m e))
    go (inr e) L = subst (λ r. Listed (suc m) P r (pick P (suc m))) (sym (rank_old P m e)) (listed_old m P (rank P m) (pick P m) (pick P (suc m)) L (pick_before P m) e)

-- Where every place is a pivot, each is listed at itself.
pub listed_all : (n : ℕ) (P : ℕ → Bool) → ((k : ℕ) → k < n → P k ≡ true) → Listed n P n (λ j. j)
listed_all zero P all = listed_none P (λ j. j)
listed_all (suc m) P all = listed_new m P m (λ j. j) (λ j. j) (listed_all m P (λ k h. all k (omega arith))) (λ j h. refl) (all m (omega arith)) refl

-- A rising list names no pivot twice.
pub listed_eqb : (n : ℕ) (P : ℕ → Bool) (r : ℕ) (σ : ℕ → ℕ) → Listed n P r σ → (i j : ℕ) → i < r → j < r → eqb (σ i) (σ j) ≡ eqb i j
listed_eqb n P r σ L i j hi hj = go (ℕ_discrete i j) (dec_lt i j)
  where
    go : Dec (i ≡ j) → Dec (i < j) → eqb (σ i) (σ j) ≡ eqb i j
    go (yes e) d = ap (λ x. eqb (σ x) (σ j)) e ∙ eqb_same (σ j) ∙ sym (ap (λ x. eqb x j) e ∙ eqb_same j)
    go (no e) (yes h) = eqb_differ {m = σ i} {n = σ j} (λ f. omega (arith, L.rising i j h hj)) ∙ sym (eqb_differ e)
    go (no e) (no h) = let p : j < i = omega (arith, e) in eqb_differ {m = σ i} {n = σ j} (λ f. omega (arith, L.rising j i p hi)) ∙ sym (eqb_differ e)
