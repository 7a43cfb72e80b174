-- The search, pair by pair.
use mathlib.Core.Path.{◌≡◌, refl, sym, ap, ap₂, subst, ◌∙◌}
use mathlib.Core.Bool.{Bool, true, false, ◌&&◌, true≢false}
use mathlib.Core.Logic.{◌⊎◌, inl, inr}
use Prim.Native.Nat.{ℕ, suc, ◌<◌, ◌≤◌}
use native.Mathlib.Nat.{not-suc-le-zero}
use native.Mathlib.Decide.{ℕ_discrete}
use native.Mathlib.Omega.{arith}
use lib.Dec.{eqb}
use borrow.Author.Tests.{eqb-true}
use Rattle.automata.specs.Xor.{◌⊕◌, xor_below, comb}
use Rattle.automata.specs.Automaton.{Automaton}
use Rattle.automata.specs.Row.{times}
use Rattle.automata.specs.Tree.{Done, Tree}
use Rattle.automata.proofs.Xor.{xor_false, xor_cong, xor_pick}
use Rattle.automata.proofs.Below.{up_to}
use Rattle.elimination.specs.Echelon.{Echelon}
use Rattle.elimination.proofs.EchelonLaws.{no_echelon, gt_differ}
use Rattle.reduction.specs.Search.{Search}

done_more : (k l i x : ℕ) → Done k l i x → Done k (suc l) i x
done_more k l i x (inl h) = inl h
done_more k l i x (inr (e, h)) = inr (e, omega arith)

-- A pair done before (k, l + 1) was done before (k, l), or is (k, l).
done_last : (k l i x : ℕ) → Done k (suc l) i x → ((i ≡ k) × (x ≡ l)) ⊎ Done k l i x
done_last k l i x (inl h) = inr (inl h)
done_last k l i x (inr (e, h)) = go (ℕ_discrete x l)
  where
    go : Dec (x ≡ l) → ((i ≡ k) × (x ≡ l)) ⊎ Done k l i x
    go (yes f) = inl (e, f)
    go (no f) = inr (inr (e, omega (arith, f)))

done_not_self : (k l : ℕ) → Done k l k l → ⊥
done_not_self k l (inl h) = omega arith
done_not_self k l (inr (e, h)) = omega arith

module _ (a : ℕ) (A : Automaton) (P : ℕ → Bool) (R E C : ℕ → ℕ → Bool) (from by : ℕ → ℕ) (S : ℕ → ℕ → ℕ → Bool) where
  -- The initial row has no bit.
  pub search_none : ((j : ℕ) → P j ≡ false) → ((j : ℕ) → A.initial j ≡ false) → Search a A 0 0 0 P R E C from by S
  search_none p z = record {
    basis = no_echelon A.states P R E C p;
    root = λ h. absurd (not-suc-le-zero h);
    empty = λ e. z;
    parent = λ r p h. absurd (not-suc-le-zero h);
    letter = λ r p h. absurd (not-suc-le-zero h);
    child = λ r p h. absurd (not-suc-le-zero h);
    order = λ i r p q h. absurd (not-suc-le-zero h);
    before = λ r p h. absurd (not-suc-le-zero h);
    rows = λ x i p h. absurd (not-suc-le-zero h);
    short = λ x i r p h. absurd (not-suc-le-zero h);
    early = λ x i r p h. absurd (not-suc-le-zero h);
  }

  nothing_done : (i x : ℕ) → Done 0 0 i x → ⊥
  nothing_done i x (inl h) = not-suc-le-zero h
  nothing_done i x (inr (e, h)) = not-suc-le-zero h

  -- The initial row is the first row found.
  pub search_first : Echelon A.states 1 P R E C → ((j : ℕ) → R 0 j ≡ A.initial j) → Search a A 1 0 0 P R E C from by S
  search_first F z = record {
    basis = F;
    root = λ h. z;
    empty = λ e. absurd (omega arith);
    parent = λ r p h. absurd (omega arith);
    letter = λ r p h. absurd (omega arith);
    child = λ r p h. absurd (omega arith);
    order = λ i r p q h. absurd (omega arith);
    before = λ r p h. absurd (omega arith);
    rows = λ x i p h d. absurd (nothing_done i x d);
    short = λ x i r p h d. absurd (nothing_done i x d);
    early = λ x i r p h d. absurd (nothing_done i x d);
  }

  -- The next row, from its first letter.
  pub search_next : (d k : ℕ) → Search a A d k a P R E C from by S → Search a A d (suc k) 0 P R E C from by S
  search_next d k G = record {
    basis = G.basis;
    root = G.root;
    empty = G.empty;
    parent = G.parent;
    letter = G.letter;
    child = G.child;
    order = G.order;
    before = λ r p h. ahead (from r) (by r) (G.before r p h);
    rows = λ x i p h d. G.rows x i p h (back i x p d);
    short = λ x i r p h d. G.short x i r p h (back i x p d);
    early = λ x i r p h d. G.early x i r p h (back i x p d);
  }
    where
      ahead : (i x : ℕ) → Done k a i x → Done (suc k) 0 i x
      ahead i x (inl h) = inl (omega arith)
      ahead i x (inr (e, h)) = inl (omega arith)

      back : (i x : ℕ) → x < a → Done (suc k) 0 i x → Done k a i x
      back i x p (inr (e, h)) = absurd (not-suc-le-zero h)
      back i x p (inl h) = go (ℕ_discrete i k)
        where
          go : Dec (i ≡ k) → Done k a i x
          go (yes e) = inr (e, p)
          go (no e) = inl (omega (arith, e))

module _ (a : ℕ) (A : Automaton) (d k l : ℕ) (P : ℕ → Bool) (R E C : ℕ → ℕ → Bool) (from by : ℕ → ℕ) (S : ℕ → ℕ → ℕ → Bool) (G : Search a A d k l P R E C from by S)
    (hk : k < d) (hl : l < a) (S' : ℕ → ℕ → ℕ → Bool) (kept : (x i : ℕ) → x < a → i < d → ((i ≡ k) × (x ≡ l) → ⊥) → S' x i ≡ S x i) where
  done_kept : (x i : ℕ) → x < a → i < d → Done k l i x → S' x i ≡ S x i
  done_kept x i p h D = kept x i p h (λ e. done_not_self k l (subst (λ z. Done k l z l) e.0 (subst (λ z. Done k l i z) e.1 D)))

  -- The product is an xor of rows found.
  pub search_old : (c : ℕ → Bool) → ((j : ℕ) → times A l (R k) j ≡ comb d c R j) → ((r : ℕ) → d ≤ r → c r ≡ false) → S' l k ≡ c → Search a A d k (suc l) P R E C from by S'
  search_old c z s e = record {
    basis = G.basis;
    root = G.root;
    empty = G.empty;
    parent = G.parent;
    letter = G.letter;
    child = G.child;
    order = G.order;
    before = λ r p h. done_more k l (from r) (by r) (G.before r p h);
    rows = λ x i p h D. rows' x i p h (done_last k l i x D);
    short = λ x i r p h D. short' x i r p h (done_last k l i x D);
    early = λ x i r p h D. early' x i r p h (done_last k l i x D);
  }
    where
      rows' : (x i : ℕ) → x < a → i < d → ((i ≡ k) × (x ≡ l)) ⊎ Done k l i x → (j : ℕ) → times A x (R i) j ≡ comb d (S' x i) R j
      rows' x i p h (inl (f, g)) j = ap₂ (λ y u. times A y (R u) j) g f ∙ z j ∙ ap (λ s. comb d s R j) (sym (ap₂ S' g f ∙ e))
      rows' x i p h (inr D) j = G.rows x i p h D j ∙ ap (λ s. comb d s R j) (sym (done_kept x i p h D))

      short' : (x i r : ℕ) → x < a → i < d → ((i ≡ k) × (x ≡ l)) ⊎ Done k l i x → d ≤ r → S' x i r ≡ false
      short' x i r p h (inl (f, g)) q = ap (λ s. s r) (ap₂ S' g f ∙ e) ∙ s r q
      short' x i r p h (inr D) q = ap (λ s. s r) (done_kept x i p h D) ∙ G.short x i r p h D q

      early' : (x i r : ℕ) → x < a → i < d → ((i ≡ k) × (x ≡ l)) ⊎ Done k l i x → r < d → S' x i r ≡ true → (r ≡ 0) ⊎ Done i (suc x) (from r) (by r)
      early' x i r p h (inl (f, g)) q t = go (ℕ_discrete r 0)
        where
          go : Dec (r ≡ 0) → (r ≡ 0) ⊎ Done i (suc x) (from r) (by r)
          go (yes o) = inl o
          go (no o) = inr (subst (λ u. Done u (suc x) (from r) (by r)) (sym f) (subst (λ u. Done k (suc u) (from r) (by r)) (sym g) (done_more k l (from r) (by r) (G.before r (omega (arith, o)) q))))
      early' x i r p h (inr D) q t = G.early x i r p h D q (ap (λ s. s r) (sym (done_kept x i p h D)) ∙ t)

  -- The product is a new row.
  module _ (P' : ℕ → Bool) (R' E' C' : ℕ → ℕ → Bool) (from' by' : ℕ → ℕ) (F : Echelon A.states (suc d) P' R' E' C')
      (row_old : (i : ℕ) → i < d → (j : ℕ) → R' i j ≡ R i j) (row_new : (j : ℕ) → R' d j ≡ times A l (R k) j)
      (from_old : (r : ℕ) → r < d → from' r ≡ from r) (from_new : from' d ≡ k) (by_old : (r : ℕ) → r < d → by' r ≡ by r) (by-new : by' d ≡ l)
      (unit : (r : ℕ) → S' l k r ≡ eqb r d) where
    times_same : (x i : ℕ) → i < d → (j : ℕ) → times A x (R' i) j ≡ times A x (R i) j
    times_same x i h j = xor_cong A.states (λ s g. ap (λ b. b && A.step x s j) (row_old i h s))

    pub search_new : Search a A (suc d) k (suc l) P' R' E' C' from' by' S'
    search_new = record {
      basis = F;
      root = λ h j. row_old 0 (omega arith) j ∙ G.root (omega arith) j;
      empty = λ e. absurd (omega arith);
      parent = λ r p h. up_to {Q = λ r. 0 < r → from' r < r} d (λ r h p. subst (λ u. u < r) (sym (from_old r h)) (G.parent r p h)) (λ p. subst (λ u. u < d) (sym from_new) hk) r h p;
      letter = λ r p h. up_to {Q = λ r. 0 < r → by' r < a} d (λ r h p. subst (λ u. u < a) (sym (by_old r h)) (G.letter r p h)) (λ p. subst (λ u. u < a) (sym by-new) hl) r h p;
      child = λ r p h. up_to {Q = λ r. 0 < r → (j : ℕ) → R' r j ≡ times A (by' r) (R' (from' r)) j} d
          (λ r h p j. row_old r h j ∙ G.child r p h j ∙ sym (ap₂ (λ x i. times A x (R' i) j) (by_old r h) (from_old r h) ∙ times_same (by r) (from r) (below r p h) j))
          (λ p j. row_new j ∙ sym (ap₂ (λ x i. times A x (R' i) j) by-new from_new ∙ times_same l k hk j)) r h p;
      order = λ i r p q h. up_to {Q = λ r. i < r → Done (from' r) (by' r) (from' i) (by' i)} d
          (λ r h q. earlier i (from r) (by r) (from' r) (by' r) (omega arith) (from_old r h) (by_old r h) (G.order i r p q h))
          (λ q. earlier i k l (from' d) (by' d) q from_new by-new (G.before i p q)) r h q;
      before = λ r p h. up_to {Q = λ r. 0 < r → Done k (suc l) (from' r) (by' r)} d
          (λ r h p. earlier r k (suc l) k (suc l) h refl refl (done_more k l (from r) (by r) (G.before r p h)))
          (λ p. inr (from_new, subst (λ u. u < suc l) (sym by-new) (omega arith))) r h p;
      rows = λ x i p h D. rows' x i p (old i x D) (done_last k l i x D);
      short = λ x i r p h D. short' x i r p (old i x D) (done_last k l i x D);
      early = λ x i r p h D. early' x i r p (old i x D) (done_last k l i x D);
    }
      where
        below : (r : ℕ) → 0 < r → r < d → from r < d
        below r p h = omega (arith, G.parent r p h)

        earlier : (i f b f' b' : ℕ) → i < d → f' ≡ f → b' ≡ b → Done f b (from i) (by i) → Done f' b' (from' i) (by' i)
        earlier i f b f' b' h e g D = subst (λ u. Done f' b' u (by' i)) (sym (from_old i h)) (subst (λ u. Done f' b' (from i) u) (sym (by_old i h))
            (subst (λ u. Done u b' (from i) (by i)) (sym e) (subst (λ u. Done f u (from i) (by i)) (sym g) D)))

        old : (i x : ℕ) → Done k (suc l) i x → i < d
        old i x (inl h) = omega arith
        old i x (inr (e, h)) = omega arith

        rows' : (x i : ℕ) → x < a → i < d → ((i ≡ k) × (x ≡ l)) ⊎ Done k l i x → (j : ℕ) → times A x (R' i) j ≡ comb (suc d) (S' x i) R' j
        rows' x i p h (inl (f, g)) j =
            ap₂ (λ y u. times A y (R' u) j) g f ∙ times_same l k hk j ∙ sym (row_new j) ∙ sym (xor_pick (suc d) d (omega arith) (λ r. R' r j))
            ∙ xor_cong (suc d) (λ r q. ap (λ b. b && R' r j) (sym (unit r)))
            ∙ ap (λ s. comb (suc d) s R' j) (sym (ap₂ S' g f))
        rows' x i p h (inr D) j =
            times_same x i h j ∙ G.rows x i p h D j ∙ ap (λ s. comb d s R j) (sym (done_kept x i p h D))
            ∙ xor_cong d (λ r q. ap (λ b. S' x i r && b) (sym (row_old r q j)))
            ∙ sym (xor_false (comb d (S' x i) R' j))
            ∙ ap (λ b. comb d (S' x i) R' j ⊕ (b && R' d j)) (sym (ap (λ s. s d) (done_kept x i p h D) ∙ G.short x i d p h D (omega arith)))

        short' : (x i r : ℕ) → x < a → i < d → ((i ≡ k) × (x ≡ l)) ⊎ Done k l i x → suc d ≤ r → S' x i r ≡ false
        short' x i r p h (inl (f, g)) q = ap (λ s. s r) (ap₂ S' g f) ∙ unit r ∙ gt_differ r d q
        short' x i r p h (inr D) q = ap (λ s. s r) (done_kept x i p h D) ∙ G.short x i r p h D (omega arith)

        early' : (x i r : ℕ) → x < a → i < d → ((i ≡ k) × (x ≡ l)) ⊎ Done k l i x → r < suc d → S' x i r ≡ true → (r ≡ 0) ⊎ Done i (suc x) (from' r) (by' r)
        early' x i r p h (inl (f, g)) q t = go (ℕ_discrete r d)
          where
            go : Dec (r ≡ d) → (r ≡ 0) ⊎ Done i (suc x) (from' r) (by' r)
            go (yes o) = inr (inr (ap from' o ∙ from_new ∙ sym f, subst (λ u. u < suc x) (sym (ap by' o ∙ by-new ∙ sym g)) (omega arith)))
            go (no o) = absurd (o (eqb_eq r d (sym (unit r) ∙ ap (λ s. s r) (sym (ap₂ S' g f)) ∙ t)))
              where
                eqb_eq : (m n : ℕ) → eqb m n ≡ true → m ≡ n
                eqb_eq m n w = eqb-true m n w
        early' x i r p h (inr D) q t = go (ℕ_discrete r d)
          where
            here : S x i r ≡ true
            here = ap (λ s. s r) (sym (done_kept x i p h D)) ∙ t

            go : Dec (r ≡ d) → (r ≡ 0) ⊎ Done i (suc x) (from' r) (by' r)
            go (yes o) = absurd (true≢false (sym here ∙ G.short x i r p h D (omega arith)))
            go (no o) = part (G.early x i r p h D (omega (arith, o)) here)
              where
                part : (r ≡ 0) ⊎ Done i (suc x) (from r) (by r) → (r ≡ 0) ⊎ Done i (suc x) (from' r) (by' r)
                part (inl z) = inl z
                part (inr z) = inr (earlier r i (suc x) i (suc x) (omega (arith, o)) refl refl z)

-- Every pair is done: the rows are a tree, and S with the final column f the automaton on them.
pub search_tree : (a : ℕ) (A B : Automaton) (d : ℕ) (P : ℕ → Bool) (R E C : ℕ → ℕ → Bool) (from by : ℕ → ℕ) → Search a A d d 0 P R E C from by B.step
    → B.states ≡ d → ((k : ℕ) → k < d → B.initial k ≡ eqb k 0) → ((k : ℕ) → k < d → B.final k ≡ xor_below A.states (λ j. R k j && A.final j)) → Tree a A B d R from by
search_tree a A B d P R E C from by G s i f = record {
  root = λ h j g. G.root h j;
  empty = λ e j g. G.empty e j;
  parent = G.parent;
  letter = G.letter;
  child = λ r p h j g. G.child r p h j;
  order = G.order;
  independent = G.basis.free;
  size = s;
  starts = i;
  ends = f;
  rows = λ l k hl hk j g. G.rows l k hl hk (inl hk) j;
  early = λ l k r hl hk hr t. G.early l k r hl hk (inl hk) hr t;
}
