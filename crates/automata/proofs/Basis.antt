-- Basis words: prefixes of them, their independence, and the first word of a language.
use mathlib.Core.Path.{◌≡◌, refl, sym, ap, ap₂, subst, ◌∙◌}
use mathlib.Core.Bool.{Bool, true, false, ◌&&◌, cond, false≢true}
use mathlib.Core.Logic.{◌⊎◌, inl, inr}
use mathlib.Core.List.{List, [], ◌++◌, append_assoc, append-nil}
use Prim.Native.Nat.{ℕ, zero, suc, ◌<◌}
use native.Mathlib.Nat.{not-suc-le-zero}
use native.Mathlib.Omega.{arith}
use lib.Dec.{eqb}
use lib.ListN.{length, take, drop, take-append-drop}
use lib.Seq.{length-take-le}
use Rattle.automata.specs.Xor.{◌⊕◌, comb}
use Rattle.automata.specs.Language.{Language, quotient, Same}
use Rattle.automata.specs.Word.{Over, Shortlex}
use Rattle.automata.specs.Dimension.{Independent, Basis, FromEarlier, quotients, Free}
use Rattle.automata.proofs.Below.{up_to}
use Rattle.automata.proofs.Xor.{bool_cases, xor_cong, xor_none, xor_zero, xor_false, eqb_same, eqb_differ}
use Rattle.automata.proofs.Shortlex.{over_append, over_left, over_drop, shortlex_append}

-- ---- members that are not taken can be left out

-- A family with one more member, at place p.
abbrev put : ℕ → List ℕ → (ℕ → List ℕ) → ℕ → List ℕ
put p y x i = cond (eqb i p) y (x i)

put_new : (p : ℕ) (y : List ℕ) (x : ℕ → List ℕ) → put p y x p ≡ y
put_new p y x = rw (eqb_same p)

put_old : (p : ℕ) (y : List ℕ) (x : ℕ → List ℕ) (i : ℕ) → i < p → put p y x i ≡ x i
put_old p y x i h = rw (eqb_differ {m = i} {n = p} (omega arith))

put_all : (P : List ℕ → Type 0) (p : ℕ) (y : List ℕ) (x : ℕ → List ℕ) → ((i : ℕ) → i < p → P (x i)) → P y → (i : ℕ) → i < suc p → P (put p y x i)
put_all P p y x old new = up_to p (λ i h. subst P (sym (put_old p y x i h)) (old i h)) (subst P (sym (put_new p y x)) new)

-- Only the words that c takes need be earlier.
select : (a : ℕ) (L : Language) (w : List ℕ) (m : ℕ) (c : ℕ → Bool) (u : ℕ → List ℕ) → ((i : ℕ) → i < m → Over a (u i)) → ((i : ℕ) → i < m → c i ≡ true → Shortlex (u i) w)
    → (f : List ℕ → Bool) → Same a f (comb m c (quotients L u)) → (n : ℕ) × (x : ℕ → List ℕ) × ((i : ℕ) → i < n → Over a (x i)) × ((i : ℕ) → i < n → Shortlex (x i) w) × Same a f (comb n (λ i. true) (quotients L x))
select a L w zero c u ou h f s = (0, u, λ i p. absurd (not-suc-le-zero p), λ i p. absurd (not-suc-le-zero p), s)
select a L w (suc m) c u ou h f s = go (bool_cases (c m)) (λ g e. select a L w m c u (λ i p. ou i (omega arith)) (λ i p. h i (omega arith)) g e)
  where
    Chosen : (List ℕ → Bool) → Type 0
    Chosen g = (n : ℕ) × (x : ℕ → List ℕ) × ((i : ℕ) → i < n → Over a (x i)) × ((i : ℕ) → i < n → Shortlex (x i) w) × Same a g (comb n (λ i. true) (quotients L x))

    go : (c m ≡ true) ⊎ (c m ≡ false) → ((g : List ℕ → Bool) → Same a g (comb m c (quotients L u)) → Chosen g) → Chosen f
    go (inr e) ih = ih f (λ v ov. s v ov ∙ ap (λ b. comb m c (quotients L u) v ⊕ (b && L (u m ++ v))) e ∙ xor_false (comb m c (quotients L u) v))
    go (inl e) ih =
        let t = ih (comb m c (quotients L u)) (λ v ov. refl) in (
          suc t.0,
          put t.0 (u m) t.1,
          put_all (Over a) t.0 (u m) t.1 t.2 (ou m (omega arith)),
          put_all (λ y. Shortlex y w) t.0 (u m) t.1 t.3 (h m (omega arith) e),
          λ v ov. s v ov ∙ ap₂ ◌⊕◌ (t.4 v ov ∙ xor_cong t.0 (λ i p. ap (λ y. L (y ++ v)) (sym (put_old t.0 (u m) t.1 i p)))) (ap (λ b. b && L (u m ++ v)) e ∙ ap (λ y. L (y ++ v)) (sym (put_new t.0 (u m) t.1))),
        )

pub from_taken : (a : ℕ) (L : Language) (w : List ℕ) (m : ℕ) (c : ℕ → Bool) (u : ℕ → List ℕ) → ((i : ℕ) → i < m → Over a (u i)) → ((i : ℕ) → i < m → c i ≡ true → Shortlex (u i) w)
    → Same a (quotient L w) (comb m c (quotients L u)) → FromEarlier a L w
from_taken a L w m c u ou h s =
    let t = select a L w m c u ou h (quotient L w) s in
    record { count = t.0; word = t.1; over = t.2; earlier = t.3; sum = t.4 }

-- ---- basis words

-- A tail put behind w and behind the earlier words keeps the xor.
from_earlier_append : (a : ℕ) (L : Language) (w x : List ℕ) → Over a x → FromEarlier a L w → FromEarlier a L (w ++ x)
from_earlier_append a L w x ox r =
    record {
      count = r.count;
      word = λ i. r.word i ++ x;
      over = λ i p. over_append a (r.word i) x (r.over i p) ox;
      earlier = λ i p. shortlex_append (r.word i) w x (r.earlier i p);
      sum = λ v ov.
          ap L (append_assoc w x v) ∙ r.sum (x ++ v) (over_append a x v ox ov)
          ∙ xor_cong r.count (λ i p. ap L (sym (append_assoc (r.word i) x v)));
    }

-- A prefix of a basis word is a basis word.
pub basis_prefix : (a : ℕ) (L : Language) (w x : List ℕ) → Over a x → Basis a L (w ++ x) → Basis a L w
basis_prefix a L w x ox b = record { over = over_left a w x b.over; new = λ r. b.new (from_earlier_append a L w x ox r) }

-- Basis words in shortlex order have independent quotients.
pub basis_independent : (a : ℕ) (L : Language) (m : ℕ) (u : ℕ → List ℕ) → ((k : ℕ) → k < m → Basis a L (u k)) → ((i k : ℕ) → i < k → k < m → Shortlex (u i) (u k))
    → Independent (Over a) m (quotients L u)
basis_independent a L zero u bas ord c z = λ i h. absurd (not-suc-le-zero h)
basis_independent a L (suc m) u bas ord c z =
    let last : c m ≡ false = not_used (bool_cases (c m)) in
    up_to m (basis_independent a L m u (λ k p. bas k (omega arith)) (λ i k p q. ord i k p (omega arith)) c (λ v ov. sym (ap (λ b. comb m c (quotients L u) v ⊕ (b && L (u m ++ v))) last ∙ xor_false (comb m c (quotients L u) v)) ∙ z v ov)) last
  where
    not_used : (c m ≡ true) ⊎ (c m ≡ false) → c m ≡ false
    not_used (inr e) = e
    not_used (inl e) = absurd ((bas m (omega arith)).new (from_taken a L (u m) m c u (λ i p. (bas i (omega arith)).over) (λ i p t. ord i m p (omega arith))
        (λ v ov. sym (xor_zero (ap (λ b. comb m c (quotients L u) v ⊕ (b && L (u m ++ v))) (sym e) ∙ z v ov)))))

-- The first word of a language, in shortlex order, is a basis word of it.
pub first_is_basis : (a : ℕ) (D : Language) (w : List ℕ) → Over a w → D w ≡ true → ((u : List ℕ) → Over a u → Shortlex u w → D u ≡ false) → Basis a D w
first_is_basis a D w ow e none = record { over = ow; new = λ r. false≢true (sym (xor_none r.count (λ i p. ap D (append-nil (r.word i)) ∙ none (r.word i) (r.over i p) (r.earlier i p))) ∙ sym (r.sum [] tt) ∙ ap D (append-nil w) ∙ e) }

-- A basis word of length n gives n + 1 independent quotients, those by its prefixes.
pub basis_free : (a : ℕ) (L : Language) (w : List ℕ) → Basis a L w → Free a L (suc (length w))
basis_free a L w b = record { word = λ i. take i w; over = λ i p. (pre i).over; independent = basis_independent a L (suc (length w)) (λ i. take i w) (λ i p. pre i) (λ i k p q. inl (omega (arith, length-take-le i w (omega arith), length-take-le k w (omega arith)))) }
  where
    pre : (i : ℕ) → Basis a L (take i w)
    pre i = basis_prefix a L (take i w) (drop i w) (over_drop a i w b.over) (rw take-append-drop b)
