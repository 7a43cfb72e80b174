-- A minimal automaton accepts its language, its size is the dimension, and it is the only one.
use mathlib.Core.Path.{◌≡◌, refl, sym, ap, ap₂, ◌∙◌}
use mathlib.Core.Bool.{Bool, true, false, ◌&&◌, cond, false≢true}
use mathlib.Core.Logic.{◌⊎◌, inl, inr}
use mathlib.Core.List.{List, [], ◌∷◌, ◌++◌, append_assoc, append-nil}
use Prim.Native.Nat.{ℕ, zero, suc, ◌<◌}
use native.Mathlib.Nat.{not-suc-le-zero}
use native.Mathlib.Decide.{dec_lt}
use native.Mathlib.Omega.{arith}
use lib.Dec.{eqb}
use lib.ListN.{length, get_or}
use Rattle.automata.specs.Xor.{◌⊕◌, xor_below, comb}
use Rattle.automata.specs.Automaton.{Automaton, sum_below, paths_from, odd, accepts}
use Rattle.automata.specs.Language.{Language, Same}
use Rattle.automata.specs.Word.{Over}
use Rattle.automata.specs.Dimension.{Independent, Basis, FromEarlier, quotients, IsDimension}
use Rattle.automata.specs.Minimal.{AllBasis, Minimal, SameBits}
use Rattle.automata.specs.Row.{accepts_from}
use Rattle.automata.proofs.Xor.{bool_cases, xor_cong, xor_none, xor_zero, xor_self, xor_pick, xor_coef}
use Rattle.automata.proofs.Shortlex.{over_append, shortlex_nil, rising_unique}
use Rattle.automata.proofs.Acceptance.{from_nil, from_cons, accepts_row, states_bound}
use Rattle.automata.proofs.Basis.{basis_independent}

-- ---- the empty word

-- No quotient comes before that of the empty word, so a sum of earlier ones is empty.
nil_earlier : (a : ℕ) (L : Language) → FromEarlier a L [] → (v : List ℕ) → Over a v → L v ≡ false
nil_earlier a L r v ov = r.sum v ov ∙ xor_none r.count (λ i p. absurd (shortlex_nil (r.word i) (r.earlier i p)))

nil_basis : (a : ℕ) (L : Language) (v : List ℕ) → Over a v → L v ≡ true → Basis a L []
nil_basis a L v ov e = record { over = tt; new = λ r. false≢true (sym (nil_earlier a L r v ov) ∙ e) }

-- Where there is a basis word, the empty word is one.
basis_nil : (a : ℕ) (L : Language) (w : List ℕ) → Basis a L w → Basis a L []
basis_nil a L w b = record {
  over = tt;
  new = λ r. b.new (record {
    count = 0;
    word = λ i. [];
    over = λ i p. absurd (not-suc-le-zero p);
    earlier = λ i p. absurd (not-suc-le-zero p);
    sum = λ v ov. nil_earlier a L r (w ++ v) (over_append a w v b.over ov);
  });
}

module _ (a : ℕ) (L : Language) (A : Automaton) (bs : List (List ℕ)) (M : Minimal a L A bs) where
  -- State k accepts the quotient by the k-th basis word.
  state_quotient : (w : List ℕ) → Over a w → (k : ℕ) → k < length bs → accepts_from A w k ≡ L (get_or bs k [] ++ w)
  state_quotient [] ow k h = from_nil A k ∙ M.ends k h ∙ ap L (sym (append-nil (get_or bs k [])))
  state_quotient (l ∷ w) ow k h =
      from_cons A l w k
      ∙ ap (λ m. xor_below m (λ j. A.step l k j && accepts_from A w j)) M.size
      ∙ xor_cong (length bs) (λ j p. ap (λ x. A.step l k j && x) (state_quotient w ow.1 j p))
      ∙ sym (M.rows l k ow.0 h w ow.1)
      ∙ ap L (append_assoc (get_or bs k []) (l ∷ []) w)

  -- The first basis word is the empty word.
  first_nil : 0 < length bs → get_or bs 0 [] ≡ []
  first_nil h = let t = M.words.all [] (basis_nil a L (get_or bs 0 []) (M.words.basis 0 h)) in go t.0 t.1 t.2
    where
      go : (k : ℕ) → k < length bs → get_or bs k [] ≡ [] → get_or bs 0 [] ≡ []
      go zero p e = e
      go (suc k) p e = absurd (shortlex_nil (get_or bs 0 []) (rw e at (M.words.ordered 0 (suc k) (omega arith) p)))

  -- The initial row is that of the empty word's quotient.
  starts_sum : (w : List ℕ) → Over a w → xor_below (length bs) (λ i. eqb i 0 && L (get_or bs i [] ++ w)) ≡ L w
  starts_sum w ow = go (dec_lt 0 (length bs)) (bool_cases (L w))
    where
      go : Dec (0 < length bs) → (L w ≡ true) ⊎ (L w ≡ false) → xor_below (length bs) (λ i. eqb i 0 && L (get_or bs i [] ++ w)) ≡ L w
      go (yes h) e = xor_pick (length bs) 0 h (λ i. L (get_or bs i [] ++ w)) ∙ ap (λ u. L (u ++ w)) (first_nil h)
      go (no h) (inl e) = let t = M.words.all [] (nil_basis a L w ow e) in absurd (h (omega (arith, t.1)))
      go (no h) (inr e) = xor_none (length bs) (λ i p. absurd (h (omega arith))) ∙ sym e

  -- A minimal automaton of L accepts L.
  pub minimal_accepts : Same a L (accepts A)
  minimal_accepts w ow =
      sym
      (accepts_row A w
      ∙ ap (λ m. xor_below m (λ i. A.initial i && accepts_from A w i)) M.size
      ∙ xor_cong (length bs) (λ i p. ap₂ ◌&&◌ (M.starts i p) (state_quotient w ow i p))
      ∙ starts_sum w ow)

  pub basis_quotients : Independent (Over a) (length bs) (quotients L (λ i. get_or bs i []))
  basis_quotients = basis_independent a L (length bs) (λ i. get_or bs i []) M.words.basis M.words.ordered

  -- The number of basis words is the dimension.
  pub minimal_dimension : IsDimension a L (length bs)
  minimal_dimension =
      record {
        reached = record { word = λ i. get_or bs i []; over = λ i p. (M.words.basis i p).over; independent = basis_quotients };
        largest = λ m r. rw M.size at (states_bound A L a m minimal_accepts r);
      }

-- ---- uniqueness

from_earlier_same : (a : ℕ) (L K : Language) (w : List ℕ) → Over a w → Same a L K → FromEarlier a L w → FromEarlier a K w
from_earlier_same a L K w ow same r =
    record {
      count = r.count;
      word = r.word;
      over = r.over;
      earlier = r.earlier;
      sum = λ v ov. sym (same (w ++ v) (over_append a w v ow ov)) ∙ r.sum v ov ∙ xor_cong r.count (λ i p. same (r.word i ++ v) (over_append a (r.word i) v (r.over i p) ov));
    }

pub same_sym : (a : ℕ) (L K : Language) → Same a L K → Same a K L
same_sym a L K h w ow = sym (h w ow)

pub basis_same : (a : ℕ) (L K : Language) (w : List ℕ) → Same a L K → Basis a L w → Basis a K w
basis_same a L K w same b = record { over = b.over; new = λ r. b.new (from_earlier_same a K L w b.over (same_sym a L K same) r) }

-- A minimal automaton of L is one of every language with the same words.
pub minimal_same : (a : ℕ) (L K : Language) (A : Automaton) (bs : List (List ℕ)) → Same a L K → Minimal a L A bs → Minimal a K A bs
minimal_same a L K A bs same M =
    record {
      words = record { basis = λ k p. basis_same a L K (get_or bs k []) same (M.words.basis k p); ordered = M.words.ordered; all = λ w b. M.words.all w (basis_same a K L w (same_sym a L K same) b) };
      size = M.size;
      starts = M.starts;
      ends = λ k p. M.ends k p ∙ same (get_or bs k []) (M.words.basis k p).over;
      rows = λ l k hl hk v ov. sym (same ((get_or bs k [] ++ (l ∷ [])) ++ v) (over_append a (get_or bs k [] ++ (l ∷ [])) v (over_append a (get_or bs k []) (l ∷ []) (M.words.basis k hk).over (hl, tt)) ov)) ∙ M.rows l k hl hk v ov
          ∙ xor_cong (length bs) (λ i p. ap (λ x. A.step l k i && x) (same (get_or bs i [] ++ v) (over_append a (get_or bs i []) v (M.words.basis i p).over ov)));
    }

pub same_basis : (a : ℕ) (L : Language) (bs cs : List (List ℕ)) → AllBasis a L bs → AllBasis a L cs → bs ≡ cs
same_basis a L bs cs p q = rising_unique bs cs p.ordered q.ordered (λ k h. q.all (get_or bs k []) (p.basis k h)) (λ k h. p.all (get_or cs k []) (q.basis k h))

-- Coefficients over an independent family are determined by the sum.
pub same_coef : {X : Type 0} {P : X → Type 0} (m : ℕ) (f : ℕ → X → Bool) → Independent P m f → (c e : ℕ → Bool) → ((x : X) → P x → comb m c f x ≡ comb m e f x)
    → (i : ℕ) → i < m → c i ≡ e i
same_coef m f ind c e h i p = xor_zero (ind (λ k. c k ⊕ e k) (λ x px. xor_coef m c e (λ k. f k x) ∙ ap (λ b. b ⊕ comb m e f x) (h x px) ∙ xor_self (comb m e f x)) i p)

minimal_bits : (a : ℕ) (L : Language) (A B : Automaton) (bs : List (List ℕ)) → Minimal a L A bs → Minimal a L B bs → SameBits a A B
minimal_bits a L A B bs M N =
    record {
      states = M.size ∙ sym N.size;
      initial = λ k h. M.starts k (rw M.size at h) ∙ sym (N.starts k (rw M.size at h));
      final = λ k h. M.ends k (rw M.size at h) ∙ sym (N.ends k (rw M.size at h));
      step = λ l i j hl hi hj.
          same_coef (length bs) (quotients L (λ i. get_or bs i [])) (basis_quotients a L A bs M) (A.step l i) (B.step l i)
          (λ v ov. sym (M.rows l i hl (rw M.size at hi) v ov) ∙ N.rows l i hl (rw M.size at hi) v ov) j (rw M.size at hj);
    }

-- Languages with the same words have the same minimal automaton, bit for bit.
pub minimal_unique : (a : ℕ) (L K : Language) (A B : Automaton) (bs cs : List (List ℕ)) → Same a L K → Minimal a L A bs → Minimal a K B cs → SameBits a A B
minimal_unique a L K A B bs cs same M N =
    let N' : Minimal a L B cs = minimal_same a K L B cs (same_sym a L K same) N in
    minimal_bits a L A B bs M (rw (← same_basis a L bs cs M.words N'.words) at N')

-- What has the bits of a minimal automaton is minimal.
pub bits_minimal : (a : ℕ) (L : Language) (A B : Automaton) (bs : List (List ℕ)) → SameBits a B A → Minimal a L A bs → Minimal a L B bs
bits_minimal a L A B bs s M = record {
  words = M.words;
  size = s.states ∙ M.size;
  starts = λ k h. s.initial k (inside k h) ∙ M.starts k h;
  ends = λ k h. s.final k (inside k h) ∙ M.ends k h;
  rows = λ l k hl hk v ov. M.rows l k hl hk v ov ∙ xor_cong (length bs) (λ j p. ap (λ b. b && L (get_or bs j [] ++ v)) (sym (s.step l k j hl (inside k hk) (inside j p))));
}
  where
    inside : (k : ℕ) → k < length bs → k < B.states
    inside k h = omega (arith, s.states, M.size)

pub sum_cong : (k : ℕ) {f g : ℕ → ℕ} → ((i : ℕ) → i < k → f i ≡ g i) → sum_below k f ≡ sum_below k g
sum_cong zero h = refl
sum_cong (suc k) {f} {g} h = rw (sum_cong k {f = f} {g = g} (λ i p. h i (omega arith)), h k (omega arith))

paths_same : (a : ℕ) (A B : Automaton) → SameBits a A B → (w : List ℕ) → Over a w → (i : ℕ) → i < A.states → paths_from A w i ≡ paths_from B w i
paths_same a A B s [] ow i h = ap (λ b. cond b 1 0) (s.final i h)
paths_same a A B s (l ∷ w) ow i h =
    sum_cong A.states (λ j p. ap₂ (λ b m. cond b m 0) (s.step l i j ow.0 h p) (paths_same a A B s w ow.1 j p))
    ∙ ap (λ k. sum_below k (λ j. cond (B.step l i j) (paths_from B w j) 0)) s.states

-- The same bits accept the same words.
pub bits_language : (a : ℕ) (A B : Automaton) → SameBits a A B → Same a (accepts A) (accepts B)
bits_language a A B s w ow =
    ap odd
    (sum_cong A.states (λ i p. ap₂ (λ b m. cond b m 0) (s.initial i p) (paths_same a A B s w ow i p))
    ∙ ap (λ k. sum_below k (λ i. cond (B.initial i) (paths_from B w i) 0)) s.states)
