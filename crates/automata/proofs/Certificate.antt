-- What a breadth-first search has to establish for its result to be the minimal automaton:
-- independent quotients, rows that hold, and rows that name no word after the one they stand for.
use mathlib.Core.Path.{◌≡◌, sym, ap, subst, ◌∙◌}
use mathlib.Core.Bool.{Bool, true, false, ◌&&◌, true≢false}
use mathlib.Core.Logic.{◌⊎◌, inl, inr, ◌≢◌}
use mathlib.Core.List.{List, [], ◌∷◌, ◌++◌, append_assoc, append-nil}
use Prim.Native.Nat.{ℕ, zero, suc, ◌<◌}
use native.Mathlib.Nat.{not-suc-le-zero}
use native.Mathlib.Decide.{ℕ_discrete, dec_lt}
use native.Mathlib.Omega.{arith}
use lib.Dec.{eqb}
use lib.ListN.{length, get_or}
use Rattle.automata.specs.Xor.{xor_below, comb}
use Rattle.automata.specs.Automaton.{Automaton}
use Rattle.automata.specs.Language.{Language, quotient, Same}
use Rattle.automata.specs.Word.{Over, Shortlex, NotAfter}
use Rattle.automata.specs.Dimension.{Independent, Basis, FromEarlier, quotients}
use Rattle.automata.specs.Minimal.{Minimal}
use Rattle.automata.proofs.Below.{up_to}
use Rattle.automata.proofs.Xor.{xor_cong, xor_none, xor_pick, xor_matrix, eqb_same, eqb_differ}
use Rattle.automata.proofs.Shortlex.{shortlex_irrefl, shortlex_trans, shortlex_append, shortlex_cases}
use Rattle.automata.proofs.Span.{SpannedIn, and_parts, some_member, span_sum}
use Rattle.automata.proofs.Basis.{from_taken}
use Rattle.automata.proofs.Minimal.{same_coef}

-- A's rows say how each quotient by a word of bs and one letter more is an xor of quotients by words of bs, none of them later.
pub record Tableau (a : ℕ) (L : Language) (A : Automaton) (bs : List (List ℕ)) : Type 0 where
  pub over : (k : ℕ) → k < length bs → Over a (get_or bs k [])
  pub ordered : (i k : ℕ) → i < k → k < length bs → Shortlex (get_or bs i []) (get_or bs k [])
  pub first : 0 < length bs → get_or bs 0 [] ≡ []
  pub empty : length bs ≡ 0 → (v : List ℕ) → Over a v → L v ≡ false
  pub size : A.states ≡ length bs
  pub starts : (k : ℕ) → k < length bs → A.initial k ≡ eqb k 0
  pub ends : (k : ℕ) → k < length bs → A.final k ≡ L (get_or bs k [])
  pub rows : (l k : ℕ) → l < a → k < length bs
      → Same a (quotient L (get_or bs k [] ++ (l ∷ []))) (comb (length bs) (A.step l k) (quotients L (λ i. get_or bs i [])))
  pub causal : (l k j : ℕ) → l < a → k < length bs → j < length bs → A.step l k j ≡ true → NotAfter (get_or bs j []) (get_or bs k [] ++ (l ∷ []))

-- The quotients are independent besides.
pub record Certificate (a : ℕ) (L : Language) (A : Automaton) (bs : List (List ℕ)) : Type 0 where
  pub tableau : Tableau a L A bs
  pub independent : Independent (Over a) (length bs) (quotients L (λ i. get_or bs i []))

not_after_append : (u w x : List ℕ) → NotAfter u w → NotAfter (u ++ x) (w ++ x)
not_after_append u w x (inl e) = inl (ap (λ y. y ++ x) e)
not_after_append u w x (inr h) = inr (shortlex_append u w x h)

not_after_trans : (u v w : List ℕ) → NotAfter u v → NotAfter v w → NotAfter u w
not_after_trans u v w (inl e) q = subst (λ x. NotAfter x w) (sym e) q
not_after_trans u v w (inr p) (inl e) = inr (subst (Shortlex u) e p)
not_after_trans u v w (inr p) (inr q) = inr (shortlex_trans u v w p q)

pub not_after_before : (u v w : List ℕ) → NotAfter u v → Shortlex v w → Shortlex u w
not_after_before u v w (inl e) q = subst (λ x. Shortlex x w) (sym e) q
not_after_before u v w (inr p) q = shortlex_trans u v w p q

-- The place of a word in a family, if it has one.
locate : (m : ℕ) (u : ℕ → List ℕ) (w : List ℕ) → ((k : ℕ) × (k < m) × (u k ≡ w)) ⊎ ((k : ℕ) → k < m → u k ≢ w)
locate zero u w = inr (λ k p. absurd (not-suc-le-zero p))
locate (suc m) u w = go (locate m u w) (shortlex_cases (u m) w)
  where
    rest : (u m ≢ w) → ((k : ℕ) → k < m → u k ≢ w) → (k : ℕ) → k < suc m → u k ≢ w
    rest x y = up_to m y x

    go : ((k : ℕ) × (k < m) × (u k ≡ w)) ⊎ ((k : ℕ) → k < m → u k ≢ w) → Shortlex (u m) w ⊎ ((u m ≡ w) ⊎ Shortlex w (u m)) → ((k : ℕ) × (k < suc m) × (u k ≡ w)) ⊎ ((k : ℕ) → k < suc m → u k ≢ w)
    go (inl t) y = inl (t.0, omega (arith, t.1), t.2)
    go (inr n) (inr (inl e)) = inl (m, omega arith, e)
    go (inr n) (inl h) = inr (rest (λ q. shortlex_irrefl w (subst (λ x. Shortlex x w) q h)) n)
    go (inr n) (inr (inr h)) = inr (rest (λ q. shortlex_irrefl w (subst (Shortlex w) q h)) n)

abbrev pub Reached : ℕ → Language → List (List ℕ) → List ℕ → Type 0
Reached a L bs w = SpannedIn a L bs (λ j. NotAfter (get_or bs j []) w) w

module _ (a : ℕ) (L : Language) (A : Automaton) (bs : List (List ℕ)) (T : Tableau a L A bs) where
  reached_nil : Reached a L bs []
  reached_nil = record { coef = λ i. eqb i 0; sum = λ v ov. go v ov (dec_lt 0 (length bs)); inside = λ j p e. inl (at j p e (ℕ_discrete j 0)) }
    where
      go : (v : List ℕ) → Over a v → Dec (0 < length bs) → L v ≡ comb (length bs) (λ i. eqb i 0) (quotients L (λ i. get_or bs i [])) v
      go v ov (yes h) = sym (xor_pick (length bs) 0 h (λ i. L (get_or bs i [] ++ v)) ∙ ap (λ u. L (u ++ v)) (T.first h))
      go v ov (no h) = T.empty (omega arith) v ov ∙ sym (xor_none (length bs) (λ i p. absurd (h (omega arith))))

      at : (j : ℕ) → j < length bs → eqb j 0 ≡ true → Dec (j ≡ 0) → get_or bs j [] ≡ []
      at j p e (yes q) = ap (λ i. get_or bs i []) q ∙ T.first (omega arith)
      at j p e (no q) = absurd (true≢false (sym e ∙ eqb_differ q))

  reached_step : (u : List ℕ) (l : ℕ) → l < a → Reached a L bs u → Reached a L bs (u ++ (l ∷ []))
  reached_step u l hl r = record {
    coef = λ i. xor_below (length bs) (λ j. r.coef j && A.step l j i);
    sum = λ v ov.
        ap L (append_assoc u (l ∷ []) v)
        ∙ r.sum (l ∷ v) (hl, ov)
        ∙ xor_cong (length bs) (λ j p. ap (λ b. r.coef j && b) (ap L (sym (append_assoc (get_or bs j []) (l ∷ []) v)) ∙ T.rows l j hl p v ov))
        ∙ xor_matrix (length bs) (length bs) r.coef (A.step l) (λ i. L (get_or bs i [] ++ v));
    inside = λ i p e.
        let t = some_member (length bs) (λ j. r.coef j && A.step l j i) e in
        let s = and_parts (r.coef t.0) (A.step l t.0 i) t.2 in
        not_after_trans (get_or bs i []) (get_or bs t.0 [] ++ (l ∷ [])) (u ++ (l ∷ [])) (T.causal l t.0 i hl t.1 p s.1)
        (not_after_append (get_or bs t.0 []) u (l ∷ []) (r.inside t.0 t.1 s.0));
  }

  reached_from : (u w : List ℕ) → Over a w → Reached a L bs u → Reached a L bs (u ++ w)
  reached_from u [] ow r = rw append-nil r
  reached_from u (l ∷ w) ow r = rw append_assoc at (reached_from (u ++ (l ∷ [])) w ow.1 (reached_step u l ow.0 r))

  -- Every quotient is an xor of quotients by words of bs that are not later.
  pub reached : (w : List ℕ) → Over a w → Reached a L bs w
  reached w ow = reached_from [] w ow reached_nil

module _ (a : ℕ) (L : Language) (A : Automaton) (bs : List (List ℕ)) (C : Certificate a L A bs) where
  -- Each word of bs is a basis word.
  is_basis : (k : ℕ) → k < length bs → Basis a L (get_or bs k [])
  is_basis k h = record { over = C.tableau.over k h; new = λ r. go r (span_sum a L bs (λ j. Shortlex (get_or bs j []) (get_or bs k [])) r.count (λ i. true) r.word (λ i p. before (r.word i) (r.earlier i p) (reached a L A bs C.tableau (r.word i) (r.over i p)))) }
    where
      before : (u : List ℕ) → Shortlex u (get_or bs k []) → Reached a L bs u → SpannedIn a L bs (λ j. Shortlex (get_or bs j []) (get_or bs k [])) u
      before u p r = record { coef = r.coef; sum = r.sum; inside = λ j q e. not_after_before (get_or bs j []) u (get_or bs k []) (r.inside j q e) p }

      go : (r : FromEarlier a L (get_or bs k [])) → (d : ℕ → Bool) × ((v : List ℕ) → Over a v → comb r.count (λ i. true) (quotients L r.word) v ≡ comb (length bs) d (quotients L (λ i. get_or bs i [])) v) × ((j : ℕ) → j < length bs → d j ≡ true → Shortlex (get_or bs j []) (get_or bs k [])) → ⊥
      go r t = shortlex_irrefl (get_or bs k []) (t.2 k h (sym (same_coef (length bs) (quotients L (λ i. get_or bs i [])) C.independent (λ i. eqb i k) t.0
          (λ v ov. xor_pick (length bs) k h (λ i. L (get_or bs i [] ++ v)) ∙ r.sum v ov ∙ t.1 v ov) k h) ∙ eqb_same k))

  all_basis : (w : List ℕ) → Basis a L w → (k : ℕ) × (k < length bs) × (get_or bs k [] ≡ w)
  all_basis w b = go (locate (length bs) (λ i. get_or bs i []) w)
    where
      other : ((k : ℕ) → k < length bs → get_or bs k [] ≢ w) → Reached a L bs w → FromEarlier a L w
      other n r = from_taken a L w (length bs) r.coef (λ i. get_or bs i []) C.tableau.over (λ i p e. strict i p (r.inside i p e)) r.sum
        where
          strict : (i : ℕ) → i < length bs → NotAfter (get_or bs i []) w → Shortlex (get_or bs i []) w
          strict i p (inl e) = absurd (n i p e)
          strict i p (inr h) = h

      go : ((k : ℕ) × (k < length bs) × (get_or bs k [] ≡ w)) ⊎ ((k : ℕ) → k < length bs → get_or bs k [] ≢ w) → (k : ℕ) × (k < length bs) × (get_or bs k [] ≡ w)
      go (inl t) = t
      go (inr n) = absurd (b.new (other n (reached a L A bs C.tableau w b.over)))

  -- What meets the certificate is the minimal automaton.
  pub certified : Minimal a L A bs
  certified = record {
    words = record { basis = is_basis; ordered = C.tableau.ordered; all = all_basis };
    size = C.tableau.size;
    starts = C.tableau.starts;
    ends = C.tableau.ends;
    rows = C.tableau.rows;
  }
