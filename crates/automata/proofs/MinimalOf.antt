-- The bounded search of specs/MinimalOf gives the minimal automaton.
use mathlib.Core.Path.{◌≡◌, refl, sym, ap, ap₂, subst, ◌∙◌, fun_ext}
use mathlib.Core.Bool.{Bool, true, false, not, ◌&&◌, cond, true≢false, false≢true}
use mathlib.Core.Logic.{◌⊎◌, inl, inr}
use mathlib.Core.List.{List, [], ◌∷◌, ◌++◌}
use Prim.Native.Nat.{ℕ, zero, suc, ◌<◌, ◌≤◌}
use native.Mathlib.Nat.{not-suc-le-zero}
use native.Mathlib.Omega.{arith}
use lib.Dec.{eqb}
use lib.ListN.{length, get_or, length-append}
use Rattle.automata.specs.Xor.{◌⊕◌, comb}
use Rattle.automata.specs.Automaton.{Automaton, accepts}
use Rattle.automata.specs.Language.{Language, quotient, Same}
use Rattle.automata.specs.Word.{Over, Shortlex}
use Rattle.automata.specs.Dimension.{Basis, FromEarlier, quotients}
use Rattle.automata.specs.Minimal.{AllBasis, Minimal}
use Rattle.automata.specs.Count.{Member}
use Rattle.automata.specs.WordList.{words_below, all_of}
use Rattle.automata.specs.MinimalOf.{with_bit, choose, fits, coefs, spans, greedy, basis_words, automaton_on, minimal_of}
use Rattle.automata.proofs.Below.{up_to}
use Rattle.automata.proofs.Xor.{bool_cases, xor_cong, xor_self, xor_false, xor_pick, eqb_same, eqb_differ}
use Rattle.automata.proofs.Shortlex.{over_append, shortlex_irrefl, shortlex_trans}
use Rattle.automata.proofs.Span.{SpannedIn, span_sum}
use Rattle.automata.proofs.Snoc.{length_snoc, at_new, at_old, snoc_all}
use Rattle.automata.proofs.Acceptance.{states_bound}
use Rattle.automata.proofs.Basis.{basis_free, from_taken}
use Rattle.automata.proofs.ShortWords.{short_test}
use Rattle.automata.proofs.WordList.{Sorted, below_sound, below_complete, below_sorted, all_of_lem, of_all}

-- ---- the search for coefficients

-- P reads coefficients only below k.
abbrev Reads : ℕ → ((ℕ → Bool) → Bool) → Type 0
Reads k P = (c e : ℕ → Bool) → ((i : ℕ) → i < k → c i ≡ e i) → P c ≡ P e

bit_new : (k : ℕ) (b : Bool) (c : ℕ → Bool) → with_bit k b c k ≡ b
bit_new k b c = rw (eqb_same k)

bit_old : (k : ℕ) (b : Bool) (c : ℕ → Bool) (i : ℕ) → i < k → with_bit k b c i ≡ c i
bit_old k b c i h = rw (eqb_differ {m = i} {n = k} (omega arith))

bit_same : (k : ℕ) (b : Bool) (c : ℕ → Bool) → c k ≡ b → (i : ℕ) → i < suc k → with_bit k b c i ≡ c i
bit_same k b c e = up_to k (bit_old k b c) (bit_new k b c ∙ sym e)

bit_reads : (k : ℕ) (b : Bool) (P : (ℕ → Bool) → Bool) → Reads (suc k) P → Reads k (λ c. P (with_bit k b c))
bit_reads k b P r c e h =
    r (with_bit k b c) (with_bit k b e) (up_to k (λ i p. bit_old k b c i p ∙ h i p ∙ sym (bit_old k b e i p)) (bit_new k b c ∙ sym (bit_new k b e)))

choose_finds : (k : ℕ) (P : (ℕ → Bool) → Bool) → Reads k P → (c : ℕ → Bool) → P c ≡ true → P (choose k P) ≡ true
choose_finds zero P r c e = r (λ i. false) c (λ i h. absurd (not-suc-le-zero h)) ∙ e
choose_finds (suc k) P r c e = go (bool_cases (c k)) (bool_cases (P low)) (λ h. choose_finds k (λ c. P (with_bit k false c)) (bit_reads k false P r) c h) (λ h. choose_finds k (λ c. P (with_bit k true c)) (bit_reads k true P r) c h)
  where
    low : ℕ → Bool
    low = with_bit k false (choose k (λ c. P (with_bit k false c)))

    high : ℕ → Bool
    high = with_bit k true (choose k (λ c. P (with_bit k true c)))

    kept : (b : Bool) → c k ≡ b → P (with_bit k b c) ≡ true
    kept b q = r (with_bit k b c) c (bit_same k b c q) ∙ e

    go : (c k ≡ true) ⊎ (c k ≡ false) → (P low ≡ true) ⊎ (P low ≡ false) → (P (with_bit k false c) ≡ true → P low ≡ true) → (P (with_bit k true c) ≡ true → P high ≡ true)
        → P (cond (P low) low high) ≡ true
    go q (inl p) f g = ap (λ b. P (cond b low high)) p ∙ p
    go (inl q) (inr p) f g = ap (λ b. P (cond b low high)) p ∙ g (kept true q)
    go (inr q) (inr p) f g = absurd (false≢true (sym p ∙ f (kept false q)))

-- ---- spans

-- The quotient by w is an xor of quotients by words of bs.
abbrev Spanned : ℕ → Language → List (List ℕ) → List ℕ → Type 0
Spanned a L bs w = SpannedIn a L bs (λ j. Unit {0}) w

same_true : (x y : Bool) → x ≡ y → not (x ⊕ y) ≡ true
same_true x y e = ap (λ b. not (b ⊕ y)) e ∙ ap not (xor_self y)

true_same : (x y : Bool) → not (x ⊕ y) ≡ true → x ≡ y
true_same true true e = refl
true_same true false e = sym e
true_same false true e = e
true_same false false e = refl

fits_reads : (a n : ℕ) (L : Language) (bs : List (List ℕ)) (w : List ℕ) → Reads (length bs) (fits a n L bs w)
fits_reads a n L bs w c e h =
    ap (λ f. all_of f (words_below a n))
    (fun_ext (λ v. ap (λ b. not (L (w ++ v) ⊕ b)) (xor_cong (length bs) (λ i p. ap (λ b. b && L (get_or bs i [] ++ v)) (h i p)))))

spanned_spans : (a n : ℕ) (L : Language) (bs : List (List ℕ)) (w : List ℕ) → Spanned a L bs w → spans a n L bs w ≡ true
spanned_spans a n L bs w s =
    choose_finds (length bs) (fits a n L bs w) (fits_reads a n L bs w) s.coef
    (of_all (λ v. not (L (w ++ v) ⊕ comb (length bs) s.coef (quotients L (λ i. get_or bs i [])) v)) (words_below a n)
    (λ v m. same_true (L (w ++ v)) (comb (length bs) s.coef (quotients L (λ i. get_or bs i [])) v) (s.sum v (below_sound a n v m).1)))

spans_spanned : (a : ℕ) (A : Automaton) (n : ℕ) (L : Language) (bs : List (List ℕ)) (w : List ℕ) → Same a L (accepts A) → A.states ≤ n
    → ((i : ℕ) → i < length bs → Over a (get_or bs i [])) → Over a w → spans a n L bs w ≡ true
    → Same a (quotient L w) (comb (length bs) (coefs a n L bs w) (quotients L (λ i. get_or bs i [])))
spans_spanned a A n L bs w same h ob ow e =
    short_test a A L same w (length bs) (coefs a n L bs w) (λ i. get_or bs i []) ow ob
    (λ v ov sv. true_same (L (w ++ v)) (comb (length bs) (coefs a n L bs w) (quotients L (λ i. get_or bs i [])) v)
    (all_of_lem (λ v. not (L (w ++ v) ⊕ comb (length bs) (coefs a n L bs w) (quotients L (λ i. get_or bs i [])) v)) (words_below a n) e v (below_complete a n v (omega arith) ov)))

-- If bs spans every earlier word, it spans each xor of earlier quotients.
spanned_from_earlier : (a : ℕ) (L : Language) (bs : List (List ℕ)) (w : List ℕ) → ((u : List ℕ) → Over a u → Shortlex u w → Spanned a L bs u) → FromEarlier a L w → Spanned a L bs w
spanned_from_earlier a L bs w h r =
    let t = span_sum a L bs (λ j. Unit {0}) r.count (λ i. true) r.word (λ i p. h (r.word i) (r.over i p) (r.earlier i p)) in
    record { coef = t.0; sum = λ v ov. r.sum v ov ∙ t.1 v ov; inside = t.2 }

-- ---- one more word

module _ (bs : List (List ℕ)) (w : List ℕ) where
  comb_snoc : (L : Language) (c : ℕ → Bool) (v : List ℕ)
      → comb (length (bs ++ (w ∷ []))) c (quotients L (λ i. get_or (bs ++ (w ∷ [])) i [])) v ≡ comb (length bs) c (quotients L (λ i. get_or bs i [])) v ⊕ (c (length bs) && L (w ++ v))
  comb_snoc L c v =
      ap (λ m. comb m c (quotients L (λ i. get_or (bs ++ (w ∷ [])) i [])) v) (length_snoc bs w)
      ∙ ap₂ ◌⊕◌ (xor_cong (length bs) (λ i p. ap (λ u. c i && L (u ++ v)) (at_old bs w i p))) (ap (λ u. c (length bs) && L (u ++ v)) (at_new bs w))

  spanned_old : (a : ℕ) (L : Language) (u : List ℕ) → Spanned a L bs u → Spanned a L (bs ++ (w ∷ [])) u
  spanned_old a L u s = record {
    coef = c;
    inside = λ j p e. tt;
    sum = λ v ov.
        s.sum v ov
        ∙ xor_cong (length bs) (λ i p. ap (λ b. b && L (get_or bs i [] ++ v)) (sym (bit_old (length bs) false s.coef i p)))
        ∙ sym (xor_false (comb (length bs) c (quotients L (λ i. get_or bs i [])) v))
        ∙ ap (λ b. comb (length bs) c (quotients L (λ i. get_or bs i [])) v ⊕ (b && L (w ++ v))) (sym (bit_new (length bs) false s.coef))
        ∙ sym (comb_snoc L c v);
  }
    where
      c : ℕ → Bool
      c = with_bit (length bs) false s.coef

  spanned_new : (a : ℕ) (L : Language) → Spanned a L (bs ++ (w ∷ [])) w
  spanned_new a L = record {
    coef = λ i. eqb i (length bs);
    inside = λ j p e. tt;
    sum = λ v ov.
        ap (λ u. L (u ++ v)) (sym (at_new bs w)) ∙ sym (xor_pick (length (bs ++ (w ∷ []))) (length bs) (omega (arith, (length_snoc bs w))) (λ i. L (get_or (bs ++ (w ∷ [])) i [] ++ v)));
  }

-- ---- the scan

-- Every word of bs is a basis word; the words ws are still to come.
record Scanned (a n : ℕ) (L : Language) (bs ws : List (List ℕ)) : Type 0 where
  basis : (k : ℕ) → k < length bs → Basis a L (get_or bs k [])
  ordered : (k : ℕ) → k < length bs → (i : ℕ) → i < k → Shortlex (get_or bs i []) (get_or bs k [])
  ahead : (k : ℕ) → k < length bs → (w : List ℕ) → Member w ws → Shortlex (get_or bs k []) w
  sorted : Sorted ws
  within : (w : List ℕ) → Member w ws → (length w ≤ n) × Over a w
  covered : (u : List ℕ) → Over a u → length u ≤ n → Spanned a L bs u ⊎ Member u ws
  all : (u : List ℕ) → Basis a L u → ((k : ℕ) × (k < length bs) × (get_or bs k [] ≡ u)) ⊎ Member u ws

module _ (a n : ℕ) (L : Language) (bs : List (List ℕ)) (w : List ℕ) (ws : List (List ℕ)) (I : Scanned a n L bs (w ∷ ws)) where
  -- A word that bs spans is passed over.
  skip : Spanned a L bs w → Scanned a n L bs ws
  skip s = record {
    basis = I.basis;
    ordered = I.ordered;
    ahead = λ k h u m. I.ahead k h u (inr m);
    sorted = I.sorted.1;
    within = λ u m. I.within u (inr m);
    covered = λ u ou h. cover u (I.covered u ou h);
    all = λ u b. whole u b (I.all u b);
  }
    where
      cover : (u : List ℕ) → Spanned a L bs u ⊎ Member u (w ∷ ws) → Spanned a L bs u ⊎ Member u ws
      cover u (inl r) = inl r
      cover u (inr (inl e)) = inl (subst (Spanned a L bs) (sym e) s)
      cover u (inr (inr m)) = inr m

      old : FromEarlier a L w
      old = from_taken a L w (length bs) s.coef (λ i. get_or bs i []) (λ i p. (I.basis i p).over) (λ i p t. I.ahead i p w (inl refl)) s.sum

      whole : (u : List ℕ) → Basis a L u → ((k : ℕ) × (k < length bs) × (get_or bs k [] ≡ u)) ⊎ Member u (w ∷ ws) → ((k : ℕ) × (k < length bs) × (get_or bs k [] ≡ u)) ⊎ Member u ws
      whole u b (inl t) = inl t
      whole u b (inr (inl e)) = absurd ((subst (Basis a L) e b).new old)
      whole u b (inr (inr m)) = inr m

  -- A word that bs does not span is a basis word.
  is_basis : (Spanned a L bs w → ⊥) → Basis a L w
  is_basis no_span = record { over = (I.within w (inl refl)).1; new = λ r. no_span (spanned_from_earlier a L bs w earlier r) }
    where
      before : (u : List ℕ) → Shortlex u w → Spanned a L bs u ⊎ Member u (w ∷ ws) → Spanned a L bs u
      before u h (inl r) = r
      before u h (inr (inl e)) = absurd (shortlex_irrefl w (subst (λ x. Shortlex x w) e h))
      before u h (inr (inr m)) = absurd (shortlex_irrefl u (shortlex_trans u w u h (I.sorted.0 u m)))

      short : (u : List ℕ) → Shortlex u w → length u ≤ length w
      short u (inl h) = omega arith
      short u (inr h) = omega arith

      earlier : (u : List ℕ) → Over a u → Shortlex u w → Spanned a L bs u
      earlier u ou h = before u h (I.covered u ou (omega (arith, short u h, (I.within w (inl refl)).0)))

  add : (Spanned a L bs w → ⊥) → Scanned a n L (bs ++ (w ∷ [])) ws
  add no_span = record {
    basis = snoc_all bs w (λ k u. Basis a L u) I.basis (is_basis no_span);
    ordered = snoc_all bs w (λ k u. (i : ℕ) → i < k → Shortlex (get_or (bs ++ (w ∷ [])) i []) u)
        (λ k h i p. rw (at_old bs w i (omega arith)) (I.ordered k h i p))
        (λ i p. rw (at_old bs w i p) (I.ahead i p w (inl refl)));
    ahead = snoc_all bs w (λ k u. (x : List ℕ) → Member x ws → Shortlex u x) (λ k h x m. I.ahead k h x (inr m)) I.sorted.0;
    sorted = I.sorted.1;
    within = λ u m. I.within u (inr m);
    covered = λ u ou h. cover u (I.covered u ou h);
    all = λ u b. whole u (I.all u b);
  }
    where
      cover : (u : List ℕ) → Spanned a L bs u ⊎ Member u (w ∷ ws) → Spanned a L (bs ++ (w ∷ [])) u ⊎ Member u ws
      cover u (inl r) = inl (spanned_old bs w a L u r)
      cover u (inr (inl e)) = inl (subst (Spanned a L (bs ++ (w ∷ []))) (sym e) (spanned_new bs w a L))
      cover u (inr (inr m)) = inr m

      whole : (u : List ℕ) → ((k : ℕ) × (k < length bs) × (get_or bs k [] ≡ u)) ⊎ Member u (w ∷ ws) → ((k : ℕ) × (k < length (bs ++ (w ∷ []))) × (get_or (bs ++ (w ∷ [])) k [] ≡ u)) ⊎ Member u ws
      whole u (inl t) = inl (t.0, omega (arith, t.1, length_snoc bs w), at_old bs w t.0 t.1 ∙ t.2)
      whole u (inr (inl e)) = inl (length bs, omega (arith, length_snoc bs w), at_new bs w ∙ sym e)
      whole u (inr (inr m)) = inr m

module _ (a : ℕ) (A : Automaton) (n : ℕ) (L : Language) (same : Same a L (accepts A)) (h : A.states ≤ n) where
  scan : (bs ws : List (List ℕ)) → Scanned a n L bs ws → Scanned a n L (greedy a n L bs ws) []
  scan bs [] I = I
  scan bs (w ∷ ws) I = scan (cond (spans a n L bs w) bs (bs ++ (w ∷ []))) ws (go (bool_cases (spans a n L bs w)))
    where
      go : (spans a n L bs w ≡ true) ⊎ (spans a n L bs w ≡ false) → Scanned a n L (cond (spans a n L bs w) bs (bs ++ (w ∷ []))) ws
      go (inl e) = subst (λ b. Scanned a n L (cond b bs (bs ++ (w ∷ []))) ws) (sym e)
          (skip a n L bs w ws I (record { coef = coefs a n L bs w; sum = spans_spanned a A n L bs w same h (λ i p. (I.basis i p).over) (I.within w (inl refl)).1 e; inside = λ j p t. tt }))
      go (inr e) = subst (λ b. Scanned a n L (cond b bs (bs ++ (w ∷ []))) ws) (sym e)
          (add a n L bs w ws I (λ s. true≢false (sym (spanned_spans a n L bs w s) ∙ e)))

  basis_short : (w : List ℕ) → Basis a L w → length w < n
  basis_short w b = omega (arith, states_bound A L a (suc (length w)) same (basis_free a L w b))

  start : Scanned a n L [] (words_below a (suc n))
  start = record {
    basis = λ k p. absurd (not-suc-le-zero p);
    ordered = λ k p. absurd (not-suc-le-zero p);
    ahead = λ k p. absurd (not-suc-le-zero p);
    sorted = below_sorted a (suc n);
    within = λ w m. let t = below_sound a (suc n) w m in (omega (arith, t.0), t.1);
    covered = λ u ou p. inr (below_complete a (suc n) u (omega arith) ou);
    all = λ u b. inr (below_complete a (suc n) u (omega (arith, basis_short u b)) b.over);
  }

  scanned : Scanned a n L (basis_words a n L) []
  unfolding basis_words
  scanned = scan [] (words_below a (suc n)) start

  all_basis : AllBasis a L (basis_words a n L)
  all_basis = record { basis = scanned.basis; ordered = λ i k p q. scanned.ordered k q i p; all = λ w b. go w (scanned.all w b) }
    where
      go : (w : List ℕ) → ((k : ℕ) × (k < length (basis_words a n L)) × (get_or (basis_words a n L) k [] ≡ w)) ⊎ Member w [] → (k : ℕ) × (k < length (basis_words a n L)) × (get_or (basis_words a n L) k [] ≡ w)
      go w (inl t) = t
      go w (inr m) = absurd m

  -- The automaton on the basis words is minimal.
  greedy_minimal : Minimal a L (automaton_on a n L (basis_words a n L)) (basis_words a n L)
  greedy_minimal = record {
    words = all_basis;
    size = refl;
    starts = λ k p. refl;
    ends = λ k p. refl;
    rows = λ l k hl hk. spans_spanned a A n L (basis_words a n L) (get_or (basis_words a n L) k [] ++ (l ∷ [])) same h (λ i p. (all_basis.basis i p).over) (over l k hl hk) (spanned_spans a n L (basis_words a n L) (get_or (basis_words a n L) k [] ++ (l ∷ [])) (row l k hl hk));
  }
    where
      over : (l k : ℕ) → l < a → k < length (basis_words a n L) → Over a (get_or (basis_words a n L) k [] ++ (l ∷ []))
      over l k hl hk = over_append a (get_or (basis_words a n L) k []) (l ∷ []) (all_basis.basis k hk).over (hl, tt)

      row : (l k : ℕ) → l < a → k < length (basis_words a n L) → Spanned a L (basis_words a n L) (get_or (basis_words a n L) k [] ++ (l ∷ []))
      row l k hl hk = go (scanned.covered (get_or (basis_words a n L) k [] ++ (l ∷ [])) (over l k hl hk) (omega (arith, length-append (get_or (basis_words a n L) k []) (l ∷ []), basis_short (get_or (basis_words a n L) k []) (all_basis.basis k hk))))
        where
          go : Spanned a L (basis_words a n L) (get_or (basis_words a n L) k [] ++ (l ∷ [])) ⊎ Member (get_or (basis_words a n L) k [] ++ (l ∷ [])) [] → Spanned a L (basis_words a n L) (get_or (basis_words a n L) k [] ++ (l ∷ []))
          go (inl s) = s
          go (inr m) = absurd m

-- The functional minimal automaton is minimal.
pub minimal_of_lem : (a : ℕ) (A : Automaton) → Minimal a (accepts A) (minimal_of a A) (basis_words a A.states (accepts A))
unfolding minimal_of
minimal_of_lem a A = greedy_minimal a A A.states (accepts A) (λ w ow. refl) (omega arith)
