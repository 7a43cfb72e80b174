-- Short words decide: a row of k states that accepts a word accepts one shorter than k.
use mathlib.Core.Path.{◌≡◌, refl, sym, ap, ap₂, ◌∙◌}
use mathlib.Core.Bool.{Bool, true, false, ◌&&◌, true≢false, false≢true}
use mathlib.Core.Logic.{◌⊎◌, inl, inr}
use mathlib.Core.List.{List, ◌++◌}
use Prim.Native.Nat.{ℕ, zero, suc, ◌+◌, ◌<◌, ◌≤◌}
use native.Mathlib.Nat.{not-suc-le-zero}
use native.Mathlib.Decide.{dec_lt}
use native.Mathlib.Omega.{arith}
use lib.Arith.{lt_of_le-ne}
use lib.ListN.{length, take, drop, length-append, take-append-drop, length-drop}
use lib.Seq.{length-take-le}
use Rattle.automata.specs.Xor.{◌⊕◌, xor_below, comb}
use Rattle.automata.specs.Automaton.{Automaton, accepts}
use Rattle.automata.specs.Language.{Language, quotient, Same, symmetric_difference}
use Rattle.automata.specs.Word.{Over}
use Rattle.automata.specs.Dimension.{Dependent, quotients, Free}
use Rattle.automata.specs.Row.{accepts_from, row_accepts, reach}
use Rattle.automata.specs.Operations.{sum_of}
use Rattle.automata.proofs.Xor.{bool_cases, xor_cong, xor_zero, xor_false, xor_self, xor_coef, xor_matrix}
use Rattle.automata.proofs.Shortlex.{over_append, over_take, over_drop}
use Rattle.automata.proofs.Dependence.{dependent}
use Rattle.automata.proofs.Span.{and_parts, some_member}
use Rattle.automata.proofs.Acceptance.{row_append, accepts_row, accepts_append, states_bound}
use Rattle.automata.proofs.Operations.{accepts_sum}

-- Member p is the xor of members before it.
pub record Repeats {X : Type 0} (P : X → Type 0) (m : ℕ) (f : ℕ → X → Bool) : Type 0 where
  pub place : ℕ
  pub below : place < m
  pub coef : ℕ → Bool
  pub sum : (x : X) → P x → f place x ≡ comb place coef f x

-- In a dependent family some member is the xor of members before it.
repeats : {X : Type 0} {P : X → Type 0} {m : ℕ} {f : ℕ → X → Bool} → Dependent P m f → Repeats P m f
repeats {X} {P} {m} {f} d = go m d.place d.below d.used d.cancels
  where
    c : ℕ → Bool
    c = d.coef

    go : (m i : ℕ) → i < m → c i ≡ true → ((x : X) → P x → comb m c f x ≡ false) → Repeats P m f
    go zero i h e z = absurd (not-suc-le-zero h)
    go (suc m) i h e z = cases (bool_cases (c m)) (λ g y. go m i g e y)
      where
        cases : (c m ≡ true) ⊎ (c m ≡ false) → (i < m → ((x : X) → P x → comb m c f x ≡ false) → Repeats P m f) → Repeats P (suc m) f
        cases (inl q) ih = record { place = m; below = omega arith; coef = c; sum = λ x px. sym (xor_zero (ap (λ b. comb m c f x ⊕ (b && f m x)) (sym q) ∙ z x px)) }
        cases (inr q) ih =
            let r : Repeats P m f = ih (lt_of_le-ne (omega arith) (λ s. true≢false (sym e ∙ ap c s ∙ q))) (λ x px. sym (xor_false (comb m c f x)) ∙ ap (λ b. comb m c f x ⊕ (b && f m x)) (sym q) ∙ z x px) in
            record { place = r.place; below = omega (arith, r.below); coef = r.coef; sum = r.sum }

-- Linearity: a row that is an xor of rows below the states accepts the xor of what they accept.
pub row_linear : (A : Automaton) (r : ℕ → Bool) (m : ℕ) (c : ℕ → Bool) (f : ℕ → ℕ → Bool) → ((j : ℕ) → j < A.states → r j ≡ comb m c f j)
    → (v : List ℕ) → row_accepts A r v ≡ xor_below m (λ i. c i && row_accepts A (f i) v)
row_linear A r m c f h v = xor_cong A.states (λ j p. ap (λ b. b && accepts_from A v j) (h j p)) ∙ sym (xor_matrix m A.states c f (accepts_from A v))

-- A member of an xor that comes to true.
some_true : (m : ℕ) (c f : ℕ → Bool) → xor_below m (λ i. c i && f i) ≡ true → (i : ℕ) × (i < m) × (f i ≡ true)
some_true m c f e = let t = some_member m (λ i. c i && f i) e in (t.0, t.1, (and_parts (c t.0) (f t.0) t.2).1)

-- A word over a letters, accepted from the row r, shorter than k.
pub record ShortWord (a : ℕ) (L : Language) (k : ℕ) : Type 0 where
  pub word : List ℕ
  pub over : Over a word
  pub short : length word < k
  pub member : L word ≡ true

-- A word at least as long as there are states has a shorter one beside it.
shorten : (a : ℕ) (A : Automaton) (r : ℕ → Bool) (w : List ℕ) → Over a w → A.states ≤ length w → row_accepts A r w ≡ true → ShortWord a (row_accepts A r) (length w)
shorten a A r w ow h e = go (repeats (dependent A.states (suc A.states) (omega arith) (λ i. reach A r (take i w))))
  where
    f : ℕ → ℕ → Bool
    f i = reach A r (take i w)

    at : (p : ℕ) → row_accepts A (f p) (drop p w) ≡ true
    at p = sym (row_append A r (take p w) (drop p w)) ∙ ap (row_accepts A r) (take-append-drop p w) ∙ e

    short : (p i : ℕ) → p < suc A.states → i < p → row_accepts A (f i) (drop p w) ≡ true → ShortWord a (row_accepts A r) (length w)
    short p i hp hi q = record {
      word = take i w ++ drop p w;
      over = over_append a (take i w) (drop p w) (over_take a i w ow) (over_drop a p w ow);
      short = omega (arith, length-append (take i w) (drop p w), length-take-le i w (omega arith), length-drop p w);
      member = row_append A r (take i w) (drop p w) ∙ q;
    }

    go : Repeats (λ j. j < A.states) (suc A.states) f → ShortWord a (row_accepts A r) (length w)
    go p =
        let t = some_true p.place p.coef (λ i. row_accepts A (f i) (drop p.place w)) (sym (row_linear A (f p.place) p.place p.coef f p.sum (drop p.place w)) ∙ at p.place) in
        short p.place t.0 p.below t.1 t.2

-- A row of k states that accepts a word accepts one shorter than k.
short_row : (a : ℕ) (A : Automaton) (r : ℕ → Bool) (w : List ℕ) → Over a w → row_accepts A r w ≡ true → ShortWord a (row_accepts A r) A.states
short_row a A r w ow e = go (suc (length w)) w ow (omega arith) e
  where
    go : (fuel : ℕ) (w : List ℕ) → Over a w → length w < fuel → row_accepts A r w ≡ true → ShortWord a (row_accepts A r) A.states
    go zero w ow h e = absurd (not-suc-le-zero h)
    go (suc fuel) w ow h e = cases (dec_lt (length w) A.states) (λ s. go fuel s.word s.over (omega (arith, s.short)) s.member)
      where
        cases : Dec (length w < A.states) → (ShortWord a (row_accepts A r) (length w) → ShortWord a (row_accepts A r) A.states) → ShortWord a (row_accepts A r) A.states
        cases (yes q) ih = record { word = w; over = ow; short = q; member = e }
        cases (no q) ih = ih (shorten a A r w ow (omega arith) e)

-- A row that accepts no word shorter than the number of states accepts none.
pub short_zero : (a : ℕ) (A : Automaton) (r : ℕ → Bool) → ((v : List ℕ) → Over a v → length v < A.states → row_accepts A r v ≡ false) → (v : List ℕ) → Over a v → row_accepts A r v ≡ false
short_zero a A r h v ov = go (bool_cases (row_accepts A r v))
  where
    go : (row_accepts A r v ≡ true) ⊎ (row_accepts A r v ≡ false) → row_accepts A r v ≡ false
    go (inr e) = e
    go (inl e) = let s = short_row a A r v ov e in absurd (false≢true (sym (h s.word s.over s.short) ∙ s.member))

-- ---- quotients of an automaton's language are rows

module _ (a : ℕ) (A : Automaton) (L : Language) (same : Same a L (accepts A)) where
  row : List ℕ → ℕ → Bool
  row u = reach A A.initial u

  quotient_row : (u v : List ℕ) → Over a u → Over a v → L (u ++ v) ≡ row_accepts A (row u) v
  unfolding row
  quotient_row u v ou ov = same (u ++ v) (over_append a u v ou ov) ∙ accepts_append A u v

  -- The row of w with the chosen rows of u.
  test_row : List ℕ → ℕ → (ℕ → Bool) → (ℕ → List ℕ) → ℕ → Bool
  test_row w m c u j = row w j ⊕ comb m c (λ i. row (u i)) j

  test_value : (w : List ℕ) (m : ℕ) (c : ℕ → Bool) (u : ℕ → List ℕ) → Over a w → ((i : ℕ) → i < m → Over a (u i)) → (v : List ℕ) → Over a v
      → row_accepts A (test_row w m c u) v ≡ L (w ++ v) ⊕ comb m c (quotients L u) v
  unfolding test_row
  test_value w m c u ow ou v ov =
      xor_coef A.states (row w) (comb m c (λ i. row (u i))) (accepts_from A v)
      ∙ ap₂ ◌⊕◌ (sym (quotient_row w v ow ov))
      (row_linear A (comb m c (λ i. row (u i))) m c (λ i. row (u i)) (λ j p. refl) v ∙ xor_cong m (λ i p. ap (λ b. c i && b) (sym (quotient_row (u i) v (ou i p) ov))))

  -- An equation between quotients that holds on all words shorter than the number of states holds on all words.
  pub short_test : (w : List ℕ) (m : ℕ) (c : ℕ → Bool) (u : ℕ → List ℕ) → Over a w → ((i : ℕ) → i < m → Over a (u i))
      → ((v : List ℕ) → Over a v → length v < A.states → L (w ++ v) ≡ comb m c (quotients L u) v)
      → Same a (quotient L w) (comb m c (quotients L u))
  short_test w m c u ow ou h v ov =
      xor_zero
      (sym (test_value w m c u ow ou v ov)
      ∙ short_zero a A (test_row w m c u)
      (λ x ox sx. test_value w m c u ow ou x ox ∙ ap (λ b. b ⊕ comb m c (quotients L u) x) (h x ox sx) ∙ xor_self (comb m c (quotients L u) x)) v ov)

-- ---- two automata

module _ (a : ℕ) (A B : Automaton) where
  difference_sum : Same a (symmetric_difference (accepts A) (accepts B)) (accepts (sum_of A B))
  difference_sum w ow = sym (accepts_sum A B w)

  -- Two automata that agree on all words shorter than their states together have the same language.
  pub same_by_short : ((v : List ℕ) → Over a v → length v < A.states + B.states → accepts A v ≡ accepts B v) → Same a (accepts A) (accepts B)
  same_by_short h w ow =
      xor_zero
      (difference_sum w ow ∙ accepts_row (sum_of A B) w
      ∙ short_zero a (sum_of A B) (sum_of A B).initial
      (λ v ov sv. sym (accepts_row (sum_of A B) v) ∙ accepts_sum A B v ∙ ap (λ b. b ⊕ accepts B v) (h v ov sv) ∙ xor_self (accepts B v)) w ow)

  -- The quotients of the difference are no more than the states together.
  pub difference_bound : (m : ℕ) → Free a (symmetric_difference (accepts A) (accepts B)) m → m ≤ A.states + B.states
  difference_bound m r = states_bound (sum_of A B) (symmetric_difference (accepts A) (accepts B)) a m difference_sum r
