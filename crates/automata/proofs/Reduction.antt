-- The reduction of an automaton: the first word accepted is among those of the rows found, and where the automaton is observable on these
-- the result is minimal.
use mathlib.Core.Path.{◌≡◌, refl, sym, ap, subst, ◌∙◌}
use mathlib.Core.Bool.{true, false, ◌&&◌, and-false}
use mathlib.Core.Logic.{◌⊎◌, inl, inr}
use mathlib.Core.List.{List, [], ◌∷◌, ◌++◌, append-nil}
use Prim.Native.Nat.{ℕ, ◌<◌}
use native.Mathlib.Decide.{ℕ_discrete, dec_lt}
use native.Mathlib.Omega.{arith}
use lib.ListN.{length, get_or}
use Rattle.automata.specs.Xor.{xor_below, comb}
use Rattle.automata.specs.Automaton.{Automaton, accepts}
use Rattle.automata.specs.Word.{Over, Shortlex, NotAfter}
use Rattle.automata.specs.Minimal.{Minimal}
use Rattle.automata.specs.Row.{accepts_from, reach}
use Rattle.automata.specs.Reduction.{row_of, ObservableOn, Reduced}
use Rattle.automata.proofs.Xor.{bool_cases, xor_cong, xor_none}
use Rattle.automata.proofs.Shortlex.{shortlex_irrefl, shortlex_trans}
use Rattle.automata.proofs.Acceptance.{reach_append, from_nil, accepts_row, accepts_append}
use Rattle.automata.proofs.ShortWords.{row_linear}
use Rattle.automata.proofs.Certificate.{not_after_before, Reached, reached, Tableau, Certificate, certified}

module _ (a : ℕ) (A B : Automaton) (bs : List (List ℕ)) (R : Reduced a A B bs) where
  pub tableau : Tableau a (accepts A) B bs
  tableau = record {
    over = R.spanning.over;
    ordered = R.ordered;
    first = R.spanning.first;
    empty = λ e v ov. accepts_row A v ∙ xor_none A.states (λ i p. ap (λ b. b && accepts_from A v i) (R.spanning.empty e i p));
    size = R.spanning.size;
    starts = R.spanning.starts;
    ends = λ k p. R.spanning.ends k p ∙ xor_cong A.states (λ j q. ap (λ b. row_of A bs k j && b) (sym (from_nil A j))) ∙ sym (accepts_append A (get_or bs k []) []) ∙ ap (accepts A) (append-nil (get_or bs k []));
    rows = λ l k hl hk v ov.
        accepts_append A (get_or bs k [] ++ (l ∷ [])) v
        ∙ row_linear A (reach A A.initial (get_or bs k [] ++ (l ∷ []))) (length bs) (B.step l k) (row_of A bs) (λ j p. ap (λ r. r j) (reach_append A A.initial (get_or bs k []) (l ∷ [])) ∙ R.spanning.rows l k hl hk j p) v
        ∙ xor_cong (length bs) (λ i p. ap (λ b. B.step l k i && b) (sym (accepts_append A (get_or bs i []) v)));
    causal = R.causal;
  }

  -- The word w is accepted as an xor of words of bs that are not later.
  at_end_lem : (w : List ℕ) (s : Reached a (accepts A) bs w) → accepts A w ≡ xor_below (length bs) (λ j. s.coef j && accepts A (get_or bs j []))
  at_end_lem w s = ap (accepts A) (sym (append-nil w)) ∙ s.sum [] tt ∙ xor_cong (length bs) (λ j p. ap (λ u. s.coef j && accepts A u) (append-nil (get_or bs j [])))

  -- No word of bs accepted: no word accepted.
  pub none_accepted : ((k : ℕ) → k < length bs → accepts A (get_or bs k []) ≡ false) → (w : List ℕ) → Over a w → accepts A w ≡ false
  none_accepted h w ow =
      let s = reached a (accepts A) B bs tableau w ow in
      at_end_lem w s ∙ xor_none (length bs) (λ j p. ap (λ b. s.coef j && b) (h j p) ∙ and-false (s.coef j))

  -- The first word of bs that is accepted is the first word accepted.
  pub first_accepted_lem : (k : ℕ) → k < length bs → ((i : ℕ) → i < k → accepts A (get_or bs i []) ≡ false) → (u : List ℕ) → Over a u → Shortlex u (get_or bs k []) → accepts A u ≡ false
  first_accepted_lem k hk h u ou e = go (reached a (accepts A) B bs tableau u ou)
    where
      before : (j : ℕ) → j < length bs → NotAfter (get_or bs j []) u → Dec (j < k) → Dec (j ≡ k) → j < k
      before j p n (yes q) r = q
      before j p n (no q) (yes r) = absurd (shortlex_irrefl (get_or bs k []) (subst (λ i. Shortlex (get_or bs i []) (get_or bs k [])) r (not_after_before (get_or bs j []) u (get_or bs k []) n e)))
      before j p n (no q) (no r) = absurd (shortlex_irrefl (get_or bs j []) (shortlex_trans (get_or bs j []) (get_or bs k []) (get_or bs j []) (not_after_before (get_or bs j []) u (get_or bs k []) n e) (R.ordered k j (omega (arith, r)) p)))

      go : Reached a (accepts A) bs u → accepts A u ≡ false
      go s = at_end_lem u s ∙ xor_none (length bs) (λ j p. part j p (bool_cases (s.coef j)))
        where
          part : (j : ℕ) → j < length bs → (s.coef j ≡ true) ⊎ (s.coef j ≡ false) → s.coef j && accepts A (get_or bs j []) ≡ false
          part j p (inl t) = ap (λ b. s.coef j && b) (h j (before j p (s.inside j p t) (dec_lt j k) (ℕ_discrete j k))) ∙ and-false (s.coef j)
          part j p (inr t) = ap (λ b. b && accepts A (get_or bs j [])) t

module _ (a : ℕ) (A B : Automaton) (bs : List (List ℕ)) (O : ObservableOn a A bs) (R : Reduced a A B bs) where
  certificate : Certificate a (accepts A) B bs
  certificate = record {
    tableau = tableau a A B bs R;
    independent = λ c z. R.spanning.independent c (O c (λ v ov.
        row_linear A (comb (length bs) c (row_of A bs)) (length bs) c (row_of A bs) (λ j p. refl) v
        ∙ xor_cong (length bs) (λ i p. ap (λ b. c i && b) (sym (accepts_append A (get_or bs i []) v)))
        ∙ z v ov));
  }

  -- Reducing an automaton that is observable on the rows found gives the minimal one.
  pub reduced_minimal : Minimal a (accepts A) B bs
  reduced_minimal = certified a (accepts A) B bs certificate
