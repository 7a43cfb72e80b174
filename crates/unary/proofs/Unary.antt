-- Words over one letter: there is one of each length, and languages over one letter are told apart by the first length at which they differ.
use mathlib.Core.Path.{◌≡◌, refl, sym, ap, ap₂, subst, ◌∙◌}
use mathlib.Core.Bool.{Bool, true, false, ◌&&◌, and-false}
use mathlib.Core.List.{List, [], ◌∷◌, ◌++◌, append_assoc, append-nil}
use mathlib.Core.Logic.{inl, inr}
use Prim.Native.Nat.{ℕ, zero, suc, ◌+◌, ◌-◌, ◌<◌}
use native.Mathlib.Nat.{not-suc-le-zero}
use native.Mathlib.Numerals.{add-one}
use native.Mathlib.Nat.{add-zero, add-suc}
use native.Mathlib.Decide.{dec_lt}
use native.Mathlib.Omega.{arith}
use lib.ListN.{length, length-append}
use Rattle.automata.specs.Xor.{◌⊕◌, xor_below, comb}
use Rattle.automata.specs.Automaton.{Automaton, accepts}
use Rattle.automata.specs.Word.{Over, Lex, Shortlex}
use Rattle.automata.specs.Row.{reach, accepts_from}
use Rattle.automata.specs.Language.{Same}
use Rattle.automata.specs.FirstDifference.{FirstDifference}
use Rattle.automata.proofs.Xor.{xor_cong, xor_none, xor_zero, xor_matrix}
use Rattle.automata.proofs.Shortlex.{over_append}
use Rattle.automata.proofs.Acceptance.{accepts_append}
use Rattle.automata.proofs.ShortWords.{same_by_short}
use Rattle.unary.specs.Powers.{power}

power_cons : (k : ℕ) → 0 ∷ power k ≡ power (suc k)
power_cons zero = refl
power_cons (suc k) = ap (λ u. u ++ (0 ∷ [])) (power_cons k)

power_add : (i k : ℕ) → power (i + k) ≡ power i ++ power k
power_add i zero = rw add-zero (sym (append-nil (power i)))
power_add i (suc k) = rw add-suc (ap (λ u. u ++ (0 ∷ [])) (power_add i k) ∙ append_assoc (power i) (power k) (0 ∷ []))

power_length : (k : ℕ) → length (power k) ≡ k
power_length zero = refl
power_length (suc k) = length-append (power k) (0 ∷ []) ∙ ap (λ n. n + 1) (power_length k) ∙ add-one k

pub over_power : (k : ℕ) → Over 1 (power k)
over_power zero = tt
over_power (suc k) = over_append 1 (power k) (0 ∷ []) (over_power k) (omega arith, tt)

-- A word over one letter is the word of its length.
pub only_power : (w : List ℕ) → Over 1 w → w ≡ power (length w)
only_power [] o = refl
only_power (l ∷ w) (h, o) =
    let z : l ≡ 0 = omega arith in
    ap₂ ◌∷◌ z (only_power w o) ∙ power_cons (length w)

no_lex : (u v : List ℕ) → Over 1 v → Lex u v → ⊥
no_lex [] v o h = h
no_lex (x ∷ u) [] o h = h
no_lex (x ∷ u) (y ∷ v) (g, o) (inl h) = omega arith
no_lex (x ∷ u) (y ∷ v) (g, o) (inr (e, h)) = no_lex u v o h

before_power : (u : List ℕ) (k : ℕ) → Shortlex u (power k) → length u < k
before_power u k (inl h) = omega (arith, power_length k)
before_power u k (inr (e, h)) = absurd (no_lex u (power k) (over_power k) h)

-- ---- two automata over one letter

module _ (A B : Automaton) where
  -- The first length at which just one of the two accepts.
  pub first_power_lem : (k : ℕ) → accepts A (power k) ⊕ accepts B (power k) ≡ true → ((i : ℕ) → i < k → accepts A (power i) ⊕ accepts B (power i) ≡ false) → FirstDifference 1 (accepts A) (accepts B) (power k)
  first_power_lem k d none = record {
    over = over_power k;
    differs = d;
    first = λ u o h. subst (λ v. accepts A v ≡ accepts B v) (sym (only_power u o)) (xor_zero (none (length u) (before_power u k h)));
  }

  -- It is below the number of states of both.
  pub no_power : ((i : ℕ) → i < A.states + B.states → accepts A (power i) ⊕ accepts B (power i) ≡ false) → Same 1 (accepts A) (accepts B)
  no_power none = same_by_short 1 A B (λ v o h. subst (λ v. accepts A v ≡ accepts B v) (sym (only_power v o)) (xor_zero (none (length v) h)))

-- ---- a row that is an xor of those before it

-- The row of d letters is an xor of those of fewer, and no word of fewer is accepted.
module _ (A : Automaton) (d : ℕ) (c : ℕ → Bool) (again : (j : ℕ) → j < A.states → reach A A.initial (power d) j ≡ comb d c (λ i. reach A A.initial (power i)) j) (none : (i : ℕ) → i < d → accepts A (power i) ≡ false) where
  -- So is the row of any longer word, each as many letters further on.
  later : (i : ℕ) → accepts A (power d ++ power i) ≡ xor_below d (λ r. c r && accepts A (power r ++ power i))
  later i =
      accepts_append A (power d) (power i) ∙ xor_cong A.states (λ j h. ap (λ b. b && accepts_from A (power i) j) (again j h))
      ∙ sym (xor_matrix d A.states c (λ r. reach A A.initial (power r)) (accepts_from A (power i)))
      ∙ xor_cong d (λ r h. ap (λ b. c r && b) (sym (accepts_append A (power r) (power i))))

  -- By induction on a bound f on the length.
  upto : (f i : ℕ) → i < f → accepts A (power i) ≡ false
  upto zero i h = absurd (not-suc-le-zero h)
  upto (suc f) i h = go (dec_lt i d) (upto f)
    where
      go : Dec (i < d) → ((j : ℕ) → j < f → accepts A (power j) ≡ false) → accepts A (power i) ≡ false
      go (yes g) ih = none i g
      go (no g) ih =
          let e : i ≡ d + (i - d) = omega arith in
          ap (λ n. accepts A (power n)) e ∙ ap (accepts A) (power_add d (i - d)) ∙ later (i - d)
          ∙ xor_none d (λ r q. ap (λ b. c r && b) (ap (accepts A) (sym (power_add r (i - d))) ∙ ih (r + (i - d)) (omega arith)) ∙ and-false (c r))

  pub no_more : (i : ℕ) → accepts A (power i) ≡ false
  no_more i = upto (suc i) i (omega arith)
