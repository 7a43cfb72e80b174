-- Testing a word: the row reached along it, and what the test answers.
use mathlib.Core.Path.{◌≡◌, refl, sym, ap, ◌∙◌}
use mathlib.Core.Bool.{Bool, true, false, ◌&&◌, cond, and-true, and-false}
use mathlib.Core.Logic.{◌⊎◌, inl, inr}
use mathlib.Core.List.{List, [], ◌∷◌, ◌++◌}
use Prim.Native.Nat.{ℕ, ◌<◌}
use native.Mathlib.Omega.{arith}
use borrow.Author.Tests.{ltb-true}
use lib.Dec.{ltb}
use lib.Pow.{pow_pos}
use Rattle.automata.specs.Xor.{xor_below}
use Rattle.automata.specs.Automaton.{Automaton, accepts}
use Rattle.automata.specs.Word.{Over, is_over}
use Rattle.automata.specs.Language.{restriction}
use Rattle.automata.specs.Mask.{bit_of}
use Rattle.automata.specs.Row.{reach}
use Rattle.automata.proofs.Xor.{bool_cases, xor_cong, xor_none}
use Rattle.automata.proofs.Acceptance.{reach_append, reach_none, accepts_reach}
use Rattle.automata.proofs.Minimal.{bits_language}
use Rattle.automata.proofs.Restriction.{is_over_append, restriction_over, restriction_parts, restriction_foreign, restriction_same}
use Rattle.rows.specs.declared.Machine.{Machine}
use Rattle.rows.specs.declared.Row.{Row}
use Rattle.rows.specs.Row.{mask}
use Rattle.rows.specs.Table.{at}
use Rattle.rows.specs.Product.{product}
use Rattle.rows.specs.Machine.{automaton_in, Valid}
use Rattle.rows.proofs.BitLaws.{bit_none}
use Rattle.rows.proofs.ProductLaws.{bit_product, product_lt}
use Rattle.std.specs.Prelude.{Ok, Err}
use Rattle.record.specs.declared.Refusal.{Refusal}
use Rattle.record.specs.Rules.{Check, refusal_of}
use Rattle.record.proofs.Refusals.{same_error}
use Rattle.record.specs.Record.{letters_of, check_of, WellFormed, automaton_of, language_of, record_accepts}
use Rattle.record.specs.Held.{Holds}
use Rattle.record.proofs.Held.{bits_held}
use Rattle.testing.specs.Testing.{Tested, tested_of, test_of, Tests, Reached}

-- ---- the row reached

module _ (t : List ℕ) (m : Machine) (valid : Valid t m) where
  abbrev A : Automaton
  A = automaton_in t m

  abbrev a : ℕ
  a = m.letters

  pub reached_start : Reached t m [] m.initial
  reached_start = record { below = valid.initial; bits = λ j h. refl }

  -- One letter more, whatever letter it is.
  pub reached_letter : (u : List ℕ) (l : ℕ) (x y : Row) → Reached t m u x → mask y ≡ cond (ltb l a) (product m.states (mask x) (at t l)) 0 → Reached t m (u ++ (l ∷ [])) y
  reached_letter u l x y r e = go (bool_cases (ltb l a))
    where
      over : (b : Bool) → ltb l a ≡ b → is_over a (u ++ (l ∷ [])) ≡ is_over a u && b
      over b h = is_over_append a u (l ∷ []) ∙ ap (λ c. is_over a u && c) (and-true (ltb l a) ∙ h)

      sums : (j : ℕ) → (is_over a u ≡ true) ⊎ (is_over a u ≡ false)
          → xor_below m.states (λ i. (is_over a u && reach A A.initial u i) && bit_of (at t l i) j) ≡ (is_over a u && true) && reach A A.initial (u ++ (l ∷ [])) j
      sums j (inl h) = rw h (ap (λ f. f j) (sym (reach_append A A.initial u (l ∷ []))))
      sums j (inr h) = rw h (xor_none m.states (λ i p. refl))

      go : (ltb l a ≡ true) ⊎ (ltb l a ≡ false) → Reached t m (u ++ (l ∷ [])) y
      go (inl h) =
          let own : mask y ≡ product m.states (mask x) (at t l) = e ∙ rw h in
          record {
            below = rw own (product_lt m.states m.states (mask x) (at t l) (λ i p. valid.rows l i (ltb-true l a h) p));
            bits = λ j p.
                rw (own, over true h)
                (bit_product m.states (mask x) (at t l) j
                ∙ xor_cong m.states (λ i q. ap (λ b. b && bit_of (at t l i) j) (r.bits i q))
                ∙ sums j (bool_cases (is_over a u)));
          }
      go (inr h) =
          let none : mask y ≡ 0 = e ∙ rw h in
          record {
            below = rw none (pow_pos m.states);
            bits = λ j p. rw (none, over false h, and-false (is_over a u)) (bit_none j);
          }

  -- Where no state is reached, none is reached by what comes after.
  pub reached_none : (u v : List ℕ) (x : Row) → Reached t m u x → mask x ≡ 0 → Reached t m (u ++ v) x
  reached_none u v x r none = record {
    below = r.below;
    bits = λ j p. rw none (bit_none j ∙ sym (rw (is_over_append a u v, reach_append A A.initial u v) (go j p (bool_cases (is_over a u)))));
  }
    where
      go : (j : ℕ) → j < m.states → (is_over a u ≡ true) ⊎ (is_over a u ≡ false) → (is_over a u && is_over a v) && reach A (reach A A.initial u) v j ≡ false
      go j p (inl h) =
          let zero : (i : ℕ) → i < m.states → reach A A.initial u i ≡ false = λ i q. sym (r.bits i q ∙ rw h) ∙ ap (λ z. bit_of z i) none ∙ bit_none i in
          rw (reach_none A (reach A A.initial u) zero v j p) (and-false (is_over a u && is_over a v))
      go j p (inr h) = rw h

  -- An odd number of states is both reached and final exactly when the word is accepted.
  pub reached_accepts : (w : List ℕ) (x : Row) → Reached t m w x → xor_below m.states (λ j. bit_of (mask x) j && bit_of (mask m.finals) j) ≡ restriction a (accepts A) w
  reached_accepts w x r =
      xor_cong m.states (λ j p. ap (λ b. b && bit_of (mask m.finals) j) (r.bits j p)) ∙ go (bool_cases (is_over a w))
    where
      go : (is_over a w ≡ true) ⊎ (is_over a w ≡ false) → xor_below m.states (λ j. (is_over a w && reach A A.initial w j) && bit_of (mask m.finals) j) ≡ restriction a (accepts A) w
      go (inl e) = rw e (sym (accepts_reach A w))
      go (inr e) = rw e (xor_none m.states (λ j p. refl))

-- ---- the test

told_tested : (c : Check) (accepted : Bool) {r : Refusal} → Err r ≡ refusal_of c 1 → tested_of c accepted ≡ Err r
told_tested (Ok u) accepted e = let z : ◌≡◌ {A = ℕ} 0 1 = cc in absurd (omega arith)
told_tested (Err f) accepted e = ap Err (sym (same_error e))

module _ (bs w : List ℕ) where
  pub test_refused : {r : Refusal} → Err r ≡ refusal_of (check_of bs) 1 → test_of bs w ≡ Err r
  unfolding test_of
  test_refused e = told_tested (check_of bs) (record_accepts bs w) e

  -- The machine that holds the record says whether the word is accepted.
  pub test_answer : WellFormed bs → (t : List ℕ) (m : Machine) → Holds bs t m → (b : Bool) → restriction m.letters (accepts (automaton_in t m)) w ≡ b → test_of bs w ≡ Ok b
  unfolding test_of
  test_answer good t m h b q =
      let same : record_accepts bs w ≡ b =
      sym (restriction_same (letters_of bs) (accepts (automaton_in t m)) (language_of bs) (bits_language (letters_of bs) (automaton_in t m) (automaton_of bs) (bits_held bs t m h)) w)
      ∙ ap (λ k. restriction k (accepts (automaton_in t m)) w) (sym h.letters) ∙ q in
      rw (good, same)

  -- What is claimed follows from the answer.
  pub tests : (r : Tested) → r ≡ test_of bs w → Tests bs w r
  unfolding test_of
  tests r e = record {
    accepts = λ good o h. e ∙ rw (good, restriction_over (letters_of bs) (language_of bs) w o, h);
    accepted = λ h. go (check_of bs) refl (record_accepts bs w) refl (sym e ∙ h);
    foreign = λ good u l v q h. e ∙ rw (good, q, restriction_foreign (letters_of bs) (language_of bs) u l v h);
  }
    where
      go : (c : Check) → check_of bs ≡ c → (b : Bool) → record_accepts bs w ≡ b → tested_of c b ≡ Ok true → WellFormed bs × Over (letters_of bs) w × (language_of bs w ≡ true)
      go (Ok u) good true h q = let p = restriction_parts (letters_of bs) (language_of bs) w h in (good, p.0, p.1)
      go (Ok u) good false h q = let z : ◌≡◌ {A = ℕ} 0 1 = cc in absurd (omega arith)
      go (Err f) bad b h q = let z : ◌≡◌ {A = ℕ} 0 1 = cc in absurd (omega arith)
