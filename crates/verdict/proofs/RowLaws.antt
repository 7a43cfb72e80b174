-- The rows that words lead to in two records side by side: whether just one record accepts a word is read off its row.
use mathlib.Core.Path.{◌≡◌, sym, ap, ap₂, subst, ◌∙◌}
use mathlib.Core.Bool.{true, ◌&&◌, and_comm, and-false}
use mathlib.Core.List.{List, [], ◌∷◌, ◌++◌}
use mathlib.Core.Logic.{inl, inr}
use mathlib.Core.Option.{none}
use Prim.Native.Nat.{ℕ, ◌+◌, ◌^◌, ◌<◌, ◌≤◌}
use native.Mathlib.Nat.{not-suc-le-zero}
use native.Mathlib.Omega.{arith}
use Rattle.automata.specs.Xor.{◌⊕◌, xor_below}
use Rattle.automata.specs.Automaton.{Automaton, accepts}
use Rattle.automata.specs.Mask.{bit_of}
use Rattle.automata.specs.Word.{Shortlex}
use Rattle.automata.specs.Row.{reach, accepts_from}
use Rattle.automata.specs.Minimal.{SameBits}
use Rattle.automata.specs.FirstDifference.{first_difference}
use Rattle.automata.proofs.Xor.{xor_cong, xor_none, xor_zero}
use Rattle.automata.proofs.Acceptance.{accepts_row, accepts_reach, reach_append, reach_cong}
use Rattle.automata.proofs.Operations.{initial_low, reach_low, accepts_sum}
use Rattle.automata.proofs.FirstDifference.{none_difference, some_difference}
use Rattle.rows.specs.declared.Machine.{Machine}
use Rattle.rows.specs.Row.{mask}
use Rattle.rows.specs.Table.{blocks}
use Rattle.rows.specs.Product.{product}
use Rattle.rows.specs.Machine.{auto_by}
use Rattle.rows.proofs.BitLaws.{bit_none}
use Rattle.rows.proofs.ProductLaws.{bit_product, product_lt}
use Rattle.trail.specs.declared.Step.{Step}
use Rattle.record.specs.Bytes.{number}
use Rattle.record.specs.Record.{row_bytes, final_at, states_of, letters_of, WellFormed, automaton_of}
use Rattle.hunt.specs.Both.{beside_of, Paired}
use Rattle.hunt.specs.Hunt.{shared}
use Rattle.hunt.proofs.BothLaws.{field_below, paired_sizes, paired_rows, paired_initial, paired_bits}
use Rattle.verdict.specs.Rows.{both_of, RowOf}
use Rattle.verdict.specs.declared.Side.{Side}
use Rattle.verdict.specs.Side.{side_of}
use Rattle.verdict.specs.Judged.{Found}

-- The first record's final column g against a row y.
pub side_told : (bs : List ℕ) → WellFormed bs → (g y : ℕ) (s : Side) → g ≡ number row_bytes bs final_at → ((n : ℕ) → g < 2 ^ n → s ≡ side_of (shared n g y)) → s ≡ side_of (shared (states_of bs) (number row_bytes bs final_at) y)
side_told bs good g y s e h = h (states_of bs) (subst (λ x. x < 2 ^ states_of bs) (sym e) (field_below bs good).1) ∙ ap (λ x. side_of (shared (states_of bs) x y)) e

module _ (bs cs : List ℕ) (m : Machine) (P : Paired bs cs m) where
  abbrev A : Automaton
  A = automaton_of bs

  abbrev B : Automaton
  B = automaton_of cs

  abbrev S : Automaton
  S = both_of bs cs

  abbrev N : ℕ
  N = states_of bs + states_of cs

  pub same : SameBits m.letters (auto_by (beside_of bs cs) m.states (mask m.initial) (mask m.finals)) S
  same = paired_bits bs cs m P

  pub row_start : RowOf bs cs [] (mask m.initial)
  row_start = record {
    bits = λ j h. same.initial j (omega (arith, P.states));
    below = subst (λ n. mask m.initial < 2 ^ n) P.states (paired_initial bs cs m P);
  }

  -- One letter more: the row times the letter's matrix.
  pub row_next : (u : List ℕ) (x l y : ℕ) → RowOf bs cs u x → l < m.letters → y ≡ product N x (beside_of bs cs l) → RowOf bs cs (u ++ (l ∷ [])) y
  row_next u x l y R h e = record {
    bits = λ j g. ap (λ v. bit_of v j) e ∙ bit_product N x (beside_of bs cs l) j
        ∙ xor_cong N (λ i f. ap₂ ◌&&◌ (R.bits i f) (same.step l i j h (omega (arith, P.states)) (omega (arith, P.states))))
        ∙ sym (ap (λ r. r j) (reach_append S S.initial u (l ∷ [])));
    below = subst (λ v. v < 2 ^ N) (sym e) (product_lt N N x (beside_of bs cs l) (λ i g. subst (λ n. beside_of bs cs l i < 2 ^ n) P.states (paired_rows bs cs m P l i h (omega (arith, P.states)))));
  }

  pub row_below : (u : List ℕ) (x : ℕ) → RowOf bs cs u x → x < 2 ^ m.states
  row_below u x R = subst (λ n. x < 2 ^ n) (sym P.states) R.below

  -- Just one accepts a word whose row shares an odd number of bits with the final column.
  pub row_differs : (u : List ℕ) (x : ℕ) → RowOf bs cs u x → accepts A u ⊕ accepts B u ≡ shared m.states x (mask m.finals)
  row_differs u x R =
      sym (accepts_sum A B u) ∙ accepts_reach S u ∙ ap (λ n. xor_below n (λ j. reach S S.initial u j && S.final j)) (sym P.states)
      ∙ xor_cong m.states (λ j h. ap₂ ◌&&◌ (sym (R.bits j (omega (arith, P.states)))) (sym (same.final j h)))

  -- The first record accepts it by the row's bits on its own states.
  pub row_first : (u : List ℕ) (x : ℕ) → RowOf bs cs u x → shared (states_of bs) (number row_bytes bs final_at) x ≡ accepts A u
  row_first u x R = xor_cong (states_of bs) (λ j g. and_comm (bit_of (number row_bytes bs final_at) j) (bit_of x j) ∙ ap (λ b. b && bit_of (number row_bytes bs final_at) j) (own j g)) ∙ sym (accepts_reach A u)
    where
      own : (j : ℕ) → j < states_of bs → bit_of x j ≡ reach A A.initial u j
      own j g = R.bits j (omega arith) ∙ reach_low A B S.initial u j g ∙ reach_cong A S.initial A.initial (initial_low A B) u j g

  -- The empty word tells the two apart.
  pub judged_empty : (w : List Step) (s : Side) → s ≡ side_of (shared (states_of bs) (number row_bytes bs final_at) (mask m.initial)) → shared m.states (mask m.initial) (mask m.finals) ≡ true → Found (letters_of bs) A B w 0 s
  judged_empty w s e z = record {
    word = some_difference (letters_of bs) A B [] (record { over = tt; differs = row_differs [] (mask m.initial) row_start ∙ z; first = λ u o h. absurd (none_before u h) });
    side = e ∙ ap side_of (row_first [] (mask m.initial) row_start);
    traced = record {
      small = omega arith;
      letters = subst (λ x. x ≤ blocks) P.letters (paired_sizes bs cs m P).2;
      parent = λ q p h. absurd (omega arith);
      letter = λ q p h. absurd (omega arith);
      word = λ q p h. absurd (omega arith);
    };
  }
    where
      none_before : (u : List ℕ) → Shortlex u [] → ⊥
      none_before u (inl h) = not-suc-le-zero h
      none_before [] (inr (h, g)) = g
      none_before (x ∷ u) (inr (h, g)) = absurd (omega arith)

  -- No state is initial.
  pub none_initial : mask m.initial ≡ 0 → first_difference (letters_of bs) A B ≡ none
  none_initial z = none_difference (letters_of bs) A B (λ u o. xor_zero (sym (accepts_sum A B u) ∙ accepts_row S u ∙ xor_none N (λ j h. ap (λ b. b && accepts_from S u j) (sym (same.initial j (omega (arith, P.states))) ∙ ap (λ x. bit_of x j) z ∙ bit_none j))))

  -- No state is final.
  pub none_final : mask m.finals ≡ 0 → first_difference (letters_of bs) A B ≡ none
  none_final z = none_difference (letters_of bs) A B (λ u o. xor_zero (sym (accepts_sum A B u) ∙ accepts_reach S u ∙ xor_none N (λ j h. ap (λ b. reach S S.initial u j && b) (sym (same.final j (omega (arith, P.states))) ∙ ap (λ x. bit_of x j) z ∙ bit_none j) ∙ and-false (reach S S.initial u j))))
