-- The rows over one letter of two records side by side, one letter after another.
use mathlib.Core.Path.{◌≡◌, refl, sym, ap, ap₂, subst, ◌∙◌}
use mathlib.Core.Bool.{Bool, true, false, cond}
use mathlib.Core.List.{List, [], ◌∷◌, ◌++◌}
use mathlib.Core.Option.{none, some}
use Prim.Native.Nat.{ℕ, zero, suc, ◌+◌, ◌^◌, ◌<◌, ◌≤◌}
use native.Mathlib.Numerals.{add-one}
use native.Mathlib.Omega.{arith}
use lib.ListN.{length}
use Rattle.automata.specs.Xor.{◌⊕◌}
use Rattle.automata.specs.Automaton.{Automaton, accepts}
use Rattle.automata.specs.Tree.{word_up}
use Rattle.automata.specs.FirstDifference.{first_difference}
use Rattle.automata.proofs.Xor.{eqb_differ}
use Rattle.automata.proofs.Below.{up_to}
use Rattle.automata.proofs.Operations.{accepts_sum}
use Rattle.automata.proofs.FirstDifference.{none_difference, some_difference}
use Rattle.rows.specs.declared.Machine.{Machine}
use Rattle.rows.specs.Row.{width, mask}
use Rattle.rows.specs.Product.{product}
use Rattle.trail.specs.declared.Step.{Step}
use Rattle.trail.specs.Trail.{trail_size, from_in, by_in, word_in, linked, Traced}
use Rattle.trail.proofs.LinkLaws.{linked_length, linked_from, linked_by, linked_from_new, linked_by_new}
use Rattle.record.specs.Bytes.{number}
use Rattle.record.specs.Record.{row_bytes, final_at, states_of, letters_of, automaton_of}
use Rattle.hunt.specs.Both.{beside_of, Paired}
use Rattle.hunt.specs.Hunt.{shared}
use Rattle.hunt.proofs.BothLaws.{paired_sizes}
use Rattle.triangular.specs.Triangular.{InSpan}
use Rattle.verdict.specs.Rows.{both_of, RowOf}
use Rattle.verdict.specs.declared.Side.{Side}
use Rattle.verdict.specs.Side.{side_of}
use Rattle.verdict.specs.Judged.{Found}
use Rattle.verdict.proofs.RowLaws.{row_start, row_next, row_below, row_differs, row_first}
use Rattle.unary.specs.Powers.{power, power_row, Powers}
use Rattle.unary.proofs.Unary.{first_power_lem, no_power, no_more}

-- ---- the words of such a trail

module _ (w : List Step) where
  word_power : (k : ℕ) → ((r : ℕ) → r < k → from_in w (suc r) ≡ r) → ((r : ℕ) → r < k → by_in w (suc r) ≡ 0) → word_in w k ≡ power k
  word_power zero from by = refl
  word_power (suc k) from by =
      ap (λ b. cond b [] (word_up (from_in w) (by_in w) k (from_in w (suc k)) ++ (by_in w (suc k) ∷ []))) (eqb_differ {m = suc k} {n = 0} (omega arith))
      ∙ ap₂ (λ r x. word_up (from_in w) (by_in w) k r ++ (x ∷ [])) (from k (omega arith)) (by k (omega arith))
      ∙ ap (λ u. u ++ (0 ∷ [])) (word_power k (λ r h. from r (omega arith)) (λ r h. by r (omega arith)))

  module _ (k : ℕ) (from : (r : ℕ) → r < k → from_in w (suc r) ≡ r) (by : (r : ℕ) → r < k → by_in w (suc r) ≡ 0) where
    parent : (r : ℕ) → 0 < r → r ≤ k → from_in w r < r
    parent zero p h = absurd (omega arith)
    parent (suc r) p h = let e = from r (omega arith) in omega arith

    letter : (r : ℕ) → 0 < r → r ≤ k → by_in w r < 1
    letter zero p h = absurd (omega arith)
    letter (suc r) p h = let e = by r (omega arith) in omega arith

    upto : (r : ℕ) → r ≤ k → word_in w r ≡ power r
    upto r h = word_power r (λ q g. from q (omega arith)) (λ q g. by q (omega arith))

    word : (r : ℕ) → 0 < r → r ≤ k → word_in w r ≡ word_in w (from_in w r) ++ (by_in w r ∷ [])
    word zero p h = absurd (omega arith)
    word (suc r) p h = upto (suc r) h ∙ ap₂ (λ u x. u ++ (x ∷ [])) (sym (ap (word_in w) (from r (omega arith)) ∙ upto r (omega arith))) (sym (by r (omega arith)))

    traced_powers : k < width → Traced 1 k w
    traced_powers h = record { small = h; letters = omega arith; parent = parent; letter = letter; word = word }

-- ---- the rows

module _ (bs cs : List ℕ) (m : Machine) (P : Paired bs cs m) where
  abbrev A : Automaton
  A = automaton_of bs

  abbrev B : Automaton
  B = automaton_of cs

  pub powers_start : (w : List Step) → length w ≡ trail_size → shared m.states (mask m.initial) (mask m.finals) ≡ false → Powers bs cs w 0 (mask m.initial)
  powers_start w t e = record {
    row = row_start bs cs m P;
    none = λ i h. let z : i ≡ 0 = omega arith in ap (λ n. accepts A (power n) ⊕ accepts B (power n)) z ∙ row_differs bs cs m P [] (mask m.initial) (row_start bs cs m P) ∙ e;
    from = λ r h. absurd (omega arith);
    by = λ r h. absurd (omega arith);
    trail = t;
  }

  module _ (one : m.letters ≡ 1) where
    -- Every word of fewer letters than there are states was tried.
    pub powers_end : (w : List Step) (k x : ℕ) → m.states ≤ k + 1 → Powers bs cs w k x → first_difference (letters_of bs) A B ≡ none
    powers_end w k x h R = subst (λ a. first_difference a A B ≡ none) (sym one ∙ P.letters) (none_difference 1 A B (no_power A B (λ i g. R.none i (omega (arith, P.states)))))

    -- The row is an xor of those before it.
    pub powers_spanned : (w : List Step) (k x : ℕ) → Powers bs cs w k x → InSpan (states_of bs + states_of cs) k (power_row bs cs) x → first_difference (letters_of bs) A B ≡ none
    powers_spanned w k x R (c, e) = subst (λ a. first_difference a A B ≡ none) (sym one ∙ P.letters)
        (none_difference 1 A B (no_power A B (λ i g. sym (accepts_sum A B (power i))
        ∙ no_more (both_of bs cs) k c (λ j h. sym (R.row.bits j h) ∙ e j h) (λ i h. accepts_sum A B (power i) ∙ R.none i (omega arith)) i)))

    module _ (w : List Step) (k x : ℕ) (R : Powers bs cs w k x) (h : k + 1 < m.states) (y : ℕ) (e : y ≡ product (states_of bs + states_of cs) x (beside_of bs cs 0)) (w' : List Step) (l : w' ≡ linked w (k + 1) k 0) where
      pub powers_row : RowOf bs cs (power (suc k)) y
      powers_row = row_next bs cs m P (power k) x 0 y R.row (omega (arith, one)) e

      inside : k + 1 < width
      inside = omega (arith, (paired_sizes bs cs m P).1)

      from' : (r : ℕ) → r < suc k → from_in w' (suc r) ≡ r
      from' = up_to {Q = λ r. from_in w' (suc r) ≡ r} k
          (λ r g. ap (λ v. from_in v (suc r)) l ∙ linked_from w (k + 1) k 0 inside (suc r) (omega arith) ∙ R.from r g)
          (ap₂ from_in l (sym (add-one k)) ∙ linked_from_new w (k + 1) k 0 inside R.trail)

      by' : (r : ℕ) → r < suc k → by_in w' (suc r) ≡ 0
      by' = up_to {Q = λ r. by_in w' (suc r) ≡ 0} k
          (λ r g. ap (λ v. by_in v (suc r)) l ∙ linked_by w (k + 1) k 0 inside (suc r) (omega arith) ∙ R.by r g)
          (ap₂ by_in l (sym (add-one k)) ∙ linked_by_new w (k + 1) k 0 inside R.trail)

      -- The parity of its row with the final column tells whether just one accepts it.
      pub powers_told : (r t : Bool) → ((n : ℕ) → y < 2 ^ n → r ≡ shared n y (mask m.finals)) → r ≡ t → shared m.states y (mask m.finals) ≡ t
      powers_told r t p q = sym (p m.states (row_below bs cs m P (power (suc k)) y powers_row)) ∙ q

      -- One letter more, and just one accepts.
      pub powers_found : (side : Side) → side ≡ side_of (shared (states_of bs) (number row_bytes bs final_at) y) → shared m.states y (mask m.finals) ≡ true → Found (letters_of bs) A B w' (k + 1) side
      powers_found side s t = rw add-one (subst (λ a. Found a A B w' (suc k) side) (sym one ∙ P.letters) (record {
        word = some_difference 1 A B (power (suc k)) (first_power_lem A B (suc k) (row_differs bs cs m P (power (suc k)) y powers_row ∙ t) (λ i g. R.none i (omega arith))) ∙ ap some (sym long);
        side = s ∙ ap side_of (row_first bs cs m P (power (suc k)) y powers_row ∙ ap (accepts A) (sym long));
        traced = traced_powers w' (suc k) from' by' (omega (arith, inside));
      }))
        where
          long : word_in w' (suc k) ≡ power (suc k)
          long = word_power w' (suc k) from' by'

      -- One letter more.
      pub powers_next : shared m.states y (mask m.finals) ≡ false → Powers bs cs w' (k + 1) y
      powers_next t = rw add-one (record {
        row = powers_row;
        none = λ i g. up_to {Q = λ i. accepts A (power i) ⊕ accepts B (power i) ≡ false} (suc k) (λ i f. R.none i (omega arith)) (row_differs bs cs m P (power (suc k)) y powers_row ∙ t) i (omega arith);
        from = from';
        by = by';
        trail = ap length l ∙ linked_length w (k + 1) k 0 inside ∙ R.trail;
      })
