-- Two records of at most two states together: a word of at most one letter tells their languages apart, if any does.
use mathlib.Core.Path.{◌≡◌, sym, ap, subst, ◌∙◌}
use mathlib.Core.Bool.{Bool, true, false}
use mathlib.Core.List.{List, [], ◌∷◌, ◌++◌}
use mathlib.Core.Logic.{inl, inr}
use mathlib.Core.Option.{none, some}
use Prim.Native.Nat.{ℕ, ◌+◌, ◌^◌, ◌<◌, ◌≤◌}
use native.Mathlib.Omega.{arith}
use lib.ListN.{length}
use Rattle.automata.specs.Xor.{◌⊕◌}
use Rattle.automata.specs.Automaton.{Automaton, accepts}
use Rattle.automata.specs.Word.{Over, Shortlex}
use Rattle.automata.specs.FirstDifference.{first_difference}
use Rattle.automata.proofs.Xor.{xor_zero}
use Rattle.automata.proofs.ShortWords.{same_by_short}
use Rattle.automata.proofs.FirstDifference.{none_difference, some_difference}
use Rattle.rows.specs.declared.Machine.{Machine}
use Rattle.rows.specs.Row.{mask}
use Rattle.rows.specs.Table.{blocks}
use Rattle.rows.specs.Product.{product}
use Rattle.trail.specs.declared.Step.{Step}
use Rattle.trail.specs.Trail.{trail_size, from_in, by_in, word_in, linked, Traced}
use Rattle.trail.proofs.LinkLaws.{linked_from_new, linked_by_new}
use Rattle.record.specs.Bytes.{number}
use Rattle.record.specs.Record.{row_bytes, final_at, states_of, letters_of, automaton_of}
use Rattle.hunt.specs.Both.{beside_of, Paired}
use Rattle.hunt.specs.Hunt.{shared}
use Rattle.hunt.proofs.BothLaws.{paired_sizes}
use Rattle.verdict.specs.declared.Side.{Side}
use Rattle.verdict.specs.Side.{side_of}
use Rattle.verdict.specs.Judged.{Found}
use Rattle.verdict.specs.Rows.{RowOf}
use Rattle.verdict.proofs.RowLaws.{row_start, row_next, row_below, row_differs, row_first}

-- ---- the trail of one letter

module _ (a l : ℕ) (w w' : List Step) (t : length w ≡ trail_size) (e : w' ≡ linked w 1 0 l) where
  from_one : from_in w' 1 ≡ 0
  from_one = ap (λ v. from_in v 1) e ∙ linked_from_new w 1 0 l (omega arith) t

  by_one : by_in w' 1 ≡ l
  by_one = ap (λ v. by_in v 1) e ∙ linked_by_new w 1 0 l (omega arith) t

  word_one : word_in w' 1 ≡ l ∷ []
  word_one = ap (λ x. x ∷ []) by_one

  traced_one : a ≤ blocks → l < a → Traced a 1 w'
  traced_one ha hl = record {
    small = omega arith;
    letters = ha;
    parent = λ r p h. let z : r ≡ 1 = omega arith in subst (λ r. from_in w' r < r) (sym z) (omega (arith, from_one));
    letter = λ r p h. let z : r ≡ 1 = omega arith in subst (λ r. by_in w' r < a) (sym z) (omega (arith, by_one));
    word = λ r p h. let z : r ≡ 1 = omega arith in subst (λ r. word_in w' r ≡ word_in w' (from_in w' r) ++ (by_in w' r ∷ [])) (sym z) (sym (ap (λ r. word_in w' r ++ (by_in w' 1 ∷ [])) from_one));
  }

-- ---- the words of one letter

module _ (bs cs : List ℕ) (m : Machine) (P : Paired bs cs m) (empty : shared m.states (mask m.initial) (mask m.finals) ≡ false) where
  abbrev A : Automaton
  A = automaton_of bs

  abbrev B : Automaton
  B = automaton_of cs

  nothing : accepts A [] ⊕ accepts B [] ≡ false
  nothing = row_differs bs cs m P [] (mask m.initial) (row_start bs cs m P) ∙ empty

  module _ (l y : ℕ) (h : l < m.letters) (e : y ≡ product (states_of bs + states_of cs) (mask m.initial) (beside_of bs cs l)) where
    pub letter_row : RowOf bs cs (l ∷ []) y
    letter_row = row_next bs cs m P [] (mask m.initial) l y (row_start bs cs m P) h e

    -- The parity of its row with the final column tells whether just one accepts it.
    pub letter_told : (r t : Bool) → ((n : ℕ) → y < 2 ^ n → r ≡ shared n y (mask m.finals)) → r ≡ t → shared m.states y (mask m.finals) ≡ t
    letter_told r t p q = sym (p m.states (row_below bs cs m P (l ∷ []) y letter_row)) ∙ q

    pub letter_tried : shared m.states y (mask m.finals) ≡ false → accepts A (l ∷ []) ⊕ accepts B (l ∷ []) ≡ false
    letter_tried t = row_differs bs cs m P (l ∷ []) y letter_row ∙ t

    pub letter_found : (w w' : List Step) → length w ≡ trail_size → w' ≡ linked w 1 0 l → (s : Side) → s ≡ side_of (shared (states_of bs) (number row_bytes bs final_at) y) → shared m.states y (mask m.finals) ≡ true
        → ((x : ℕ) → x < l → accepts A (x ∷ []) ⊕ accepts B (x ∷ []) ≡ false) → Found (letters_of bs) A B w' 1 s
    letter_found w w' t q s e' d before = subst (λ a. Found a A B w' 1 s) P.letters (record {
      word = some_difference m.letters A B (l ∷ []) (record { over = (h, tt); differs = row_differs bs cs m P (l ∷ []) y letter_row ∙ d; first = λ u o g. xor_zero (earlier u g) }) ∙ ap some (sym (word_one m.letters l w w' t q));
      side = e' ∙ ap side_of (row_first bs cs m P (l ∷ []) y letter_row ∙ ap (accepts A) (sym (word_one m.letters l w w' t q)));
      traced = traced_one m.letters l w w' t q (paired_sizes bs cs m P).2 h;
    })
      where
        earlier : (u : List ℕ) → Shortlex u (l ∷ []) → accepts A u ⊕ accepts B u ≡ false
        earlier [] g = nothing
        earlier (x ∷ []) (inl g) = absurd (omega arith)
        earlier (x ∷ []) (inr (g, inl f)) = before x f
        earlier (x ∷ []) (inr (g, inr f)) = absurd f.1
        earlier (x ∷ y ∷ u) (inl g) = absurd (omega arith)
        earlier (x ∷ y ∷ u) (inr g) = absurd (omega arith)

  pub letters_end : m.states ≤ 2 → ((x : ℕ) → x < m.letters → accepts A (x ∷ []) ⊕ accepts B (x ∷ []) ≡ false) → first_difference (letters_of bs) A B ≡ none
  letters_end s tried = subst (λ a. first_difference a A B ≡ none) P.letters (none_difference m.letters A B (same_by_short m.letters A B (λ v o g. xor_zero (short v o (omega (arith, P.states))))))
    where
      short : (v : List ℕ) → Over m.letters v → length v < 2 → accepts A v ⊕ accepts B v ≡ false
      short [] o g = nothing
      short (x ∷ []) o g = tried x o.0
      short (x ∷ y ∷ v) o g = absurd (omega arith)
