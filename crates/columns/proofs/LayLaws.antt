-- The basis rows of the pivots laid one after another, cleared behind, and then transposed.
use mathlib.Core.Path.{◌≡◌, refl, sym, ap, subst, ◌∙◌}
use mathlib.Core.Bool.{true, false}
use mathlib.Core.List.{List}
use Prim.Native.Nat.{ℕ, ◌+◌, ◌^◌, ◌<◌, ◌≤◌}
use native.Mathlib.Nat.{not-suc-le-zero}
use native.Mathlib.Decide.{dec_lt}
use native.Mathlib.Numerals.{add-one}
use native.Mathlib.Omega.{arith}
use lib.ListN.{length}
use Rattle.automata.specs.Mask.{bit_of}
use Rattle.automata.proofs.Below.{up_to}
use Rattle.rows.specs.Row.{width}
use Rattle.rows.specs.Table.{size, at, row, stored}
use Rattle.rows.proofs.BitLaws.{bit_high, bits_lt}
use Rattle.rows.proofs.TableLaws.{length_stored, stored_same, stored_row}
use Rattle.basis.specs.Basis.{cell}
use Rattle.transpose.specs.Exchange.{padded, HasRows}
use Rattle.transpose.specs.Transposed.{Transposed}
use Rattle.transpose.proofs.BlockLaws.{padded_low, padded_high, padded_thin}
use Rattle.observation.specs.Listed.{rank, pick}
use Rattle.columns.specs.Columns.{Columns}
use Rattle.columns.specs.Laid.{Laid}
use Rattle.observation.proofs.Rising.{over}
use Rattle.observation.proofs.ListedLaws.{rank_step_pivot, rank_step_other, rank_le, pick_old, pick_new, listed}

-- ---- row by row

pub laid_start : (p : ℕ) (b c : List ℕ) → length c ≡ size → Laid 0 p b 0 c
unfolding rank
laid_start p b c h = record { count = refl; rows = λ j g. absurd (not-suc-le-zero g); size = h }

-- There are no more rows than states passed.
pub laid_le : (k p r : ℕ) (b c : List ℕ) → Laid k p b r c → r ≤ k
laid_le k p r b c L = subst (λ x. x ≤ k) (sym L.count) (rank_le (bit_of p) k)

-- The rows laid are still those of their pivots where one more state is passed.
laid_old : (k p r : ℕ) (b c : List ℕ) → Laid k p b r c → (j : ℕ) → j < r → at c 0 j ≡ cell width b 0 (pick (bit_of p) (k + 1) j)
laid_old k p r b c L j h = L.rows j h ∙ ap (cell width b 0) (sym (pick_old (bit_of p) k j (subst (λ x. j < x) L.count h)))

-- k is no pivot.
laid_other : (k p r : ℕ) (b c : List ℕ) → bit_of p k ≡ false → Laid k p b r c → Laid (k + 1) p b r c
laid_other k p r b c e L = record {
  count = L.count ∙ sym (rank_step_other (bit_of p) k e);
  rows = laid_old k p r b c L;
  size = L.size;
}

-- From k on to q there is none.
pub laid_over : (k q p r : ℕ) (b c : List ℕ) → k ≤ q → ((i : ℕ) → k ≤ i → i < q → bit_of p i ≡ false) → Laid k p b r c → Laid q p b r c
laid_over k q p r b c h none L = over {P = bit_of p} {Q = λ i. Laid i p b r c} (λ i e. laid_other i p r b c e) k q h none L

-- k is a pivot, and x its basis row.
pub laid_pivot : (k p r q x : ℕ) (b c d : List ℕ) → k < width → bit_of p k ≡ true → x ≡ cell width b 0 k → q ≡ r + 1 → d ≡ stored c 0 r x → Laid k p b r c → Laid (k + 1) p b q d
laid_pivot k p r q x b c d hk e hx hq hd L = rw (hq, hd) (record {
  count = ap (λ m. m + 1) L.count ∙ sym (rank_step_pivot (bit_of p) k e);
  rows = rw (add-one r) (up_to {Q = λ j. at (stored c 0 r x) 0 j ≡ cell width b 0 (pick (bit_of p) (k + 1) j)} r
      (λ j h. stored_row c 0 r x j (omega arith) ∙ laid_old k p r b c L j h)
      (stored_same c 0 r x L.size (omega arith) (omega (arith, laid_le k p r b c L)) ∙ hx ∙ ap (cell width b 0) (sym own)));
  size = length_stored c 0 r x ∙ L.size;
})
  where
    own : pick (bit_of p) (k + 1) r ≡ k
    own = ap (pick (bit_of p) (k + 1)) L.count ∙ pick_new (bit_of p) k e

-- ---- the whole

module _ (n p r : ℕ) (b c d : List ℕ) (L : Laid n p b r c) (C : HasRows 0 n (padded r (row c 0)) d) where
  -- The matrix laid is within bounds.
  pub laid_low : ((k : ℕ) → k < n → bit_of p k ≡ true → cell width b 0 k < 2 ^ n) → (l i : ℕ) → l < 1 → i < n → at d l i < 2 ^ n
  unfolding HasRows
  laid_low low l i hl hi = let z : l ≡ 0 = omega arith in rw z (bits_lt (at d 0 i) n (λ k g. C i k hi ∙ padded_thin 0 r n c thin i k g))
    where
      thin : (j : ℕ) → j < r → at c 0 j < 2 ^ n
      thin j h = let z = subst (λ x. j < x) L.count h in subst (λ v. v < 2 ^ n) (sym (L.rows j h)) (low (pick (bit_of p) n j) ((listed (bit_of p) n).below j z) ((listed (bit_of p) n).pivot j z))

  pub laid_columns : (s : List ℕ) → Transposed 1 n d s → Columns n p b r (at s 0)
  unfolding HasRows
  laid_columns s T = record {
    bit = λ i j hi hj.
        let hn : j < n = omega (arith, laid_le n p r b c L) in
        turned i j hi hn ∙ padded_low r (row c 0) j i hj ∙ ap (λ v. bit_of v i) (L.rows j hj);
    low = λ i hi. bits_lt (at s 0 i) r (λ j h. above i j hi h (dec_lt j n));
  }
    where
      turned : (i j : ℕ) → i < n → j < n → row s 0 i j ≡ padded r (row c 0) j i
      turned i j hi hj = T.rows 0 i (omega arith) hi j hj ∙ C j i hj

      above : (i j : ℕ) → i < n → r ≤ j → Dec (j < n) → row s 0 i j ≡ false
      above i j hi h (yes g) = turned i j hi g ∙ padded_high r (row c 0) j i h
      above i j hi h (no g) = bit_high n (T.low 0 i (omega arith) hi) j (omega arith)
