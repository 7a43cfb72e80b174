-- The automaton that a folded table holds.
use mathlib.Core.Path.{◌≡◌, refl, sym, ap, ap₂, subst, ◌∙◌}
use mathlib.Core.Bool.{true, false, ◌&&◌, and-true, and-false, and_comm, true≢false}
use mathlib.Core.List.{List}
use mathlib.Core.Logic.{◌⊎◌, inl, inr}
use Prim.Native.Nat.{ℕ, ◌*◌, ◌^◌, ◌<◌}
use native.Mathlib.Nat.{lt_of_le_of_lt}
use native.Mathlib.Omega.{arith}
use lib.Bits.{bit_and, and_le_r}
use lib.Dec.{eqb}
use Rattle.automata.specs.Mask.{bit_of}
use Rattle.automata.proofs.Xor.{bool_cases, xor_cong, xor_pick, eqb_sym, eqb_differ}
use Rattle.rows.specs.Row.{width}
use Rattle.rows.specs.Table.{at}
use Rattle.rows.specs.Product.{product}
use Rattle.rows.specs.Machine.{auto, Bounded}
use Rattle.rows.proofs.BitLaws.{bit_and_lem}
use Rattle.rows.proofs.ProductLaws.{bit_product, product_lt}
use Rattle.basis.specs.Basis.{cell, bits}
use Rattle.lookup.specs.Lookup.{chosen, Tabled}
use Rattle.lookup.proofs.LookupLaws.{chosen_product}
use Rattle.observation.specs.Listed.{rank, pick, Listed}
use Rattle.observation.specs.Observed.{folded}
use Rattle.observation.proofs.ListedLaws.{rank_le, listed, listed_all}
use Rattle.observation.proofs.FoldLaws.{folded_none}
use Rattle.columns.specs.Columns.{Columns}
use Rattle.folding.specs.Folding.{UnitAt, FoldedBlocks, Folds}

-- A table of rows is a basis of the widest stride.
cell_at : (c : List ℕ) (i : ℕ) → cell width c 0 i ≡ at c 0 i
unfolding cell at
cell_at c i = refl

-- Every state is a pivot, and nothing changes.
pub automaton_full : (a : ℕ) (t : List ℕ) (n i f : ℕ) → Bounded a t n i f → (p : ℕ) (b : List ℕ) → UnitAt n p b → ((k : ℕ) → k < n → bit_of p k ≡ true) → Folds a (auto t n i f) p b t n i f
automaton_full a t n i f ok p b unit all = record {
  σ = λ j. j;
  listed = listed_all n (bit_of p) all;
  bounded = ok;
  same = record {
    states = refl;
    initial = λ k h. sym (folded_none n (bit_of p) (bits width b 0) unit all (bit_of i) k h);
    final = λ k h. refl;
    step = λ l k j hl hk hj. sym (folded_none n (bit_of p) (bits width b 0) unit all (bit_of (at t l k)) j hj);
  };
}

-- The table c has the columns of the basis b, and tab is a table of them at `all`, which is every bit below n.
module _ (a : ℕ) (t : List ℕ) (n i f : ℕ) (ok : Bounded a t n i f) (p : ℕ) (b : List ℕ) (unit : UnitAt n p b) (r : ℕ) (hr : r ≡ rank (bit_of p) n) (c : List ℕ) (C : Columns n p b r (at c 0))
    (all : ℕ) (few : all < 2 ^ n) (set : (k : ℕ) → k < n → bit_of all k ≡ true) (g : ℕ) (tab : List ℕ) (room : all < 2 ^ (g * 4)) (T : Tabled g (chosen all (cell width c 0)) tab) where
  abbrev M : ℕ → ℕ
  M = chosen all (cell width c 0)

  abbrev σ : ℕ → ℕ
  σ = pick (bit_of p) n

  all_listed : Listed n (bit_of p) r σ
  all_listed = subst (λ d. Listed n (bit_of p) d σ) (sym hr) (listed (bit_of p) n)

  -- What the table gives is the product with the columns.
  looked_up : (v y : ℕ) → y ≡ product (g * 4) v M → y ≡ product n (bit_and v all) (cell width c 0)
  looked_up v y e = e ∙ chosen_product (g * 4) all v (cell width c 0) room n (lt_of_le_of_lt (and_le_r v all) few)

  folded_bit : (v y : ℕ) → y ≡ product (g * 4) v M → (j : ℕ) → j < r → bit_of y j ≡ folded n (bits width b 0) σ (bit_of v) j
  folded_bit v y e j hj =
      ap (λ x. bit_of x j) (looked_up v y e) ∙ bit_product n (bit_and v all) (cell width c 0) j
      ∙ xor_cong n (λ k h. ap₂ ◌&&◌ (bit_and_lem k v all ∙ ap (λ x. bit_of v k && x) (set k h) ∙ and-true (bit_of v k)) (ap (λ x. bit_of x j) (cell_at c k) ∙ C.bit k j h hj))

  folded_low : (v y : ℕ) → y ≡ product (g * 4) v M → y < 2 ^ r
  folded_low v y e = subst (λ x. x < 2 ^ r) (sym (looked_up v y e)) (product_lt r n (bit_and v all) (cell width c 0) (λ k h. subst (λ x. x < 2 ^ r) (sym (cell_at c k)) (C.low k h)))

  -- A row with bits at pivots alone has, folded, the bits that it has.
  final_bit : (z y : ℕ) → z ≡ bit_and f p → y ≡ product (g * 4) z M → (j : ℕ) → j < r → bit_of y j ≡ bit_of f (σ j)
  final_bit z y hz hy j hj =
      folded_bit z y hy j hj
      ∙ xor_cong n (λ k h. ap (λ x. x && bits width b 0 (σ j) k) (ap (λ x. bit_of x k) hz ∙ bit_and_lem k f p) ∙ own k h (bool_cases (bit_of p k)))
      ∙ xor_pick n (σ j) (all_listed.below j hj) (bit_of f)
    where
      own : (k : ℕ) → k < n → (bit_of p k ≡ true) ⊎ (bit_of p k ≡ false) → (bit_of f k && bit_of p k) && bits width b 0 (σ j) k ≡ eqb k (σ j) && bit_of f k
      own k h (inl e) =
          ap₂ ◌&&◌ (ap (λ x. bit_of f k && x) e ∙ and-true (bit_of f k)) (unit (σ j) k (all_listed.below j hj) h (all_listed.pivot j hj) e ∙ eqb_sym (σ j) k)
          ∙ and_comm (bit_of f k) (eqb k (σ j))
      own k h (inr e) =
          ap (λ x. x && bits width b 0 (σ j) k) (ap (λ x. bit_of f k && x) e ∙ and-false (bit_of f k))
          ∙ sym (ap (λ x. x && bit_of f k) (eqb_differ {m = k} {n = σ j} (λ q. true≢false (sym (all_listed.pivot j hj) ∙ ap (bit_of p) (sym q) ∙ e))))

  pub automaton_folded : (s : List ℕ) → FoldedBlocks a n p g tab t s → (x z y : ℕ) → x ≡ product (g * 4) i M → z ≡ bit_and f p → y ≡ product (g * 4) z M → Folds a (auto t n i f) p b s r x y
  automaton_folded s B x z y hx hz hy = record {
    σ = σ;
    listed = all_listed;
    bounded = record {
      states = omega (arith, hr, rank_le (bit_of p) n, ok.states);
      letters = ok.letters;
      size = B.size;
      initial = folded_low i x hx;
      finals = folded_low z y hy;
      rows = λ l k hl hk. folded_low (at t l (σ k)) (at s l k) (row l k hl hk);
    };
    same = record {
      states = refl;
      initial = folded_bit i x hx;
      final = final_bit z y hz hy;
      step = λ l k j hl hk hj. folded_bit (at t l (σ k)) (at s l k) (row l k hl hk) j hj;
    };
  }
    where
      row : (l k : ℕ) → l < a → k < r → at s l k ≡ product (g * 4) (at t l (σ k)) M
      row l k hl hk = B.rows M T l k hl (subst (λ d. k < d) hr hk)
