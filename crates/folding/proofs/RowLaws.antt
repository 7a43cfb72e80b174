-- The rows of a block folded, one after another, and the blocks of a table.
use mathlib.Core.Path.{◌≡◌, refl, sym, ap, subst, ◌∙◌}
use mathlib.Core.Bool.{true, false}
use mathlib.Core.List.{List}
use Prim.Native.Nat.{ℕ, suc, ◌+◌, ◌*◌, ◌<◌, ◌≤◌}
use native.Mathlib.Nat.{not-suc-le-zero}
use native.Mathlib.Numerals.{add-one}
use native.Mathlib.Omega.{arith}
use lib.ListN.{length}
use Rattle.automata.specs.Mask.{bit_of}
use Rattle.automata.proofs.Below.{up_to}
use Rattle.rows.specs.Row.{width}
use Rattle.rows.specs.Table.{blocks, size, at, stored}
use Rattle.rows.specs.Product.{product}
use Rattle.rows.proofs.TableLaws.{stored_same, stored_row}
use Rattle.lookup.specs.Lookup.{Tabled}
use Rattle.transpose.specs.Exchange.{OnlyBlock}
use Rattle.transpose.proofs.BlockLaws.{only_start, only_stored}
use Rattle.observation.specs.Listed.{rank, pick}
use Rattle.folding.specs.Folding.{FoldedTo, FoldedBlocks}
use Rattle.observation.proofs.Rising.{over}
use Rattle.observation.proofs.ListedLaws.{rank_step_pivot, rank_step_other, rank_le, pick_old, pick_new, listed}

-- ---- one row

pub folded_start : (l p g : ℕ) (tab t : List ℕ) → length t ≡ size → FoldedTo l 0 p g tab t t
unfolding rank
folded_start l p g tab t h = record { rows = λ M T j z. absurd (not-suc-le-zero z); rest = λ i h g. refl; only = only_start l t h }

module _ (l k p g : ℕ) (tab t s : List ℕ) (F : FoldedTo l k p g tab t s) where
  -- Row k is no pivot.
  folded_other : bit_of p k ≡ false → FoldedTo l (k + 1) p g tab t s
  folded_other e = record {
    rows = λ M T j h. let z : j < rank (bit_of p) k = subst (λ r. j < r) (rank_step_other (bit_of p) k e) h in F.rows M T j z ∙ ap (λ i. product (g * 4) (at t l i) M) (sym (pick_old (bit_of p) k j z));
    rest = λ i h. F.rest i (omega arith);
    only = F.only;
  }

  -- Row k, which is x, is the pivot of rank j, and y is x folded.
  pub folded_pivot : l < blocks → k < width → bit_of p k ≡ true → (j x y : ℕ) (s' : List ℕ) → j ≡ rank (bit_of p) k → x ≡ at s l k → ((M : ℕ → ℕ) → Tabled g M tab → y ≡ product (g * 4) x M) → s' ≡ stored s l j y → FoldedTo l (k + 1) p g tab t s'
  folded_pivot hl hk e j x y s' hj hx hy hs = record {
    rows = λ M T i h. up_to {Q = λ i. at s' l i ≡ product (g * 4) (at t l (pick (bit_of p) (k + 1) i)) M} j
        (λ i z. ap (λ u. at u l i) hs ∙ stored_row s l j y i (omega arith) ∙ F.rows M T i (before i z) ∙ ap (λ q. product (g * 4) (at t l q) M) (sym (pick_old (bit_of p) k i (before i z))))
        (ap (λ u. at u l j) hs ∙ stored_same s l j y F.only.size hl low ∙ hy M T ∙ ap (λ q. product (g * 4) q M) (hx ∙ F.rest k (omega arith) hk)
        ∙ ap (λ q. product (g * 4) (at t l q) M) (sym (ap (pick (bit_of p) (k + 1)) hj ∙ pick_new (bit_of p) k e))) i (within i h);
    rest = λ i h w. ap (λ u. at u l i) hs ∙ stored_row s l j y i (omega (arith, few)) ∙ F.rest i (omega arith) w;
    only = subst (λ u. OnlyBlock l t u) (sym hs) (only_stored l j y t s low F.only);
  }
    where
      few : j ≤ k
      few = omega (arith, rank_le (bit_of p) k)

      low : j < width
      low = omega (arith, few)

      before : (i : ℕ) → i < j → i < rank (bit_of p) k
      before i z = subst (λ r. i < r) hj z

      within : (i : ℕ) → i < rank (bit_of p) (k + 1) → i < suc j
      within i h = omega (arith, rank_step_pivot (bit_of p) k e)

-- From k on to q no row is a pivot.
pub folded_over : (l k q p g j : ℕ) (tab t s : List ℕ) → k ≤ q → ((i : ℕ) → k ≤ i → i < q → bit_of p i ≡ false) → j ≡ rank (bit_of p) k → FoldedTo l k p g tab t s → (j ≡ rank (bit_of p) q) × FoldedTo l q p g tab t s
folded_over l k q p g j tab t s h none e F =
    over {P = bit_of p} {Q = λ i. (j ≡ rank (bit_of p) i) × FoldedTo l i p g tab t s} (λ i z x. (x.0 ∙ sym (rank_step_other (bit_of p) i z), folded_other l i p g tab t s x.1 z)) k q h none (e, F)

-- ---- the blocks

pub blocks_step : (l n p g : ℕ) (tab t s s' : List ℕ) → n ≤ width → FoldedTo l n p g tab s s' → FoldedBlocks l n p g tab t s → FoldedBlocks (l + 1) n p g tab t s'
blocks_step l n p g tab t s s' hn F B = rw add-one (record {
  rows = λ M T x j h w. up_to {Q = λ x. at s' x j ≡ product (g * 4) (at t x (pick (bit_of p) n j)) M} l
      (λ x z. F.only.others x j (row j w) (omega arith) ∙ B.rows M T x j z w)
      (F.rows M T j w ∙ ap (λ q. product (g * 4) q M) (B.rest l (pick (bit_of p) n j) (omega arith) (omega (arith, (listed (bit_of p) n).below j w)))) x h;
  rest = λ x i h w. F.only.others x i w (omega arith) ∙ B.rest x i (omega arith) w;
  size = F.only.size;
})
  where
    row : (j : ℕ) → j < rank (bit_of p) n → j < width
    row j h = omega (arith, rank_le (bit_of p) n)
