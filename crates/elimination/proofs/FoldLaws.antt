-- The loop that adds a row to those whose neighbours have bit q: the rows below j are done.
use mathlib.Core.Path.{◌≡◌, refl, sym, ap, ap₂, subst, ◌∙◌}
use mathlib.Core.Bool.{Bool, true, false, ◌&&◌, cond}
use mathlib.Core.List.{List}
use Prim.Native.Nat.{ℕ, suc, ◌+◌, ◌<◌, ◌≤◌}
use native.Mathlib.Numerals.{add-one}
use native.Mathlib.Decide.{ℕ_discrete}
use native.Mathlib.Omega.{arith}
use lib.Bits.{bit_xor}
use Rattle.automata.specs.Xor.{◌⊕◌}
use Rattle.automata.specs.Mask.{bit_of}
use Rattle.automata.proofs.Xor.{xor_false}
use Rattle.automata.proofs.Below.{up_to}
use Rattle.rows.proofs.BitLaws.{bit_xor_lem, bit_when}
use Rattle.basis.specs.Basis.{parts, cell, bits, written, Room}
use Rattle.basis.proofs.BasisLaws.{written_length, written_same, written_block, written_row}
use Rattle.elimination.specs.Place.{Folded, Unused}

pub record Folding (σ j l q x : ℕ) (t s : List ℕ) : Type 0 where
  pub folded : Folded σ (λ i. i < j) l q x t s
  pub above : (i : ℕ) → j ≤ i → cell σ s l i ≡ cell σ t l i
  pub base : (i : ℕ) → j ≤ i → i < σ → cell σ s 0 i ≡ cell σ t 0 i

-- u is x where row j of block 0 has bit q, and has no bit otherwise.
fold_step : (σ j l q x : ℕ) (t s : List ℕ) (u : ℕ) → l < parts → j < σ → Room σ t → ((k : ℕ) → bit_of u k ≡ bits σ s 0 j q && bit_of x k)
    → Folding σ j l q x t s → Folding σ (suc j) l q x t (written σ s l j (bit_xor (cell σ s l j) u))
fold_step σ j l q x t s u hl h n hu F = record {
  folded = record {
    rows = up_to {Q = λ i. (k : ℕ) → bits σ s' l i k ≡ bits σ t l i k ⊕ (bits σ t 0 i q && bit_of x k)} j
        (λ i g k. ap (λ w. bit_of w k) (written_row σ s l j v i (omega arith)) ∙ F.folded.rows i g k)
        (λ k. ap (λ w. bit_of w k) (written_same σ s l j v (omega (arith, F.folded.size)) hl h) ∙ bit_xor_lem k (cell σ s l j) u
        ∙ ap₂ ◌⊕◌ (ap (λ w. bit_of w k) (F.above j (omega arith))) (hu k ∙ ap (λ w. bit_of w q && bit_of x k) (F.base j (omega arith) h)));
    other = λ m i z g. written_block σ s l j v m i h g (λ e. z (sym e)) ∙ F.folded.other m i z g;
    size = written_length σ s l j v ∙ F.folded.size;
  };
  above = λ i g. written_row σ s l j v i (omega arith) ∙ F.above i (omega arith);
  base = λ i g f. zero i g f (ℕ_discrete l 0) ∙ F.base i (omega arith) f;
}
  where
    v : ℕ
    v = bit_xor (cell σ s l j) u

    s' : List ℕ
    s' = written σ s l j v

    zero : (i : ℕ) → suc j ≤ i → i < σ → Dec (l ≡ 0) → cell σ s' 0 i ≡ cell σ s 0 i
    zero i g f (yes e) = subst (λ m. cell σ (written σ s m j v) 0 i ≡ cell σ s 0 i) (sym e) (written_row σ s 0 j v i (omega arith))
    zero i g f (no e) = written_block σ s l j v 0 i h f e

-- One turn of the loop, by what its calls give.
pub fold_turn : (σ j l q x : ℕ) (t s s' : List ℕ) (e u d z : ℕ) (o : Bool) → l < parts → j < σ → Room σ t
    → e ≡ cell σ s 0 j → o ≡ bit_of e q → u ≡ cond o x 0 → d ≡ cell σ s l j → z ≡ bit_xor d u → s' ≡ written σ s l j z
    → Folding σ j l q x t s → Folding σ (j + 1) l q x t s'
fold_turn σ j l q x t s s' e u d z o hl h n he ho hu hd hz hs F =
    rw add-one (subst (Folding σ (suc j) l q x t) (sym (hs ∙ ap (written σ s l j) (hz ∙ ap (λ w. bit_xor w u) hd)))
    (fold_step σ j l q x t s u hl h n (λ k. ap (λ w. bit_of w k) hu ∙ bit_when o x k ∙ ap (λ b. b && bit_of x k) (ho ∙ ap (λ w. bit_of w q) he)) F))

-- ---- the rows of the pivots

-- The pivots p stand below m, and so do their rows.
pub folded_pivots : (σ m n p l q x : ℕ) (t s : List ℕ) → ((j : ℕ) → j < n → bit_of p j ≡ true → j < m) → Folded σ (λ j. j < m) l q x t s → Folded σ (λ j. (j < n) × (bit_of p j ≡ true)) l q x t s
folded_pivots σ m n p l q x t s h F = record {
  rows = λ j g. F.rows j (h j g.0 g.1);
  other = F.other;
  size = F.size;
}

-- No basis row has bit q.
pub folded_none : (σ n p v l q x : ℕ) (t : List ℕ) → Unused σ n p v q t → bit_of v q ≡ false → Folded σ (λ j. (j < n) × (bit_of p j ≡ true)) l q x t t
folded_none σ n p v l q x t U e = record {
  rows = λ j g k. sym (ap (λ b. bits σ t l j k ⊕ (b && bit_of x k)) (U j g.0 g.1 e) ∙ xor_false (bits σ t l j k));
  other = λ m i z g. refl;
  size = refl;
}
