-- Spans of rows: closed under xor, and growing with the rows.
use mathlib.Core.Path.{◌≡◌, refl, sym, ap₂, ◌∙◌}
use mathlib.Core.Bool.{Bool, true, false, ◌&&◌, true≢false}
use mathlib.Core.List.{List}
use Prim.Native.Nat.{ℕ, suc, ◌<◌}
use native.Mathlib.Nat.{le_refl}
use lib.Bits.{bit_xor}
use lib.Dec.{eqb, ltb}
use lib.ListN.{get_or}
use borrow.Author.Tests.{lt-ltb, le-ltb}
use Rattle.automata.specs.Xor.{◌⊕◌, comb}
use Rattle.automata.specs.Mask.{bit_of}
use Rattle.automata.proofs.Xor.{xor_cong, xor_none, xor_coef, xor_pick, xor_false}
use Rattle.rows.proofs.BitLaws.{bit_xor_lem, bit_none}
use Rattle.triangular.specs.Triangular.{InSpan, Spanned, Triangular}

no_pivot : (q : ℕ) → bit_of 0 q ≡ true → ⊥
no_pivot q b = true≢false (sym b ∙ bit_none q)

module _ (n d : ℕ) (Y : ℕ → ℕ → Bool) where
  pub span_xor : (v u : ℕ) → InSpan n d Y v → InSpan n d Y u → InSpan n d Y (bit_xor v u)
  span_xor v u (c, h) (e, g) = (λ i. c i ⊕ e i, λ j f. bit_xor_lem j v u ∙ ap₂ ◌⊕◌ (h j f) (g j f) ∙ sym (xor_coef d c e (λ i. Y i j)))

  pub span_none : InSpan n d Y 0
  span_none = (λ i. false, λ j f. bit_none j ∙ sym (xor_none d (λ i p. refl)))

  -- A row more is not taken.
  pub span_more : (v : ℕ) → InSpan n d Y v → InSpan n (suc d) Y v
  span_more v (c, h) = (λ i. ltb i d && c i, λ j f. h j f ∙ sym (kept j))
    where
      kept : (j : ℕ) → comb (suc d) (λ i. ltb i d && c i) Y j ≡ comb d c Y j
      kept j = rw (le-ltb d d (le_refl d)) (xor_false _ ∙ xor_cong d (λ i p. rw (lt-ltb i d p)))

  -- It is taken alone.
  pub span_own : (v : ℕ) → ((j : ℕ) → j < n → bit_of v j ≡ Y d j) → InSpan n (suc d) Y v
  span_own v h = (λ i. eqb i d, λ j f. h j f ∙ sym (xor_pick (suc d) d (le_refl (suc d)) (λ i. Y i j)))

  pub spanned_more : (p : ℕ) (e : List ℕ) → Spanned n d Y p e → Spanned n (suc d) Y p e
  spanned_more p e s q b = span_more (get_or e q 0) (s q b)

  pub spanned_start : (e : List ℕ) → Spanned n d Y 0 e
  spanned_start e q b = absurd (no_pivot q b)

pub triangular_start : (e : List ℕ) → Triangular 0 e
triangular_start e q b = absurd (no_pivot q b)
