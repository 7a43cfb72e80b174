-- The rows tried and those that are left, as masks.
--   Left d e z    of d rows found, e has those that are tried and z the others
use mathlib.Core.Path.{◌≡◌, sym, ap, ap₂, ◌∙◌}
use mathlib.Core.Bool.{true, false, ◌||◌, not, true≢false}
use mathlib.Core.Logic.{◌⊎◌, inl, inr}
use Prim.Native.Nat.{ℕ, ◌^◌, ◌<◌, ◌≤◌}
use native.Mathlib.Omega.{arith}
use lib.Dec.{eqb}
use lib.Bits.{bit_xor, bit_or}
use borrow.Author.Tests.{eqb-true}
use Rattle.automata.specs.Xor.{◌⊕◌}
use Rattle.automata.specs.Mask.{bit_of}
use Rattle.automata.proofs.Xor.{bool_cases, eqb_same, not_not}
use Rattle.rows.proofs.BitLaws.{bit_xor_lem, bit_or_lem, bit_pow, bit_none, bit_high, bits_lt, or_ge_l}

pub record Left (d e z : ℕ) : Type 0 where
  pub tried_low : e < 2 ^ d
  pub left_low : z < 2 ^ d
  pub other : (k : ℕ) → k < d → bit_of e k ≡ not (bit_of z k)

-- y has every row found.
pub left : (d y e z : ℕ) → y < 2 ^ d → ((k : ℕ) → k < d → bit_of y k ≡ true) → ((k : ℕ) → bit_of e k ≡ true → k < d) → z ≡ bit_xor y e → Left d e z
left d y e z low all found is = record {
  tried_low = short;
  left_low = bits_lt z d (λ k h. bit k ∙ ap₂ ◌⊕◌ (bit_high d low k h) (bit_high d short k h));
  other = λ k h. sym (not_not (bit_of e k)) ∙ ap not (sym (bit k ∙ ap (λ x. x ⊕ bit_of e k) (all k h)));
}
  where
    bit : (k : ℕ) → bit_of z k ≡ bit_of y k ⊕ bit_of e k
    bit k = ap (λ x. bit_of x k) is ∙ bit_xor_lem k y e

    short : e < 2 ^ d
    short = bits_lt e d (λ k h. go k h (bool_cases (bit_of e k)))
      where
        go : (k : ℕ) → d ≤ k → (bit_of e k ≡ true) ⊎ (bit_of e k ≡ false) → bit_of e k ≡ false
        go k h (inl t) = let f = found k t in absurd (omega arith)
        go k h (inr t) = t

-- Where none is left, every row is tried.
pub none_left : (d e z : ℕ) → Left d e z → z ≡ 0 → (k : ℕ) → k < d → bit_of e k ≡ true
none_left d e z L h k g = L.other k g ∙ ap not (ap (λ x. bit_of x k) h ∙ bit_none k)

-- Row k is tried besides.
module _ (e k u e' : ℕ) (one : u ≡ 2 ^ k) (more : e' ≡ bit_or e u) where
  bit : (i : ℕ) → bit_of e' i ≡ bit_of e i || eqb i k
  bit i = ap (λ x. bit_of x i) more ∙ bit_or_lem i e u ∙ ap (λ x. bit_of e i || x) (ap (λ x. bit_of x i) one ∙ bit_pow k i)

  pub tried_more : (i : ℕ) → bit_of e' i ≡ true → (bit_of e i ≡ true) ⊎ (i ≡ k)
  tried_more i t = go (bool_cases (bit_of e i))
    where
      go : (bit_of e i ≡ true) ⊎ (bit_of e i ≡ false) → (bit_of e i ≡ true) ⊎ (i ≡ k)
      go (inl h) = inl h
      go (inr h) = inr (eqb-true i k (sym (ap (λ x. x || eqb i k) h) ∙ sym (bit i) ∙ t))

  -- It was left, so that there are more of them.
  pub tried_rises : (d z : ℕ) → Left d e z → k < d → bit_of z k ≡ true → e < e'
  tried_rises d z L h t = omega (arith, ge, differ)
    where
      untried : bit_of e k ≡ false
      untried = L.other k h ∙ ap not t

      ge : e ≤ e'
      ge = rw more (or_ge_l e u)

      differ : e ≡ e' → ⊥
      differ f = true≢false (sym (bit k ∙ ap₂ ◌||◌ untried (eqb_same k)) ∙ ap (λ x. bit_of x k) (sym f) ∙ untried)
