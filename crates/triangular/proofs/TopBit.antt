-- The highest bit of a number, told by the powers of two around it.
--   Top q x    bit q is the highest bit of x
use mathlib.Core.Path.{◌≡◌, ap₂, ◌∙◌}
use mathlib.Core.Bool.{true, false}
use mathlib.Core.Logic.{◌⊎◌, inl, inr}
use Prim.Native.Nat.{ℕ, ◌+◌, ◌^◌, ◌≤◌, ◌<◌}
use native.Mathlib.Nat.{eq-or-lt_of_le}
use native.Mathlib.Omega.{arith}
use lib.Bits.{bit_xor, xor_lt}
use Rattle.automata.specs.Xor.{◌⊕◌}
use Rattle.automata.specs.Mask.{bit_of}
use Rattle.automata.proofs.Xor.{bool_cases}
use Rattle.rows.proofs.BitLaws.{bit_xor_lem, bit_high, bit_below, bits_lt}

abbrev pub Top : ℕ → ℕ → Type 0
Top q x = (2 ^ q ≤ x) × (x < 2 ^ (q + 1))

-- Without bit q, all bits stand below it.
top_off : (q x : ℕ) → x < 2 ^ (q + 1) → bit_of x q ≡ false → x < 2 ^ q
top_off q x h b = bits_lt x q (λ j l. go j (eq-or-lt_of_le l))
  where
    go : (j : ℕ) → (q ≡ j) ⊎ (q < j) → bit_of x j ≡ false
    go j (inl e) = rw e at b
    go j (inr l) = bit_high (q + 1) h j (omega arith)

top_bit : (q x : ℕ) → Top q x → bit_of x q ≡ true
top_bit q x (lo, hi) = go (bool_cases (bit_of x q))
  where
    go : (bit_of x q ≡ true) ⊎ (bit_of x q ≡ false) → bit_of x q ≡ true
    go (inl e) = e
    go (inr e) = absurd (omega (arith, top_off q x hi e))

pub top_below : (n q x : ℕ) → Top q x → x < 2 ^ n → q < n
top_below n q x t h = bit_below n h q (top_bit q x t)

-- Two numbers with one highest bit: it leaves their xor.
pub top_xor : (q x y : ℕ) → Top q x → Top q y → bit_xor x y < 2 ^ q
top_xor q x y t u = top_off q (bit_xor x y) (xor_lt (q + 1) x y t.1 u.1) (bit_xor_lem q x y ∙ ap₂ ◌⊕◌ (top_bit q x t) (top_bit q y u))
