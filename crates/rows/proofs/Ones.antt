-- The number that has every bit below n, and no other.
use mathlib.Core.Path.{◌≡◌, sym, ap, ap₂, ◌∙◌}
use mathlib.Core.Bool.{true, false}
use Prim.Native.Nat.{ℕ, zero, suc, ◌-◌, ◌^◌, ◌<◌, ◌≤◌}
use native.Mathlib.Nat.{not-suc-le-zero, one-mul, pow-suc}
use native.Mathlib.Omega.{arith}
use lib.Dec.{eqb}
use lib.Pow.{pow_pos}
use lib.Bits.{bit_xor, xor_comm, xor_shifted}
use Rattle.automata.specs.Xor.{◌⊕◌}
use Rattle.automata.specs.Mask.{bit_of}
use Rattle.automata.proofs.Xor.{eqb_same, eqb_differ}
use Rattle.automata.proofs.Below.{up_to}
use Rattle.rows.proofs.BitLaws.{bit_none, bit_xor_lem, bit_pow}

pub record Ones (n y : ℕ) : Type 0 where
  pub set : (k : ℕ) → k < n → bit_of y k ≡ true
  pub above : (k : ℕ) → n ≤ k → bit_of y k ≡ false

all_start : Ones 0 0
all_start = record { set = λ k h. absurd (not-suc-le-zero h); above = λ k h. bit_none k }

all_step : (n y z : ℕ) → z ≡ bit_xor y (2 ^ n) → Ones n y → Ones (suc n) z
all_step n y z hz A = record {
  set = up_to n (λ k h. bit k ∙ ap₂ ◌⊕◌ (A.set k h) (eqb_differ {m = k} {n = n} (omega arith))) (bit n ∙ ap₂ ◌⊕◌ (A.above n (omega arith)) (eqb_same n));
  above = λ k h. bit k ∙ ap₂ ◌⊕◌ (A.above k (omega arith)) (eqb_differ {m = k} {n = n} (omega arith));
}
  where
    bit : (k : ℕ) → bit_of z k ≡ bit_of y k ⊕ eqb k n
    bit k = ap (λ x. bit_of x k) hz ∙ bit_xor_lem k y (2 ^ n) ∙ ap (λ b. bit_of y k ⊕ b) (bit_pow n k)

pub ones : (n : ℕ) → Ones n (2 ^ n - 1)
ones zero = all_start
ones (suc n) = all_step n (2 ^ n - 1) (2 ^ suc n - 1) (sym (xor_comm (2 ^ n - 1) (2 ^ n) ∙ ap (λ w. bit_xor w (2 ^ n - 1)) (sym (one-mul (2 ^ n))) ∙ xor_shifted 1 n (2 ^ n - 1) (omega (arith, pow_pos n)) ∙ omega (arith, pow-suc 2 n, pow_pos n))) (ones n)
