-- The loop over the bits of a row, by the tests and functions of rows: z are the bits to come, of the row x.
use mathlib.Core.Path.{◌≡◌, sym, ap, ◌∙◌}
use mathlib.Core.Bool.{Bool, true, false, true≢false}
use Prim.Native.Nat.{ℕ, ◌-◌, ◌^◌, ◌≤◌, ◌<◌}
use native.Mathlib.Nat.{lt_of_le_of_lt}
use native.Mathlib.Omega.{arith}
use lib.Dec.{eqb}
use lib.Bits.{bit_and, and_le_r}
use borrow.Author.Tests.{eqb-true, eqb-false}
use Rattle.std.specs.Cmp.{first_so}
use Rattle.automata.specs.Mask.{bit_of}
use Rattle.rows.proofs.BitLaws.{bit_and_lem, bit_below}

-- Where the test for no bit says no, and where it says yes.
pub some_bit : {b : Bool} (z : ℕ) → b ≡ eqb z 0 → b ≡ false → 0 < z
some_bit {b = true} z e t = absurd (true≢false t)
some_bit {b = false} z e t = let d : z ≡ 0 → ⊥ = eqb-false z 0 (sym e) in omega arith

pub no_bit : {b : Bool} (z : ℕ) → b ≡ eqb z 0 → b ≡ true → z ≡ 0
no_bit {b = true} z e t = eqb-true z 0 (sym e)
no_bit {b = false} z e t = absurd (true≢false (sym t))

-- The bits left are fewer.
pub cleared_less : (z : ℕ) {z' : ℕ} → 0 < z → z' ≡ bit_and z (z - 1) → z' < z
cleared_less z p e = omega (arith, and_le_r z (z - 1))

-- The bits left are bits of z.
pub cleared_bit : (z i : ℕ) {z' : ℕ} → z' ≡ bit_and z (z - 1) → bit_of z' i ≡ true → bit_of z i ≡ true
cleared_bit z i e b = first_so (bit_of z i) (bit_of (z - 1) i) (sym (bit_and_lem i z (z - 1)) ∙ ap (λ y. bit_of y i) (sym e) ∙ b)
