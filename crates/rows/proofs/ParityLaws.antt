-- The parity of the bits that two numbers share.
use mathlib.Core.Path.{◌≡◌, refl, sym, ap, ap₂, ◌∙◌}
use mathlib.Core.Bool.{Bool, ◌&&◌}
use Prim.Native.Nat.{ℕ, zero, suc, ◌/◌, ◌%◌, ◌^◌, ◌<◌}
use native.Mathlib.Nat.{lt_of_le_of_lt, mod-mod}
use native.Mathlib.Omega.{arith}
use lib.Arith.{lt-one}
use lib.Dec.{eqb}
use lib.Bits.{bit_and, and_le_l}
use lib.Count.{ones, ones_in, ones_step}
use Rattle.automata.specs.Xor.{◌⊕◌, xor_below}
use Rattle.automata.specs.Automaton.{odd}
use Rattle.automata.specs.Mask.{bit_of}
use Rattle.automata.proofs.Xor.{xor_false, xor_assoc, xor_cong, odd_add, not_not}
use Rattle.automata.proofs.Mask.{bit_zero, bit_suc, half_lt}
use Rattle.rows.proofs.BitLaws.{bit_and_lem}

xor_first : (n : ℕ) (f : ℕ → Bool) → xor_below (suc n) f ≡ f 0 ⊕ xor_below n (λ i. f (suc i))
xor_first zero f = sym (xor_false (f 0))
xor_first (suc n) f = ap (λ b. b ⊕ f (suc n)) (xor_first n f) ∙ xor_assoc (f 0) (xor_below n (λ i. f (suc i))) (f (suc n))

rem_odd : (n : ℕ) → eqb (n % 2) 1 ≡ odd n
rem_odd zero = refl
rem_odd (suc zero) = refl
rem_odd (suc (suc n)) =
    let e : suc (suc n) % 2 ≡ n % 2 = omega arith in
    ap (λ d. eqb d 1) e ∙ rem_odd n ∙ sym (not_not (odd n))

-- An odd number of ones.
ones_parity : (n m : ℕ) → m < 2 ^ n → odd (ones m) ≡ xor_below n (bit_of m)
unfolding ones ones_in
ones_parity zero m h = ap (λ x. odd (ones x)) (lt-one h)
ones_parity (suc n) m h =
    ap odd (ones_step m)
    ∙ odd_add (m % 2) (ones (m / 2))
    ∙ ap₂ ◌⊕◌ (sym (rem_odd (m % 2)) ∙ ap (λ d. eqb d 1) (mod-mod m 2) ∙ sym (bit_zero m)) (ones_parity n (m / 2) (half_lt m n h))
    ∙ ap (λ b. bit_of m 0 ⊕ b) (xor_cong n (λ j p. sym (bit_suc m j)))
    ∙ sym (xor_first n (bit_of m))

-- `count_ones(x & y) % 2 == 1`
pub test_parity : (x y n : ℕ) → x < 2 ^ n → eqb (ones (bit_and x y) % 2) 1 ≡ xor_below n (λ j. bit_of x j && bit_of y j)
test_parity x y n h =
    rem_odd (ones (bit_and x y)) ∙ ones_parity n (bit_and x y) (lt_of_le_of_lt (and_le_l x y) h)
    ∙ xor_cong n (λ j g. bit_and_lem j x y)
