-- Numbers by their bits, for every width: equality, and the number of a row of truth values.
use mathlib.Core.Path.{◌≡◌, refl, sym, ap, ap₂, subst, ◌∙◌}
use mathlib.Core.Bool.{Bool, true, false, cond, true≢false, false≢true}
use Prim.Native.Nat.{ℕ, zero, suc, ◌+◌, ◌*◌, ◌/◌, ◌%◌, ◌^◌, ◌<◌}
use native.Mathlib.Nat.{not-suc-le-zero, zero-lt-suc, div-one, mod-lt, pow-suc, div-add-mod', div-lt_iff_lt-mul}
use native.Mathlib.Omega.{arith}
use lib.Dec.{eqb}
use lib.Arith.{digits_div, digits_mod}
use lib.Pow.{shr-shr}
use Rattle.automata.specs.Mask.{bit_of, mask_of}

pub bit_zero : (m : ℕ) → bit_of m 0 ≡ eqb (m % 2) 1
bit_zero m = ap (λ x. eqb (x % 2) 1) (div-one m)

pub bit_suc : (m j : ℕ) → bit_of m (suc j) ≡ bit_of (m / 2) j
bit_suc m j = ap (λ x. eqb (x % 2) 1) (ap (λ i. m / 2 ^ i) (omega arith) ∙ sym (shr-shr m 1 j))

mod_two : (m : ℕ) → m % 2 < 2
mod_two m = mod-lt m (omega arith)

-- ---- a number by its bits

digit_same : (d e : ℕ) → d < 2 → e < 2 → eqb d 1 ≡ eqb e 1 → d ≡ e
digit_same zero zero p q h = refl
digit_same zero (suc zero) p q h = absurd (false≢true h)
digit_same zero (suc (suc e)) p q h = absurd (omega arith)
digit_same (suc zero) zero p q h = absurd (true≢false h)
digit_same (suc zero) (suc zero) p q h = refl
digit_same (suc zero) (suc (suc e)) p q h = absurd (omega arith)
digit_same (suc (suc d)) e p q h = absurd (omega arith)

pub half_lt : (m n : ℕ) → m < 2 ^ suc n → m / 2 < 2 ^ n
half_lt m n h = (div-lt_iff_lt-mul (zero-lt-suc 1)).1 (subst (λ x. m < x) (pow-suc 2 n) h)

-- Numbers of n bits with the same bits are the same.
pub bits_same : (n a b : ℕ) → a < 2 ^ n → b < 2 ^ n → ((j : ℕ) → j < n → bit_of a j ≡ bit_of b j) → a ≡ b
bits_same zero a b p q h = omega arith
bits_same (suc n) a b p q h =
    sym (div-add-mod' a 2)
    ∙ ap₂ (λ x y. x * 2 + y)
    (bits_same n (a / 2) (b / 2) (half_lt a n p) (half_lt b n q) (λ j r. sym (bit_suc a j) ∙ h (suc j) (omega arith) ∙ bit_suc b j))
    (digit_same (a % 2) (b % 2) (mod_two a) (mod_two b) (sym (bit_zero a) ∙ h 0 (omega arith) ∙ bit_zero b))
    ∙ div-add-mod' b 2

digit_lt : (b : Bool) → cond b 1 0 < 2
digit_lt true = omega arith
digit_lt false = omega arith

digit_bit : (b : Bool) → eqb (cond b 1 0) 1 ≡ b
digit_bit true = refl
digit_bit false = refl

pub mask_lt : (n : ℕ) (f : ℕ → Bool) → mask_of n f < 2 ^ n
mask_lt zero f = omega arith
mask_lt (suc n) f = omega (arith, mask_lt n (λ j. f (suc j)), digit_lt (f 0), pow-suc 2 n)

pub mask_bit : (n : ℕ) (f : ℕ → Bool) (j : ℕ) → j < n → bit_of (mask_of n f) j ≡ f j
mask_bit zero f j h = absurd (not-suc-le-zero h)
mask_bit (suc n) f zero h =
    bit_zero (mask_of (suc n) f) ∙ ap (λ x. eqb x 1) (digits_mod (mask_of n (λ j. f (suc j))) (digit_lt (f 0))) ∙ digit_bit (f 0)
mask_bit (suc n) f (suc j) h =
    bit_suc (mask_of (suc n) f) j ∙ ap (λ x. bit_of x j) (digits_div (mask_of n (λ j. f (suc j))) (digit_lt (f 0))) ∙ mask_bit n (λ j. f (suc j)) j (omega arith)

pub mask_of_bits : (n m : ℕ) → m < 2 ^ n → mask_of n (bit_of m) ≡ m
mask_of_bits n m h = bits_same n (mask_of n (bit_of m)) m (mask_lt n (bit_of m)) h (λ j p. mask_bit n (bit_of m) j p)

pub mask_same : (n : ℕ) (f g : ℕ → Bool) → ((j : ℕ) → j < n → f j ≡ g j) → mask_of n f ≡ mask_of n g
mask_same n f g h = bits_same n (mask_of n f) (mask_of n g) (mask_lt n f) (mask_lt n g) (λ j p. mask_bit n f j p ∙ h j p ∙ sym (mask_bit n g j p))
