-- Bits of numbers, at every position and so at every width: of xor, and, or, powers and shifts; a number is its bits.
use mathlib.Core.Path.{◌≡◌, sym, ap, ap₂, ◌∙◌, refl}
use mathlib.Core.Bool.{Bool, true, false, ◌&&◌, ◌||◌, true≢false, cond}
use Prim.Native.Nat.{ℕ, zero, suc, ◌+◌, ◌*◌, ◌/◌, ◌%◌, ◌^◌, ◌<◌, ◌≤◌, min, max}
use native.Mathlib.Nat.{le_of_suc-le-suc, zero-div, div-eq_of_lt, lt_of_lt_of_le, lt_of_not-le, one-mul, zero-lt-suc, not-suc-le-zero, pow-suc, le-add_right, le-add_left, div-lt_iff_lt-mul, mod-lt}
use native.Mathlib.Omega.{arith}
use lib.Arith.{digits_div, digits_mod}
use native.Mathlib.Decide.{dec_lt}
use borrow.Author.Tests.{eq-eqb, ne_eqb, lt-ltb, le-ltb, eqb-true}
use lib.Dec.{eqb, ltb, eqb-zero-suc, eqb-suc-zero, eqb-suc-suc}
use lib.Pow.{pow_pos, shr-shr, shl-shr, pow_mono, shl_exact}
use lib.Bits.{differ, bit_xor, bit_and, xor_step, and_step, or_step, shifted_half, shifted_even, and_mask, bit_or, or_add_and, and_le_l, and_le_r}
use Rattle.automata.specs.Xor.{◌⊕◌}
use Rattle.automata.specs.Mask.{bit_of}
use Rattle.automata.proofs.Xor.{xor_zero}
use Rattle.automata.proofs.Mask.{bit_zero, bit_suc, bits_same}

mod_two : (m : ℕ) → m % 2 < 2
mod_two m = mod-lt m (omega arith)

-- ---- digits

differ_lt : (d e : ℕ) → d < 2 → e < 2 → differ d e < 2
differ_lt zero e p q = q
differ_lt (suc zero) zero p q = p
differ_lt (suc zero) (suc zero) p q = omega arith
differ_lt (suc zero) (suc (suc e)) p q = absurd (omega arith)
differ_lt (suc (suc d)) e p q = absurd (omega arith)

differ_digit : (d e : ℕ) → d < 2 → e < 2 → eqb (differ d e) 1 ≡ eqb d 1 ⊕ eqb e 1
differ_digit zero zero p q = refl
differ_digit zero (suc zero) p q = refl
differ_digit zero (suc (suc e)) p q = absurd (omega arith)
differ_digit (suc zero) zero p q = refl
differ_digit (suc zero) (suc zero) p q = refl
differ_digit (suc zero) (suc (suc e)) p q = absurd (omega arith)
differ_digit (suc (suc d)) e p q = absurd (omega arith)

min_digit : (d e : ℕ) → d < 2 → e < 2 → eqb (min d e) 1 ≡ eqb d 1 && eqb e 1
min_digit zero zero p q = refl
min_digit zero (suc zero) p q = refl
min_digit zero (suc (suc e)) p q = absurd (omega arith)
min_digit (suc zero) zero p q = refl
min_digit (suc zero) (suc zero) p q = refl
min_digit (suc zero) (suc (suc e)) p q = absurd (omega arith)
min_digit (suc (suc d)) e p q = absurd (omega arith)

max_digit : (d e : ℕ) → d < 2 → e < 2 → eqb (max d e) 1 ≡ eqb d 1 || eqb e 1
max_digit zero zero p q = refl
max_digit zero (suc zero) p q = refl
max_digit zero (suc (suc e)) p q = absurd (omega arith)
max_digit (suc zero) zero p q = refl
max_digit (suc zero) (suc zero) p q = refl
max_digit (suc zero) (suc (suc e)) p q = absurd (omega arith)
max_digit (suc (suc d)) e p q = absurd (omega arith)

-- ---- xor, and and or

pub bit_xor_lem : (j a b : ℕ) → bit_of (bit_xor a b) j ≡ bit_of a j ⊕ bit_of b j
bit_xor_lem zero a b =
    bit_zero (bit_xor a b)
    ∙ ap (λ x. eqb (x % 2) 1) (xor_step a b)
    ∙ ap (λ x. eqb x 1) (digits_mod (bit_xor (a / 2) (b / 2)) (differ_lt (a % 2) (b % 2) (mod_two a) (mod_two b)))
    ∙ differ_digit (a % 2) (b % 2) (mod_two a) (mod_two b)
    ∙ sym (ap₂ ◌⊕◌ (bit_zero a) (bit_zero b))
bit_xor_lem (suc j) a b =
    bit_suc (bit_xor a b) j
    ∙ ap (λ x. bit_of (x / 2) j) (xor_step a b)
    ∙ ap (λ x. bit_of x j) (digits_div (bit_xor (a / 2) (b / 2)) (differ_lt (a % 2) (b % 2) (mod_two a) (mod_two b)))
    ∙ bit_xor_lem j (a / 2) (b / 2)
    ∙ sym (ap₂ ◌⊕◌ (bit_suc a j) (bit_suc b j))

pub bit_and_lem : (j a b : ℕ) → bit_of (bit_and a b) j ≡ bit_of a j && bit_of b j
bit_and_lem zero a b =
    bit_zero (bit_and a b)
    ∙ ap (λ x. eqb (x % 2) 1) (and_step a b)
    ∙ ap (λ x. eqb x 1) (digits_mod (bit_and (a / 2) (b / 2)) (omega (arith, mod_two a)))
    ∙ min_digit (a % 2) (b % 2) (mod_two a) (mod_two b)
    ∙ sym (ap₂ ◌&&◌ (bit_zero a) (bit_zero b))
bit_and_lem (suc j) a b =
    bit_suc (bit_and a b) j
    ∙ ap (λ x. bit_of (x / 2) j) (and_step a b)
    ∙ ap (λ x. bit_of x j) (digits_div (bit_and (a / 2) (b / 2)) (omega (arith, mod_two a)))
    ∙ bit_and_lem j (a / 2) (b / 2)
    ∙ sym (ap₂ ◌&&◌ (bit_suc a j) (bit_suc b j))

pub bit_or_lem : (j a b : ℕ) → bit_of (bit_or a b) j ≡ bit_of a j || bit_of b j
bit_or_lem zero a b =
    bit_zero (bit_or a b)
    ∙ ap (λ x. eqb (x % 2) 1) (or_step a b)
    ∙ ap (λ x. eqb x 1) (digits_mod (bit_or (a / 2) (b / 2)) (omega (arith, mod_two a, mod_two b)))
    ∙ max_digit (a % 2) (b % 2) (mod_two a) (mod_two b)
    ∙ sym (ap₂ ◌||◌ (bit_zero a) (bit_zero b))
bit_or_lem (suc j) a b =
    bit_suc (bit_or a b) j
    ∙ ap (λ x. bit_of (x / 2) j) (or_step a b)
    ∙ ap (λ x. bit_of x j) (digits_div (bit_or (a / 2) (b / 2)) (omega (arith, mod_two a, mod_two b)))
    ∙ bit_or_lem j (a / 2) (b / 2)
    ∙ sym (ap₂ ◌||◌ (bit_suc a j) (bit_suc b j))

-- Numbers are at most their or.
pub or_ge_l : (a b : ℕ) → a ≤ bit_or a b
or_ge_l a b = omega (arith, or_add_and a b, and_le_r a b)

pub or_ge_r : (a b : ℕ) → b ≤ bit_or a b
or_ge_r a b = omega (arith, or_add_and a b, and_le_l a b)

-- ---- single bits

pub bit_none : (j : ℕ) → bit_of 0 j ≡ false
bit_none j = ap (λ x. eqb (x % 2) 1) (zero-div (2 ^ j))

-- No bit at n or above.
pub bit_high : {x : ℕ} (n : ℕ) → x < 2 ^ n → (j : ℕ) → n ≤ j → bit_of x j ≡ false
bit_high n h j l = ap (λ x. eqb (x % 2) 1) (div-eq_of_lt (lt_of_lt_of_le h (pow_mono l)))

pub bit_below : {x : ℕ} (n : ℕ) → x < 2 ^ n → (j : ℕ) → bit_of x j ≡ true → j < n
bit_below n h j e = lt_of_not-le (λ l. true≢false (sym e ∙ bit_high n h j l))

pub bit_pow : (k j : ℕ) → bit_of (2 ^ k) j ≡ eqb j k
bit_pow zero zero = bit_zero 1
bit_pow zero (suc j) = bit_suc 1 j ∙ bit_none j ∙ sym (eqb-suc-zero j)
bit_pow (suc k) zero = bit_zero (2 ^ suc k) ∙ ap (λ x. eqb x 1) (ap (λ y. y % 2) (sym (one-mul (2 ^ suc k))) ∙ shifted_even 1 k) ∙ sym (eqb-zero-suc k)
bit_pow (suc k) (suc j) =
    bit_suc (2 ^ suc k) j
    ∙ ap (λ x. bit_of x j) (ap (λ y. y / 2) (sym (one-mul (2 ^ suc k))) ∙ shifted_half 1 k ∙ one-mul (2 ^ k))
    ∙ bit_pow k j ∙ sym (eqb-suc-suc j k)

-- `x >> j & 1 == 1`
pub test_bit : (x j : ℕ) → eqb (bit_and (x / 2 ^ j) 1) 1 ≡ bit_of x j
test_bit x j = ap (λ n. eqb n 1) (and_mask (x / 2 ^ j) 1)

-- `1 << j` in w bits.
pub unit_mask : (w j : ℕ) → j < w → (1 * 2 ^ j) % 2 ^ w ≡ 2 ^ j
unit_mask w j l = shl_exact {a = 1} 1 j w (omega arith) (omega arith) ∙ one-mul (2 ^ j)

-- `x >> n == 0`
pub test_within : (x n : ℕ) → eqb (x / 2 ^ n) 0 ≡ ltb x (2 ^ n)
test_within x n = go (dec_lt x (2 ^ n))
  where
    go : Dec (x < 2 ^ n) → eqb (x / 2 ^ n) 0 ≡ ltb x (2 ^ n)
    go (yes h) = eq-eqb (x / 2 ^ n) 0 (div-eq_of_lt h) ∙ sym (lt-ltb x (2 ^ n) h)
    go (no h) = ne_eqb (x / 2 ^ n) 0 (λ e. h (rw one-mul at ((div-lt_iff_lt-mul {x = x} {y = 1} (pow_pos n)).0 (rw e (zero-lt-suc 0))))) ∙ sym (le-ltb x (2 ^ n) (le_of_suc-le-suc (lt_of_not-le h)))

-- x where b holds, else no bit.
pub bit_when : (b : Bool) (x j : ℕ) → bit_of (cond b x 0) j ≡ b && bit_of x j
bit_when true x j = refl
bit_when false x j = bit_none j

pub when_lt : (b : Bool) (x n : ℕ) → x < 2 ^ n → cond b x 0 < 2 ^ n
when_lt true x n h = h
when_lt false x n h = omega arith

pub bit_one : (k : ℕ) → k < 1 → bit_of 1 k ≡ true
bit_one zero h = refl
bit_one (suc k) h = absurd (omega arith)

-- ---- a number is its bits

-- A number has at most as many bits as it is large.
pub lt_pow : (x : ℕ) → x < 2 ^ x
lt_pow zero = zero-lt-suc 0
lt_pow (suc x) = rw pow-suc (omega (arith, lt_pow x))

pub bit_ext : (x y : ℕ) → ((j : ℕ) → bit_of x j ≡ bit_of y j) → x ≡ y
bit_ext x y h =
    bits_same (x + y) x y (lt_of_lt_of_le (lt_pow x) (pow_mono (le-add_right x y))) (lt_of_lt_of_le (lt_pow y) (pow_mono (le-add_left y x))) (λ j l. h j)

pub bit_shr : (x k j : ℕ) → bit_of (x / 2 ^ k) j ≡ bit_of x (k + j)
bit_shr x k j = ap (λ y. eqb (y % 2) 1) (shr-shr x k j)

-- All bits stand below n.
pub bits_lt : (x n : ℕ) → ((j : ℕ) → n ≤ j → bit_of x j ≡ false) → x < 2 ^ n
bits_lt x n h =
    rw one-mul at
    ((div-lt_iff_lt-mul {x = x} {y = 1} (pow_pos n)).0
    (rw (bit_ext (x / 2 ^ n) 0 (λ j. bit_shr x n j ∙ h (n + j) (le-add_right n j) ∙ sym (bit_none j))) (zero-lt-suc 0)))

-- ---- shifts to the left

pub bit_shl : (x k j : ℕ) → bit_of (x * 2 ^ k) (k + j) ≡ bit_of x j
bit_shl x k j = sym (bit_shr (x * 2 ^ k) k j) ∙ ap (λ y. bit_of y j) (shl-shr x k)

pub bit_shl_low : (x k j : ℕ) → j < k → bit_of (x * 2 ^ k) j ≡ false
bit_shl_low x zero j l = absurd (not-suc-le-zero l)
bit_shl_low x (suc k) zero l = bit_zero (x * 2 ^ suc k) ∙ ap (λ d. eqb d 1) (shifted_even x k)
bit_shl_low x (suc k) (suc j) l = bit_suc (x * 2 ^ suc k) j ∙ ap (λ y. bit_of y j) (shifted_half x k) ∙ bit_shl_low x k j (omega arith)

-- Numbers whose xor has no bit are the same, and so are two rows where the test of their xor says that it has none.
same_row : (x y : ℕ) → bit_xor x y ≡ 0 → x ≡ y
same_row x y z = bit_ext x y (λ j. xor_zero (sym (bit_xor_lem j x y) ∙ ap (λ v. bit_of v j) z ∙ bit_none j))

pub same_told : {b : Bool} (x y : ℕ) {z : ℕ} → z ≡ bit_xor x y → b ≡ eqb z 0 → b ≡ true → x ≡ y
same_told x y {z} e f t = same_row x y (sym e ∙ eqb-true z 0 (sym f ∙ t))
