-- A row times two matrices side by side: the part of the row below n times the first, and the rest, lowered by n, times the second.
use mathlib.Core.Path.{◌≡◌, sym, ap, ap₂, subst, ◌∙◌}
use mathlib.Core.Bool.{◌&&◌, cond, and-false}
use Prim.Native.Nat.{ℕ, ◌+◌, ◌-◌, ◌*◌, ◌/◌, ◌^◌, ◌<◌, ◌≤◌}
use native.Mathlib.Nat.{lt_of_lt_of_le}
use native.Mathlib.Decide.{dec_lt}
use native.Mathlib.Omega.{arith}
use lib.Dec.{ltb}
use lib.Pow.{shl_lt, shr_lt, pow_mono}
use lib.Bits.{bit_xor}
use borrow.Author.Tests.{lt-ltb, le-ltb}
use Rattle.automata.specs.Xor.{◌⊕◌, comb}
use Rattle.automata.specs.Mask.{bit_of}
use Rattle.automata.proofs.Xor.{xor_false, xor_self, xor_cong, xor_none, xor_append}
use Rattle.rows.specs.Row.{width}
use Rattle.rows.specs.Product.{product}
use Rattle.rows.specs.Beside.{beside}
use Rattle.rows.proofs.BitLaws.{bit_xor_lem, bit_shr, bit_shl, bit_shl_low, bits_lt}
use Rattle.rows.proofs.ProductLaws.{bit_product, product_by_bits}

-- ---- one of two, by a bound

pub if_low : {X : Type 0} (i n : ℕ) (x y : X) → i < n → cond (ltb i n) x y ≡ x
if_low i n x y h = ap (λ b. cond b x y) (lt-ltb i n h)

pub if_high : {X : Type 0} (i n : ℕ) (x y : X) → n ≤ i → cond (ltb i n) x y ≡ y
if_high i n x y h = ap (λ b. cond b x y) (le-ltb i n h)

-- ---- rows moved up

pub shl_below : (n m y : ℕ) → y < 2 ^ m → y * 2 ^ n < 2 ^ (n + m)
shl_below n m y h = subst (λ k. y * 2 ^ n < 2 ^ k) (omega arith) (shl_lt {a = y} m n h)

pub moved_fits : (n m y : ℕ) → y < 2 ^ m → n + m ≤ width → y * 2 ^ n < 2 ^ width
moved_fits n m y h g = lt_of_lt_of_le (shl_below n m y h) (pow_mono g)

-- ---- a row in two parts

-- The part from n on.
pub high_lt : (n m x : ℕ) → x < 2 ^ (n + m) → x / 2 ^ n < 2 ^ m
high_lt n m x h = shr_lt m n (subst (λ k. x < 2 ^ k) (omega arith) h)

high_back : (n x j : ℕ) → n ≤ j → bit_of (x / 2 ^ n * 2 ^ n) j ≡ bit_of x j
high_back n x j h = ap (bit_of (x / 2 ^ n * 2 ^ n)) back ∙ bit_shl (x / 2 ^ n) n (j - n) ∙ bit_shr x n (j - n) ∙ ap (bit_of x) (sym back)
  where
    back : j ≡ n + (j - n)
    back = omega arith

-- The part below n: without what the part from n on makes.
pub low_lt : (n x : ℕ) → bit_xor x (x / 2 ^ n * 2 ^ n) < 2 ^ n
low_lt n x =
    bits_lt (bit_xor x (x / 2 ^ n * 2 ^ n)) n
    (λ j h. bit_xor_lem j x (x / 2 ^ n * 2 ^ n) ∙ ap (λ b. bit_of x j ⊕ b) (high_back n x j h) ∙ xor_self (bit_of x j))

low_bit : (n x i : ℕ) → i < n → bit_of (bit_xor x (x / 2 ^ n * 2 ^ n)) i ≡ bit_of x i
low_bit n x i h = bit_xor_lem i x (x / 2 ^ n * 2 ^ n) ∙ ap (λ b. bit_of x i ⊕ b) (bit_shl_low (x / 2 ^ n) n i h) ∙ xor_false (bit_of x i)

-- ---- the product

-- Every row of the matrix moved up: so is the product.
shl_bits : (k n x : ℕ) (M : ℕ → ℕ) (j : ℕ) → bit_of (product n x M * 2 ^ k) j ≡ comb n (bit_of x) (λ i. bit_of (M i * 2 ^ k)) j
shl_bits k n x M j = go (dec_lt j k)
  where
    go : Dec (j < k) → bit_of (product n x M * 2 ^ k) j ≡ comb n (bit_of x) (λ i. bit_of (M i * 2 ^ k)) j
    go (yes h) =
        bit_shl_low (product n x M) k j h
        ∙ sym (xor_none n (λ i p. ap (λ b. bit_of x i && b) (bit_shl_low (M i) k j h) ∙ and-false (bit_of x i)))
    go (no h) =
        ap (bit_of (product n x M * 2 ^ k)) back ∙ bit_shl (product n x M) k (j - k) ∙ bit_product n x M (j - k)
        ∙ xor_cong n (λ i p. ap (λ b. bit_of x i && b) (sym (bit_shl (M i) k (j - k)) ∙ ap (bit_of (M i * 2 ^ k)) (sym back)))
      where
        back : j ≡ k + (j - k)
        back = omega arith

pub product_beside : (n m x : ℕ) (F G : ℕ → ℕ → ℕ) (l : ℕ)
    → product (n + m) x (beside F G n l) ≡ bit_xor (product n (bit_xor x (x / 2 ^ n * 2 ^ n)) (F l)) (product m (x / 2 ^ n) (G l) * 2 ^ n)
product_beside n m x F G l = sym (product_by_bits (n + m) x (beside F G n l) (bit_xor (product n low (F l)) (product m (x / 2 ^ n) (G l) * 2 ^ n)) (λ j.
    bit_xor_lem j (product n low (F l)) (product m (x / 2 ^ n) (G l) * 2 ^ n)
    ∙ ap₂ ◌⊕◌ (bit_product n low (F l) j ∙ xor_cong n (first j)) (shl_bits n m (x / 2 ^ n) (G l) j ∙ xor_cong m (second j))
    ∙ sym (xor_append n m (λ i. bit_of x i && bit_of (beside F G n l i) j))))
  where
    low : ℕ
    low = bit_xor x (x / 2 ^ n * 2 ^ n)

    first : (j i : ℕ) → i < n → bit_of low i && bit_of (F l i) j ≡ bit_of x i && bit_of (beside F G n l i) j
    first j i h = ap₂ ◌&&◌ (low_bit n x i h) (ap (λ y. bit_of y j) (sym (if_low i n (F l i) (G l (i - n) * 2 ^ n) h)))

    second : (j i : ℕ) → i < m → bit_of (x / 2 ^ n) i && bit_of (G l i * 2 ^ n) j ≡ bit_of x (n + i) && bit_of (beside F G n l (n + i)) j
    second j i h =
        ap₂ ◌&&◌ (bit_shr x n i)
        (ap (λ y. bit_of y j) (ap (λ k. G l k * 2 ^ n) back ∙ sym (if_high (n + i) n (F l (n + i)) (G l (n + i - n) * 2 ^ n) (omega arith))))
      where
        back : i ≡ n + i - n
        back = omega arith
