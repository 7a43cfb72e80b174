-- A row times a matrix over GF(2): its bits, linear in the row, associative, at every width; and the loop over the bits of the row.
use mathlib.Core.Path.{◌≡◌, sym, ap, ap₂, ◌∙◌}
use mathlib.Core.Bool.{Bool, true, false, ◌&&◌, cond}
use Prim.Native.Nat.{ℕ, zero, suc, ◌-◌, ◌^◌, ◌<◌, ◌≤◌}
use native.Mathlib.Nat.{lt_of_le_of_lt}
use native.Mathlib.Omega.{arith}
use lib.Dec.{eqb}
use lib.Pow.{pow_pos}
use lib.Bits.{bit_and, bit_xor, xor_lt}
use lib.Count.{count_trailing_zeros}
use Rattle.automata.specs.Xor.{◌⊕◌, comb}
use Rattle.automata.specs.Mask.{bit_of}
use Rattle.automata.proofs.Xor.{xor_false, xor_comm, xor_assoc, xor_cong, xor_none, xor_pick, xor_coef, xor_matrix}
use Rattle.rows.specs.Product.{product}
use Rattle.rows.proofs.BitLaws.{bit_none, bit_xor_lem, bit_pow, bit_when, bit_below, bit_ext, lt_pow}
use Rattle.rows.proofs.LowestBit.{lowest_set, lowest_only, clear_lowest_lem}

-- ---- laws

-- Bit j is the xor of the bits j of the rows that x takes.
pub bit_product : (n x : ℕ) (M : ℕ → ℕ) (j : ℕ) → bit_of (product n x M) j ≡ comb n (bit_of x) (λ i. bit_of (M i)) j
unfolding product
bit_product zero x M j = bit_none j
bit_product (suc n) x M j = bit_xor_lem j (product n x M) (cond (bit_of x n) (M n) 0) ∙ ap₂ ◌⊕◌ (bit_product n x M j) (bit_when (bit_of x n) (M n) j)

-- What has those bits is the product.
pub product_by_bits : (n x : ℕ) (M : ℕ → ℕ) (y : ℕ) → ((j : ℕ) → bit_of y j ≡ comb n (bit_of x) (λ i. bit_of (M i)) j) → y ≡ product n x M
product_by_bits n x M y h = bit_ext y (product n x M) (λ j. h j ∙ sym (bit_product n x M j))

-- Only the rows below n count.
pub product_cong : (n x : ℕ) (M N : ℕ → ℕ) → ((i : ℕ) → i < n → M i ≡ N i) → product n x M ≡ product n x N
product_cong n x M N h = product_by_bits n x N (product n x M) (λ j. bit_product n x M j ∙ xor_cong n (λ i p. ap (λ v. bit_of x i && bit_of v j) (h i p)))

pub product_lt : (k n x : ℕ) (M : ℕ → ℕ) → ((i : ℕ) → i < n → M i < 2 ^ k) → product n x M < 2 ^ k
unfolding product
product_lt k zero x M h = pow_pos k
product_lt k (suc n) x M h = xor_lt k (product n x M) (cond (bit_of x n) (M n) 0) (product_lt k n x M (λ i p. h i (omega arith))) (go (bit_of x n))
  where
    go : (b : Bool) → cond b (M n) 0 < 2 ^ k
    go true = h n (omega arith)
    go false = pow_pos k

-- Linear in the row.
pub product_xor : (n x y : ℕ) (M : ℕ → ℕ) → product n (bit_xor x y) M ≡ bit_xor (product n x M) (product n y M)
product_xor n x y M = sym (product_by_bits n (bit_xor x y) M (bit_xor (product n x M) (product n y M)) (λ j.
    bit_xor_lem j (product n x M) (product n y M) ∙ ap₂ ◌⊕◌ (bit_product n x M j) (bit_product n y M j)
    ∙ sym (xor_coef n (bit_of x) (bit_of y) (λ i. bit_of (M i) j))
    ∙ xor_cong n (λ i p. ap (λ b. b && bit_of (M i) j) (sym (bit_xor_lem i x y)))))

-- Associative: (x A) B is x (A B).
pub product_product : (n m x : ℕ) (A B : ℕ → ℕ) → product n (product m x A) B ≡ product m x (λ i. product n (A i) B)
product_product n m x A B = product_by_bits m x (λ i. product n (A i) B) (product n (product m x A) B) (λ j.
    bit_product n (product m x A) B j
    ∙ xor_cong n (λ i p. ap (λ b. b && bit_of (B i) j) (bit_product m x A i))
    ∙ sym (xor_matrix m n (bit_of x) (λ k. bit_of (A k)) (λ i. bit_of (B i) j))
    ∙ xor_cong m (λ k p. ap (λ b. bit_of x k && b) (sym (bit_product n (A k) B j))))

-- A single bit takes its row.
pub product_unit : (n k : ℕ) (M : ℕ → ℕ) → k < n → product n (2 ^ k) M ≡ M k
product_unit n k M h = sym (product_by_bits n (2 ^ k) M (M k) (λ j.
    sym (xor_pick n k h (λ i. bit_of (M i) j)) ∙ xor_cong n (λ i p. ap (λ b. b && bit_of (M i) j) (sym (bit_pow k i)))))

-- ---- the loop over the bits of x: z are the bits to come, y is the xor so far

unfoldable pub Left : (ℕ → ℕ) → ℕ → ℕ → ℕ → Type 0
Left M x z y = (n : ℕ) → x < 2 ^ n → (j : ℕ) → bit_of y j ⊕ comb n (bit_of z) (λ i. bit_of (M i)) j ≡ comb n (bit_of x) (λ i. bit_of (M i)) j

pub left_start : (M : ℕ → ℕ) (x : ℕ) → Left M x x 0
unfolding Left
left_start M x n h j = ap (λ b. b ⊕ comb n (bit_of x) (λ i. bit_of (M i)) j) (bit_none j)

-- The row at the lowest bit of z joins, and z loses that bit; w is any bound on the bits of z.
pub left_step : (M : ℕ → ℕ) (w x z y : ℕ) → 0 < z → z < 2 ^ w → z ≤ x → Left M x z y → Left M x (bit_and z (z - 1)) (bit_xor y (M (count_trailing_zeros w z)))
unfolding Left
left_step M w x z y p f le s n h j =
    ap (λ b. b ⊕ rest) (bit_xor_lem j y (M q)) ∙ xor_assoc (bit_of y j) (bit_of (M q) j) rest ∙ ap (λ b. bit_of y j ⊕ b) (xor_comm (bit_of (M q) j) rest ∙ sym one)
    ∙ s n h j
  where
    q : ℕ
    q = count_trailing_zeros w z

    rest : Bool
    rest = comb n (bit_of (bit_and z (z - 1))) (λ i. bit_of (M i)) j

    one : comb n (bit_of z) (λ i. bit_of (M i)) j ≡ rest ⊕ bit_of (M q) j
    one =
        xor_cong n (λ i g. ap (λ b. b && bit_of (M i) j) (clear_lowest_lem w z p f i))
        ∙ xor_coef n (bit_of (bit_and z (z - 1))) (λ i. eqb i q) (λ i. bit_of (M i) j)
        ∙ ap (λ b. rest ⊕ b) (xor_pick n q (bit_below n (lt_of_le_of_lt le h) q (lowest_set w z p f).1) (λ i. bit_of (M i) j))

-- The same where q is told as the place of the lowest bit, and r is the row read there: z' and y' are what z and y become.
pub left_lowest : (M : ℕ → ℕ) (x z y q : ℕ) {r z' y' : ℕ} → 0 < z → z ≤ x → bit_of z q ≡ true → ((i : ℕ) → i < q → bit_of z i ≡ false)
    → r ≡ M q → y' ≡ bit_xor y r → z' ≡ bit_and z (z - 1) → Left M x z y → Left M x z' y'
left_lowest M x z y q p le set first er ey ez s =
    rw (ez, ey, er, ← lowest_only z z q p (lt_pow z) set first) (left_step M z x z y p (lt_pow z) le s)

pub left_end : (M : ℕ → ℕ) (x y : ℕ) → Left M x 0 y → (n : ℕ) → x < 2 ^ n → y ≡ product n x M
unfolding Left
left_end M x y s n h = product_by_bits n x M y (λ j.
    sym (xor_false (bit_of y j)) ∙ ap (λ b. bit_of y j ⊕ b) (sym (xor_none n (λ i g. ap (λ b. b && bit_of (M i) j) (bit_none i)))) ∙ s n h j)
